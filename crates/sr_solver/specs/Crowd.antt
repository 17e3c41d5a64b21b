-- Entries that are confined to some consumers, which have too few places for them; and the seats by which they are
-- looked for.
-- Source: P. Hall, "On representatives of subsets", 1935.

use Rattle.std.specs.Prelude.{◌≡◌, ℕ, ◌+◌, ◌*◌, ◌<◌, ◌≤◌, ◌==◌, List, length, slice_index, slice_index_or, All}
use Rattle.std.specs.Prelude.{Contains, Option, None, IfSome, if◌then◌else◌}
use Rattle.std.specs.Int.{bit_at}
use Rattle.std.specs.List.Sorted.{IsStrictlyIncreasing}
use Rattle.sr_transport.specs.{Transport, most_entries}
use Rattle.sr_transport.specs.Limits.{most_consumers}
use Rattle.sr_transport.specs.Sum.{sum_below}
use Rattle.sr_transport.specs.plain.Problem.{room_of}
use Rattle.sr_solver.specs.declared.crowd.Seating.{Seating}
use Rattle.sr_solver.specs.declared.crowd.Mover.{Mover}
use Rattle.sr_solver.specs.declared.crowd.Reached.{Reached}
use Rattle.sr_solver.specs.declared.crowd.Reached.TheVariants.{Seat, Crowd}
use Rattle.sr_solver.specs.declared.set.ConsumerSet.{ConsumerSet}
use Rattle.sr_solver.specs.Pairs.{set_at}
use Rattle.sr_solver.specs.Sets.{IsAmong}

-- of the first n entries those whose consumers are all among these, rising
pub record AreConfined (sets : List ConsumerSet) (n : ℕ) (among : ConsumerSet) (entries : List ℕ) : Type 0 where
  pub rising : IsStrictlyIncreasing entries
  pub below : All (λ i. i < n) entries
  pub each : All (λ i. IsAmong (set_at sets i) among) entries
  pub all : (i : ℕ) → i < n → IsAmong (set_at sets i) among → Contains entries i

-- the room of those of the first n consumers that are in the set
abbrev pub places_within : Transport → ConsumerSet → ℕ → ℕ
places_within p set n = sum_below (λ c. if bit_at set.bits c == 1 then room_of p c else 0) n

-- who would move to consumer c
abbrev pub mover_at : List (Option Mover) → ℕ → Option Mover
mover_at movers c = slice_index_or movers c None

-- who may move sits in a seat
pub record Sits (s : Seating) (mover : Mover) : Type 0 where
  pub consumer : mover.consumer < most_consumers
  pub seat : mover.seat < length s.seats.items

-- the seats of each consumer are among all, and no more are left than there are; an entry is in each seat; and who
-- would move sits in one
pub record IsSeating (s : Seating) : Type 0 where
  pub few : length s.sets.now ≤ most_entries
  pub starts_each : length s.starts.items ≡ most_consumers
  pub rooms_each : length s.rooms.items ≡ most_consumers
  pub left_each : length s.left.items ≡ most_consumers
  pub movers_each : length s.movers.items ≡ most_consumers
  pub short : length s.seats.items ≤ most_consumers * most_entries
  pub within : (c : ℕ) → slice_index s.starts.items c + slice_index s.rooms.items c ≤ length s.seats.items
  pub left : (c : ℕ) → slice_index s.left.items c ≤ slice_index s.rooms.items c
  pub entries : (q : ℕ) → slice_index s.seats.items q < length s.sets.now
  pub movers : (c : ℕ) → IfSome (mover_at s.movers.items c) (Sits s)

-- consumer c has a seat that is left
pub record HasSeat (s : Seating) (c : ℕ) : Type 0 where
  pub consumer : c < most_consumers
  pub left : 0 < slice_index s.left.items c

-- where a search that ends at a consumer ends, a seat is left
abbrev pub EndsAt : Seating → Reached → Type 0
EndsAt s (Seat consumer) = HasSeat s consumer
EndsAt s (Crowd consumers) = Unit {0}
