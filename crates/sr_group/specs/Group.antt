-- A consumer group: the id that was delivered last, the consumers, and the pending entries.
-- Source: Redis documentation, "Streams", section "Consumer groups", and the pages of XGROUP, XACK, XPENDING and XINFO.

use Rattle.std.specs.Prelude.{⊤, ℕ, ◌-◌, ◌^◌, ◌<◌, IsTrue, List, [], ◌∷◌, ◌++◌, Option, Some, None, Bool, not, nat_lt}
use Rattle.std.specs.Prelude.{if◌then◌else◌, length, map, filter}
use Rattle.std.specs.List.{All, list_any}
use Rattle.sr_bytes.specs.{comes_before}
use Rattle.sr_ids.specs.declared.id.Id.{Id}
use Rattle.sr_pending.specs.declared.nack.Nack.{Nack}
use Rattle.sr_pending.specs.declared.room.Room.{Room}
use Rattle.sr_ids.specs.{is_one_of}
use Rattle.sr_pending.specs.{AreRising, IsCountable, is_same_name, owned_by, with_nack}
use Rattle.sr_group.specs.declared.consumer.Consumer.{Consumer}

-- what a group shows: the id that was delivered last, the consumers in byte order of their names, and the pending
-- entries by rising id
pub record GroupState : Type 0 where
  pub last : Id
  pub consumers : List Consumer
  pub nacks : List Nack

-- what contracts see of a group: what it shows, the room that was reserved for pending entries, and for how many more
-- consumers there is room
pub record KeptGroup : Type 0 where
  pub shown : GroupState
  pub rooms : List Room
  pub places : ℕ

-- a group that has delivered what lies up to an id, to nobody
abbrev pub new_group : Id → GroupState
new_group last = record { last = last; consumers = []; nacks = [] }

-- ---- consumers

-- a consumer has this name
abbrev pub has_consumer : List ℕ → List Consumer → Bool
has_consumer name consumers = list_any (λ consumer. is_same_name consumer.name name) consumers

-- the consumer with this name, if there is one
abbrev pub consumer_with : List ℕ → List Consumer → Option Consumer
consumer_with name [] = None
consumer_with name (consumer ∷ consumers) =
    if is_same_name consumer.name name then Some consumer else consumer_with name consumers

-- the consumer is there, and was seen at this moment: those before it, the consumer, and those after it
abbrev pub seen_at : List ℕ → ℕ → List Consumer → List Consumer
seen_at name moment consumers =
    filter (λ other. comes_before other.name name) consumers
    ++ record { name = name; seen = moment } ∷ filter (λ other. comes_before name other.name) consumers

-- the consumer is there: made at this moment if it was not
abbrev pub made_at : List ℕ → ℕ → List Consumer → List Consumer
made_at name moment consumers = if has_consumer name consumers then consumers else seen_at name moment consumers

-- without the consumer of this name
abbrev pub without_consumer : List ℕ → List Consumer → List Consumer
without_consumer name consumers = filter (λ consumer. not (is_same_name consumer.name name)) consumers

-- the name comes before those of all consumers
abbrev pub AreAfter : List ℕ → List Consumer → Type 0
AreAfter name [] = ⊤
AreAfter name (consumer ∷ consumers) = IsTrue (comes_before name consumer.name) × AreAfter name consumers

-- each name comes after those before it, in byte order
abbrev pub AreInOrder : List Consumer → Type 0
AreInOrder [] = ⊤
AreInOrder (consumer ∷ consumers) = AreAfter consumer.name consumers × AreInOrder consumers

-- the entry is pending for one of the consumers
abbrev pub IsOwned : List Consumer → Nack → Type 0
IsOwned consumers nack = IsTrue (has_consumer nack.owner consumers)

-- the moment at which the consumer was seen is one of 63 bits
abbrev pub IsSeen : Consumer → Type 0
IsSeen consumer = consumer.seen < 2 ^ 63

-- consumers once each in byte order; entries pending by rising id, each for one of the consumers, with times and counts
-- of 63 bits
pub record IsGroup (group : GroupState) : Type 0 where
  pub consumers : AreInOrder group.consumers
  pub seen : All IsSeen group.consumers
  pub rising : AreRising group.nacks
  pub countable : All IsCountable group.nacks
  pub owned : All (IsOwned group.consumers) group.nacks

-- ---- acknowledging and listing

-- the pending entries without those of these ids
abbrev pub without_ids : List Id → List Nack → List Nack
without_ids ids nacks = filter (λ nack. not (is_one_of ids nack.id)) nacks

-- the pending entries of these ids
abbrev pub with_ids : List Id → List Nack → List Nack
with_ids ids nacks = filter (λ nack. is_one_of ids nack.id) nacks

-- for how long the entry was not delivered, in milliseconds: 0 if it was delivered after the moment
abbrev pub idle_at : ℕ → Nack → ℕ
idle_at moment nack = moment - nack.time

-- the pending entries that were not delivered for at least this long
abbrev pub idle_for : ℕ → ℕ → List Nack → List Nack
idle_for least moment nacks = filter (λ nack. not (nat_lt (idle_at moment nack) least)) nacks

-- how many entries are pending for each of the consumers
abbrev pub counts_of : List Consumer → List Nack → List ℕ
counts_of consumers nacks = map (λ consumer. length (owned_by consumer.name nacks)) consumers

-- the earlier of two moments, or the first if there is no other
abbrev pub earlier : ℕ → Option ℕ → Option ℕ
earlier time None = Some time
earlier time (Some other) = if nat_lt other time then Some other else Some time

-- the least delivery time
abbrev pub oldest_of : List Nack → Option ℕ
oldest_of [] = None
oldest_of (nack ∷ nacks) = earlier nack.time (oldest_of nacks)

-- the pending entries with these among them, each in the place of the entry with its id if there is one
abbrev pub with_nacks : List Nack → List Nack → List Nack
with_nacks [] nacks = nacks
with_nacks (nack ∷ more) nacks = with_nacks more (with_nack nack nacks)
