-- What XCLAIM and XAUTOCLAIM do with the ids that they are given or find.
-- Source: Redis documentation, commands XCLAIM and XAUTOCLAIM.

use Rattle.std.specs.Prelude.{◌≡◌, ◌⊎◌, ℕ, zero, suc, ◌-◌, ◌*◌, ◌^◌, ◌<◌, ◌≤◌, IfSome, min}
use Rattle.std.specs.Prelude.{List, [], ◌∷◌, ◌++◌, length, count_by, Option, Some, None}
use Rattle.std.specs.Prelude.{Bool, true, false, not, ◌||◌, nat_lt, if◌then◌else◌, filter, take, slice_get}
use Rattle.sr_ids.specs.declared.id.Id.{Id}
use Rattle.sr_ids.specs.{least_id}
use Rattle.sr_entries.specs.declared.entry.Entry.{Entry}
use Rattle.sr_entries.specs.{has_id}
use Rattle.sr_pending.specs.declared.nack.Nack.{Nack}
use Rattle.sr_ids.specs.{is_below}
use Rattle.sr_pending.specs.{nack_with, redelivered, with_nack}
use Rattle.sr_pending.specs.Pending.{without}
use Rattle.sr_group.specs.declared.claim.Claim.{Claim}
use Rattle.sr_group.specs.declared.claim.ClaimTime.{ClaimTime}
use Rattle.sr_group.specs.declared.claim.ClaimTime.TheVariants.{Now, Idle, At}
use Rattle.sr_group.specs.declared.shown.Listed.{Listed}
use Rattle.sr_group.specs.Group.{GroupState, idle_at, seen_at}
use Rattle.sr_group.specs.Delivery.{raised}

-- the delivery time that a claimed entry gets: never after now
abbrev pub time_given : ℕ → ClaimTime → ℕ
time_given moment Now = moment
time_given moment (Idle idle) = moment - idle
time_given moment (At time) = min time moment

-- the delivery count that it gets: the one asked for, else the old one if only ids are asked for, else one more
abbrev pub count_given : Option ℕ → Bool → ℕ → ℕ
count_given (Some count) just_ids old = count
count_given None true old = old
count_given None false old = raised old

-- what becomes of a pending entry that is named in a claim
pub data Fate : Type 0 where
  -- it is not idle for long enough
  Skipped : Fate
  -- the stream no longer has it
  Dropped : Fate
  GivenOver : Nack → Fate

-- an entry that the stream no longer has is dropped however short it is idle
abbrev pub fate_of : Claim → List ℕ → ℕ → List Entry → Nack → Fate
fate_of claim claimer moment entries nack =
    if not (has_id nack.id entries) then Dropped
    else (if nat_lt (idle_at moment nack) claim.least_idle then Skipped
    else GivenOver (redelivered claimer (time_given moment claim.time)
    (count_given claim.count claim.just_ids nack.count) nack))

-- the pending entries after one that had this fate
abbrev pub after_fate : Fate → Id → List Nack → List Nack
after_fate Skipped id nacks = nacks
after_fate Dropped id nacks = without id nacks
after_fate (GivenOver nack) id nacks = with_nack nack nacks

-- what is listed of it: what was dropped as an id that was not found
abbrev pub listed_with : Fate → Id → List Listed
listed_with Skipped id = []
listed_with Dropped id = record { id = id; found = false } ∷ []
listed_with (GivenOver nack) id = record { id = id; found = true } ∷ []

module _ (claim : Claim) (claimer : List ℕ) (moment : ℕ) (entries : List Entry) where
  -- an id that is not pending is skipped
  abbrev pub fate_of_any : Option Nack → Fate
  fate_of_any None = Skipped
  fate_of_any (Some nack) = fate_of claim claimer moment entries nack

  abbrev pub fate_with : Id → List Nack → Fate
  fate_with id nacks = fate_of_any (nack_with id nacks)

  -- the pending entries after a claim of these ids, which are taken one after the other as they are written
  abbrev pub after_claim : List Id → List Nack → List Nack
  after_claim [] nacks = nacks
  after_claim (id ∷ ids) nacks = after_claim ids (after_fate (fate_with id nacks) id nacks)

  -- what it lists: each entry that was given over or dropped, in that order
  abbrev pub listed_claim : List Id → List Nack → List Listed
  listed_claim [] nacks = []
  listed_claim (id ∷ ids) nacks =
      listed_with (fate_with id nacks) id ++ listed_claim ids (after_fate (fate_with id nacks) id nacks)

  -- the group after a claim of these ids: the claimer is seen
  abbrev pub group_after_claim : List Id → GroupState → GroupState
  group_after_claim ids group = record {
    last = group.last;
    consumers = seen_at claimer moment group.consumers;
    nacks = after_claim ids group.nacks;
  }

  -- the entry is given over or dropped
  abbrev pub is_taken : Nack → Bool
  is_taken nack = not (has_id nack.id entries) || not (nat_lt (idle_at moment nack) claim.least_idle)

  -- those at the front, up to the one with which this many are taken
  abbrev pub up_to_taken : ℕ → List Nack → List Nack
  up_to_taken zero nacks = []
  up_to_taken (suc n) [] = []
  up_to_taken (suc n) (nack ∷ nacks) = nack ∷ up_to_taken (if is_taken nack then n else suc n) nacks

  -- those that a scan looks at: up to the one with which `count` are taken, and at most ten times as many
  abbrev pub scanned : ℕ → List Nack → List Nack
  scanned count nacks = up_to_taken count (take (10 * count) nacks)

  -- these are what a scan looks at: the front of what is pending, at most ten times as many as are wanted, of which no
  -- more are taken than are wanted; it goes that far, and no farther than to the one with which enough are taken
  pub record IsScanned (count : ℕ) (nacks looked : List Nack) : Type 0 where
    pub rest : List Nack
    pub front : nacks ≡ looked ++ rest
    pub few : length looked ≤ 10 * count
    pub wanted : count_by is_taken looked ≤ count
    pub far : (rest ≡ []) ⊎ ((length looked ≡ 10 * count) ⊎ (count_by is_taken looked ≡ count))
    pub no_farther : (before after : List Nack) → looked ≡ before ++ after → (after ≡ [] → ⊥)
        → count_by is_taken before < count

-- entries that are moved: who claims them, how, and their ids
pub record MoveState : Type 0 where
  pub claimer : List ℕ
  pub claim : Claim
  pub ids : List Id

-- the delivery count that it asks for, if any, is one that a reply can hold
abbrev pub HasCount : MoveState → Type 0
HasCount move = IfSome move.claim.count (λ count. count < 2 ^ 63)

-- the group after a move: a claim of its ids by its claimer
abbrev pub after_move : ℕ → List Entry → GroupState → MoveState → GroupState
after_move moment entries group move = group_after_claim move.claim move.claimer moment entries move.ids group

-- the group after these moves, one after the other
abbrev pub after_moves : ℕ → List Entry → List MoveState → GroupState → GroupState
after_moves moment entries [] group = group
after_moves moment entries (move ∷ moves) group = after_moves moment entries moves
    (after_move moment entries group move)

-- the pending entries that are not below an id
abbrev pub pending_from : Id → List Nack → List Nack
pending_from start nacks = filter (λ nack. not (is_below nack.id start)) nacks

-- the id of the first entry behind n of them, or 0-0 if there is none
abbrev pub id_or_least : Option Nack → Id
id_or_least None = least_id
id_or_least (Some nack) = nack.id

abbrev pub id_behind : ℕ → List Nack → Id
id_behind n nacks = id_or_least (slice_get nacks n)
