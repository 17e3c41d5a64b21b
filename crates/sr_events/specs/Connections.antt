-- The connections of an event loop, each in the slot of its token, and whose turn it is.

use Rattle.std.specs.Prelude.{◌≡◌, ◌≤◌, ◌==◌, ◌&&◌, ℕ, Bool, List, length, slice_index_or, slice_set, nat_lt, nat_eq}
use Rattle.std.specs.Prelude.{count_by, if◌then◌else◌, false, true, Option, Some, None}
use Rattle.std.specs.List.{list_any}
use Rattle.mio.specs.declared.event.event.Event.{Event}
use Rattle.sr_hub.specs.declared.sockets.Heard.{Heard}
use Rattle.sr_hub.specs.declared.sockets.Heard.TheVariants as heard
use Rattle.sr_hub.specs.Heard.{taken_after}
use Rattle.sr_hub.specs.Lines.{with_none}
use Rattle.sr_events.specs.Bytes.{MayBe}
use Rattle.sr_events.specs.declared.slot.Output.TheVariants as output
use Rattle.sr_events.specs.Slot.{SlotState, fresh, has_ended, has_turn, noted}
use Rattle.sr_events.specs.Turns.{Turns, with_first_turn, with_turn}

-- the slots, the tokens that have a turn, and how many of these have it in this pass
pub record Kept : Type 0 where
  pub slots : List SlotState
  pub turns : Turns
  pub left : ℕ

-- the slot of a token; one without a connection after the last
abbrev pub slot_at : List SlotState → ℕ → SlotState
slot_at slots token = slice_index_or slots token (fresh false 0)

-- how many connections are open
abbrev pub open_count : List SlotState → ℕ
open_count slots = count_by (λ slot. slot.taken) slots

-- a token has a turn
abbrev pub is_in_turn : ℕ → Turns → Bool
is_in_turn token turns = list_any (nat_eq token) turns.tokens

-- only the slot of this token changes
abbrev pub ChangesAt : ℕ → List SlotState → List SlotState → Type 0
ChangesAt token old new = new ≡ slice_set old token (slot_at new token)

-- the slots after an event about one generation of a slot: another generation's changes nothing
abbrev pub with_event : ℕ → ℕ → Event → List SlotState → List SlotState
with_event token generation event slots =
    if nat_lt token (length slots) && (slot_at slots token).generation == generation
    then slice_set slots token (noted event (slot_at slots token))
    else slots

-- whose turn it is once something was noted of a connection: it has one if something can be told of it
abbrev pub settled : ℕ → List SlotState → Turns → Turns
settled token slots turns = if has_turn (slot_at slots token) then with_turn token turns else turns

-- whose turn it is once an event was noted of a connection: one that is over or whose peer sends no more comes before
-- all others
abbrev pub settled_after_event : ℕ → List SlotState → Turns → Turns
settled_after_event token slots turns =
    if has_turn (slot_at slots token)
    then (if has_ended (slot_at slots token) then with_first_turn token turns else with_turn token turns)
    else turns

-- this is told of the connection at a token: bytes, at most as many as there is room; room, after a write that came
-- short; or that it is over, which was noted of it
abbrev pub IsHeardOf : ℕ → ℕ → SlotState → Heard → Type 0
IsHeardOf token room slot heard.Came = ⊥
IsHeardOf token room slot (heard.Bytes of count) = (of ≡ token) × (count ≤ room)
IsHeardOf token room slot (heard.Room of) = (of ≡ token) × (slot.output ≡ output.Full)
IsHeardOf token room slot (heard.Over of) = (of ≡ token) × (slot.failed ≡ true)
IsHeardOf token room slot heard.Planned = ⊥
IsHeardOf token room slot heard.Nothing = ⊥
IsHeardOf token room slot heard.End = ⊥

-- these may be the bytes that were read from the connection at each token, and those that were written to it
abbrev pub MayHave : List SlotState → (ℕ → List ℕ) → (ℕ → List ℕ) → Type 0
MayHave slots taken given = (token : ℕ)
    → MayBe (slot_at slots token).gave (taken token) × MayBe (slot_at slots token).got (given token)

-- nothing was read from a connection, and nothing written to one
abbrev pub KeepBytes : List SlotState → List SlotState → Type 0
KeepBytes old new = (taken given : ℕ → List ℕ) → MayHave old taken given → MayHave new taken given

-- of the bytes that were read from connections, each was told at the token of its own
abbrev pub taken_told : Option Heard → List ℕ → (ℕ → List ℕ) → ℕ → List ℕ
taken_told None buffer taken = taken
taken_told (Some heard) buffer taken = taken_after heard buffer taken

abbrev pub TellBytes : Option Heard → List ℕ → List SlotState → List SlotState → Type 0
TellBytes told buffer old new = (taken given : ℕ → List ℕ) → MayHave old taken given
    → MayHave new (taken_told told buffer taken) given

-- the connection at a token, if there is one, is another, of which nothing was read and to which nothing was written
abbrev pub BeginsAt : ℕ → List SlotState → List SlotState → Type 0
BeginsAt token old new = (taken given : ℕ → List ℕ) → MayHave old taken given
    → MayHave new (with_none token taken) (with_none token given)
