-- A place for a connection in an event loop: what is known of the one that is there, and what can be told of it.

use Rattle.std.specs.Prelude.{◌≡◌, ◌<◌, ◌≤◌, ◌==◌, ◌&&◌, ◌||◌, ◌⊎◌, ℕ, Bool, true, false, Option, Some, None}
use Rattle.std.specs.Prelude.{if◌then◌else◌, not, List, length, take}
use Rattle.mio.specs.declared.event.event.Event.{Event}
use Rattle.mio.specs.Event.{is_readable, is_writable, is_error, is_read_closed, is_write_closed}
use Rattle.sr_hub.specs.declared.sockets.Heard.{Heard}
use Rattle.sr_hub.specs.declared.sockets.Heard.TheVariants as heard
use Rattle.sr_events.specs.Bytes.{more}
use Rattle.sr_events.specs.declared.slot.Output.{Output}
use Rattle.sr_events.specs.declared.slot.Output.TheVariants as output

-- whether a connection is there, which generation of the place it is, whether bytes may wait to be read, whether its
-- peer sends no more, how far the last write came, whether it is not to be read for now, and whether it is over; and
-- the bytes that were read from it and written to it, where they are known
pub record SlotState : Type 0 where
  pub taken : Bool
  pub generation : ℕ
  pub readable : Bool
  pub ended : Bool
  pub output : Output
  pub held : Bool
  pub failed : Bool
  pub gave : Option (List ℕ)
  pub got : Option (List ℕ)

-- a place without a connection, or with one that just came
abbrev pub fresh : Bool → ℕ → SlotState
fresh taken generation = record {
  taken = taken;
  generation = generation;
  readable = false;
  ended = false;
  output = output.Taken;
  held = false;
  failed = false;
  gave = None;
  got = None;
}

-- a place without a connection
abbrev pub IsEmpty : SlotState → Type 0
IsEmpty slot = (slot.taken ≡ false) × ((slot.gave ≡ None) × (slot.got ≡ None))

-- all that was to be written was taken; and there may be room for the rest
abbrev pub is_taken : Output → Bool
is_taken output.Taken = true
is_taken output.Full = false
is_taken output.Room = false

abbrev pub may_have_room : Output → Bool
may_have_room output.Taken = false
may_have_room output.Full = false
may_have_room output.Room = true

-- the connection is read: bytes may wait, and it is not held back. One whose peer sends no more is read only once all
-- was written, since its end comes after all that was to be answered
abbrev pub is_read : SlotState → Bool
is_read slot = slot.readable && (not slot.held && (not slot.ended || is_taken slot.output))

-- something can be told of the connection
abbrev pub has_turn : SlotState → Bool
has_turn slot = slot.taken && (slot.failed || (may_have_room slot.output || is_read slot))

-- the connection is over, or its peer sends no more
abbrev pub has_ended : SlotState → Bool
has_ended slot = slot.failed || slot.ended

-- what an event that says so makes of a write that came short
abbrev pub with_room : Output → Output
with_room output.Taken = output.Taken
with_room output.Full = output.Room
with_room output.Room = output.Room

-- the place after an event
abbrev pub noted : Event → SlotState → SlotState
noted event slot = record slot {
  readable = slot.readable || (is_readable event || is_read_closed event);
  ended = slot.ended || is_read_closed event;
  output = if is_writable event then with_room slot.output else slot.output;
  failed = slot.failed || (is_error event || is_write_closed event);
}

-- what the end of its stream tells of the connection at a token: that it is over, if all was written; else it is noted
abbrev pub EndsBy : Bool → ℕ → SlotState → Option Heard → SlotState → Type 0
EndsBy true token old told new = (told ≡ Some (heard.Over token)) × (new ≡ record old { failed = true })
EndsBy false token old told new = (told ≡ None) × (new ≡ record old { ended = true })

abbrev pub Ends : ℕ → SlotState → Option Heard → SlotState → Type 0
Ends token old told new = EndsBy (is_taken old.output) token old told new

-- what a read into a buffer tells of the connection at a token, and what it leaves: its next bytes are those at the
-- front of the buffer; more waits after a read that filled it, and at a peer that sends no more the end
abbrev pub Reads : ℕ → List ℕ → SlotState → Option Heard → SlotState → Type 0
Reads token buffer old (Some heard.Came) new = ⊥
Reads token buffer old (Some (heard.Bytes of count)) new =
    (of ≡ token) × (count ≤ length buffer)
    × (new ≡ record old {
      readable = old.ended || (count == length buffer);
      gave = more (take count buffer) old.gave;
    })
Reads token buffer old (Some (heard.Room of)) new = ⊥
Reads token buffer old (Some (heard.Over of)) new = (of ≡ token) × (new ≡ record old { failed = true })
Reads token buffer old (Some heard.Planned) new = ⊥
Reads token buffer old (Some heard.Nothing) new = ⊥
Reads token buffer old (Some heard.End) new = ⊥
Reads token buffer old None new =
    (new ≡ record old { readable = false }) ⊎ ((new ≡ old) ⊎ Ends token old None new)

-- what is told of the connection at a token in its turn, by whether it is over, whether there may be room, and whether
-- it is read
abbrev pub TellsBy : Bool → Bool → Bool → ℕ → List ℕ → SlotState → Option Heard → SlotState → Type 0
TellsBy true room_again read token buffer old told new = (told ≡ Some (heard.Over token)) × (new ≡ old)
TellsBy false true read token buffer old told new =
    (told ≡ Some (heard.Room token)) × (new ≡ record old { output = output.Full })
TellsBy false false true token buffer old told new = Reads token buffer old told new
TellsBy false false false token buffer old told new = (told ≡ None) × (new ≡ old)

abbrev pub Tells : ℕ → List ℕ → SlotState → Option Heard → SlotState → Type 0
Tells token buffer old told new =
    TellsBy old.failed (may_have_room old.output) (is_read old) token buffer old told new

-- this many of these bytes were written, from the first on: if not all, there is no room until an event says so, or it
-- is over
pub record Writes (bytes : List ℕ) (old : SlotState) (count : ℕ) (new : SlotState) : Type 0 where
  pub within : count ≤ length bytes
  pub none : old.taken ≡ false → (count ≡ 0) × (new ≡ old)
  pub short : old.taken ≡ true → count < length bytes
      → (new.failed ≡ true) ⊎ ((new.output ≡ output.Full) ⊎ (new.output ≡ output.Room))
  pub all : 0 < count → count ≡ length bytes → new.output ≡ output.Taken
  pub got : new.got ≡ more (take count bytes) old.got
  pub others : new ≡ record old { output = new.output; failed = new.failed; got = new.got }
