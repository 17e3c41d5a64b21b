-- The sockets of an event loop, as its calls see them.

use Rattle.std.specs.Prelude.{◌≡◌, ◌<◌, ◌≤◌, ◌⊎◌, ⊤, ℕ, Bool, true, false, Option, Some, None, [], length, replicate}
use Rattle.sr_hub.specs.declared.sockets.Heard.{Heard}
use Rattle.sr_hub.specs.declared.sockets.Heard.TheVariants as heard
use Rattle.sr_events.specs.declared.acceptor.Waiting.{Waiting}
use Rattle.sr_events.specs.declared.acceptor.Waiting.TheVariants as waiting
use Rattle.sr_events.specs.declared.slot.Output.TheVariants as output
use Rattle.sr_events.specs.Connections.{Kept, open_count, slot_at}
use Rattle.sr_events.specs.Slot.{fresh}
use Rattle.sr_events.specs.Turns.{turns}

-- the connections that have a token; whether some wait at the listener; whether one came that has no token yet, and
-- whether the sockets were polled since the last one did; a token whose connection could not have it; and whether the
-- waker was used
pub record SocketsState : Type 0 where
  pub kept : Kept
  pub waiting : Waiting
  pub came : Bool
  pub looked : Bool
  pub lost : Option ℕ
  pub woken : Bool

-- room for this many connections, of which some may wait at the listener
abbrev pub new_sockets : ℕ → SocketsState
new_sockets most = record {
  kept = record { slots = replicate most (fresh false 1); turns = turns [] most; left = 0 };
  waiting = waiting.Maybe;
  came = false;
  looked = false;
  lost = None;
  woken = false;
}

-- each place is taken
abbrev pub IsFull : Kept → Type 0
IsFull kept = open_count kept.slots ≡ length kept.slots

-- one that is told to come is there; and if each place is taken, the sockets were polled since it came: whoever had
-- gone by then was told of
abbrev pub HasCome : SocketsState → Type 0
HasCome sockets = (sockets.came ≡ true) × (IsFull sockets.kept → sockets.looked ≡ true)

-- what is told of these sockets, with room for that many bytes: a connection comes only once each that is there had its
-- turn in this pass, and is kept until it has a token; each token is one that there is, or one whose connection could
-- not have it; room is told after a write that came short, and an end that was noted
abbrev pub Tells : ℕ → SocketsState → Heard → SocketsState → Type 0
Tells room old heard.Came new = HasCome new × ((new.kept.left ≡ 0) ⊎ (new.kept.turns.tokens ≡ []))
Tells room old (heard.Bytes token count) new = (token < length new.kept.slots) × (count ≤ room)
Tells room old (heard.Room token) new =
    (token < length new.kept.slots) × ((slot_at new.kept.slots token).output ≡ output.Full)
Tells room old (heard.Over token) new = (old.lost ≡ Some token)
    ⊎ ((token < length new.kept.slots) × ((slot_at new.kept.slots token).failed ≡ true))
Tells room old heard.Planned new = ⊤
Tells room old heard.Nothing new = ⊤
Tells room old heard.End new = ⊤
