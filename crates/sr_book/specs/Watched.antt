-- What is known of the waiting reads that have an answer. No public clause cites this.
use Rattle.std.specs.Prelude.{⊤, ◌≡◌, ◌↔◌, ◌&&◌, ◌||◌, not, Bool, true, false, IsTrue, Option, Some, None, is_none}
use Rattle.std.specs.List.{AllByRecursion}
use Rattle.sr_space.specs.{finds_nothing, read_at}
use Rattle.sr_space.specs.Keys.{Key}
use Rattle.sr_space.specs.Effect.{key_of}
use Rattle.sr_space.specs.Readers.{is_read, read_beside}
use Rattle.sr_waiters.specs.{asks, first_that}
use Rattle.sr_book.specs.declared.event.Event.{Event}
use Rattle.sr_book.specs.declared.event.Event.TheVariants as events
use Rattle.sr_book.specs.declared.watched.Ready.{Ready}
use Rattle.sr_book.specs.declared.watched.Ready.TheVariants.{Nobody, At, Unknown}
use Rattle.sr_book.specs.Records.{IsSettled}
use Rattle.sr_book.specs.Server.{Server}

-- no waiting read that asks the stream at the key has an answer from it
abbrev pub IsQuietAt : Key → Server → Type 0
IsQuietAt key server =
    first_that (λ read. asks key read && not (finds_nothing server.keys server.last (read_at key read))) server.waiting
    ≡ None

-- nor from any other stream: each waiting read that has an answer has it from its stream at the key
abbrev pub AreQuietBeside : Key → Server → Type 0
AreQuietBeside key server =
    AllByRecursion (λ read. finds_nothing server.keys server.last (read_beside key read.call) ≡ true) server.waiting

-- which waiting reads have an answer at most
abbrev pub IsBound : Ready → Server → Type 0
IsBound Nobody server = IsSettled server
IsBound (At key) server = AreQuietBeside key server
IsBound Unknown server = ⊤

abbrev pub is_nobody : Ready → Bool
is_nobody Nobody = true
is_nobody (At key) = false
is_nobody Unknown = false

-- and whether one has
pub record IsKnown (ready : Ready) (server : Server) : Type 0 where
  pub bound : IsBound ready server
  pub nobody : IsTrue (is_nobody ready) ↔ IsSettled server

-- an event that gives no waiting read an answer: one that is on no key, a read, or a plan that is not to be carried out
abbrev pub wakes_nobody : Event → Bool
wakes_nobody (events.Call session call) = is_read call || is_none (key_of call)
wakes_nobody (events.Conclude session judged apply last) = not apply
wakes_nobody event = true

-- the key of a call on one, or of a plan: the only one at which it gives waiting reads an answer
abbrev pub woken_at : Event → Option Key
woken_at (events.Call session call) = key_of call
woken_at (events.Conclude session judged apply last) = Some judged.snapshot.key
woken_at event = None
