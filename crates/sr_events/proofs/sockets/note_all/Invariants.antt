use Rattle.std.proofs.Common.{◌≡◌, true, eqb}
use Rattle.std.specs.List.{list_any}
use Rattle.mio.specs.Event.{event_token}
use Rattle.sr_events.specs.Connections.{KeepBytes}
use Rattle.sr_events.specs.declared.acceptor.Waiting.TheVariants as waiting
use Rattle.sr_events.proofs.sockets.note_all.Given as goal

abbrev pub invariant-loop-event : goal.invariant-loop-event
invariant-loop-event g l = record {
  woken : l.woken ≡ list_any (λ event. eqb (event_token event.now).0 0) l.yielded;
  listener : list_any (λ event. eqb (event_token event.now).0 1) l.yielded ≡ true → l.acceptor.waiting ≡ waiting.Maybe;
  bytes : KeepBytes l.fn.connections.slots l.connections.slots;
}
