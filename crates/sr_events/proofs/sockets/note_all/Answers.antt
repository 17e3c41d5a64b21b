use Rattle.std.proofs.Common.{arith, ◌≡◌, ◌∙◌, Bool, ◌||◌, List, [], ◌∷◌, map, Bor, refl, ap, sym, eqb}
use Rattle.std.proofs.lemmas.Grind.{common_steps}
use Rattle.std.proofs.lemmas.Iterator.{YieldsList-from_slice}
use Rattle.std.proofs.lemmas.Iterator.Consumers.{YieldsList-end}
use Rattle.std.specs.List.{list_any}
use Rattle.mio.specs.declared.event.event.Event.{Event}
use Rattle.mio.specs.Event.{event_token}
use Rattle.mio.specs.Events.{items}
use Rattle.sr_events.proofs.sockets.note_all.Given.{Over}
use Rattle.sr_events.proofs.sockets.note_all.Goals as goal

list_any-now : (test : Event → Bool) (events : List (Bor Event))
    → list_any test (map (λ event. event.now) events) ≡ list_any (λ event. test event.now) events
list_any-now test [] = refl
list_any-now test (event ∷ events) = ap (λ rest. test event.now || rest) (list_any-now test events)

-- the loop has seen all events
seen : (g : Over) (c : goal.In-None g) (test : Event → Bool)
    → list_any test (items c.args.events.now) ≡ list_any (λ event. test event.now) c.loop-event.yielded
seen g c test =
    let all = YieldsList-end
    (YieldsList-from_slice (items c.args.events.now) c.into_iter-event-iterator.ensures.into_iter_gives.0)
    c.loop-event.yielded _ c.loop-event.yielded_by _ _ c.in-None.is c.next.ensures.steps in
    ap (list_any test) (sym all.0) ∙ list_any-now test c.loop-event.yielded

pub returns-clause-woken : goal.returns-clause-woken
returns-clause-woken g c = c.loop-event.invariant.woken ∙ sym (seen g c (λ event. eqb (event_token event).0 0))

pub returns-clause-listener : goal.returns-clause-listener
returns-clause-listener g c = λ reported.
    c.loop-event.invariant.listener (sym (seen g c (λ event. eqb (event_token event).0 1)) ∙ reported)

pub loop-event-preserved : goal.loop-event-preserved
loop-event-preserved g c = record {
  woken = grind (arith, common_steps);
  listener = grind (arith, common_steps);
  bytes = λ taken given may. c.note.ensures.bytes taken given (c.loop-event.invariant.bytes taken given may);
}
