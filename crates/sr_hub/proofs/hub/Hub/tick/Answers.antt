use Rattle.std.proofs.Common.{subst}
use Rattle.sr_hub.specs.Lines.{HubParts, HubState, state_of}
use Rattle.sr_hub.specs.steps.Calls.{hub_of}
use Rattle.sr_hub.proofs.GoingLemmas.{TickClauses, tick-clauses}
use Rattle.sr_hub.proofs.hub.Hub.tick.Goals as goal

pub invariant_of-self : goal.invariant_of-self
invariant_of-self c = (tick-clauses c.args.moment c.expire.result c.self.inside.connections c.self.inside.book c.expire.new.book c.self.invariant c.expire.ensures.due c.expire.ensures.happens c.expire.ensures.none c.expire.ensures.err).apart

pub returns-clause-due : goal.returns-clause-due
returns-clause-due c =
    let new : HubState = hub_of c.expire.new.book c.self.inside.connections in
    (subst (λ (p : HubParts). TickClauses c.args.moment c.expire.result (state_of p) new) c.self.view_is (tick-clauses c.args.moment c.expire.result c.self.inside.connections c.self.inside.book c.expire.new.book c.self.invariant c.expire.ensures.due c.expire.ensures.happens c.expire.ensures.none c.expire.ensures.err)).due

pub returns-clause-lines : goal.returns-clause-lines
returns-clause-lines c =
    let new : HubState = hub_of c.expire.new.book c.self.inside.connections in
    (subst (λ (p : HubParts). TickClauses c.args.moment c.expire.result (state_of p) new) c.self.view_is (tick-clauses c.args.moment c.expire.result c.self.inside.connections c.self.inside.book c.expire.new.book c.self.invariant c.expire.ensures.due c.expire.ensures.happens c.expire.ensures.none c.expire.ensures.err)).lines

pub returns-clause-none : goal.returns-clause-none
returns-clause-none c =
    let new : HubState = hub_of c.expire.new.book c.self.inside.connections in
    (subst (λ (p : HubParts). TickClauses c.args.moment c.expire.result (state_of p) new) c.self.view_is (tick-clauses c.args.moment c.expire.result c.self.inside.connections c.self.inside.book c.expire.new.book c.self.invariant c.expire.ensures.due c.expire.ensures.happens c.expire.ensures.none c.expire.ensures.err)).none

pub returns-clause-same : goal.returns-clause-same
returns-clause-same c =
    let new : HubState = hub_of c.expire.new.book c.self.inside.connections in
    (subst (λ (p : HubParts). TickClauses c.args.moment c.expire.result (state_of p) new) c.self.view_is (tick-clauses c.args.moment c.expire.result c.self.inside.connections c.self.inside.book c.expire.new.book c.self.invariant c.expire.ensures.due c.expire.ensures.happens c.expire.ensures.none c.expire.ensures.err)).same

pub returns-clause-refused : goal.returns-clause-refused
returns-clause-refused c =
    let new : HubState = hub_of c.expire.new.book c.self.inside.connections in
    (subst (λ (p : HubParts). TickClauses c.args.moment c.expire.result (state_of p) new) c.self.view_is (tick-clauses c.args.moment c.expire.result c.self.inside.connections c.self.inside.book c.expire.new.book c.self.invariant c.expire.ensures.due c.expire.ensures.happens c.expire.ensures.none c.expire.ensures.err)).refused

pub returns-clause-err : goal.returns-clause-err
returns-clause-err c =
    let new : HubState = hub_of c.expire.new.book c.self.inside.connections in
    (subst (λ (p : HubParts). TickClauses c.args.moment c.expire.result (state_of p) new) c.self.view_is (tick-clauses c.args.moment c.expire.result c.self.inside.connections c.self.inside.book c.expire.new.book c.self.invariant c.expire.ensures.due c.expire.ensures.happens c.expire.ensures.none c.expire.ensures.err)).err

pub returns-clause-event : goal.returns-clause-event
returns-clause-event c =
    let new : HubState = hub_of c.expire.new.book c.self.inside.connections in
    (subst (λ (p : HubParts). TickClauses c.args.moment c.expire.result (state_of p) new) c.self.view_is (tick-clauses c.args.moment c.expire.result c.self.inside.connections c.self.inside.book c.expire.new.book c.self.invariant c.expire.ensures.due c.expire.ensures.happens c.expire.ensures.none c.expire.ensures.err)).event
