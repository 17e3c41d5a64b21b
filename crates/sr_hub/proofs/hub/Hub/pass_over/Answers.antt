use Rattle.std.proofs.Common.{[], subst, Err}
use Rattle.sr_hub.specs.Lines.{HubParts, HubState, state_of}
use Rattle.sr_hub.specs.steps.Calls.{hub_of}
use Rattle.sr_hub.proofs.HubLemmas.{TakeClauses, take-apart, take-clauses}
use Rattle.sr_hub.proofs.hub.Hub.pass_over.Goals as goal

pub invariant_of-self : goal.invariant_of-self
invariant_of-self c =
    take-apart c.args.token [] (Err c.pass_over_at-refused.result) (hub_of c.self.inside.book c.self.inside.connections) (hub_of c.self.inside.book c.pass_over_at-refused.new.connections) c.self.invariant tt c.pass_over_at-refused.ensures.refused

pub returns-clause-lines : goal.returns-clause-lines
returns-clause-lines c = λ piece.
    let old : HubState = hub_of c.self.inside.book c.self.inside.connections in
    let new : HubState = hub_of c.self.inside.book c.pass_over_at-refused.new.connections in
    (subst (λ (p : HubParts). TakeClauses c.args.token piece (Err c.pass_over_at-refused.result) (state_of p) new) c.self.view_is
    (take-clauses c.args.token piece (Err c.pass_over_at-refused.result) old new c.self.invariant tt c.pass_over_at-refused.ensures.refused)).lines

pub returns-clause-session : goal.returns-clause-session
returns-clause-session c =
    let old : HubState = hub_of c.self.inside.book c.self.inside.connections in
    let new : HubState = hub_of c.self.inside.book c.pass_over_at-refused.new.connections in
    (subst (λ (p : HubParts). TakeClauses c.args.token [] (Err c.pass_over_at-refused.result) (state_of p) new) c.self.view_is
    (take-clauses c.args.token [] (Err c.pass_over_at-refused.result) old new c.self.invariant tt c.pass_over_at-refused.ensures.refused)).session

pub returns-clause-others : goal.returns-clause-others
returns-clause-others c =
    let old : HubState = hub_of c.self.inside.book c.self.inside.connections in
    let new : HubState = hub_of c.self.inside.book c.pass_over_at-refused.new.connections in
    (subst (λ (p : HubParts). TakeClauses c.args.token [] (Err c.pass_over_at-refused.result) (state_of p) new) c.self.view_is
    (take-clauses c.args.token [] (Err c.pass_over_at-refused.result) old new c.self.invariant tt c.pass_over_at-refused.ensures.refused)).others
