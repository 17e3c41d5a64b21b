use Rattle.std.proofs.Common.{◌≡◌, subst, sym}
use Rattle.sr_hub.specs.Lines.{HubParts, HubState, state_of}
use Rattle.sr_hub.specs.steps.Calls.{hub_of}
use Rattle.std.proofs.Common.{IfSome, IsSomeAnd}
use Rattle.sr_hub.specs.Line.{wanted_of}
use Rattle.sr_hub.specs.Said.{IsTimed}
use Rattle.sr_hub.proofs.HubLemmas.{MovedClauses, moved-apart, moved-clauses}
use Rattle.sr_hub.proofs.hub.Hub.conclude.Goals as goal

pub conclude_at-requires : goal.conclude_at-requires
conclude_at-requires c =
    subst (λ (p : HubParts). IsSomeAnd ((state_of p).at c.args.token) (λ line. IsSomeAnd (wanted_of line.stage) (λ shown. IfSome c.args.verdict (λ judged. judged.snapshot ≡ shown)))) (sym c.self.view_is) c.requires

pub invariant_of-self : goal.invariant_of-self
invariant_of-self c =
    moved-apart c.args.token (hub_of c.self.inside.book c.self.inside.connections) (hub_of c.conclude_at.new.book c.conclude_at.new.connections) c.self.invariant c.conclude_at.ensures.moves

pub returns-clause-lines : goal.returns-clause-lines
returns-clause-lines c =
    let old : HubState = hub_of c.self.inside.book c.self.inside.connections in
    let new : HubState = hub_of c.conclude_at.new.book c.conclude_at.new.connections in
    (subst (λ (p : HubParts). MovedClauses c.args.token (state_of p) new) c.self.view_is (moved-clauses c.args.token old new c.self.invariant c.conclude_at.ensures.moves)).lines

pub returns-clause-rest : goal.returns-clause-rest
returns-clause-rest c =
    let old : HubState = hub_of c.self.inside.book c.self.inside.connections in
    let new : HubState = hub_of c.conclude_at.new.book c.conclude_at.new.connections in
    (subst (λ (p : HubParts). MovedClauses c.args.token (state_of p) new) c.self.view_is (moved-clauses c.args.token old new c.self.invariant c.conclude_at.ensures.moves)).rest

pub returns-clause-session : goal.returns-clause-session
returns-clause-session c =
    let old : HubState = hub_of c.self.inside.book c.self.inside.connections in
    let new : HubState = hub_of c.conclude_at.new.book c.conclude_at.new.connections in
    (subst (λ (p : HubParts). MovedClauses c.args.token (state_of p) new) c.self.view_is (moved-clauses c.args.token old new c.self.invariant c.conclude_at.ensures.moves)).session

pub returns-clause-others : goal.returns-clause-others
returns-clause-others c =
    let old : HubState = hub_of c.self.inside.book c.self.inside.connections in
    let new : HubState = hub_of c.conclude_at.new.book c.conclude_at.new.connections in
    (subst (λ (p : HubParts). MovedClauses c.args.token (state_of p) new) c.self.view_is (moved-clauses c.args.token old new c.self.invariant c.conclude_at.ensures.moves)).others

pub returns-clause-said : goal.returns-clause-said
returns-clause-said c =
    let old : HubState = hub_of c.self.inside.book c.self.inside.connections in
    let new : HubState = hub_of c.conclude_at.new.book c.conclude_at.new.connections in
    (subst (λ (p : HubParts). MovedClauses c.args.token (state_of p) new) c.self.view_is (moved-clauses c.args.token old new c.self.invariant c.conclude_at.ensures.moves)).said

pub returns-clause-timed : goal.returns-clause-timed
returns-clause-timed c = subst (λ (p : HubParts). IsTimed c.args.moment p.book c.conclude_at.new.book) c.self.view_is c.conclude_at.ensures.timed
