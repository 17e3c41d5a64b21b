use Rattle.std.proofs.Common.{subst}
use Rattle.sr_hub.specs.Lines.{HubParts, HubState, state_of}
use Rattle.sr_hub.specs.steps.Calls.{hub_of}
use Rattle.sr_hub.specs.Said.{IsTimed}
use Rattle.sr_hub.proofs.HubLemmas.{TakeClauses, take-apart, take-clauses}
use Rattle.sr_hub.proofs.hub.Hub.take.Goals as goal

pub invariant_of-self : goal.invariant_of-self
invariant_of-self c =
    take-apart c.args.token c.args.piece.now c.take_at.result (hub_of c.self.inside.book c.self.inside.connections) (hub_of c.take_at.new.book c.take_at.new.connections) c.self.invariant c.take_at.ensures.ok c.take_at.ensures.err

pub returns-clause-lines : goal.returns-clause-lines
returns-clause-lines c =
    let old : HubState = hub_of c.self.inside.book c.self.inside.connections in
    let new : HubState = hub_of c.take_at.new.book c.take_at.new.connections in
    (subst (λ (p : HubParts). TakeClauses c.args.token c.args.piece.now c.take_at.result (state_of p) new) c.self.view_is
    (take-clauses c.args.token c.args.piece.now c.take_at.result old new c.self.invariant c.take_at.ensures.ok c.take_at.ensures.err)).lines

pub returns-clause-rest : goal.returns-clause-rest
returns-clause-rest c =
    let old : HubState = hub_of c.self.inside.book c.self.inside.connections in
    let new : HubState = hub_of c.take_at.new.book c.take_at.new.connections in
    (subst (λ (p : HubParts). TakeClauses c.args.token c.args.piece.now c.take_at.result (state_of p) new) c.self.view_is
    (take-clauses c.args.token c.args.piece.now c.take_at.result old new c.self.invariant c.take_at.ensures.ok c.take_at.ensures.err)).rest

pub returns-clause-session : goal.returns-clause-session
returns-clause-session c =
    let old : HubState = hub_of c.self.inside.book c.self.inside.connections in
    let new : HubState = hub_of c.take_at.new.book c.take_at.new.connections in
    (subst (λ (p : HubParts). TakeClauses c.args.token c.args.piece.now c.take_at.result (state_of p) new) c.self.view_is
    (take-clauses c.args.token c.args.piece.now c.take_at.result old new c.self.invariant c.take_at.ensures.ok c.take_at.ensures.err)).session

pub returns-clause-others : goal.returns-clause-others
returns-clause-others c =
    let old : HubState = hub_of c.self.inside.book c.self.inside.connections in
    let new : HubState = hub_of c.take_at.new.book c.take_at.new.connections in
    (subst (λ (p : HubParts). TakeClauses c.args.token c.args.piece.now c.take_at.result (state_of p) new) c.self.view_is
    (take-clauses c.args.token c.args.piece.now c.take_at.result old new c.self.invariant c.take_at.ensures.ok c.take_at.ensures.err)).others

pub returns-clause-gone : goal.returns-clause-gone
returns-clause-gone c =
    let old : HubState = hub_of c.self.inside.book c.self.inside.connections in
    let new : HubState = hub_of c.take_at.new.book c.take_at.new.connections in
    (subst (λ (p : HubParts). TakeClauses c.args.token c.args.piece.now c.take_at.result (state_of p) new) c.self.view_is
    (take-clauses c.args.token c.args.piece.now c.take_at.result old new c.self.invariant c.take_at.ensures.ok c.take_at.ensures.err)).gone

pub returns-clause-ended : goal.returns-clause-ended
returns-clause-ended c =
    let old : HubState = hub_of c.self.inside.book c.self.inside.connections in
    let new : HubState = hub_of c.take_at.new.book c.take_at.new.connections in
    (subst (λ (p : HubParts). TakeClauses c.args.token c.args.piece.now c.take_at.result (state_of p) new) c.self.view_is
    (take-clauses c.args.token c.args.piece.now c.take_at.result old new c.self.invariant c.take_at.ensures.ok c.take_at.ensures.err)).ended

pub returns-clause-stays : goal.returns-clause-stays
returns-clause-stays c =
    let old : HubState = hub_of c.self.inside.book c.self.inside.connections in
    let new : HubState = hub_of c.take_at.new.book c.take_at.new.connections in
    (subst (λ (p : HubParts). TakeClauses c.args.token c.args.piece.now c.take_at.result (state_of p) new) c.self.view_is
    (take-clauses c.args.token c.args.piece.now c.take_at.result old new c.self.invariant c.take_at.ensures.ok c.take_at.ensures.err)).stays

pub returns-clause-cut_off : goal.returns-clause-cut_off
returns-clause-cut_off c =
    let old : HubState = hub_of c.self.inside.book c.self.inside.connections in
    let new : HubState = hub_of c.take_at.new.book c.take_at.new.connections in
    (subst (λ (p : HubParts). TakeClauses c.args.token c.args.piece.now c.take_at.result (state_of p) new) c.self.view_is
    (take-clauses c.args.token c.args.piece.now c.take_at.result old new c.self.invariant c.take_at.ensures.ok c.take_at.ensures.err)).cut_off

pub returns-clause-said : goal.returns-clause-said
returns-clause-said c =
    let old : HubState = hub_of c.self.inside.book c.self.inside.connections in
    let new : HubState = hub_of c.take_at.new.book c.take_at.new.connections in
    (subst (λ (p : HubParts). TakeClauses c.args.token c.args.piece.now c.take_at.result (state_of p) new) c.self.view_is
    (take-clauses c.args.token c.args.piece.now c.take_at.result old new c.self.invariant c.take_at.ensures.ok c.take_at.ensures.err)).said

pub returns-clause-timed : goal.returns-clause-timed
returns-clause-timed c = subst (λ (p : HubParts). IsTimed c.args.moment p.book c.take_at.new.book) c.self.view_is c.take_at.ensures.timed
