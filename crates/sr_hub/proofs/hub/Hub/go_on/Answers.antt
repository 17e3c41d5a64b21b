use Rattle.std.proofs.Common.{IfSome, subst}
use Rattle.sr_hub.specs.Line.{Begins}
use Rattle.sr_hub.specs.Lines.{HubParts, HubState, state_of}
use Rattle.sr_hub.specs.steps.Calls.{hub_of}
use Rattle.sr_hub.specs.Said.{IsTimed}
use Rattle.sr_hub.proofs.HubLemmas.{GoOnClauses, begins-clause, go_on-clauses, hub-same}
use Rattle.sr_hub.proofs.hub.Hub.go_on.Goals as goal

pub invariant_of-self : goal.invariant_of-self
invariant_of-self c =
    let old : HubState = hub_of c.self.inside.book c.self.inside.connections in
    let new : HubState = hub_of c.go_on_at.new.book c.go_on_at.new.connections in
    (go_on-clauses c.args.token c.go_on_at.result old new c.self.invariant c.go_on_at.ensures.moves (λ is. hub-same _ _ _ _ (c.go_on_at.ensures.none is).0 (c.go_on_at.ensures.none is).1)).apart

pub returns-clause-lines : goal.returns-clause-lines
returns-clause-lines c =
    let old : HubState = hub_of c.self.inside.book c.self.inside.connections in
    let new : HubState = hub_of c.go_on_at.new.book c.go_on_at.new.connections in
    (subst (λ (p : HubParts). GoOnClauses c.args.token c.go_on_at.result (state_of p) new) c.self.view_is
    (go_on-clauses c.args.token c.go_on_at.result old new c.self.invariant c.go_on_at.ensures.moves (λ is. hub-same _ _ _ _ (c.go_on_at.ensures.none is).0 (c.go_on_at.ensures.none is).1))).lines

pub returns-clause-rest : goal.returns-clause-rest
returns-clause-rest c =
    let old : HubState = hub_of c.self.inside.book c.self.inside.connections in
    let new : HubState = hub_of c.go_on_at.new.book c.go_on_at.new.connections in
    (subst (λ (p : HubParts). GoOnClauses c.args.token c.go_on_at.result (state_of p) new) c.self.view_is
    (go_on-clauses c.args.token c.go_on_at.result old new c.self.invariant c.go_on_at.ensures.moves (λ is. hub-same _ _ _ _ (c.go_on_at.ensures.none is).0 (c.go_on_at.ensures.none is).1))).rest

pub returns-clause-session : goal.returns-clause-session
returns-clause-session c =
    let old : HubState = hub_of c.self.inside.book c.self.inside.connections in
    let new : HubState = hub_of c.go_on_at.new.book c.go_on_at.new.connections in
    (subst (λ (p : HubParts). GoOnClauses c.args.token c.go_on_at.result (state_of p) new) c.self.view_is
    (go_on-clauses c.args.token c.go_on_at.result old new c.self.invariant c.go_on_at.ensures.moves (λ is. hub-same _ _ _ _ (c.go_on_at.ensures.none is).0 (c.go_on_at.ensures.none is).1))).session

pub returns-clause-others : goal.returns-clause-others
returns-clause-others c =
    let old : HubState = hub_of c.self.inside.book c.self.inside.connections in
    let new : HubState = hub_of c.go_on_at.new.book c.go_on_at.new.connections in
    (subst (λ (p : HubParts). GoOnClauses c.args.token c.go_on_at.result (state_of p) new) c.self.view_is
    (go_on-clauses c.args.token c.go_on_at.result old new c.self.invariant c.go_on_at.ensures.moves (λ is. hub-same _ _ _ _ (c.go_on_at.ensures.none is).0 (c.go_on_at.ensures.none is).1))).others

pub returns-clause-none : goal.returns-clause-none
returns-clause-none c =
    let old : HubState = hub_of c.self.inside.book c.self.inside.connections in
    let new : HubState = hub_of c.go_on_at.new.book c.go_on_at.new.connections in
    (subst (λ (p : HubParts). GoOnClauses c.args.token c.go_on_at.result (state_of p) new) c.self.view_is
    (go_on-clauses c.args.token c.go_on_at.result old new c.self.invariant c.go_on_at.ensures.moves (λ is. hub-same _ _ _ _ (c.go_on_at.ensures.none is).0 (c.go_on_at.ensures.none is).1))).none

pub returns-clause-said : goal.returns-clause-said
returns-clause-said c =
    let old : HubState = hub_of c.self.inside.book c.self.inside.connections in
    let new : HubState = hub_of c.go_on_at.new.book c.go_on_at.new.connections in
    (subst (λ (p : HubParts). GoOnClauses c.args.token c.go_on_at.result (state_of p) new) c.self.view_is
    (go_on-clauses c.args.token c.go_on_at.result old new c.self.invariant c.go_on_at.ensures.moves (λ is. hub-same _ _ _ _ (c.go_on_at.ensures.none is).0 (c.go_on_at.ensures.none is).1))).said

pub returns-clause-timed : goal.returns-clause-timed
returns-clause-timed c = subst (λ (p : HubParts). IsTimed c.args.moment p.book c.go_on_at.new.book) c.self.view_is c.go_on_at.ensures.timed

pub returns-clause-begins : goal.returns-clause-begins
returns-clause-begins c =
    let old : HubState = hub_of c.self.inside.book c.self.inside.connections in
    let new : HubState = hub_of c.go_on_at.new.book c.go_on_at.new.connections in
    subst (λ (p : HubParts). IfSome ((state_of p).at c.args.token) (λ before. IfSome (new.at c.args.token) (Begins before))) c.self.view_is
    (begins-clause c.args.token c.go_on_at.result old new c.go_on_at.ensures.begins c.go_on_at.ensures.there.0)
