use Rattle.std.proofs.Common.{subst}
use Rattle.sr_hub.specs.Lines.{HubParts, HubState, state_of}
use Rattle.sr_hub.specs.steps.Calls.{hub_of}
use Rattle.sr_hub.proofs.GoingLemmas.{ConnectClauses, connect-clauses}
use Rattle.sr_hub.proofs.hub.Hub.connect.Goals as goal

pub invariant_of-self : goal.invariant_of-self
invariant_of-self c =
    let old : HubState = hub_of c.self.inside.book c.self.inside.connections in
    let new : HubState = hub_of c.connect_at.new.book c.connect_at.new.connections in
    (connect-clauses c.args.moment c.connect_at.result old new c.self.invariant c.connect_at.ensures.ok c.connect_at.ensures.err).apart

pub returns-clause-free : goal.returns-clause-free
returns-clause-free c =
    let old : HubState = hub_of c.self.inside.book c.self.inside.connections in
    let new : HubState = hub_of c.connect_at.new.book c.connect_at.new.connections in
    (subst (λ (p : HubParts). ConnectClauses c.args.moment c.connect_at.result (state_of p) new) c.self.view_is (connect-clauses c.args.moment c.connect_at.result old new c.self.invariant c.connect_at.ensures.ok c.connect_at.ensures.err)).free

pub returns-clause-session : goal.returns-clause-session
returns-clause-session c =
    let old : HubState = hub_of c.self.inside.book c.self.inside.connections in
    let new : HubState = hub_of c.connect_at.new.book c.connect_at.new.connections in
    (subst (λ (p : HubParts). ConnectClauses c.args.moment c.connect_at.result (state_of p) new) c.self.view_is (connect-clauses c.args.moment c.connect_at.result old new c.self.invariant c.connect_at.ensures.ok c.connect_at.ensures.err)).session

pub returns-clause-others : goal.returns-clause-others
returns-clause-others c =
    let old : HubState = hub_of c.self.inside.book c.self.inside.connections in
    let new : HubState = hub_of c.connect_at.new.book c.connect_at.new.connections in
    (subst (λ (p : HubParts). ConnectClauses c.args.moment c.connect_at.result (state_of p) new) c.self.view_is (connect-clauses c.args.moment c.connect_at.result old new c.self.invariant c.connect_at.ensures.ok c.connect_at.ensures.err)).others

pub returns-clause-lines : goal.returns-clause-lines
returns-clause-lines c =
    let old : HubState = hub_of c.self.inside.book c.self.inside.connections in
    let new : HubState = hub_of c.connect_at.new.book c.connect_at.new.connections in
    (subst (λ (p : HubParts). ConnectClauses c.args.moment c.connect_at.result (state_of p) new) c.self.view_is (connect-clauses c.args.moment c.connect_at.result old new c.self.invariant c.connect_at.ensures.ok c.connect_at.ensures.err)).lines

pub returns-clause-refused : goal.returns-clause-refused
returns-clause-refused c =
    let old : HubState = hub_of c.self.inside.book c.self.inside.connections in
    let new : HubState = hub_of c.connect_at.new.book c.connect_at.new.connections in
    (subst (λ (p : HubParts). ConnectClauses c.args.moment c.connect_at.result (state_of p) new) c.self.view_is (connect-clauses c.args.moment c.connect_at.result old new c.self.invariant c.connect_at.ensures.ok c.connect_at.ensures.err)).refused

pub returns-clause-err : goal.returns-clause-err
returns-clause-err c =
    let old : HubState = hub_of c.self.inside.book c.self.inside.connections in
    let new : HubState = hub_of c.connect_at.new.book c.connect_at.new.connections in
    (subst (λ (p : HubParts). ConnectClauses c.args.moment c.connect_at.result (state_of p) new) c.self.view_is (connect-clauses c.args.moment c.connect_at.result old new c.self.invariant c.connect_at.ensures.ok c.connect_at.ensures.err)).err

pub returns-clause-event : goal.returns-clause-event
returns-clause-event c =
    let old : HubState = hub_of c.self.inside.book c.self.inside.connections in
    let new : HubState = hub_of c.connect_at.new.book c.connect_at.new.connections in
    (subst (λ (p : HubParts). ConnectClauses c.args.moment c.connect_at.result (state_of p) new) c.self.view_is (connect-clauses c.args.moment c.connect_at.result old new c.self.invariant c.connect_at.ensures.ok c.connect_at.ensures.err)).event
