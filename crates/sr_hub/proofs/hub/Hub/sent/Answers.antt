use Rattle.std.proofs.Common.{subst, sym}
use Rattle.sr_hub.specs.Lines.{HubParts, HubState, state_of}
use Rattle.sr_hub.specs.steps.Calls.{hub_of}
use Rattle.std.proofs.Common.{◌≤◌, IsSomeAnd, length}
use Rattle.sr_hub.proofs.HubLemmas.{SentClauses, sends-apart, sent-clauses}
use Rattle.sr_hub.proofs.hub.Hub.sent.Goals as goal

pub sent_at-requires : goal.sent_at-requires
sent_at-requires c =
    subst (λ (p : HubParts). IsSomeAnd ((state_of p).at c.args.token) (λ line. c.args.count ≤ length line.unsent)) (sym c.self.view_is) c.requires

pub invariant_of-self : goal.invariant_of-self
invariant_of-self c =
    sends-apart c.args.token c.args.count (hub_of c.self.inside.book c.self.inside.connections) (hub_of c.self.inside.book c.sent_at.new.connections) c.self.invariant (c.sent_at.ensures c.self.inside.book)

pub returns-clause-lines : goal.returns-clause-lines
returns-clause-lines c =
    let old : HubState = hub_of c.self.inside.book c.self.inside.connections in
    let new : HubState = hub_of c.self.inside.book c.sent_at.new.connections in
    (subst (λ (p : HubParts). SentClauses c.args.token c.args.count (state_of p) new) c.self.view_is (sent-clauses c.args.token c.args.count old new (c.sent_at.ensures c.self.inside.book))).lines

pub returns-clause-at : goal.returns-clause-at
returns-clause-at c =
    let old : HubState = hub_of c.self.inside.book c.self.inside.connections in
    let new : HubState = hub_of c.self.inside.book c.sent_at.new.connections in
    (subst (λ (p : HubParts). SentClauses c.args.token c.args.count (state_of p) new) c.self.view_is (sent-clauses c.args.token c.args.count old new (c.sent_at.ensures c.self.inside.book))).at

pub returns-clause-others : goal.returns-clause-others
returns-clause-others c =
    let old : HubState = hub_of c.self.inside.book c.self.inside.connections in
    let new : HubState = hub_of c.self.inside.book c.sent_at.new.connections in
    (subst (λ (p : HubParts). SentClauses c.args.token c.args.count (state_of p) new) c.self.view_is (sent-clauses c.args.token c.args.count old new (c.sent_at.ensures c.self.inside.book))).others

pub returns-clause-book : goal.returns-clause-book
returns-clause-book c =
    let old : HubState = hub_of c.self.inside.book c.self.inside.connections in
    let new : HubState = hub_of c.self.inside.book c.sent_at.new.connections in
    (subst (λ (p : HubParts). SentClauses c.args.token c.args.count (state_of p) new) c.self.view_is (sent-clauses c.args.token c.args.count old new (c.sent_at.ensures c.self.inside.book))).book
