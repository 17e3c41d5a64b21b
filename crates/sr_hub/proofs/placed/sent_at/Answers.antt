use Rattle.std.proofs.Common.{◌≤◌, IsSomeAnd, Option, length, subst, sym}
use Rattle.sr_hub.specs.Line.{ConnectionState}
use Rattle.sr_hub.proofs.HubLemmas.{sends-to}
use Rattle.sr_hub.proofs.placed.sent_at.Goals as goal

pub unreachable-requires : goal.unreachable-requires
unreachable-requires c = subst (λ (o : Option ConnectionState). IsSomeAnd o (λ line. c.args.count ≤ length line.unsent)) (sym c.in_default.ensures.value) c.requires

pub sent-requires : goal.sent-requires
sent-requires c = subst (λ (o : Option ConnectionState). IsSomeAnd o (λ line. c.args.count ≤ length line.unsent)) (sym c.in-Some.ensures.value) c.requires

pub returns : goal.returns
returns c = λ book.
    sends-to c.args.connections.now book c.args.token c.args.count c.in-Some.connection.now c.sent.new.self c.in-Some.ensures.value c.sent.ensures
