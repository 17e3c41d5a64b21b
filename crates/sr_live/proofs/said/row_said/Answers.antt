use Rattle.std.proofs.Common.{rules, ◌≡◌}
use Rattle.sr_live.proofs.SaidLemmas.{IsPendingRow-from}
use Rattle.sr_live.proofs.said.row_said.Goals as goal

pub returns-clause-ok : goal.returns-clause-ok
returns-clause-ok c =
    let same : c.in_ok-string.field-0.now ≡ c.args.owner.now = search rules in
    IsPendingRow-from c.in_ok-id.id c.args.owner.now c.in_ok-string.field-0.now c.in_ok-id.ensures.ok.0
    c.in_ok-header.field-0 c.in_ok-integer.field-0 c.in_ok-deliveries.deliveries
    c.args.parts.now c.header.new.parts c.id_said.new.parts c.string.new.parts c.integer.new.parts c.natural.new.parts
    c.in_ok-id.ensures.ok.1 same c.if-branch-ne4.false c.in_ok-header.ensures.ok c.in_ok-id.ensures.ok.2
    c.in_ok-string.ensures.ok c.in_ok-integer.ensures.ok c.in_ok-deliveries.ensures.ok
