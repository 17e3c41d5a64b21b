use Rattle.sr_peer.proofs.FormLemmas.{line-begun, line-wrong}
use Rattle.sr_peer.proofs.first.begun_part.Goals as goal

pub returns-then-begins_line : goal.returns-then-begins_line
returns-then-begins_line c =
    line-begun c.args.mark c.args.text.now c.requires (c.begins_line.ensures.0 c.if-begins_line.true)

pub returns-else-begins_line : goal.returns-else-begins_line
returns-else-begins_line c =
    line-wrong c.args.mark c.args.text.now c.requires
    (λ begins. absurd (cc (c.begins_line.ensures.1 begins, c.if-begins_line.false)))
