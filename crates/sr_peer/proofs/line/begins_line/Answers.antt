use Rattle.std.proofs.Common.{rules}
use Rattle.sr_peer.proofs.FrontLemmas.{some-begins, none-begins}
use Rattle.sr_peer.proofs.line.begins_line.Goals as goal

pub returns-then-is_some : goal.returns-then-is_some
returns-then-is_some c =
    let begins = some-begins c.args.mark c.args.front.now c.header_of.result c.header_of.ensures.found (search rules) in
    (λ yes. begins, λ _. c.if-is_some.true)

pub returns-else-is_some : goal.returns-else-is_some
returns-else-is_some c =
    none-begins c.args.mark c.args.front.now c.header_of.result c.begins_number.result c.header_of.ensures.none
    (search rules) c.begins_number.ensures
