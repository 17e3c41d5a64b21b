use Rattle.sr_peer.specs.steps.Lines.{SaysNothing}
use Rattle.sr_peer.proofs.FormLemmas.{nothing-wrong, end-begun, end-wrong}
use Rattle.sr_peer.proofs.first.part_of_line.Goals as goal

pub returns-in_default : goal.returns-in_default
returns-in_default c =
    let none : SaysNothing c.args.mark c.args.line.now = c.in_default.ensures.none in
    nothing-wrong c.args.mark c.args.line.now c.args.rest.now c.requires.ended.0 c.requires.line c.requires.ended.1 none

pub returns-in-Begun : goal.returns-in-Begun
returns-in-Begun c =
    end-begun c.args.mark c.args.line.now c.args.rest.now c.requires.ended.0 c.in-Some.header c.in-Begun.least
    c.requires.line c.requires.ended.1 c.in-Some.ensures.found c.in-Begun.ensures

pub returns-in-Wrong : goal.returns-in-Wrong
returns-in-Wrong c =
    end-wrong c.args.mark c.args.line.now c.args.rest.now c.requires.ended.0 c.requires.line c.requires.ended.1
    c.in-Wrong.ensures
