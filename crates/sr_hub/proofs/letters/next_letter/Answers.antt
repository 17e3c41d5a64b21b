use Rattle.std.proofs.Common.{refl}
use Rattle.sr_hub.specs.steps.Letters.{lettered_after}
use Rattle.sr_hub.proofs.LetterLemmas.{lettered-end, lettered-found, lettered-passed}
use Rattle.sr_hub.proofs.letters.next_letter.Goals as goal

pub loop-place-preserved : goal.loop-place-preserved
loop-place-preserved c =
    let records = c.args.records.now in
    lettered-passed records c.loop-place.place c.loop-place.before c.index-records-place.result (lettered_after c.args.passed records)
    c.loop-place-test.true c.index-records-place.is c.in_default.ensures.none c.loop-place.invariant

pub returns-in-Some-clause-some : goal.returns-in-Some-clause-some
returns-in-Some-clause-some c =
    let records = c.args.records.now in
    lettered-found records c.loop-place.place c.loop-place.before c.in-Some.session c.index-records-place.result (lettered_after c.args.passed records)
    c.loop-place-test.true c.index-records-place.is c.in-Some.ensures.some c.loop-place.invariant
