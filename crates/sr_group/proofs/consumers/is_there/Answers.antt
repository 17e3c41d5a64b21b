use Rattle.std.proofs.Common.{sym}
use Rattle.sr_group.proofs.ConsumerLemmas.{has_consumer-place}
use Rattle.sr_group.proofs.consumers.is_there.Goals as goal

pub returns-in-Some : goal.returns-in-Some
returns-in-Some c =
    let at = c.in-Some.ensures.found in
    sym (has_consumer-place c.args.name.now c.args.consumers.now c.in-Some._place at.consumer at.here at.same)
