use Rattle.std.proofs.Common.{inl}
use Rattle.sr_group.specs.steps.Consumers.{IsPlace}
use Rattle.sr_group.proofs.ConsumerLemmas.{has_consumer-place}
use Rattle.sr_group.proofs.consumers.make_place.Goals as goal

pub returns-in-Some-clause-ok : goal.returns-in-Some-clause-ok
returns-in-Some-clause-ok c =
    let consumers = c.args.consumers.now.items in
    let at : IsPlace c.args.name.now consumers c.in-Some._place = rw c.as_slice.ensures.value at c.in-Some.ensures.found in
    inl (has_consumer-place c.args.name.now consumers c.in-Some._place at.consumer at.here at.same)
