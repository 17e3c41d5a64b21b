use Rattle.std.proofs.lemmas.Option.{slice_get_within}
use Rattle.sr_group.proofs.ConsumerLemmas.{consumer_with-none, consumer_with-place}
use Rattle.sr_group.proofs.consumers.seen_by.Goals as goal

pub bounds-consumers-place : goal.bounds-consumers-place
bounds-consumers-place c =
    let at = c.in-Some.ensures.found in
    slice_get_within c.args.consumers.now c.in-Some.place at.consumer at.here

pub returns-in-Some : goal.returns-in-Some
returns-in-Some c =
    let at = c.in-Some.ensures.found in
    consumer_with-place c.args.name.now c.args.consumers.now c.in-Some.place at.consumer c.index-consumers-place.result c.requires at.here at.same

pub returns-in-None : goal.returns-in-None
returns-in-None c = consumer_with-none c.args.name.now c.args.consumers.now c.in-None.ensures.none
