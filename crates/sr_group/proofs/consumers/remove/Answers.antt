use Rattle.std.proofs.Common.{◌≡◌, ◌<◌, false, length, arith}
use Rattle.std.proofs.lemmas.Option.{slice_get_within}
use Rattle.sr_group.specs.Group.{has_consumer}
use Rattle.sr_group.specs.steps.Consumers.{IsPlace}
use Rattle.sr_group.proofs.ConsumerLemmas.{without_consumer-none, without_consumer-removed}
use Rattle.sr_group.proofs.consumers.remove.Goals as goal

pub remove-requires : goal.remove-requires
remove-requires c =
    let consumers = c.args.consumers.now.items in
    let at : IsPlace c.args.name.now consumers c.in-Some.place = rw c.as_slice.ensures.value at c.in-Some.ensures.found in
    let within : c.in-Some.place < length consumers = slice_get_within consumers c.in-Some.place at.consumer at.here in
    omega (arith, within, c.args.consumers.now.ok.0)

pub returns-in-Some : goal.returns-in-Some
returns-in-Some c =
    let consumers = c.args.consumers.now.items in
    let at : IsPlace c.args.name.now consumers c.in-Some.place = rw c.as_slice.ensures.value at c.in-Some.ensures.found in
    without_consumer-removed c.args.name.now consumers c.remove.new.self.items c.in-Some.place at.consumer c.requires at.here at.same c.remove.ensures.by_index.2

pub returns-in_default : goal.returns-in_default
returns-in_default c =
    let consumers = c.args.consumers.now.items in
    let none : has_consumer c.args.name.now consumers ≡ false = rw c.as_slice.ensures.value at c.in_default.ensures.none in
    without_consumer-none c.args.name.now consumers none
