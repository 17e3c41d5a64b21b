use Rattle.std.proofs.Common.{◌≡◌, false}
use Rattle.std.specs.Option.{IfSome, IfNone}
use Rattle.sr_stream.specs.Groups.{AreInOrder, has_group}
use Rattle.sr_stream.specs.steps.Places.{IsPlace}
use Rattle.sr_stream.proofs.GroupsLemmas.{AreInOrder-kept, none-shown, place-there}
use Rattle.sr_stream.proofs.stream.Stream.place.Goals as goal

pub place_of-requires : goal.place_of-requires
place_of-requires c =
    let order : AreInOrder c.self.inside.groups.items = AreInOrder-kept c.self.inside.groups.items c.self.invariant.in_order in
    rw c.as_slice.ensures.value order

pub returns-clause-found : goal.returns-clause-found
returns-clause-found c =
    let found : IfSome c.place_of.result (IsPlace c.args.name.now c.self.inside.groups.items) = rw c.as_slice.ensures.value at c.place_of.ensures.found in
    rw (← c.self.view_is) found

pub returns-clause-none : goal.returns-clause-none
returns-clause-none c =
    let items = c.self.inside.groups.items in
    let none : IfNone c.place_of.result (has_group c.args.name.now items ≡ false) = rw c.as_slice.ensures.value at c.place_of.ensures.none in
    let shown = none-shown c.place_of.result c.args.name.now items none in
    rw (← c.self.view_is) shown

pub returns-clause-there : goal.returns-clause-there
returns-clause-there c =
    let items = c.self.inside.groups.items in
    let found : IfSome c.place_of.result (IsPlace c.args.name.now items) = rw c.as_slice.ensures.value at c.place_of.ensures.found in
    let none : IfNone c.place_of.result (has_group c.args.name.now items ≡ false) = rw c.as_slice.ensures.value at c.place_of.ensures.none in
    rw (← c.self.view_is) (place-there c.place_of.result c.args.name.now items found none)
