use Rattle.std.proofs.Common.{rules, ◌<◌, Option, length, ap, sym, ◌∙◌}
use Rattle.std.specs.Option.{option_map}
use Rattle.sr_group.specs.{KeptGroup}
use Rattle.sr_stream.specs.steps.Places.{IsPlace}
use Rattle.sr_stream.proofs.GroupsLemmas.{IsPlace-within, IsPlace-group, group_with-none, group_with-shown}
use Rattle.sr_stream.proofs.stream.Stream.group.Goals as goal

pub returns-in_err-place : goal.returns-in_err-place
returns-in_err-place c = rw c.from_residual.ensures (sym (group_with-none c.args.name.now c.args.self.now.shown.groups c.in_err-place.ensures.none))

pub index-requires : goal.index-requires
index-requires c =
    let items = c.self.inside.groups.items in
    let at : IsPlace c.args.name.now items c.in_ok-place.place = rw (← c.self.view_is) at c.in_ok-place.ensures.found in
    let within : c.in_ok-place.place < length items = IsPlace-within c.args.name.now items c.in_ok-place.place at in
    search rules

pub returns : goal.returns
returns c =
    let items = c.self.inside.groups.items in
    let name = c.args.name.now in
    let at : IsPlace name items c.in_ok-place.place = rw (← c.self.view_is) at c.in_ok-place.ensures.found in
    let group = IsPlace-group name items c.in_ok-place.place c.index.result.now c.self.invariant.in_order at c.index.ensures in
    rw (← c.self.view_is, c.group.ensures) (ap (λ (g : Option KeptGroup). option_map (λ h. h.shown) g) group ∙ group_with-shown name items)
