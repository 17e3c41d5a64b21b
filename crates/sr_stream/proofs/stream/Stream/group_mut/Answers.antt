use Rattle.std.proofs.Common.{rules, ◌<◌, length, Option, inl, inr, ap, sym, ◌∙◌}
use Rattle.std.proofs.Math.Path.{fun_ext}
use Rattle.std.specs.Option.{option_map}
use Rattle.sr_group.specs.{KeptGroup}
use Rattle.sr_stream.specs.Stream.{KeptStream, kept_with_group}
use Rattle.sr_stream.proofs.GroupsLemmas.{IsPlace-within, IsPlace-group, group_with-missing, group_with-shown, has_group-there}
use Rattle.sr_stream.proofs.LendingLemmas.{lent-sound, lent-view}
use Rattle.sr_stream.proofs.stream.Stream.group_mut.Goals as goal

pub index_mut-named-requires : goal.index_mut-named-requires
index_mut-named-requires c =
    let within : c.in-Some.place < length c.self.inside.groups.items = IsPlace-within c.args.name.now c.self.inside.groups.items c.in-Some.place c.in-Some.ensures.found in
    search rules

pub invariant_of-self-lent : goal.invariant_of-self-lent
invariant_of-self-lent c =
    let inside = c.self.inside in
    lent-sound c.args.name.now inside.entries.entries inside.last inside.added inside.groups.items c.in-Some.place c.index_mut-named.result.now c.self.invariant c.in-Some.ensures.found c.index_mut-named.ensures.value

pub returns-in-Some : goal.returns-in-Some
returns-in-Some c =
    let inside = c.self.inside in
    let name = c.args.name.now in
    let items = inside.groups.items in
    let named = c.index_mut-named.result.now in
    let at = c.in-Some.ensures.found in
    let read = c.index_mut-named.ensures.value in
    let ends = λ (w : KeptGroup). lent-view name inside.entries.entries inside.last inside.added items c.in-Some.place named c.self.invariant at read inside.entries.room w
    ∙ ap (λ (s : KeptStream). kept_with_group name w s) c.self.view_is in
    let group = IsPlace-group name items c.in-Some.place named c.self.invariant.in_order at read in (
      ap (λ (f : KeptGroup → KeptStream). inl (c.group_mut.result.ghost_name, f)) (fun_ext ends),
      record {
        writes_back = tt;
        value = rw (← c.self.view_is, c.group_mut.ensures.value) group;
        shown = rw (← c.self.view_is, c.group_mut.ensures.value) (ap (λ (g : Option KeptGroup). option_map (λ h. h.shown) g) group ∙ group_with-shown name items);
        there = rw (← c.self.view_is) (sym (has_group-there name items c.in-Some.place at));
      },
    )

pub returns-in-None : goal.returns-in-None
returns-in-None c =
    let none = group_with-missing c.args.name.now c.self.inside.groups.items c.in-None.ensures.none in (
      ap (λ (s : KeptStream). inr s) c.self.view_is,
      record {
        writes_back = tt;
        value = rw (← c.self.view_is) none;
        shown = rw (← c.self.view_is) (ap (λ (g : Option KeptGroup). option_map (λ h. h.shown) g) none ∙ group_with-shown c.args.name.now c.self.inside.groups.items);
        there = rw (← c.self.view_is) (sym c.in-None.ensures.none);
      },
    )
