use Rattle.std.proofs.Common.{ap, ◌∙◌}
use Rattle.sr_group.specs.{GroupState}
use Rattle.sr_stream.specs.Groups.{ByName, shown_groups, without_group}
use Rattle.sr_stream.specs.Stream.{StreamState, KeptStream, with_groups}
use Rattle.sr_stream.proofs.GroupsLemmas.{AreInOrder-kept, AreInOrder-without_group, shown-without_group, without_group-none}
use Rattle.sr_stream.proofs.stream.Stream.destroy_group.Goals as goal

pub remove_at-requires-clause-order : goal.remove_at-requires-clause-order
remove_at-requires-clause-order c = AreInOrder-kept c.self.inside.groups.items c.self.invariant.in_order

pub invariant_of-self : goal.invariant_of-self
invariant_of-self c =
    let items = c.self.inside.groups.items in
    let gone = ap shown_groups c.remove_at.ensures ∙ shown-without_group c.args.name.now items in
    record {
      rising = c.self.invariant.rising;
      up_to = c.self.invariant.up_to;
      few = c.self.invariant.few;
      in_order = rw gone (AreInOrder-without_group c.args.name.now (shown_groups items) c.self.invariant.in_order);
    }

pub returns-in-Some-clause-shown : goal.returns-in-Some-clause-shown
returns-in-Some-clause-shown c =
    let inside = c.self.inside in
    let name = c.args.name.now in
    let stream : StreamState = record { entries = inside.entries.entries; last = inside.last; added = inside.added; groups = shown_groups inside.groups.items } in
    let gone = ap shown_groups c.remove_at.ensures ∙ shown-without_group name inside.groups.items in
    ap (λ (g : ByName GroupState). with_groups g stream) gone ∙ ap (λ (s : KeptStream). with_groups (without_group name s.shown.groups) s.shown) c.self.view_is

pub returns-in-None-clause-shown : goal.returns-in-None-clause-shown
returns-in-None-clause-shown c =
    let shown = c.args.self.now.shown in
    ap (λ (g : ByName GroupState). with_groups g shown) (without_group-none c.args.name.now shown.groups c.in-None.ensures.none)
