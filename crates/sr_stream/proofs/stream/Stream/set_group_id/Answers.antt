use Rattle.std.proofs.Common.{◌≡◌, false, Some, ap, sym, ◌∙◌}
use Rattle.sr_group.specs.{GroupState}
use Rattle.sr_stream.specs.Groups.{ByName, AreInOrder, has_group, group_with, with_group}
use Rattle.sr_stream.specs.Stream.{with_groups}
use Rattle.sr_stream.proofs.GroupsLemmas.{with_last-with_group, with_last-none}
use Rattle.sr_stream.proofs.stream.Stream.set_group_id.Goals as goal

pub returns-in-Some-clause-shown : goal.returns-in-Some-clause-shown
returns-in-Some-clause-shown c =
    let shown = c.args.self.now.shown in
    let name = c.args.name.now in
    let was = c.in-Some.group.now.shown in
    let order : AreInOrder shown.groups = rw (← c.self.view_is) c.self.invariant.in_order in
    let found : group_with name shown.groups ≡ Some was = sym c.in-Some.ensures.shown in
    let now = ap (λ (s : GroupState). with_group name s shown.groups) c.set_id.ensures ∙ with_last-with_group name c.args.id was shown.groups order found in
    ap (λ (g : ByName GroupState). with_groups g shown) now

pub returns-in-None-clause-shown : goal.returns-in-None-clause-shown
returns-in-None-clause-shown c =
    let shown = c.args.self.now.shown in
    let missing : has_group c.args.name.now shown.groups ≡ false = sym c.in-None.ensures.there in
    ap (λ (g : ByName GroupState). with_groups g shown) (with_last-none c.args.name.now c.args.id shown.groups missing)
