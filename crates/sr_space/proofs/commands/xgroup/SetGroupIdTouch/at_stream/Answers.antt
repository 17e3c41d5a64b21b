use Rattle.std.proofs.Common.{◌≡◌, false, ap, sym, ◌∙◌}
use Rattle.sr_group.specs.{GroupState}
use Rattle.sr_stream.specs.{ByName, has_group, with_groups}
use Rattle.sr_stream.proofs.GroupsLemmas.{with_last-none}
use Rattle.sr_space.proofs.commands.xgroup.SetGroupIdTouch.at_stream.Goals as goal

pub returns-else-set_group_id-clause-stream : goal.returns-else-set_group_id-clause-stream
returns-else-set_group_id-clause-stream c =
    let stream = c.args.stream.now.shown in
    let name = c.args.self.now.group.now in
    let missing : has_group name stream.groups ≡ false = sym c.set_group_id.ensures.there ∙ c.if-set_group_id.false in
    let same = ap (λ (groups : ByName GroupState). with_groups groups stream) (sym (with_last-none name c.id_of-id.result stream.groups missing)) in
    rw missing (c.set_group_id.ensures.shown ∙ same)
