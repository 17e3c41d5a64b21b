use Rattle.sr_stream.proofs.GroupsLemmas.{without_group-removed}
use Rattle.sr_stream.proofs.places.remove_at.Goals as goal

pub returns : goal.returns
returns c =
    let groups = c.args.groups.now.items in
    let at = c.requires.place in
    without_group-removed c.args.name.now at.group groups c.remove.new.self.items c.args.place c.requires.order at.here c.remove.ensures.by_index.2
