use Rattle.std.proofs.Common.{◌≡◌, take}
use Rattle.sr_group.specs.Group.{without_ids}
use Rattle.sr_group.proofs.group.remove_all.Given as goal

abbrev pub invariant-loop-id : goal.invariant-loop-id
invariant-loop-id l = l.pending.nacks ≡ without_ids (take l.id-index l.ids) l.initial.pending.nacks
