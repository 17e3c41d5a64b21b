use Rattle.std.proofs.Common.{◌<◌, length, arith}
use Rattle.sr_group.proofs.GroupLemmas.{without_ids-none, without_ids-step}
use Rattle.sr_group.proofs.group.remove_all.Goals as goal

pub loop-id-init : goal.loop-id-init
loop-id-init c = without_ids-none c.args.pending.now.nacks

pub loop-id-preserved : goal.loop-id-preserved
loop-id-preserved c =
    let ids = c.args.ids.now in
    let within : c.loop-id.id-index < length ids = omega arith in
    without_ids-step ids c.loop-id.id-index _ c.args.pending.now.nacks c.loop-id.pending.nacks c.remove.new.self.nacks within c.loop-id.invariant c.remove.ensures.nacks
