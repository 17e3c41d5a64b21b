use Rattle.std.proofs.Common.{List, ap, ◌∙◌}
use Rattle.sr_pending.specs.declared.nack.Nack.{Nack}
use Rattle.sr_pending.specs.{owned_by}
use Rattle.sr_space.proofs.DeadLemmas.{of_dead-only}
use Rattle.sr_space.proofs.snap.left_and_live.pending_for.Goals as goal

pub returns-in-len1 : goal.returns-in-len1
returns-in-len1 c =
    let owned = c.of.ensures ∙ ap (λ (nacks : List Nack). owned_by c.consumer-item.result nacks) c.pending.ensures.nacks in
    of_dead-only c.args.dead.now c.consumer-item.result c.args.group.now.shown.nacks c.of.result c.in-len1.len_at_least c.in-len1.len_below c.consumer-item.is owned
