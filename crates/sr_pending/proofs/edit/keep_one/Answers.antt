use Rattle.std.proofs.Common.{rules, not}
use Rattle.std.proofs.lemmas.Fn.{filter_same}
use Rattle.sr_pending.specs.Pending.{is_same_name}
use Rattle.sr_pending.specs.steps.Slots.{nack_at}
use Rattle.sr_pending.proofs.edit.keep_one.Goals as goal

pub returns-clause-items : goal.returns-clause-items
returns-clause-items c =
    filter_same _ (λ slot. not (is_same_name (nack_at c.args.slab.now slot).owner c.args.owner.now)) _ (λ x b f k. search rules) _ _ c.retain.ensures.filtered
