use Rattle.std.proofs.Common.{◌≡◌, take}
use Rattle.std.specs.Option.{option_map}
use Rattle.sr_pending.specs.{nack_with}
use Rattle.sr_group.specs.Shown.{after_acts}
use Rattle.sr_group.specs.steps.Judging.{delivery_of}
use Rattle.sr_group.proofs.claim.delivery_after_all.Given as goal

abbrev pub invariant-loop-act : goal.invariant-loop-act
invariant-loop-act l = l.delivery ≡ option_map delivery_of (nack_with l.id (after_acts (take l.act-index l.acts) l.pending.nacks))
