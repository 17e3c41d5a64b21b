use Rattle.std.proofs.Common.{length, ap, arith}
use Rattle.sr_solver.proofs.tiered.step_of.Goals as goal

pub bounds-tiers-first : goal.bounds-tiers-first
bounds-tiers-first c =
    omega (
      arith,
      c.first_tier-first.ensures,
      ap length c.tiers-tiers.ensures,
      (c.sound.ensures.are_tiers.first c.args.consumer c.requires).here,
    )
