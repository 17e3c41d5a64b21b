use Rattle.std.proofs.Common.{◌≡◌, ℕ, ◌<◌, get_or}
use Rattle.sr_transport.specs.Problem.{tier_at}
use Rattle.sr_transport.specs.Assignment.{load, tiers_of}
use Rattle.sr_transport.proofs.certificate.are_filled.Given as goal

abbrev pub invariant-loop-tier : goal.invariant-loop-tier
invariant-loop-tier l =
    (t : ℕ) → t < l.tier → 0 < get_or l.prices t 0
    → load (tiers_of l.problem l.assign) t ≡ (tier_at l.problem.tiers t).room
