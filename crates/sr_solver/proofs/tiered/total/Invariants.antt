use Rattle.std.proofs.Common.{◌≡◌}
use Rattle.sr_transport.specs.{sum_below}
use Rattle.sr_transport.specs.Assignment.{charge_of, tier_of}
use Rattle.sr_transport.proofs.GivenLemmas.{IsGiven}
use Rattle.sr_solver.proofs.tiered.total.Given as goal

abbrev pub invariant-loop-entry : goal.invariant-loop-entry
invariant-loop-entry l = record {
  given : IsGiven l.problem l.assign l.given l.entry;
  sum : l.total ≡ sum_below (λ i. charge_of l.problem i (tier_of l.problem l.assign i)) l.entry;
}
