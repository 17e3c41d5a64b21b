use Rattle.std.proofs.Common.{ℕ, ◌<◌}
use Rattle.sr_transport.specs.Assignment.{tier_of}
use Rattle.sr_transport.specs.Certificate.{IsLeast}
use Rattle.sr_transport.proofs.GivenLemmas.{IsGiven}
use Rattle.sr_transport.proofs.certificate.are_least.Given as goal

abbrev pub invariant-loop-entry : goal.invariant-loop-entry
invariant-loop-entry l = record {
  given : IsGiven l.problem l.assign l.given l.entry;
  least : (i : ℕ) → i < l.entry → IsLeast l.problem l.prices i (tier_of l.problem l.assign i);
}
