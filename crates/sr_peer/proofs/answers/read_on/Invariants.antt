use Rattle.std.proofs.Common.{length, drop}
use Rattle.sr_peer.specs.steps.Reading.{AreAlike}
use Rattle.sr_peer.proofs.AnswerLemmas.{IsSuffix}
use Rattle.sr_peer.proofs.answers.read_on.Given as goal

abbrev pub invariant-loop-due : goal.invariant-loop-due
invariant-loop-due l = record {
  suffix : IsSuffix l.text l.left;
  alike : AreAlike l.fn.from.due (drop l.fn.from.at l.fn.text) l.due l.left;
}

abbrev pub decreases-loop-due : goal.decreases-loop-due
decreases-loop-due l = length l.left
