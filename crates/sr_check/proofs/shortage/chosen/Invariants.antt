use Rattle.sr_check.proofs.ChosenLemmas.{IsWalked}
use Rattle.sr_check.proofs.shortage.chosen.Given as goal

abbrev pub invariant-loop-number : goal.invariant-loop-number
invariant-loop-number l = IsWalked l.stranded l.number l.initial.left l.set.items l.left
