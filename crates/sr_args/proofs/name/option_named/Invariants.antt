use Rattle.std.proofs.Common.{take}
use Rattle.sr_args.specs.declared.name.TheConstants.{OPTIONS}
use Rattle.sr_args.proofs.NameLemmas.{AreUnnamed}
use Rattle.sr_args.proofs.name.option_named.Given as goal

abbrev pub invariant-loop-option : goal.invariant-loop-option
invariant-loop-option l = AreUnnamed (take l.option-index OPTIONS) l.word
