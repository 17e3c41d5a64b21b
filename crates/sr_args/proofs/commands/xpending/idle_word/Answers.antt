use Rattle.std.proofs.Common.{Option, Some, None, IfSome}
use Rattle.sr_args.specs.FormWord.{int}
use Rattle.sr_args.proofs.commands.xpending.idle_word.Goals as goal

-- what is found of every range is found of numbers with a sign
at : {X R : Type 0} (P : X → R → Type 0) (found : Option X) (r : R) → IfSome found (λ x. (s : R) → P x s) → IfSome found (λ x. P x r)
at P None r all = tt
at P (Some x) r all = all r

pub returns-clause-found : goal.returns-clause-found
returns-clause-found c = at _ c.number_word.result int c.number_word.ensures.found
