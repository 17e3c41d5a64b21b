use Rattle.std.proofs.Common.{ℕ, List, Option, Some, None}
use Rattle.sr_args.specs.Number.{IsTries}
use Rattle.sr_args.specs.steps.Rounds.{IsMaybeTries}
use Rattle.sr_args.proofs.commands.recover.read_maybe_tries.Goals as goal

no_tries : (word : List ℕ) (n : Option ℕ) → ((m : ℕ) → IsTries word m → ⊥) → IsMaybeTries (Some word) n → ⊥
no_tries word None none i = i
no_tries word (Some n) none i = none n i

pub returns-in_err-read_tries-in-Some-clause-none : goal.returns-in_err-read_tries-in-Some-clause-none
returns-in_err-read_tries-in-Some-clause-none c =
    rw (c.from_residual.ensures, c.in-Some.is) (λ n i. no_tries c.in-Some.word.now n c.in_err-read_tries-in-Some.ensures.none i)
