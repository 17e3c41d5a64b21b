use Rattle.std.proofs.Common.{ℤ, List, ℕ, Option, Some, None}
use Rattle.sr_args.specs.Number.{IsInt}
use Rattle.sr_args.specs.steps.Pending.{IsMaybeInt}
use Rattle.sr_args.proofs.commands.xpending.read_maybe_int.Goals as goal

no_int : (word : List ℕ) (z : Option ℤ) → ((y : ℤ) → IsInt word y → ⊥) → IsMaybeInt (Some word) z → ⊥
no_int word None none i = i
no_int word (Some z) none i = none z i

pub returns-in_err-read_int-in-Some-clause-none : goal.returns-in_err-read_int-in-Some-clause-none
returns-in_err-read_int-in-Some-clause-none c =
    rw (c.from_residual.ensures, c.in-Some.is) (λ z i. no_int c.in-Some.word.now z c.in_err-read_int-in-Some.ensures.none i)
