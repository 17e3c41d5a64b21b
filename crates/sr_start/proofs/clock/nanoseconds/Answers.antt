use Rattle.std.proofs.Common.{◌≡◌, ◌<◌, ℕ, min, Result, Ok, Err, arith}
use Rattle.std.specs.Result.{OkIff, result_unwrap_or}
use Rattle.sr_start.proofs.clock.nanoseconds.Goals as goal

-- a number that fits is told, and the greatest one else
told_or_greatest : {E : Type 0} (fitted : Result ℕ E) (n told value : ℕ) → OkIff fitted (n < 18446744073709551616) n
    → told ≡ result_unwrap_or fitted 18446744073709551615 → n ≡ value → told ≡ min value 18446744073709551615
told_or_greatest (Ok x) n told value fits is same = omega (arith, fits.0, fits.1, is, same)
told_or_greatest (Err e) n told value fits is same = omega (arith, fits, is, same)

pub returns : goal.returns
returns c = told_or_greatest c.try_from.result _ _ _ c.try_from.ensures c.unwrap_or.ensures c.as_nanos.ensures
