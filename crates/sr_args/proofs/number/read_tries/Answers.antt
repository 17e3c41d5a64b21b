use Rattle.std.proofs.Common.{arith}
use Rattle.sr_args.proofs.number.read_tries.Goals as goal

pub returns-in_err-number-clause-none : goal.returns-in_err-number-clause-none
returns-in_err-number-clause-none c = rw c.from_residual.ensures (λ n i. c.in_err-number.ensures.none n i.0)

pub returns-clause-found : goal.returns-clause-found
returns-clause-found c = (c.in_ok-number.ensures.found, omega arith, omega arith)
