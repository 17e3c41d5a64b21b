use Rattle.std.proofs.Common.{pos}
use Rattle.sr_args.proofs.number.read_nat.Goals as goal

pub returns-in_err-read_int-clause-none : goal.returns-in_err-read_int-clause-none
returns-in_err-read_int-clause-none c = rw c.from_residual.ensures (λ n. c.in_err-read_int.ensures.none (pos n))
