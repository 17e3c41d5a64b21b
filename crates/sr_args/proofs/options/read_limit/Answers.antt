use Rattle.sr_args.proofs.options.read_limit.Goals as goal

pub returns-in-Some-clause-none : goal.returns-in-Some-clause-none
returns-in-Some-clause-none c = rw c.in-Some.is c.read_nat.ensures.none
