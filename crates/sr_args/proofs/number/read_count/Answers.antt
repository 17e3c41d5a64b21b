use Rattle.sr_args.proofs.number.read_count.Goals as goal

pub returns-in-Any-clause-none : goal.returns-in-Any-clause-none
returns-in-Any-clause-none c = rw c.in-Any.is c.read_int.ensures.none

pub returns-in-FromOne-clause-none : goal.returns-in-FromOne-clause-none
returns-in-FromOne-clause-none c = rw c.in-FromOne.is c.read_from_one.ensures.none
