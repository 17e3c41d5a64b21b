use Rattle.sr_args.proofs.ChoiceLemmas.{Sets-count, no_count-no_numbers}
use Rattle.sr_args.proofs.options.judge.Goals as goal

pub returns-in-None : goal.returns-in-None
returns-in-None c = rw c.in-Numbered.is (λ has. c.in-None.ensures.none has.1.0.0 has.1.0.1)

pub returns-in-Some : goal.returns-in-Some
returns-in-Some c = rw c.in-Numbered.is (c.in-Some.number, c.in-Some.ensures.found, c.with_number.ensures)

pub returns-in-None-read_count : goal.returns-in-None-read_count
returns-in-None-read_count c = rw c.in-Count.is (no_count-no_numbers c.in-Count.range c.in-Count.most.now c.in-None-read_count.ensures.none)

pub returns-in-Some-read_count : goal.returns-in-Some-read_count
returns-in-Some-read_count c = rw c.in-Count.is (Sets-count c.in-Count.range c.in-Count.most.now c.in-Some-read_count.count c.args.choice c.in-Some-read_count.ensures.found)
