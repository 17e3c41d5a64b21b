use Rattle.sr_args.proofs.RangeLemmas.{range-reads, range-no_options, range-word_left}
use Rattle.sr_args.proofs.commands.xrange.range_words.Goals as goal

pub returns-in_err-judged-clause-none : goal.returns-in_err-judged-clause-none
returns-in_err-judged-clause-none c =
    rw c.from_residual-in_err-judged.ensures (range-no_options c.args.words c.next.new.self c.next-2.new.self c.next-3.new.self c.in_ok-key.key.now c.in_ok-first.first.now c.in_ok-second.second.now c.in_ok-key.ensures.some c.in_ok-first.ensures.some c.in_ok-second.ensures.some c.in_err-judged.ensures.none)

pub returns-in-Some-clause-none : goal.returns-in-Some-clause-none
returns-in-Some-clause-none c =
    let read = c.in_ok-judged.ensures.found in
    range-word_left c.args.words c.next.new.self c.next-2.new.self c.next-3.new.self c.read_options.new.words c.next-4.new.self c.in_ok-key.key.now c.in_ok-first.first.now c.in_ok-second.second.now c.in-Some.field-0.now read.0 c.in_ok-key.ensures.some c.in_ok-first.ensures.some c.in_ok-second.ensures.some read.1 c.in-Some.ensures.some

pub returns-clause-found : goal.returns-clause-found
returns-clause-found c =
    let read = c.in_ok-judged.ensures.found in
    (read.0, range-reads c.args.words c.next.new.self c.next-2.new.self c.next-3.new.self c.read_options.new.words c.in_ok-key.key.now c.in_ok-first.first.now c.in_ok-second.second.now read.0 c.in_ok-key.ensures.some c.in_ok-first.ensures.some c.in_ok-second.ensures.some read.1 c.in_default.ensures.none, read.2)
