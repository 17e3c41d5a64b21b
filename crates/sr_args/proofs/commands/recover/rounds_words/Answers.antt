use Rattle.std.specs.Option.{option_copied}
use Rattle.sr_args.specs.FormWord.{tries}
use Rattle.sr_args.proofs.RoundsLemmas.{rounds-reads, rounds-none}
use Rattle.sr_args.proofs.commands.recover.rounds_words.Goals as goal

pub returns-in_err-dead-clause-none : goal.returns-in_err-dead-clause-none
returns-in_err-dead-clause-none c =
    rw c.from_residual-in_err-dead.ensures (rounds-none c.args.words c.number_word.new.words (option_copied c.in_ok-tries.tries) (c.in_ok-tries.ensures.found tries) c.in_err-dead.ensures.none)

pub returns-clause-found : goal.returns-clause-found
returns-clause-found c =
    rounds-reads c.args.words c.number_word.new.words (option_copied c.in_ok-tries.tries) c.in_ok-dead.dead (c.in_ok-tries.ensures.found tries) c.in_ok-dead.ensures.found
