use Rattle.std.specs.Option.{option_copied}
use Rattle.sr_args.proofs.PartLemmas.{Begins-trim, BeginsNone-unsigned, BeginsNone-limit}
use Rattle.sr_args.proofs.options.trim_words.Goals as goal

pub returns-in_err-sign-clause-none : goal.returns-in_err-sign-clause-none
returns-in_err-sign-clause-none c =
    rw c.from_residual.ensures (BeginsNone-unsigned c.args.by c.args.words.now c.in_err-sign.ensures.none)

pub returns-in_err-limit-clause-none : goal.returns-in_err-limit-clause-none
returns-in_err-limit-clause-none c =
    rw c.from_residual-in_err-limit.ensures (BeginsNone-limit c.args.by c.in_ok-sign.sign c.in_ok-sign.bound.now c.args.words.now c.signed_word.new.words c.in_ok-sign.ensures.found c.in_err-limit.ensures.none)

pub returns-clause-found : goal.returns-clause-found
returns-clause-found c =
    Begins-trim c.args.by c.in_ok-sign.sign c.in_ok-sign.bound.now (option_copied c.in_ok-limit.limit) c.args.words.now c.signed_word.new.words c.limit_word.new.words c.in_ok-sign.ensures.found c.in_ok-limit.ensures.found
