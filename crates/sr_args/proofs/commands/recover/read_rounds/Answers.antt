use Rattle.std.proofs.Common.{refl}
use Rattle.std.specs.Prelude.{unwrap_or}
use Rattle.std.specs.Option.{option_copied}
use Rattle.std.proofs.lemmas.Result.{err_from_is_err_and}
use Rattle.sr_args.specs.commands.RecoverRun.{usual_tries}
use Rattle.sr_args.proofs.RoundsLemmas.{rounds-no_number, rounds-gives}
use Rattle.sr_args.proofs.commands.recover.read_rounds.Goals as goal

pub returns-in_default-read_maybe_tries : goal.returns-in_default-read_maybe_tries
returns-in_default-read_maybe_tries c =
    let read = c.in-Some.read in
    ((option_copied read.tries, read.dead), c.in-Some.ensures.found, rounds-no_number (option_copied read.tries) read.dead c.in_default-read_maybe_tries.ensures.none)

pub returns-in_err-dead : goal.returns-in_err-dead
returns-in_err-dead c =
    let p = err_from_is_err_and c.from_residual.result c.from_residual.ensures.1 in
    let read = c.in-Some.read in
    let many = c.in-Some-read_maybe_tries.tries in
    rw (p.1, p.2) (_, rounds-gives c.args.words read.dead read.dead (option_copied read.tries) many (unwrap_or many usual_tries) c.in-Some.ensures.found c.in-Some-read_maybe_tries.ensures.found refl refl)

pub returns : goal.returns
returns c =
    let read = c.in-Some.read in
    rounds-gives c.args.words read.dead c.in_ok-dead.dead (option_copied read.tries) c.in-Some-read_maybe_tries.tries c.unwrap_or.result c.in-Some.ensures.found c.in-Some-read_maybe_tries.ensures.found c.unwrap_or.ensures c.in_ok-dead.ensures
