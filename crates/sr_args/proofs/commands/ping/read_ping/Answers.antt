use Rattle.std.proofs.Common.{◌≡◌, List, [], ◌∷◌, Some, refl, ap}
use Rattle.std.proofs.lemmas.Result.{err_from_is_err_and}
use Rattle.sr_args.specs.declared.call.Call.TheVariants.{Ping}
use Rattle.sr_args.specs.FormWord.{Word}
use Rattle.sr_args.specs.commands.Ping.{form, call}
use Rattle.sr_args.specs.steps.Gives.{GivesCall}
use Rattle.sr_args.proofs.commands.ping.read_ping.Goals as goal

gives : (words rest : List Word) (message copy : Word) → words ≡ message ∷ rest → rest ≡ [] → copy ≡ message → GivesCall form call words (Ping (record { message = Some copy }))
gives words rest message copy e f same =
    record { reading = Some message; reads = record { fits = rw e (rw f (refl, tt)); fit = tt }; values = Some copy; means = ap Some same; is = refl }

pub returns-in_err-message : goal.returns-in_err-message
returns-in_err-message c =
    let p = err_from_is_err_and c.from_residual.result c.from_residual.ensures.1 in
    let message = c.in-Some.message.now in
    rw (p.1, p.2) (Ping (record { message = Some message }), gives c.args.words c.next.new.self message message c.in-Some.ensures.some c.in_default-next.ensures.none refl)

pub returns : goal.returns
returns c = gives c.args.words c.next.new.self c.in-Some.message.now c.in_ok-message.message c.in-Some.ensures.some c.in_default-next.ensures.none c.in_ok-message.ensures
