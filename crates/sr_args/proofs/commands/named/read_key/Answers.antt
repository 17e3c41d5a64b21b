use Rattle.std.proofs.Common.{◌≡◌, List, [], ◌∷◌, refl}
use Rattle.std.proofs.lemmas.Result.{err_from_is_err_and}
use Rattle.sr_args.specs.FormWord.{Word}
use Rattle.sr_args.specs.steps.Gives.{GivesCall}
use Rattle.sr_args.specs.steps.Named.{key_form, key_of}
use Rattle.sr_args.proofs.commands.named.read_key.Goals as goal

gives : (words after : List Word) (key key′ : Word) → words ≡ key ∷ after → after ≡ [] → key′ ≡ key → GivesCall key_form key_of words key′
gives words after key key′ d e same_key = record {
  reading = (key, tt);
  reads = record { fits = rw d (refl, rw e tt); fit = tt };
  values = (key′, tt);
  means = (same_key, tt);
  is = refl;
}

pub returns-in_err-key : goal.returns-in_err-key
returns-in_err-key c =
    let p = err_from_is_err_and c.from_residual.result c.from_residual.ensures.1 in
    rw (p.1, p.2) (_, gives c.args.words c.next.new.self c.in-Some.key.now c.in-Some.key.now c.in-Some.ensures.some c.in_default-next.ensures.none refl)

pub returns : goal.returns
returns c = gives c.args.words c.next.new.self c.in-Some.key.now c.in_ok-key.key c.in-Some.ensures.some c.in_default-next.ensures.none c.in_ok-key.ensures
