use Rattle.std.proofs.Common.{◌≡◌, List, [], ◌∷◌, refl}
use Rattle.std.proofs.lemmas.Result.{err_from_is_err_and}
use Rattle.sr_args.specs.FormWord.{Word}
use Rattle.sr_args.specs.steps.Gives.{GivesCall}
use Rattle.sr_args.specs.steps.Named.{group_form, group_of}
use Rattle.sr_args.proofs.commands.named.read_group.Goals as goal

gives : (words after rest : List Word) (key group key′ group′ : Word) → words ≡ key ∷ after → after ≡ group ∷ rest → rest ≡ [] → key′ ≡ key → group′ ≡ group → GivesCall group_form group_of words (record { key = key′; group = group′ })
gives words after rest key group key′ group′ d e f same_key same_group = record {
  reading = (key, (group, tt));
  reads = record { fits = rw d (refl, rw e (refl, rw f tt)); fit = tt };
  values = (key′, (group′, tt));
  means = (same_key, (same_group, tt));
  is = refl;
}

pub returns-in_err-key : goal.returns-in_err-key
returns-in_err-key c =
    let p = err_from_is_err_and c.from_residual.result c.from_residual.ensures.1 in
    rw (p.1, p.2) (_, gives c.args.words c.next.new.self c.next-2.new.self c.in-Some.key.now c.in-Some-next.group.now c.in-Some.key.now c.in-Some-next.group.now c.in-Some.ensures.some c.in-Some-next.ensures.some c.in_default-next-2.ensures.none refl refl)

pub returns-in_err-group : goal.returns-in_err-group
returns-in_err-group c =
    let p = err_from_is_err_and c.from_residual-in_err-group.result c.from_residual-in_err-group.ensures.1 in
    rw (p.1, p.2) (_, gives c.args.words c.next.new.self c.next-2.new.self c.in-Some.key.now c.in-Some-next.group.now c.in_ok-key.key c.in-Some-next.group.now c.in-Some.ensures.some c.in-Some-next.ensures.some c.in_default-next-2.ensures.none c.in_ok-key.ensures refl)

pub returns : goal.returns
returns c = gives c.args.words c.next.new.self c.next-2.new.self c.in-Some.key.now c.in-Some-next.group.now c.in_ok-key.key c.in_ok-group.group c.in-Some.ensures.some c.in-Some-next.ensures.some c.in_default-next-2.ensures.none c.in_ok-key.ensures c.in_ok-group.ensures
