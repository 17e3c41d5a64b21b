use Rattle.std.proofs.Common.{◌≡◌, List, [], ◌∷◌, refl}
use Rattle.std.proofs.lemmas.Result.{err_from_is_err_and}
use Rattle.sr_args.specs.declared.call.Call.TheVariants.{XgroupSetId}
use Rattle.sr_args.specs.declared.call.Position.{Position}
use Rattle.sr_args.specs.FormWord.{Word}
use Rattle.sr_args.specs.Position.{SpellsPosition}
use Rattle.sr_args.specs.Form.{Reads}
use Rattle.sr_args.specs.commands.XgroupSetId.{form, call}
use Rattle.sr_args.specs.steps.Gives.{GivesCall}
use Rattle.sr_args.proofs.commands.xgroup.read_xgroup_set_id.Goals as goal

reads : (words after rest left : List Word) (key group word : Word) → words ≡ key ∷ after → after ≡ group ∷ rest → rest ≡ word ∷ left → left ≡ [] → Reads form words (key, (group, (word, tt)))
reads words after rest left key group word d e f g = record { fits = rw d (refl, (rw e (refl, (rw f (refl, (rw g tt)))))); fit = tt }

gives : (words : List Word) (key group word key′ group′ : Word) (from : Position) → Reads form words (key, (group, (word, tt))) → SpellsPosition word from → key′ ≡ key → group′ ≡ group → GivesCall form call words (XgroupSetId (record { key = key′; group = group′; from = from }))
gives words key group word key′ group′ from reads spells same_key same_group =
    record { reading = (key, (group, (word, tt))); reads = reads; values = (key′, (group′, (from, tt))); means = (same_key, (same_group, (spells, tt))); is = refl }

pub returns-in_default-read_position : goal.returns-in_default-read_position
returns-in_default-read_position c =
    let r = reads c.args.words c.next.new.self c.next-2.new.self c.next-3.new.self c.in-Some.key.now c.in-Some-next.group.now c.in-Some-next-2.from.now c.in-Some.ensures.some c.in-Some-next.ensures.some c.in-Some-next-2.ensures.some c.in_default-next-3.ensures.none in
    ((c.in-Some.key.now, (c.in-Some-next.group.now, (c.in-Some-next-2.from.now, tt))), r, (tt, (tt, (tt, tt))), λ h. c.in_default-read_position.ensures.none h.1.1.0.0 h.1.1.0.1)

pub returns-in_err-key : goal.returns-in_err-key
returns-in_err-key c =
    let p = err_from_is_err_and c.from_residual.result c.from_residual.ensures.1 in
    let r = reads c.args.words c.next.new.self c.next-2.new.self c.next-3.new.self c.in-Some.key.now c.in-Some-next.group.now c.in-Some-next-2.from.now c.in-Some.ensures.some c.in-Some-next.ensures.some c.in-Some-next-2.ensures.some c.in_default-next-3.ensures.none in
    rw (p.1, p.2) (_, gives c.args.words c.in-Some.key.now c.in-Some-next.group.now c.in-Some-next-2.from.now c.in-Some.key.now c.in-Some-next.group.now c.in-Some-read_position.from r c.in-Some-read_position.ensures.found refl refl)

pub returns-in_err-group : goal.returns-in_err-group
returns-in_err-group c =
    let p = err_from_is_err_and c.from_residual-in_err-group.result c.from_residual-in_err-group.ensures.1 in
    let r = reads c.args.words c.next.new.self c.next-2.new.self c.next-3.new.self c.in-Some.key.now c.in-Some-next.group.now c.in-Some-next-2.from.now c.in-Some.ensures.some c.in-Some-next.ensures.some c.in-Some-next-2.ensures.some c.in_default-next-3.ensures.none in
    rw (p.1, p.2) (_, gives c.args.words c.in-Some.key.now c.in-Some-next.group.now c.in-Some-next-2.from.now c.in_ok-key.key c.in-Some-next.group.now c.in-Some-read_position.from r c.in-Some-read_position.ensures.found c.in_ok-key.ensures refl)

pub returns : goal.returns
returns c =
    let r = reads c.args.words c.next.new.self c.next-2.new.self c.next-3.new.self c.in-Some.key.now c.in-Some-next.group.now c.in-Some-next-2.from.now c.in-Some.ensures.some c.in-Some-next.ensures.some c.in-Some-next-2.ensures.some c.in_default-next-3.ensures.none in
    gives c.args.words c.in-Some.key.now c.in-Some-next.group.now c.in-Some-next-2.from.now c.in_ok-key.key c.in_ok-group.group c.in-Some-read_position.from r c.in-Some-read_position.ensures.found c.in_ok-key.ensures c.in_ok-group.ensures
