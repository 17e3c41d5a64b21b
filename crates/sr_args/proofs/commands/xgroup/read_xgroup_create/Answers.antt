use Rattle.std.proofs.Common.{◌≡◌, List, [], Ok, refl}
use Rattle.std.specs.List.{flat_map}
use Rattle.std.proofs.lemmas.Result.{err_from_is_err_and}
use Rattle.sr_args.specs.declared.call.Call.TheVariants.{XgroupCreate}
use Rattle.sr_args.specs.declared.call.Position.{Position}
use Rattle.sr_args.specs.declared.name.Choice.{Choice}
use Rattle.sr_args.specs.FormWord.{Word, HasNumbers}
use Rattle.sr_args.specs.Name.{nothing}
use Rattle.sr_args.specs.Options.{Written, option_places}
use Rattle.sr_args.specs.Position.{SpellsPosition}
use Rattle.sr_args.specs.Form.{Reads}
use Rattle.sr_args.specs.commands.XgroupCreate.{form, call}
use Rattle.sr_args.specs.steps.Gives.{GivesCall}
use Rattle.sr_args.specs.steps.Options.{AreJudged}
use Rattle.sr_args.proofs.ChoiceLemmas.{HasNumbers-append, Choose-numbers}
use Rattle.sr_args.proofs.commands.xgroup.read_xgroup_create.Goals as goal

gives : (words : List Word) (key group word key′ group′ : Word) (written : List Written) (from : Position) (choice : Choice) → Reads form words (key, (group, (word, (written, tt)))) → SpellsPosition word from → AreJudged written (Ok choice) → key′ ≡ key → group′ ≡ group → GivesCall form call words (XgroupCreate (record { key = key′; group = group′; from = from; make = choice.create_makes }))
gives words key group word key′ group′ written from choice reads spells judged same_key same_group = record {
  reading = (key, (group, (word, (written, tt))));
  reads = reads;
  values = (key′, (group′, (from, (choice, tt))));
  means = (same_key, (same_group, (spells, (judged, tt))));
  is = refl;
}

numbers : (written : List Written) (choice : Choice) → AreJudged written (Ok choice) → HasNumbers (flat_map option_places written)
numbers written choice judged = Choose-numbers written nothing choice judged

pub returns-in_default-read_position : goal.returns-in_default-read_position
returns-in_default-read_position c =
    let read = c.in-Some.read in
    let found = c.in-Some.ensures.found in
    let judged : AreJudged found.0 (Ok c.in_ok-choice.choice) = rw c.in_ok-choice.was at found.1 in
    ((read.key.now, (read.group.now, (read.from.now, (found.0, tt)))), found.2, (tt, (tt, (tt, HasNumbers-append (flat_map option_places found.0) [] (numbers found.0 c.in_ok-choice.choice judged) tt))), λ h. c.in_default-read_position.ensures.none h.1.1.0.0 h.1.1.0.1)

pub returns-in_err-key : goal.returns-in_err-key
returns-in_err-key c =
    let p = err_from_is_err_and c.from_residual-in_err-key.result c.from_residual-in_err-key.ensures.1 in
    let read = c.in-Some.read in
    let found = c.in-Some.ensures.found in
    let judged : AreJudged found.0 (Ok c.in_ok-choice.choice) = rw c.in_ok-choice.was at found.1 in
    rw (p.1, p.2) (_, gives c.args.words read.key.now read.group.now read.from.now read.key.now read.group.now found.0 c.in-Some-read_position.from c.in_ok-choice.choice found.2 c.in-Some-read_position.ensures.found judged refl refl)

pub returns-in_err-group : goal.returns-in_err-group
returns-in_err-group c =
    let p = err_from_is_err_and c.from_residual-in_err-group.result c.from_residual-in_err-group.ensures.1 in
    let read = c.in-Some.read in
    let found = c.in-Some.ensures.found in
    let judged : AreJudged found.0 (Ok c.in_ok-choice.choice) = rw c.in_ok-choice.was at found.1 in
    rw (p.1, p.2) (_, gives c.args.words read.key.now read.group.now read.from.now c.in_ok-key.key read.group.now found.0 c.in-Some-read_position.from c.in_ok-choice.choice found.2 c.in-Some-read_position.ensures.found judged c.in_ok-key.ensures refl)

pub returns : goal.returns
returns c =
    let read = c.in-Some.read in
    let found = c.in-Some.ensures.found in
    let judged : AreJudged found.0 (Ok c.in_ok-choice.choice) = rw c.in_ok-choice.was at found.1 in
    gives c.args.words read.key.now read.group.now read.from.now c.in_ok-key.key c.in_ok-group.group found.0 c.in-Some-read_position.from c.in_ok-choice.choice found.2 c.in-Some-read_position.ensures.found judged c.in_ok-key.ensures c.in_ok-group.ensures
