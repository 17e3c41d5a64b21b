use Rattle.std.proofs.Common.{Ok, Err, refl}
use Rattle.std.proofs.lemmas.Result.{err_from_is_err_and}
use Rattle.sr_args.specs.steps.Options.{AreJudged}
use Rattle.sr_bytes.specs.PackedWords.{paired}
use Rattle.sr_args.proofs.XaddLemmas.{Gives-from_options, xadd-bad_id, xadd-gives}
use Rattle.sr_args.proofs.commands.xadd.read_xadd.Goals as goal

pub returns-in_err-choice : goal.returns-in_err-choice
returns-in_err-choice c =
    let p = err_from_is_err_and c.from_residual.result c.from_residual.ensures.1 in
    let read = c.in-Some.read in
    let found = c.in-Some.ensures.found in
    let judged : AreJudged found.0 (Err c.in_err-choice.field-0.0) = rw c.in_err-choice.was at found.1 in
    rw (p.1, p.2) (Gives-from_options c.args.words read.key.now found.0 read.id.now (paired read.fields) c.in_err-choice.field-0.0 found.2 judged)

pub returns-in_default-parse_spec : goal.returns-in_default-parse_spec
returns-in_default-parse_spec c =
    let read = c.in-Some.read in
    let found = c.in-Some.ensures.found in
    let judged : AreJudged found.0 (Ok c.in_ok-choice.choice) = rw c.in_ok-choice.was at found.1 in
    xadd-bad_id c.args.words read.key.now found.0 read.id.now (paired read.fields) c.in_ok-choice.choice found.2 judged c.in_default-parse_spec.ensures.none

pub returns-in_err-key : goal.returns-in_err-key
returns-in_err-key c =
    let p = err_from_is_err_and c.from_residual-in_err-key.result c.from_residual-in_err-key.ensures.1 in
    let read = c.in-Some.read in
    let found = c.in-Some.ensures.found in
    let choice = c.in_ok-choice.choice in
    let spec = c.in-Some-parse_spec.id in
    let judged : AreJudged found.0 (Ok c.in_ok-choice.choice) = rw c.in_ok-choice.was at found.1 in
    rw (p.1, p.2) (_, xadd-gives c.args.words read.key.now read.key.now found.0 read.id.now (paired read.fields) (paired read.fields) choice spec found.2 refl judged c.in-Some-parse_spec.ensures.found refl)

pub returns-in_err-fields : goal.returns-in_err-fields
returns-in_err-fields c =
    let p = err_from_is_err_and c.from_residual-in_err-fields.result c.from_residual-in_err-fields.ensures.1 in
    let read = c.in-Some.read in
    let found = c.in-Some.ensures.found in
    let choice = c.in_ok-choice.choice in
    let spec = c.in-Some-parse_spec.id in
    let judged : AreJudged found.0 (Ok c.in_ok-choice.choice) = rw c.in_ok-choice.was at found.1 in
    rw (p.1, p.2) (_, xadd-gives c.args.words read.key.now read.key.now found.0 read.id.now (paired read.fields) (paired read.fields) choice spec found.2 refl judged c.in-Some-parse_spec.ensures.found refl)

pub returns : goal.returns
returns c =
    let read = c.in-Some.read in
    let found = c.in-Some.ensures.found in
    let judged : AreJudged found.0 (Ok c.in_ok-choice.choice) = rw c.in_ok-choice.was at found.1 in
    xadd-gives c.args.words read.key.now c.in_ok-key.key found.0 read.id.now (paired read.fields) c.in_ok-fields.fields c.in_ok-choice.choice c.in-Some-parse_spec.id found.2 c.in_ok-key.ensures judged c.in-Some-parse_spec.ensures.found c.in_ok-fields.ensures
