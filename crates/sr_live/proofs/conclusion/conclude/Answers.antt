use Rattle.std.proofs.Common.{rules, ◌≡◌, codes, ap, refl}
use Rattle.std.proofs.lemmas.Result.{IfErr-at_err}
use Rattle.sr_policy.specs.{Text}
use Rattle.sr_live.specs.Conclusion.{script_call, script_digest}
use Rattle.sr_live.proofs.ConclusionLemmas.{failed-memory, first-failed, first-said, second-failed, second-said}
use Rattle.sr_live.proofs.conclusion.conclude.Goals as goal

pub returns-in_err-digest-clause-err : goal.returns-in_err-digest-clause-err
returns-in_err-digest-clause-err g c =
    failed-memory c.args.key.now c.args.words.now _ _ c.from_residual.result c.from_residual.ensures.1

pub returns-clause-ok : goal.returns-clause-ok
returns-clause-ok g c =
    let digest : c.as_bytes.result.now ≡ script_digest = search rules in
    first-said c.args.key.now c.args.words.now _
    (ap (λ (name : Text). script_call (codes "EVALSHA") name c.args.key.now c.args.words.now) digest) _ _ _ _
    c.call_script-said.result c.call_script-said.ensures.ok

pub returns-clause-err : goal.returns-clause-err
returns-clause-err g c =
    let digest : c.as_bytes.result.now ≡ script_digest = search rules in
    first-failed c.args.key.now c.args.words.now _
    (ap (λ (name : Text). script_call (codes "EVALSHA") name c.args.key.now c.args.words.now) digest) _ _ _ _
    c.call_script-said.result c.call_script-said.ensures.err

pub returns-then-is_missing-clause-ok : goal.returns-then-is_missing-clause-ok
returns-then-is_missing-clause-ok g c =
    let digest : c.as_bytes.result.now ≡ script_digest = search rules in
    let missing = c.if-is_missing.ensures refl in
    second-said c.args.key.now c.args.words.now _ _
    (ap (λ (name : Text). script_call (codes "EVALSHA") name c.args.key.now c.args.words.now) digest)
    (ap (λ (text : Text). script_call (codes "EVAL") text c.args.key.now c.args.words.now) c.text_of_script.ensures)
    _ _ _ _ missing.0 (IfErr-at_err _ missing.1 c.call_script-said.ensures.err) _ _ c.call_script.result
    c.call_script.ensures.ok

pub returns-then-is_missing-clause-err : goal.returns-then-is_missing-clause-err
returns-then-is_missing-clause-err g c =
    let digest : c.as_bytes.result.now ≡ script_digest = search rules in
    let missing = c.if-is_missing.ensures refl in
    second-failed c.args.key.now c.args.words.now _ _
    (ap (λ (name : Text). script_call (codes "EVALSHA") name c.args.key.now c.args.words.now) digest)
    (ap (λ (text : Text). script_call (codes "EVAL") text c.args.key.now c.args.words.now) c.text_of_script.ensures)
    _ _ _ _ missing.0 (IfErr-at_err _ missing.1 c.call_script-said.ensures.err) _ _ c.call_script.result
    c.call_script.ensures.err
