use Rattle.std.proofs.Common.{◌∙◌, List}
use Rattle.sr_policy.specs.{Text}
use Rattle.sr_live.specs.Conclusion.{script_call}
use Rattle.sr_live.proofs.ConclusionLemmas.{said-known, unanswered-memory, unanswered-part, unanswered-result}
use Rattle.sr_live.proofs.TalkLemmas.{Talks-one}
use Rattle.sr_live.proofs.conclusion.call_script.Goals as goal

pub returns-in_err-request-clause-err : goal.returns-in_err-request-clause-err
returns-in_err-request-clause-err g c =
    unanswered-memory (script_call c.args.call.0.now c.args.call.1.now c.args.key.now c.args.words.now) _ _
    c.from_residual.result c.from_residual.ensures.1

pub returns-in-Ok-clause-ok : goal.returns-in-Ok-clause-ok
returns-in-Ok-clause-ok g c =
    let call : List Text = script_call c.args.call.0.now c.args.call.1.now c.args.key.now c.args.words.now in
    let talk = Talks-one _ _ _ _ call c.parts.result c.as_slice.result.now c.in-Ok.answers.text
    (c.as_slice.ensures.value ∙ c.in_ok-request.ensures) c.parts.ensures.spelled c.in-Ok.ensures.sent
    c.in-Ok.ensures.got in
    said-known call _ _ _ _ c.parts.result talk c.conclusion_said.result c.known.result c.known.ensures.ok
    c.conclusion_said.ensures.ok

pub returns-in-Ok-clause-err : goal.returns-in-Ok-clause-err
returns-in-Ok-clause-err g c =
    let call : List Text = script_call c.args.call.0.now c.args.call.1.now c.args.key.now c.args.words.now in
    let talk = Talks-one _ _ _ _ call c.parts.result c.as_slice.result.now c.in-Ok.answers.text
    (c.as_slice.ensures.value ∙ c.in_ok-request.ensures) c.parts.ensures.spelled c.in-Ok.ensures.sent
    c.in-Ok.ensures.got in
    unanswered-result call _ _ _ _ c.parts.result talk c.conclusion_said.result c.known.result c.known.ensures.err
    c.conclusion_said.ensures.err

pub returns-clause-err : goal.returns-clause-err
returns-clause-err g c =
    let call : List Text = script_call c.args.call.0.now c.args.call.1.now c.args.key.now c.args.words.now in
    unanswered-part call _ (g.P.Peer.got c.args.peer.now) _ (g.P.Peer.got c.ask.new.peer) c.in-Err.fault
    c.as_slice.result.now (c.as_slice.ensures.value ∙ c.in_ok-request.ensures) c.in-Err.ensures.err
