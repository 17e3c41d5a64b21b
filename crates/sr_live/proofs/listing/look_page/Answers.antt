use Rattle.std.proofs.Common.{rules, ◌≡◌, ◌∙◌, List, ap, decimal, inl, inr, refl}
use Rattle.std.proofs.lemmas.Result.{IfOk-weaker}
use Rattle.sr_policy.specs.{Text}
use Rattle.sr_peer.specs.{request_text}
use Rattle.sr_live.specs.declared.fault.LiveCall.TheVariants.{Pending}
use Rattle.sr_live.specs.Looking.{pending_call, pending_words, start_after}
use Rattle.sr_live.proofs.LookingLemmas.{understood-says}
use Rattle.sr_live.proofs.ReadingLemmas.{breaks-memory, breaks-understood, reads-none, reads-part, sends-whole}
use Rattle.sr_live.proofs.TalkLemmas.{Talks-one}
use Rattle.sr_live.proofs.listing.look_page.Goals as goal

pub returns-in_err-start-clause-err : goal.returns-in_err-start-clause-err
returns-in_err-start-clause-err g c =
    breaks-memory c.from_residual.result _ _ _ _ c.from_residual.ensures.1 (reads-none _)

pub returns-in_err-request-clause-err : goal.returns-in_err-request-clause-err
returns-in_err-request-clause-err g c =
    breaks-memory c.from_residual-in_err-request.result _ _ _ _ c.from_residual-in_err-request.ensures.1 (reads-none _)

pub returns-in-Ok-clause-ok : goal.returns-in-Ok-clause-ok
returns-in-Ok-clause-ok g c =
    let asked = c.args.asked.now in
    let call : List Text = pending_call asked.key asked.group asked.claimable.idle (start_after c.args.after) c.args.name.now in
    let start : c.as_slice.result.now ≡ start_after c.args.after = search rules in
    let idle : c.as_bytes.result.now ≡ decimal asked.claimable.idle = search rules in
    let is = c.as_slice-2.ensures.value ∙ c.in_ok-request.ensures
    ∙ ap (λ (text : Text). request_text (pending_words asked.key asked.group text c.as_slice.result.now c.args.name.now)) idle
    ∙ ap (λ (text : Text). request_text (pending_words asked.key asked.group (decimal asked.claimable.idle) text c.args.name.now))
    start in
    let talk = Talks-one _ _ _ _ call c.parts.result c.as_slice-2.result.now c.in-Ok.answers.text is
    c.parts.ensures.spelled c.in-Ok.ensures.sent c.in-Ok.ensures.got in
    understood-says c.pending_said.result c.understood.result _ c.understood.ensures.ok
    (IfOk-weaker c.pending_said.result _ _ (λ ids said. (c.parts.result, talk, said)) c.pending_said.ensures.ok)

pub returns-in-Ok-clause-err : goal.returns-in-Ok-clause-err
returns-in-Ok-clause-err g c =
    let asked = c.args.asked.now in
    let call : List Text = pending_call asked.key asked.group asked.claimable.idle (start_after c.args.after) c.args.name.now in
    let start : c.as_slice.result.now ≡ start_after c.args.after = search rules in
    let idle : c.as_bytes.result.now ≡ decimal asked.claimable.idle = search rules in
    let is = c.as_slice-2.ensures.value ∙ c.in_ok-request.ensures
    ∙ ap (λ (text : Text). request_text (pending_words asked.key asked.group text c.as_slice.result.now c.args.name.now)) idle
    ∙ ap (λ (text : Text). request_text (pending_words asked.key asked.group (decimal asked.claimable.idle) text c.args.name.now))
    start in
    breaks-understood c.understood.result _ _ _ _ Pending c.pending_said.result c.in-Ok.answers.text c.parts.result
    (c.understood.ensures.err tt) c.understood.ensures.told c.pending_said.ensures.err c.in-Ok.ensures.got
    c.parts.ensures.spelled
    (reads-part _ _ call c.as_slice-2.result.now is (inr (inl refl)) (sends-whole _ _ _ c.in-Ok.ensures.sent))

pub returns-clause-err : goal.returns-clause-err
returns-clause-err g c =
    let asked = c.args.asked.now in
    let call : List Text = pending_call asked.key asked.group asked.claimable.idle (start_after c.args.after) c.args.name.now in
    let start : c.as_slice.result.now ≡ start_after c.args.after = search rules in
    let idle : c.as_bytes.result.now ≡ decimal asked.claimable.idle = search rules in
    let is = c.as_slice-2.ensures.value ∙ c.in_ok-request.ensures
    ∙ ap (λ (text : Text). request_text (pending_words asked.key asked.group text c.as_slice.result.now c.args.name.now)) idle
    ∙ ap (λ (text : Text). request_text (pending_words asked.key asked.group (decimal asked.claimable.idle) text c.args.name.now))
    start in
    record { looking = tt; read = reads-part _ _ call c.as_slice-2.result.now is (inr (inl refl)) c.in-Err.ensures.err; told = tt }
