use Rattle.std.proofs.Common.{◌∙◌, List, inl, inr, refl}
use Rattle.sr_policy.specs.{Text}
use Rattle.sr_live.specs.declared.fault.LiveCall.TheVariants.{Pending}
use Rattle.sr_live.specs.Looking.{numbers_call}
use Rattle.sr_live.proofs.ReadingLemmas.{breaks-memory, breaks-understood, reads-none, reads-part, sends-whole}
use Rattle.sr_live.proofs.consumers.look_numbers.Goals as goal

pub returns-in_err-request-clause-err : goal.returns-in_err-request-clause-err
returns-in_err-request-clause-err g c =
    breaks-memory c.from_residual.result _ _ _ _ c.from_residual.ensures.1 (reads-none _)

pub returns-in-Ok-clause-err : goal.returns-in-Ok-clause-err
returns-in-Ok-clause-err g c =
    let call : List Text = numbers_call c.args.key.now c.args.group.now in
    breaks-understood c.understood.result _ _ _ _ Pending c.numbers_said.result c.in-Ok.answers.text c.parts.result
    (c.understood.ensures.err tt) c.understood.ensures.told c.numbers_said.ensures.err c.in-Ok.ensures.got
    c.parts.ensures.spelled
    (reads-part _ _ call c.as_slice.result.now (c.as_slice.ensures.value ∙ c.in_ok-request.ensures) (inr (inl refl)) (sends-whole _ _ _ c.in-Ok.ensures.sent))

pub returns-clause-err : goal.returns-clause-err
returns-clause-err g c =
    let call : List Text = numbers_call c.args.key.now c.args.group.now in
    record { looking = tt; read = reads-part _ _ call c.as_slice.result.now (c.as_slice.ensures.value ∙ c.in_ok-request.ensures) (inr (inl refl)) c.in-Err.ensures.err; told = tt }
