use Rattle.std.proofs.Common.{◌++◌, ◌∷◌, [], ◌∙◌, take, ap}
use Rattle.std.proofs.lemmas.List.{take_more, take_all}
use Rattle.std.proofs.lemmas.Result.{IfOk-from_err}
use Rattle.sr_args.proofs.reads.copies.Goals as goal

pub loop-stream-preserved : goal.loop-stream-preserved
loop-stream-preserved g c =
    let streams = c.args.streams.now in
    let index = c.loop-stream.stream-index in
    let item = c.stream-item.result in
    let more = take_more streams index item c.loop-stream-test.true in
    let same = ap (λ key. (key, item.1)) c.in_ok-key.ensures ∙ c.stream-item.is in
    rw (c.in_ok-push.ensures.items, c.loop-stream.invariant, more) (ap (λ stream. take index streams ++ stream ∷ []) same)

pub returns-in_err-key : goal.returns-in_err-key
returns-in_err-key g c = IfOk-from_err _ _ c.from_residual-in_err-key.ensures.0

pub returns-in_err-push : goal.returns-in_err-push
returns-in_err-push g c = IfOk-from_err _ _ c.from_residual-in_err-push.ensures.0

pub returns-in_err-list : goal.returns-in_err-list
returns-in_err-list g c = IfOk-from_err _ _ c.from_residual.ensures.0

pub returns : goal.returns
returns g c = c.loop-stream.invariant ∙ take_all c.loop-stream.stream-index c.args.streams.now c.loop-stream-test.false
