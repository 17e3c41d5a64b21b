use Rattle.std.proofs.Common.{ℕ, ◌^◌, ◌<◌, List, length, map, ap, ◌∙◌}
use Rattle.std.proofs.lemmas.List.{take_all}
use Rattle.std.proofs.lemmas.Result.{IfOk-from_err}
use Rattle.sr_group.specs.declared.consumer.Consumer.{Consumer}
use Rattle.sr_pending.specs.declared.nack.Nack.{Nack}
use Rattle.sr_resp.specs.{array_of}
use Rattle.sr_space.specs.commands.Xinfo.{consumer_answer, consumer_line}
use Rattle.sr_space.proofs.InfoLemmas.{counts_of-few, counts_of-read}
use Rattle.sr_space.proofs.LoopLemmas.{lines-next}
use Rattle.sr_space.proofs.commands.xinfo.consumers_reply.Goals as goal

pub consumer_reply-requires-clause-pending : goal.consumer_reply-requires-clause-pending
consumer_reply-requires-clause-pending c =
    let group = c.args.group.now.shown in
    let number = c.len.ensures.value ∙ ap (λ (nacks : List Nack). length nacks) c.pending.ensures.nacks in
    let few : length group.nacks < 2 ^ 63 = rw number at c.len.ensures.bound in
    let within = rw c.consumers-consumer-items.ensures at c.loop-place-test.true in
    counts_of-few group.consumers group.nacks c.in_ok-counts.field-0.counts.items c.loop-place.place c.index.result.now (2 ^ 63) c.in_ok-counts.ensures.counts within c.index.ensures few

pub returns : goal.returns
returns c =
    let group = c.args.group.now.shown in
    let past = rw c.consumers-consumer-items.ensures at c.loop-place-test.false in
    c.loop-place.invariant ∙ ap (λ (l : List Consumer). array_of (map (consumer_answer c.args.moment group.nacks) l)) (take_all c.loop-place.place group.consumers past)

pub consumer_reply-requires-clause-moment : goal.consumer_reply-requires-clause-moment
consumer_reply-requires-clause-moment c = c.requires

pub loop-place-preserved : goal.loop-place-preserved
loop-place-preserved c =
    let group = c.args.group.now.shown in
    let consumer = c.consumer-item.result in
    let items = c.consumers-consumer-items.ensures in
    let within = rw items at c.loop-place-test.true in
    let read = rw items at c.consumer-item.is in
    let pending = counts_of-read group.consumers group.nacks c.in_ok-counts.field-0.counts.items c.loop-place.place c.index.result.now consumer c.in_ok-counts.ensures.counts within c.index.ensures read in
    lines-next (consumer_answer c.args.moment group.nacks) group.consumers c.loop-place.place consumer _ _ _ within read c.in_ok-push.ensures.ok
    (c.in_ok-consumer_reply.ensures ∙ ap (λ (n : ℕ). consumer_line c.args.moment n consumer) pending) c.loop-place.invariant

pub returns-in_err-counts : goal.returns-in_err-counts
returns-in_err-counts c = IfOk-from_err _ _ c.from_residual.ensures.0

pub returns-in_err-consumer_reply : goal.returns-in_err-consumer_reply
returns-in_err-consumer_reply c = IfOk-from_err _ _ c.from_residual-in_err-consumer_reply.ensures.0

pub returns-in_err-push : goal.returns-in_err-push
returns-in_err-push c = IfOk-from_err _ _ c.from_residual-in_err-push.ensures.0
