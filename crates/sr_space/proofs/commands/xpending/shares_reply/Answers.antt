use Rattle.std.proofs.Common.{◌≤◌, ◌∙◌, List, length, ap, arith, sym}
use Rattle.std.specs.List.{flat_map}
use Rattle.sr_group.specs.declared.consumer.Consumer.{Consumer}
use Rattle.sr_group.specs.{counts_of}
use Rattle.sr_pending.specs.declared.nack.Nack.{Nack}
use Rattle.sr_resp.specs.{array_of}
use Rattle.sr_space.proofs.PendingLemmas.{share_in, shares-ended, shares-next, shares_of-some}
use Rattle.sr_space.proofs.commands.xpending.shares_reply.Goals as goal

pub loop-place-preserved : goal.loop-place-preserved
loop-place-preserved c =
    let group = c.args.group.now.shown in
    let counts = c.requires ∙ ap (λ (consumers : List Consumer). counts_of consumers group.nacks) (sym c.consumers-consumer-items.ensures) in
    shares-next c.consumers-consumer-items.result.now group.nacks c.loop-place.place c.consumer-item.result c.args.counts.now c.loop-place.shares c.push_share.new.shares c.loop-place-test.true c.consumer-item.is counts c.loop-place.invariant c.in_ok-push_share.ensures

pub returns : goal.returns
returns c =
    let group = c.args.group.now.shown in
    let past : length c.consumers-consumer-items.result.now ≤ c.loop-place.place = omega arith in
    let number = c.len.ensures.value ∙ ap (λ (nacks : List Nack). length nacks) c.pending.ensures.nacks in
    let all = shares-ended c.consumers-consumer-items.result.now group.nacks c.loop-place.place c.loop-place.shares past c.loop-place.invariant in
    all ∙ ap (λ (consumers : List Consumer). array_of (flat_map (share_in group.nacks) consumers)) c.consumers-consumer-items.ensures
    ∙ sym (shares_of-some group.consumers group.nacks (λ none. c.if-len-eq0.false (number ∙ none)))
