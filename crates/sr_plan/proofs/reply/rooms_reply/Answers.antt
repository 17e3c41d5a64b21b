use Rattle.std.proofs.Common.{List, [], ◌∙◌, map, refl, ap, sym}
use Rattle.std.proofs.lemmas.List.{drop_all}
use Rattle.std.proofs.lemmas.Result.{IfOk-from_err}
use Rattle.sr_policy.specs.declared.live.Live.{Live}
use Rattle.sr_resp.specs.{ReplyParts, array_of}
use Rattle.sr_check.specs.{share_answer, reached_from}
use Rattle.sr_plan.proofs.ArrayLemmas.{left-none}
use Rattle.sr_plan.proofs.PlanReplyLemmas.{room_added, room_passed}
use Rattle.sr_plan.proofs.reply.rooms_reply.Goals as goal
use Rattle.sr_plan.proofs.reply.rooms_reply.Goals.{then-is_reached+in_ok-share_reply+in_ok-push, else-is_reached}

pub loop-number-init : goal.loop-number-init
loop-number-init c = record { items = []; is = c.empty_array-reply.ensures; whole = refl }

pub push-requires : goal.push-requires
push-requires c = record { array = (c.loop-number.invariant.items, c.loop-number.invariant.is) }

pub returns-in_err-share_reply : goal.returns-in_err-share_reply
returns-in_err-share_reply c = IfOk-from_err _ _ c.from_residual.ensures.0

pub returns-in_err-push : goal.returns-in_err-push
returns-in_err-push c = IfOk-from_err _ _ c.from_residual-in_err-push.ensures.0

pub loop-number-preserved : goal.loop-number-preserved
loop-number-preserved c =
    let p = c.args.problem.now in
    let set = c.args.set.now in
    let live = c.live-live.result.now in
    elim c.if-is_reached.branch [
      | then-is_reached+in_ok-share_reply+in_ok-push w ↦
          rw w.reply-is
          (room_added p set c.loop-number.number w.room.result live c.index-live-number.result c.loop-number.reply _ _ _
          c.loop-number-test.true c.index-live-number.is
          (sym c.is_reached.ensures ∙ w.if-is_reached.true) w.room.ensures w.in_ok-share_reply.ensures
          c.loop-number.invariant w.in_ok-push.ensures.ok)
      | else-is_reached w ↦
          rw w.reply-is
          (room_passed p set c.loop-number.number live c.index-live-number.result c.loop-number.reply _
          c.loop-number-test.true c.index-live-number.is
          (sym c.is_reached.ensures ∙ w.if-is_reached.false) c.loop-number.invariant)
    ]

pub returns : goal.returns
returns c =
    let p = c.args.problem.now in
    let set = c.args.set.now in
    let from : List Live → List ReplyParts = λ live. map share_answer (reached_from p set c.loop-number.number live) in
    left-none c.loop-number.reply _ _ c.loop-number.invariant
    (ap from (drop_all c.loop-number.number c.live-live.result.now c.loop-number-test.false))
    ∙ ap (λ (live : List Live). array_of (map share_answer (reached_from p set 0 live))) c.live-live.ensures
