use Rattle.std.proofs.Common.{◌∙◌, ℕ, List, map, sym, subst, arith}
use Rattle.sr_policy.specs.declared.live.Live.{Live}
use Rattle.sr_policy.specs.{room_at}
use Rattle.sr_check.specs.PlanReply.{reached_from, share_answer}
use Rattle.sr_check.specs.steps.Read.{Begins, rooms_answer}
use Rattle.sr_check.proofs.ListLemmas.{AreLeft-start, array-begins, array-items, no_array, count_of, one_room}
use Rattle.sr_check.proofs.ListLemmas.{room_fits, room_read, room_passed, room_stuck, rooms_read}
use Rattle.sr_check.proofs.shortage.after_rooms.Goals as goal
use Rattle.sr_check.proofs.shortage.after_rooms.Goals.{then-is_reached+in_ok-left-2, else-is_reached}

pub returns-in_err-left-clause-none : goal.returns-in_err-left-clause-none
returns-in_err-left-clause-none c = rw c.from_residual.ensures (λ after begins.
    let p = c.args.problem.now in
    let set = c.args.set.now in
    let live = c.live-live.result.now in
    let all = reached_from p set 0 live in
    let is = subst (λ (l : List Live). Begins c.args.bytes.now (rooms_answer p set l) after)
    (sym c.live-live.ensures) begins in
    no_array (map share_answer all) c.reached.result c.args.bytes.now after
    (c.reached.ensures ∙ count_of share_answer all)
    c.in_err-left.ensures.none is)

pub returns-in_err-left-2-clause-none : goal.returns-in_err-left-2-clause-none
returns-in_err-left-2-clause-none c = rw c.from_residual-in_err-left-2.ensures (λ after begins.
    let p = c.args.problem.now in
    let set = c.args.set.now in
    let live = c.live-live.result.now in
    let all = reached_from p set 0 live in
    let consumer = c.index-live-number.result in
    let left = c.loop-number.left.now in
    let start = c.in_ok-left.left.now in
    let is = subst (λ (l : List Live). Begins c.args.bytes.now (rooms_answer p set l) after)
    (sym c.live-live.ensures) begins in
    let items = array-items (map share_answer all) c.reached.result c.args.bytes.now start after
    (c.reached.ensures ∙ count_of share_answer all) c.in_ok-left.ensures.found is in
    let none = λ (others : List ℕ) (b : Begins left (share_answer (consumer.name, room_at consumer)) others).
    c.in_err-left-2.ensures.none others (subst (λ (k : ℕ). Begins left (share_answer (consumer.name, k)) others) (sym
    c.room.ensures) b) in
    room_stuck p set c.loop-number.number live consumer (map share_answer all) start left after c.loop-number-test.true
    c.index-live-number.is
    (sym c.is_reached.ensures ∙ c.if-is_reached.true) c.loop-number.invariant none items)

pub loop-number-preserved : goal.loop-number-preserved
loop-number-preserved c =
    let p = c.args.problem.now in
    let set = c.args.set.now in
    let live = c.live-live.result.now in
    let all = map share_answer (reached_from p set 0 live) in
    let consumer = c.index-live-number.result in
    let n = c.loop-number.number in
    let left = c.loop-number.left.now in
    let start = c.in_ok-left.left.now in
    elim c.if-is_reached.branch [
      | then-is_reached+in_ok-left-2 w ↦
          let next = w.in_ok-left-2.left.now in
          let first = subst (λ (k : ℕ). Begins left (share_answer (consumer.name, k)) next) w.room.ensures
          w.in_ok-left-2.ensures.found in
          rw w.left-is
          (room_read p set n live consumer all start left next c.loop-number-test.true c.index-live-number.is
          (sym c.is_reached.ensures ∙ w.if-is_reached.true) c.loop-number.invariant first)
      | else-is_reached w ↦
          rw w.left-is (room_passed p set n live consumer all start left c.loop-number-test.true c.index-live-number.is
          (sym c.is_reached.ensures ∙ w.if-is_reached.false) c.loop-number.invariant)
    ]

pub reached-requires-clause-each : goal.reached-requires-clause-each
reached-requires-clause-each c =
    one_room c.args.snapshot.now c.args.problem.now c.live-live.result.now c.requires.problem c.live-live.ensures

pub reached-requires-clause-entries : goal.reached-requires-clause-entries
reached-requires-clause-entries c = c.requires.entries

pub returns-in_err-left-clause-found : goal.returns-in_err-left-clause-found
returns-in_err-left-clause-found c = rw c.from_residual.ensures tt

pub loop-number-init : goal.loop-number-init
loop-number-init c =
    AreLeft-start (map share_answer (reached_from c.args.problem.now c.args.set.now 0 c.live-live.result.now))
    c.in_ok-left.left.now

pub is_reached-requires-clause-entries : goal.is_reached-requires-clause-entries
is_reached-requires-clause-entries c = c.requires.entries

pub is_reached-requires-clause-consumer : goal.is_reached-requires-clause-consumer
is_reached-requires-clause-consumer c = omega (
  arith,
  c.loop-number-test.true,
  one_room c.args.snapshot.now c.args.problem.now c.live-live.result.now c.requires.problem c.live-live.ensures,
)

pub after_share-requires : goal.after_share-requires
after_share-requires c =
    room_fits c.args.snapshot.now.live c.live-live.result.now c.loop-number.number
    c.index-live-number.result c.room.result
    c.live-live.ensures c.loop-number-test.true c.index-live-number.is c.sound.ensures.bounds.limits c.room.ensures

pub returns-in_err-left-2-clause-found : goal.returns-in_err-left-2-clause-found
returns-in_err-left-2-clause-found c = rw c.from_residual-in_err-left-2.ensures tt

pub returns-clause-found : goal.returns-clause-found
returns-clause-found c =
    let p = c.args.problem.now in
    let set = c.args.set.now in
    let live = c.live-live.result.now in
    let all = reached_from p set 0 live in
    let start = c.in_ok-left.left.now in
    let left = c.loop-number.left.now in
    let items = rooms_read p set c.loop-number.number live (map share_answer all) start left c.loop-number-test.false
    c.loop-number.invariant in
    subst (λ (l : List Live). Begins c.args.bytes.now (rooms_answer p set l) left) c.live-live.ensures (
    array-begins (map share_answer all) c.reached.result c.args.bytes.now start left
    (c.reached.ensures ∙ count_of share_answer all)
    c.in_ok-left.ensures.found items
    )

pub returns-clause-none : goal.returns-clause-none
returns-clause-none c = tt
