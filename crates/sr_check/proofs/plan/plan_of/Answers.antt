use Rattle.std.proofs.Common.{◌≡◌, ℕ, true, List, [], sym, subst, ◌∙◌, true≢false}
use Rattle.std.proofs.lemmas.Result.{IfOk-from_err}
use Rattle.sr_policy.specs.declared.live.Live.{Live}
use Rattle.sr_policy.specs.{AreInOrder}
use Rattle.sr_policy.specs.Snapshot.{ComesBefore}
use Rattle.sr_resp.proofs.DecodingLemmas.{empty-true, true-empty}
use Rattle.sr_check.specs.steps.Read.{Begins, gone_ids}
use Rattle.sr_check.proofs.BeginsLemmas.{Begins-one}
use Rattle.sr_check.proofs.PlanLemmas.{plan-moves, plan-shares, plan-gone, moves-as, shares-as, gone-as}
use Rattle.sr_check.proofs.plan.plan_of.Goals as goal

pub returns-in-Err-clause-none : goal.returns-in-Err-clause-none
returns-in-Err-clause-none c = λ assign prices total plan.
    let shown = c.args.snapshot.now in
    let bytes = c.args.bytes.now in
    let moves = c.in-Some.moves.now in
    let n = c.in-Some.total in
    let none = rw c.in-Err.is at c.in_ok-read.ensures.none in
    let there = plan-moves shown bytes moves assign prices n total c.in-Some.ensures.found plan in
    none assign plan.prices_at (moves-as shown.live c.live.result.now shown.stranded c.stranded.result.now moves assign
    plan.prices_at c.live.ensures c.stranded.ensures there.1)

pub returns-in-Err-2-clause-none : goal.returns-in-Err-2-clause-none
returns-in-Err-2-clause-none c = λ assign prices total plan.
    let shown = c.args.snapshot.now in
    let bytes = c.args.bytes.now in
    let moves = c.in-Some.moves.now in
    let n = c.in-Some.total in
    let shares = c.in-Ok.read.1.now in
    let read = c.in-Ok.read.0.items in
    let found = rw c.in-Ok.is at c.in_ok-read.ensures.found in
    let has = moves-as c.live.result.now shown.live c.stranded.result.now shown.stranded moves read shares
    (sym c.live.ensures) (sym c.stranded.ensures) found in
    let none = rw c.in-Err-2.is at c.in_ok-read-2.ensures.none in
    let there = plan-shares shown c.sound.ensures.names.live bytes moves shares read assign prices n total
    c.in-Some.ensures.found has plan in
    none prices plan.gone_at
    (shares-as shown.live c.live-2.result.now shares prices plan.gone_at c.live-2.ensures there.1)

pub returns-in_default-after_ids-clause-none : goal.returns-in_default-after_ids-clause-none
returns-in_default-after_ids-clause-none c = λ assign prices total plan.
    let shown = c.args.snapshot.now in
    let bytes = c.args.bytes.now in
    let moves = c.in-Some.moves.now in
    let n = c.in-Some.total in
    let shares = c.in-Ok.read.1.now in
    let read = c.in-Ok.read.0.items in
    let found = rw c.in-Ok.is at c.in_ok-read.ensures.found in
    let has = moves-as c.live.result.now shown.live c.stranded.result.now shown.stranded moves read shares
    (sym c.live.ensures) (sym c.stranded.ensures) found in
    let gone = c.in-Ok-2.read.1.now in
    let costs = c.in-Ok-2.read.0.items in
    let priced = rw c.in-Ok-2.is at c.in_ok-read-2.ensures.found in
    let likewise = shares-as c.live-2.result.now shown.live shares costs gone (sym c.live-2.ensures) priced in
    let there = plan-gone shown c.sound.ensures.names.live bytes moves shares gone read costs assign prices n total
    c.in-Some.ensures.found has likewise plan in
    let last = gone-as shown.gone c.gone.result.now gone [] c.gone.ensures there.1 in
    c.in_default-after_ids.ensures.none [] last

pub returns-then-not-is_empty-clause-none : goal.returns-then-not-is_empty-clause-none
returns-then-not-is_empty-clause-none c = λ assign prices total plan.
    let shown = c.args.snapshot.now in
    let bytes = c.args.bytes.now in
    let moves = c.in-Some.moves.now in
    let n = c.in-Some.total in
    let shares = c.in-Ok.read.1.now in
    let read = c.in-Ok.read.0.items in
    let found = rw c.in-Ok.is at c.in_ok-read.ensures.found in
    let has = moves-as c.live.result.now shown.live c.stranded.result.now shown.stranded moves read shares
    (sym c.live.ensures) (sym c.stranded.ensures) found in
    let gone = c.in-Ok-2.read.1.now in
    let costs = c.in-Ok-2.read.0.items in
    let priced = rw c.in-Ok-2.is at c.in_ok-read-2.ensures.found in
    let likewise = shares-as c.live-2.result.now shown.live shares costs gone (sym c.live-2.ensures) priced in
    let there = plan-gone shown c.sound.ensures.names.live bytes moves shares gone read costs assign prices n total
    c.in-Some.ensures.found has likewise plan in
    let last = gone-as shown.gone c.gone.result.now gone [] c.gone.ensures there.1 in
    let left = c.in-Some-after_ids.left.now in
    let ended : left ≡ [] =
    Begins-one gone left [] (gone_ids c.gone.result.now) c.in-Some-after_ids.ensures.found last in
    let yes : c.is_empty.result ≡ true = true-empty left c.is_empty.result c.is_empty.ensures ended in
    true≢false (sym yes ∙ c.if-not-is_empty.true)

pub moves_of-requires : goal.moves_of-requires
moves_of-requires c =
    subst (λ (live : List Live). AreInOrder (λ a b. ComesBefore a.name b.name) live)
    (sym c.live.ensures) c.sound.ensures.names.live

pub returns-in_default-clause-found : goal.returns-in_default-clause-found
returns-in_default-clause-found c = tt

pub returns-in_default-clause-none : goal.returns-in_default-clause-none
returns-in_default-clause-none c = λ assign prices total plan. c.in_default.ensures.none total plan.moves_at plan.cost

pub returns-in_err-read-clause-found : goal.returns-in_err-read-clause-found
returns-in_err-read-clause-found c = IfOk-from_err _ _ c.from_residual.ensures.0

pub returns-in_err-read-clause-none : goal.returns-in_err-read-clause-none
returns-in_err-read-clause-none c = IfOk-from_err _ _ c.from_residual.ensures.0

pub returns-in-Err-clause-found : goal.returns-in-Err-clause-found
returns-in-Err-clause-found c = tt

pub returns-in_err-read-2-clause-found : goal.returns-in_err-read-2-clause-found
returns-in_err-read-2-clause-found c = IfOk-from_err _ _ c.from_residual-in_err-read-2.ensures.0

pub returns-in_err-read-2-clause-none : goal.returns-in_err-read-2-clause-none
returns-in_err-read-2-clause-none c = IfOk-from_err _ _ c.from_residual-in_err-read-2.ensures.0

pub returns-in-Err-2-clause-found : goal.returns-in-Err-2-clause-found
returns-in-Err-2-clause-found c = tt

pub returns-in_default-after_ids-clause-found : goal.returns-in_default-after_ids-clause-found
returns-in_default-after_ids-clause-found c = tt

pub returns-then-not-is_empty-clause-found : goal.returns-then-not-is_empty-clause-found
returns-then-not-is_empty-clause-found c = tt

pub returns-clause-found : goal.returns-clause-found
returns-clause-found c =
    let shown = c.args.snapshot.now in
    let shares = c.in-Ok.read.1.now in
    let gone = c.in-Ok-2.read.1.now in
    let left = c.in-Some-after_ids.left.now in
    let ended : left ≡ [] = empty-true left c.is_empty.result c.is_empty.ensures c.if-not-is_empty.false in
    let begins =
    gone-as c.gone.result.now shown.gone gone left (sym c.gone.ensures) c.in-Some-after_ids.ensures.found in
    record {
      moves_at = c.in-Some.moves.now;
      prices_at = shares;
      gone_at = gone;
      cost = c.in-Some.ensures.found;
      moves = moves-as c.live.result.now shown.live c.stranded.result.now shown.stranded c.in-Some.moves.now
          c.in-Ok.read.0.items shares (sym c.live.ensures) (sym c.stranded.ensures)
          (rw c.in-Ok.is at c.in_ok-read.ensures.found);
      shares = shares-as c.live-2.result.now shown.live shares c.in-Ok-2.read.0.items gone (sym c.live-2.ensures)
          (rw c.in-Ok-2.is at c.in_ok-read-2.ensures.found);
      gone = subst (λ (after : List ℕ). Begins gone (gone_ids shown.gone) after) ended begins;
    }

pub returns-clause-none : goal.returns-clause-none
returns-clause-none c = tt
