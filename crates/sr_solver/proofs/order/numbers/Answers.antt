use Rattle.std.proofs.Common.{◌≡◌, ℕ, suc, ◌+◌, List, [], ◌∷◌, ◌++◌, ap, ◌∙◌, arith}
use Rattle.std.proofs.lemmas.Result.{IfOk-from_err}
use Rattle.sr_solver.specs.Order.{numbers_below}
use Rattle.sr_solver.proofs.order.numbers.Goals as goal

one_more : (n : ℕ) → numbers_below n ++ n ∷ [] ≡ numbers_below (n + 1)
one_more n = ap (λ (m : ℕ). numbers_below m) (let e : suc n ≡ n + 1 = omega arith in e)

pub loop-number-init : goal.loop-number-init
loop-number-init c = c.new-numbers.ensures.items

pub loop-number-preserved : goal.loop-number-preserved
loop-number-preserved c =
    let n = c.loop-number.number in
    c.in_ok-push.ensures.items ∙ ap (λ (l : List ℕ). l ++ n ∷ []) c.loop-number.invariant ∙ one_more n

pub returns : goal.returns
returns c =
    let all : c.loop-number.number ≡ c.args.n =
    omega (arith, c.loop-number-test.false, c.loop-number.auto.number-end) in
    c.loop-number.invariant ∙ ap (λ (m : ℕ). numbers_below m) all

pub returns-in_err-push : goal.returns-in_err-push
returns-in_err-push c = IfOk-from_err _ _ c.from_residual.ensures.0
