use Rattle.std.proofs.Common.{rules, ◌≡◌, ℕ, ◌<◌, ◌≤◌, true, false, List, [], ◌∷◌, length, drop, nat_lt, refl, ap, sym, ◌∙◌, arith, length-drop}
use Rattle.std.proofs.lemmas.Bool.Decides.{nat_tests}
use Rattle.std.proofs.lemmas.List.{drop_all}
use Rattle.sr_bytes.specs.{comes_before}
use Rattle.sr_policy.proofs.order.are_before.Goals as goal

-- nothing comes before no bytes
before-none : (xs : List ℕ) → comes_before xs [] ≡ false
before-none [] = refl
before-none (x ∷ xs) = refl

below : (a b : ℕ) → a < b → nat_lt a b ≡ true
below a b lt = grind (arith, nat_tests)

not_below : (a b : ℕ) → b ≤ a → nat_lt a b ≡ false
not_below a b le = grind (arith, nat_tests)

-- no bytes come before what is left of some, if anything is
none-before : (n : ℕ) (ys left : List ℕ) → drop n ys ≡ left → nat_lt n (length ys) ≡ comes_before [] left
none-before n ys [] is =
    let past : length ys ≤ n = omega (arith, length-drop n ys, ap (λ (l : List ℕ). length l) is) in
    not_below n (length ys) past
none-before n ys (x ∷ xs) is =
    let within : n < length ys = omega (arith, length-drop n ys, ap (λ (l : List ℕ). length l) is) in
    below n (length ys) within

pub returns-in_default : goal.returns-in_default
returns-in_default c =
    let bytes = c.args.bytes.now in
    let others = c.args.others.now in
    let place = c.loop-place.place in
    let past : length others ≤ place = search rules in
    sym (before-none (drop place bytes))
    ∙ ap (λ (l : List ℕ). comes_before (drop place bytes) l) (sym (drop_all place others past))
    ∙ c.loop-place.invariant

pub returns : goal.returns
returns c =
    let bytes = c.args.bytes.now in
    let others = c.args.others.now in
    let place = c.loop-place.place in
    let end : place ≡ length bytes = omega (arith, c.loop-place.auto.place-end, c.loop-place-test.false) in
    ap (λ (n : ℕ). nat_lt n (length others)) (sym end)
    ∙ none-before place others (drop place others) refl
    ∙ ap (λ (l : List ℕ). comes_before l (drop place others)) (sym (drop_all place bytes c.loop-place-test.false))
    ∙ c.loop-place.invariant
