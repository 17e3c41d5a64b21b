-- Labels: how many are open, and what stays of a way.
use Rattle.std.proofs.Common.{◌≡◌, ℕ, suc, ◌+◌, ◌<◌, ◌≤◌, Bool, true, false, not, cond, List, [], ◌∷◌, length}
use Rattle.std.proofs.Common.{get_or, refl, ap, ◌∙◌, inl, inr, arith}
use Rattle.std.proofs.Math.ListN.{set}
use Rattle.std.proofs.lemmas.List.Sums.{sum_by-set, sum_by-cons, count_by-le-length}
use Rattle.sr_transport.specs.{Transport}
use Rattle.sr_solver.specs.declared.label.Label.{Label}
use Rattle.std.specs.Prelude.{nat_lt}
use Rattle.std.proofs.lemmas.Bool.Decides.{nat_tests}
use Rattle.sr_solver.specs.Limits.{far}
use Rattle.sr_solver.specs.Labels.{no_label, label_at, open_count, guess_count}
use Rattle.sr_solver.specs.Search.{IsWay}

-- labels that are closed at the same places are open as often
pub open_count_same : (xs ys : List Label) → length xs ≡ length ys
    → ((c : ℕ) → c < length xs → (label_at xs c).closed ≡ (label_at ys c).closed) → open_count xs ≡ open_count ys
open_count_same [] [] e same = refl
open_count_same [] (y ∷ ys) e same = absurd (omega arith)
open_count_same (x ∷ xs) [] e same = absurd (omega arith)
open_count_same (x ∷ xs) (y ∷ ys) e same =
    let one : Label → ℕ = λ l. cond (not l.closed) 1 0 in
    let first : one x ≡ one y = ap (λ b. cond (not b) 1 0) (same 0 (omega arith)) in
    let rest : open_count xs ≡ open_count ys =
    open_count_same xs ys (omega arith) (λ c lt. same (suc c) (omega arith)) in
    omega (arith, sum_by-cons one x xs, sum_by-cons one y ys, first, rest)

-- one open label more or less
pub open_count-set_closed : (labels : List Label) (t : ℕ) (label : Label) → t < length labels
    → (label_at labels t).closed ≡ false → label.closed ≡ true → open_count (set labels t label) + 1 ≡ open_count labels
open_count-set_closed labels t label lt was_open closed =
    let one : Label → ℕ = λ l. cond (not l.closed) 1 0 in
    let test : Bool → ℕ = λ b. cond (not b) 1 0 in
    let before : one (label_at labels t) ≡ 1 = ap test was_open in
    let after : one label ≡ 0 = ap test closed in
    omega (arith, sum_by-set one labels t label no_label lt, before, after)

pub open_count-le : (labels : List Label) → open_count labels ≤ length labels
open_count-le labels = count_by-le-length (λ l. not l.closed) labels

-- a guess that counts, and none
below_far : (g : ℕ) → g < far → nat_lt g far ≡ true
below_far g lt = grind (arith, nat_tests)

at_far : (g : ℕ) → g ≡ far → nat_lt g far ≡ false
at_far g e = grind (arith, nat_tests)

-- labels with the same guesses have as many
pub guess_count_same : (xs ys : List Label) → length xs ≡ length ys
    → ((c : ℕ) → c < length xs → (label_at xs c).guess ≡ (label_at ys c).guess) → guess_count xs ≡ guess_count ys
guess_count_same [] [] e same = refl
guess_count_same [] (y ∷ ys) e same = absurd (omega arith)
guess_count_same (x ∷ xs) [] e same = absurd (omega arith)
guess_count_same (x ∷ xs) (y ∷ ys) e same =
    let one : Label → ℕ = λ l. cond (nat_lt l.guess far) 1 0 in
    let first : one x ≡ one y = ap (λ g. cond (nat_lt g far) 1 0) (same 0 (omega arith)) in
    let rest : guess_count xs ≡ guess_count ys =
    guess_count_same xs ys (omega arith) (λ c lt. same (suc c) (omega arith)) in
    omega (arith, sum_by-cons one x xs, sum_by-cons one y ys, first, rest)

-- one guess less
pub guess_count-set_far : (labels : List Label) (t : ℕ) (label : Label) → t < length labels
    → (label_at labels t).guess < far → label.guess ≡ far → guess_count (set labels t label) + 1 ≡ guess_count labels
guess_count-set_far labels t label lt was none =
    let one : Label → ℕ = λ l. cond (nat_lt l.guess far) 1 0 in
    let test : Bool → ℕ = λ b. cond b 1 0 in
    let before : one (label_at labels t) ≡ 1 = ap test (below_far (label_at labels t).guess was) in
    let after : one label ≡ 0 = ap test (at_far label.guess none) in
    omega (arith, sum_by-set one labels t label no_label lt, before, after)

pub guess_count-le : (labels : List Label) → guess_count labels ≤ length labels
guess_count-le labels = count_by-le-length (λ l. nat_lt l.guess far) labels

-- what two lists of labels share at one consumer
pub record IsSameWay (old new : Label) : Type 0 where
  pub hops : new.hops ≡ old.hops
  pub dist : new.dist ≡ old.dist
  pub mover : new.mover ≡ old.mover

-- a way stays where its consumer's label and the closed labels stay
pub way_kept : (p : Transport) (k : ℕ) (xs prices : List ℕ) (old new : List Label) (c : ℕ)
    → IsSameWay (label_at old c) (label_at new c)
    → ((x : ℕ) → (label_at old x).closed ≡ true
    → IsSameWay (label_at old x) (label_at new x) × ((label_at new x).closed ≡ true))
    → IsWay p k xs prices old c → IsWay p k xs prices new c
way_kept p k xs prices old new c same closed way =
    record {
      allowed = rw same.mover way.allowed;
      step = elim way.step [
        | inl first ↦ inl (
            record { mover = same.mover ∙ first.mover; hops = same.hops ∙ first.hops; dist = same.dist ∙ first.dist }
            )
        | inr next ↦
            let from = closed (get_or xs (label_at old c).mover 0) next.closed in
            inr (
            rw same.mover (
            record {
              earlier = rw same.mover next.earlier;
              closed = from.1;
              hops = omega (arith, same.hops, next.hops, from.0.hops);
              dist = rw same.mover (omega (arith, same.dist, next.dist, from.0.dist));
            }
            )
            )
      ];
    }

pub same_way : (old new : Label) → new ≡ old → IsSameWay old new
same_way old new e = record { hops = ap (λ l. l.hops) e; dist = ap (λ l. l.dist) e; mover = ap (λ l. l.mover) e }
