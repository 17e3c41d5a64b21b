-- A move of the entries along a path.
use Rattle.std.proofs.Common.{◌≡◌, ℕ, ◌+◌, ◌<◌, ◌≤◌, ◌==◌, ◌⊎◌, Bool, false, cond, List, length, get_or, refl, ap, ◌∙◌}
use Rattle.std.proofs.Common.{inl, inr, arith, eq-eqb}
use Rattle.std.proofs.Math.ListN.{set, length-set}
use Rattle.std.proofs.lemmas.Bool.{cases_eq, ne_eqb}
use Rattle.std.proofs.lemmas.List.{get_or-set_same, get_or-set_other}
use Rattle.std.proofs.lemmas.List.Sums.{sum_by-set}
use Rattle.sr_transport.specs.plain.Assignment.{load}
use Rattle.sr_solver.specs.declared.label.Label.{Label}
use Rattle.sr_solver.specs.Labels.{label_at}
use Rattle.sr_solver.specs.Path.{IsStep, ArePaths, IsMoved, IsShifting, AreShifted}

-- one at consumer a, none elsewhere
abbrev pub one_at : ℕ → ℕ → ℕ
one_at a c = cond (a == c) 1 0

pub one_at_same : (a c : ℕ) → a ≡ c → one_at a c ≡ 1
one_at_same a c e = let one : Bool → ℕ = λ b. cond b 1 0 in ap one (eq-eqb a c e)

pub one_at_other : (a c : ℕ) → (a ≡ c → ⊥) → one_at a c ≡ 0
one_at_other a c ne = let one : Bool → ℕ = λ b. cond b 1 0 in ap one (ne_eqb a c ne)

-- the loads after one entry moves
pub load-set : (xs : List ℕ) (i y c : ℕ) → i < length xs
    → load (set xs i y) c + cond (get_or xs i 0 == c) 1 0 ≡ load xs c + cond (y == c) 1 0
load-set xs i y c lt = sum_by-set (λ x. cond (x == c) 1 0) xs i y 0 lt

-- the entry that moves to `place` has not moved
mover_still : (labels : List Label) (k end : ℕ) (old new : List ℕ) (place : ℕ)
    → ArePaths labels k old → IsShifting labels k end old new place
    → get_or new (label_at labels place).mover 0 ≡ get_or old (label_at labels place).mover 0
mover_still labels k end old new place paths shifting =
    let step = paths.step place shifting.consumer shifting.reached in
    shifting.still (label_at labels place).mover (omega (arith, step.fewer))

-- what moved after one more move
moved_more : (labels : List Label) (k end : ℕ) (old new : List ℕ) (place i j : ℕ)
    → i ≡ (label_at labels place).mover → i < length new → IsShifting labels k end old new place
    → (get_or (set new i place) j 0 ≡ get_or old j 0) ⊎ IsMoved labels end j (get_or (set new i place) j 0)
moved_more labels k end old new place i j mover lt shifting =
    elim (cases_eq j i) [
      | inl same ↦
          let at : get_or (set new i place) j 0 ≡ place = rw same (get_or-set_same new i place 0 lt) in
          inr (
          record {
            consumer = omega (arith, shifting.consumer, at);
            reached = rw at shifting.reached;
            mover = rw at (cc);
            passed = rw at shifting.passed;
          }
          )
      | inr other ↦
          let at : get_or (set new i place) j 0 ≡ get_or new j 0 = get_or-set_other new i j place 0 other in
          rw at (shifting.moved j)
    ]

-- the entries that stand where still fewer entries move have not moved
still_more : (labels : List Label) (k end : ℕ) (old new : List ℕ) (place i from : ℕ)
    → (label_at labels place).hops ≡ (label_at labels (get_or old i 0)).hops + 1
    → from ≡ get_or old i 0 → IsShifting labels k end old new place
    → (j : ℕ) → (label_at labels (get_or old j 0)).hops < (label_at labels from).hops
    → get_or (set new i place) j 0 ≡ get_or old j 0
still_more labels k end old new place i from fewer is_from shifting j below =
    let here : (label_at labels from).hops ≡ (label_at labels (get_or old i 0)).hops =
    ap (λ x. (label_at labels x).hops) is_from in
    elim (cases_eq j i) [
      | inl same ↦
          let there : (label_at labels (get_or old j 0)).hops ≡ (label_at labels (get_or old i 0)).hops =
          ap (λ x. (label_at labels (get_or old x 0)).hops) same in
          absurd (omega arith)
      | inr other ↦
          get_or-set_other new i j place 0 other ∙ shifting.still j (omega arith)
    ]

-- one more move, of an entry that is not the new one
pub shifting_more : (labels : List Label) (k end : ℕ) (old new : List ℕ) (place : ℕ)
    → ArePaths labels k old → IsShifting labels k end old new place
    → ((label_at labels place).mover ≡ k → ⊥)
    → IsShifting labels k end old (set new (label_at labels place).mover place)
    (get_or new (label_at labels place).mover 0)
shifting_more labels k end old new place paths shifting not_new =
    let mover : ℕ = (label_at labels place).mover in
    let step : IsStep labels k place (get_or old mover 0) = paths.step place shifting.consumer shifting.reached in
    let short : mover < length old = paths.entry place shifting.consumer shifting.reached in
    let lt : mover < length new = omega (arith, short, shifting.every) in
    let still : get_or new mover 0 ≡ get_or old mover 0 = mover_still labels k end old new place paths shifting in
    elim step.from [
      | inl at_new ↦ absurd (not_new at_new.0)
      | inr from ↦ record {
        every = length-set new mover place ∙ shifting.every;
        consumer = rw still from.0;
        reached = rw still from.2;
        passed = inl (rw still from.1);
        loads = λ c in_range. omega (arith, load-set new mover place c lt, shifting.loads c in_range);
        moved = λ i. moved_more labels k end old new place mover i refl lt shifting;
        still = still_more labels k end old new place mover (get_or new mover 0) step.fewer still shifting;
      }
    ]

-- the last move, of the new entry
pub shifted_last : (labels : List Label) (k end : ℕ) (old new : List ℕ) (place : ℕ)
    → ArePaths labels k old → IsShifting labels k end old new place
    → (label_at labels place).mover ≡ k
    → AreShifted labels k end old (set new (label_at labels place).mover place)
shifted_last labels k end old new place paths shifting is_new =
    let mover : ℕ = (label_at labels place).mover in
    let short : mover < length old = paths.entry place shifting.consumer shifting.reached in
    let lt : mover < length new = omega (arith, short, shifting.every) in
    let still : get_or new mover 0 ≡ get_or old mover 0 = mover_still labels k end old new place paths shifting in
    let nowhere : get_or new mover 0 ≡ length labels = still ∙ ap (λ i. get_or old i 0) is_new ∙ paths.new in
    let at : get_or (set new mover place) k 0 ≡ place = rw (← is_new) (get_or-set_same new mover place 0 lt) in
    record {
      every = length-set new mover place ∙ shifting.every;
      loads = λ c in_range.
          let one : Bool → ℕ = λ b. cond b 1 0 in
          let other : one (get_or new mover 0 == c) ≡ one false =
          ap one (ne_eqb (get_or new mover 0) c (λ e. omega (arith, nowhere, e, in_range))) in
          omega (arith, load-set new mover place c lt, shifting.loads c in_range, other);
      moved = λ i. moved_more labels k end old new place mover i refl lt shifting;
      first = omega (arith, at, shifting.consumer);
    }

-- before the first move
pub shifting_none : (labels : List Label) (k end : ℕ) (old : List ℕ) → end < length labels
    → 0 < (label_at labels end).hops
    → IsShifting labels k end old old end
shifting_none labels k end old lt reached = record {
  every = refl;
  consumer = lt;
  reached = reached;
  passed = inr refl;
  loads = λ c in_range. refl;
  moved = λ i. inl refl;
  still = λ i below. refl;
}

-- fewer entries move along the path to where the mover stands
pub mover_falls : (labels : List Label) (k end : ℕ) (old new : List ℕ) (place : ℕ)
    → ArePaths labels k old → IsShifting labels k end old new place
    → (label_at labels (get_or new (label_at labels place).mover 0)).hops < (label_at labels place).hops
mover_falls labels k end old new place paths shifting =
    let step = paths.step place shifting.consumer shifting.reached in
    let still = mover_still labels k end old new place paths shifting in
    let here = ap (λ x. (label_at labels x).hops) still in
    omega (arith, step.fewer, here)

-- the next consumer of the path has room for the entry that moves there
pub put_in_room : (labels : List Label) (k end : ℕ) (old new : List ℕ) (place room : ℕ)
    → ArePaths labels k old → IsShifting labels k end old new place
    → load old place + cond (end == place) 1 0 ≤ room
    → load (set new (label_at labels place).mover place) place ≤ room
put_in_room labels k end old new place room paths shifting fits =
    let mover : ℕ = (label_at labels place).mover in
    let lt : mover < length new = omega (arith, paths.entry place shifting.consumer shifting.reached, shifting.every) in
    omega (arith, load-set new mover place place lt, shifting.loads place shifting.consumer, fits)
