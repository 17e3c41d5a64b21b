-- What a plan gives each consumer: entries that are dealt to lists, and the lists that become batches.
use Rattle.std.proofs.Common.{◌≡◌, ℕ, suc, ◌+◌, ◌<◌, ◌≤◌, List, ◌∷◌, ◌++◌, length}
use Rattle.std.proofs.Common.{drop, get_or, ap, sym, subst, ◌∙◌, arith, append_assoc, append-nil}
use Rattle.std.specs.Global.{Vec}
use Rattle.std.proofs.lemmas.List.{drop_all, drop_more}
use Rattle.sr_ids.specs.declared.id.Id.{Id}
use Rattle.sr_policy.specs.declared.live.Live.{Live}
use Rattle.sr_plan.specs.Batches.{BatchState, batch_of, batches_from, ids_for}
use Rattle.sr_plan.specs.steps.Dealing.{AreDealt, AreLeft}

-- ---- lists that become batches

-- at first all lists are left
pub AreLeft-all : (ids : List Id) (assign : List ℕ) (consumers : ℕ) (dealt lists : List (Vec Id)) → lists ≡ dealt
    → AreDealt ids assign consumers dealt → AreLeft ids assign 0 consumers lists
AreLeft-all ids assign consumers dealt lists same are = rw same (record {
  count = omega (arith, are.count);
  each = λ k d within.
      let place : 0 + k ≡ k = omega arith in
      are.each k d (rw (sym are.count) within) ∙ sym (ap (ids_for ids assign) place);
})

module _ (ids : List Id) (assign : List ℕ) (c : ℕ) (consumers : ℕ) (list : Vec Id) (lists all : List (Vec Id))
    (is : all ≡ list ∷ lists) (left : AreLeft ids assign c consumers all) where
  -- there is a consumer for the first of them
  pub left-within : c < consumers
  left-within =
      let count : length all ≡ suc (length lists) = ap (λ (l : List (Vec Id)). length l) is in
      omega (arith, count, left.count)

  -- this list is its
  pub left-first : list.items ≡ ids_for ids assign c
  left-first =
      let one : AreLeft ids assign c consumers (list ∷ lists) = subst (AreLeft ids assign c consumers) is left in
      let here : c + 0 ≡ c = omega arith in
      let some : 0 < length (list ∷ lists) = omega arith in
      one.each 0 list some ∙ ap (ids_for ids assign) here

  -- the others are those of the later ones
  pub left-others : AreLeft ids assign (c + 1) consumers lists
  left-others =
      let one : AreLeft ids assign c consumers (list ∷ lists) = subst (AreLeft ids assign c consumers) is left in
      record {
        count = omega (arith, one.count);
        each = λ k d within.
            let further : suc k < length (list ∷ lists) = omega (arith, within) in
            let place : c + suc k ≡ c + 1 + k = omega arith in
            one.each (suc k) d further ∙ ap (ids_for ids assign) place;
      }

-- the batch of the next consumer is added
pub batches-more : (ids : List Id) (assign : List ℕ) (c : ℕ) (live : List Live) (d : Live) (theirs : List Id)
    (old new all : List BatchState)
    → c < length live → theirs ≡ ids_for ids assign c
    → old ++ batches_from ids assign c (drop c live) ≡ all
    → new ≡ old ++ batch_of (get_or live c d).name theirs
    → new ++ batches_from ids assign (c + 1) (drop (c + 1) live) ≡ all
batches-more ids assign c live d theirs old new all within are before added =
    let left : List BatchState = batches_from ids assign (c + 1) (drop (c + 1) live) in
    let batch : List Id → List BatchState = batch_of (get_or live c d).name in
    let split : batches_from ids assign c (drop c live) ≡ batch theirs ++ left =
    ap (batches_from ids assign c) (drop_more live c d within)
    ∙ ap (λ (these : List Id). batch these ++ left) (sym are) in
    ap (λ (l : List BatchState). l ++ left) added ∙ append_assoc old (batch theirs) left
    ∙ ap (λ (l : List BatchState). old ++ l) (sym split) ∙ before

-- past the last consumer, they are all there
pub batches-all : (ids : List Id) (assign : List ℕ) (c : ℕ) (live : List Live) (batches all : List BatchState)
    → length live ≤ c → batches ++ batches_from ids assign c (drop c live) ≡ all → batches ≡ all
batches-all ids assign c live batches all past whole =
    sym (append-nil batches)
    ∙ ap (λ (rest : List Live). batches ++ batches_from ids assign c rest) (sym (drop_all c live past)) ∙ whole
