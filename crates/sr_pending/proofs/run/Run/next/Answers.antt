use Rattle.std.proofs.Common.{◌≡◌, List, [], ◌∷◌, ◌++◌, length, Option, Some, None, Bor, IfSome, IfNone, ap, sym, ◌∙◌, arith}
use Rattle.std.proofs.lemmas.List.{nil_from_length}
use Rattle.std.specs.Option.{MatchOption}
use Rattle.std.specs.VecDeque.Iter.{deque_iter_rest}
use Rattle.std.specs.declared.collections.VecDeque.{VecDeque}
use Rattle.sr_pending.specs.steps.Blocks.{held_in}
use Rattle.sr_pending.proofs.run.Run.next.Goals as goal

-- where nothing is left but the last block: all is what was left of it
module _ {T Z : Type 0} (Same : Type 0) (r : Option (Bor T)) (all was is first : List T) (middle : List (VecDeque T Z)) (step : MatchOption r ((length was ≡ 0) × Same) (λ x. was ≡ x.now ∷ is)) where
  last-some : all ≡ was → first ≡ [] → middle ≡ [] → IfSome r (λ x. all ≡ x.now ∷ (first ++ held_in middle ++ is))
  last-some all_is no_first no_middle = by r step
    where
      by : (o : Option (Bor T)) → MatchOption o ((length was ≡ 0) × Same) (λ x. was ≡ x.now ∷ is) → IfSome o (λ x. all ≡ x.now ∷ (first ++ held_in middle ++ is))
      by None _ = tt
      by (Some x) next =
          all_is
          ∙ next
          ∙ ap (λ (l : List (VecDeque T Z)). x.now ∷ (held_in l ++ is)) (sym no_middle)
          ∙ ap (λ (l : List T). x.now ∷ (l ++ held_in middle ++ is)) (sym no_first)

  last-none : all ≡ was → IfNone r (all ≡ [])
  last-none all_is = by r step
    where
      by : (o : Option (Bor T)) → MatchOption o ((length was ≡ 0) × Same) (λ x. was ≡ x.now ∷ is) → IfNone o (all ≡ [])
      by None end = all_is ∙ nil_from_length was end.0
      by (Some _) _ = tt

  last-ended : (Same → is ≡ was) → first ≡ [] → middle ≡ [] → IfNone r (first ++ held_in middle ++ is ≡ [])
  last-ended same no_first no_middle = by r step
    where
      by : (o : Option (Bor T)) → MatchOption o ((length was ≡ 0) × Same) (λ x. was ≡ x.now ∷ is) → IfNone o (first ++ held_in middle ++ is ≡ [])
      by None end =
          ap (λ (l : List T). l ++ held_in middle ++ is) no_first
          ∙ ap (λ (l : List (VecDeque T Z)). held_in l ++ is) no_middle
          ∙ same end.1
          ∙ nil_from_length was end.0
      by (Some _) _ = tt

no_first : (g : _) (c : goal.After-next-in-None g) → deque_iter_rest c.next.new.self ≡ []
no_first g c = ap deque_iter_rest c.in_default.ensures.steps.1 ∙ nil_from_length _ c.in_default.ensures.steps.0

no_middle : (g : _) (c : goal.After-next-in-None g) → deque_iter_rest c.next-in-loop-value.new.self ≡ []
no_middle g c = ap deque_iter_rest c.in-None.ensures.steps.1 ∙ nil_from_length _ c.in-None.ensures.steps.0

all_last : (g : _) (c : goal.After-next-in-None g) → c.args.self.now ≡ deque_iter_rest c.loop-value.self-inside.last
all_last g c =
    let r = c.loop-value.self-inside in
    c.loop-value.invariant
    ∙ ap (λ (l : List g.row.T.Denot). l ++ held_in (deque_iter_rest r.middle) ++ deque_iter_rest r.last) (nil_from_length _ c.in_default.ensures.steps.0)
    ∙ ap (λ l. held_in l ++ deque_iter_rest r.last) (nil_from_length _ c.in-None.ensures.steps.0)

pub loop-value-init : goal.loop-value-init
loop-value-init g c = sym c.self.view_is

pub loop-value-smaller : goal.loop-value-smaller
loop-value-smaller g c = omega (arith, ap (λ l. length l) c.in-Some-next.ensures.steps)

pub loop-value-preserved : goal.loop-value-preserved
loop-value-preserved g c =
    let r = c.loop-value.self-inside in
    let middle = deque_iter_rest c.next-in-loop-value.new.self in
    c.loop-value.invariant
    ∙ ap (λ (l : List g.row.T.Denot). l ++ held_in (deque_iter_rest r.middle) ++ deque_iter_rest r.last) (nil_from_length _ c.in_default.ensures.steps.0)
    ∙ ap (λ l. held_in l ++ deque_iter_rest r.last) c.in-Some-next.ensures.steps
    ∙ ap (λ (l : List g.row.T.Denot). l ++ held_in middle ++ deque_iter_rest r.last) (sym c.iter-self-inside.ensures.rest)

pub returns-in-Some-clause-some : goal.returns-in-Some-clause-some
returns-in-Some-clause-some g c =
    let r = c.loop-value.self-inside in
    c.loop-value.invariant
    ∙ ap (λ (l : List g.row.T.Denot). l ++ held_in (deque_iter_rest r.middle) ++ deque_iter_rest r.last) c.in-Some.ensures.steps

pub returns-in-None-clause-some : goal.returns-in-None-clause-some
returns-in-None-clause-some g c =
    last-some _ c.next-in-None.result c.args.self.now _ _ (deque_iter_rest c.next.new.self) (deque_iter_rest c.next-in-loop-value.new.self) c.next-in-None.ensures.steps (all_last g c) (no_first g c) (no_middle g c)

pub returns-in-None-clause-none : goal.returns-in-None-clause-none
returns-in-None-clause-none g c =
    last-none _ c.next-in-None.result c.args.self.now _ (deque_iter_rest c.next-in-None.new.self) (deque_iter_rest c.next.new.self) (deque_iter_rest c.next-in-loop-value.new.self) c.next-in-None.ensures.steps (all_last g c)

pub returns-in-None-clause-ended : goal.returns-in-None-clause-ended
returns-in-None-clause-ended g c =
    last-ended _ c.next-in-None.result c.args.self.now _ _ (deque_iter_rest c.next.new.self) (deque_iter_rest c.next-in-loop-value.new.self) c.next-in-None.ensures.steps (λ same. ap deque_iter_rest same) (no_first g c) (no_middle g c)
