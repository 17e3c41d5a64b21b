-- The own entries of consumers that are named once each, sorted by id, are what is pending for them.
use Rattle.std.proofs.Common.{◌≡◌, ℕ, zero, suc, ◌+◌, ◌<◌, ◌≤◌, Bool, true, false, cond, not, ◌&&◌, ◌||◌, ◌==◌, nat_lt, List, [], ◌∷◌, ◌++◌, filter, length, get_or, map, Some, inl, inr, refl, ap, sym, subst, ◌∙◌, arith}
use Rattle.std.specs.List.{count_by, flat_map}
use Rattle.std.specs.List.Sorted.{IsPermutation, IsSortedBy}
use Rattle.std.specs.Ordering.{is_lt, nat_cmp, ordering_then}
use Rattle.std.specs.declared.cmp.Ordering.TheVariants.{Less, Equal, Greater}
use Rattle.std.proofs.lemmas.Cmp.{nat_list_eq_equiv}
use Rattle.std.proofs.lemmas.List.{get_or-map, length-map}
use Rattle.std.proofs.lemmas.List.Sorted.{IsPermutation-append_right, IsPermutation-filter_both, IsPermutation-map, IsPermutation-refl, IsPermutation-sym, IsPermutation-trans, sum_by-IsPermutation}
use Rattle.std.proofs.lemmas.List.Sums.{length-filter, sum_by-cons}
use Rattle.sr_ids.specs.declared.id.Id.{Id}
use Rattle.sr_ids.specs.{IsBelow}
use Rattle.sr_ids.proofs.IdLemmas.{IsBelow-cases, IsBelow-one_way}
use Rattle.sr_entries.specs.declared.entry.Entry.{Entry}
use Rattle.sr_entries.specs.{entry_with, has_id}
use Rattle.sr_pending.specs.declared.nack.Nack.{Nack}
use Rattle.sr_ids.specs.{is_below, is_same_id}
use Rattle.sr_pending.specs.{AreRising, is_same_name, owned_by}
use Rattle.sr_pending.specs.Pending.{AreAbove}
use Rattle.sr_pending.proofs.NackLemmas.{IsBelow-trans, is_below-from, is_same_id-above, is_same_id-refl, is_same_id-true}
use Rattle.sr_group.proofs.NameLemmas.{is_same_name-refl, is_same_name-true}
use Rattle.sr_policy.specs.{Text, is_among}
use Rattle.sr_space.specs.Snap.{of_dead}
use Rattle.sr_space.specs.steps.Snapping.{gone_as, own_of}
use Rattle.sr_space.proofs.RisingLemmas.{AreAfter, Rises, Rises-filter, rising-in_order}
use Rattle.sr_space.proofs.NameOrderLemmas.{NamesRise, not_among-after}
use Rattle.sr_space.proofs.SortedLemmas.{Rises-permutation}

-- entries by rising id
abbrev pub NacksRise : List Nack → Type 0
NacksRise nacks = Rises IsBelow (λ (nack : Nack). nack.id) nacks

AreAfter-nacks : (id : Id) (nacks : List Nack) → AreAbove id nacks → AreAfter IsBelow (λ (nack : Nack). nack.id) id nacks
AreAfter-nacks id [] above = tt
AreAfter-nacks id (x ∷ xs) above = (above.0, AreAfter-nacks id xs above.1)

pub NacksRise-rising : (nacks : List Nack) → AreRising nacks → NacksRise nacks
NacksRise-rising [] rising = tt
NacksRise-rising (x ∷ xs) rising = (AreAfter-nacks x.id xs rising.0, NacksRise-rising xs rising.1)

-- how many have this id
abbrev with_id : Id → List Nack → ℕ
with_id id nacks = count_by (λ nack. is_same_id nack.id id) nacks

-- an entry with this id, or none, and then the others
with_id-cons : (id : Id) (x : Nack) (xs : List Nack) → with_id id (x ∷ xs) ≡ cond (is_same_id x.id id) 1 0 + with_id id xs
with_id-cons id x xs = sum_by-cons (λ (nack : Nack). cond (is_same_id nack.id id) 1 0) x xs

none_with_id : (id : Id) (xs : List Nack) → AreAfter IsBelow (λ (nack : Nack). nack.id) id xs → with_id id xs ≡ 0
none_with_id id [] after = refl
none_with_id id (x ∷ xs) after =
    let apart : is_same_id x.id id ≡ false = is_same_id-above x.id id after.0 in
    let rest : with_id id xs ≡ 0 = none_with_id id xs after.1 in
    rw (with_id-cons id x xs, apart) (omega (arith, rest))

-- in entries that rise an id is there at most once
once : (id : Id) (xs : List Nack) → NacksRise xs → with_id id xs ≤ 1
once id [] rises = omega arith
once id (x ∷ xs) rises = by (once id xs rises.1) (is_same_id x.id id) refl
  where
    by : with_id id xs ≤ 1 → (test : Bool) → is_same_id x.id id ≡ test → with_id id (x ∷ xs) ≤ 1
    by rest true same =
        let one : x.id ≡ id = is_same_id-true x.id id same in
        let none : with_id id xs ≡ 0 = none_with_id id xs (subst (λ (i : Id). AreAfter IsBelow (λ (nack : Nack). nack.id) i xs) one rises.0) in
        rw (with_id-cons id x xs, same, none) (omega arith)
    by rest false apart = rw (with_id-cons id x xs, apart) (omega (arith, rest))

-- two neighbours with one id are two with it
twice : (xs : List Nack) (k : ℕ) (d : Nack) → k + 1 < length xs → (get_or xs k d).id ≡ (get_or xs (k + 1) d).id → 2 ≤ with_id (get_or xs k d).id xs
twice [] k d within same = absurd (omega arith)
twice (x ∷ []) k d within same = absurd (omega arith)
twice (x ∷ y ∷ ys) zero d within same =
    let first : is_same_id x.id x.id ≡ true = is_same_id-refl x.id in
    let second : is_same_id y.id x.id ≡ true = subst (λ (id : Id). is_same_id id x.id ≡ true) same first in
    rw (with_id-cons x.id x (y ∷ ys), with_id-cons x.id y ys, first, second) (omega arith)
twice (x ∷ y ∷ ys) (suc k) d within same =
    let e : suc k + 1 ≡ suc (k + 1) = omega arith in
    let alike : (get_or (y ∷ ys) k d).id ≡ (get_or (y ∷ ys) (k + 1) d).id = subst (λ n. (get_or (y ∷ ys) k d).id ≡ (get_or (x ∷ y ∷ ys) n d).id) e same in
    let rest : 2 ≤ with_id (get_or (y ∷ ys) k d).id (y ∷ ys) = twice (y ∷ ys) k d (omega arith) alike in
    rw (with_id-cons (get_or (y ∷ ys) k d).id x (y ∷ ys)) (omega (arith, rest))

-- no entry is below the one before it
abbrev pub AreSorted : List Nack → Type 0
AreSorted xs = (k : ℕ) (d : Nack) → k + 1 < length xs → is_below (get_or xs (k + 1) d).id (get_or xs k d).id ≡ false

-- sorted entries rise if each id is there at most once
NacksRise-sorted : (xs : List Nack) → AreSorted xs → ((id : Id) → with_id id xs ≤ 1) → NacksRise xs
NacksRise-sorted xs sorted one =
    rising-in_order IsBelow (λ (nack : Nack). nack.id) (λ a b c p q. IsBelow-trans a b c p q) xs
    (λ k d lt. elim (IsBelow-cases (get_or xs k d).id (get_or xs (k + 1) d).id) [
      | inl same ↦ absurd (let two = twice xs k d lt same in let most = one (get_or xs k d).id in omega arith)
      | inr (inl below) ↦ below
      | inr (inr above) ↦ absurd (let yes = is_below-from (get_or xs (k + 1) d).id (get_or xs k d).id above in let no = sorted k d lt in cc)
    ])

-- entries that rise are what a sort makes of them in any order
pub sorted-same : (xs ys : List Nack) → NacksRise xs → IsPermutation ys xs → (zs : List Nack) → IsPermutation ys zs → AreSorted zs → zs ≡ xs
sorted-same xs ys rises moved zs kept sorted =
    let one : (id : Id) → with_id id zs ≤ 1 = λ id.
    let f : Nack → ℕ = λ nack. cond (is_same_id nack.id id) 1 0 in
    let same : with_id id zs ≡ with_id id xs = sum_by-IsPermutation f ys zs kept ∙ sym (sum_by-IsPermutation f ys xs moved) in
    rw same (once id xs rises) in
    sym (Rises-permutation IsBelow (λ (nack : Nack). nack.id) IsBelow-one_way xs zs (IsPermutation-trans xs ys zs (IsPermutation-sym ys xs moved) kept) rises (NacksRise-sorted zs sorted one))

-- ---- a sort by id

-- a comes before b, as the comparison of ids has it
abbrev pub is_less : Id → Id → Bool
is_less a b = is_lt (ordering_then (nat_cmp a.ms b.ms) (nat_cmp a.seq b.seq))

is_below-less : (a b : Id) → is_below a b ≡ is_less a b
is_below-less a b = by (nat_lt a.ms b.ms) (a.ms == b.ms) (nat_lt a.seq b.seq) (a.seq == b.seq)
  where
    by : (lt eq less same : Bool) → (lt || (eq && less)) ≡ is_lt (ordering_then (cond lt Less (cond eq Equal Greater)) (cond less Less (cond same Equal Greater)))
    by true eq less same = refl
    by false true true same = refl
    by false true false true = refl
    by false true false false = refl
    by false false less same = refl

module _ {X : Type 0} (now : X → Nack) where
  AreSorted-shown : (xs : List X) → IsSortedBy (λ a b. is_less (now a).id (now b).id) xs → AreSorted (map now xs)
  AreSorted-shown [] sorted k d within = absurd (omega arith)
  AreSorted-shown (x ∷ xs) sorted k d within =
      let long : length (map now (x ∷ xs)) ≡ length (x ∷ xs) = length-map (x ∷ xs) now in
      let first : k < length (x ∷ xs) = omega (arith, within, long) in
      let second : k + 1 < length (x ∷ xs) = omega (arith, within, long) in
      rw (get_or-map now (x ∷ xs) (k + 1) x d second, get_or-map now (x ∷ xs) k x d first)
      (is_below-less (now (get_or (x ∷ xs) (k + 1) x)).id (now (get_or (x ∷ xs) k x)).id ∙ sorted k x (omega arith) second)

-- ---- the own entries of consumers, one after the other

-- what passes one test and then another is what passes both
filter-both : (a b both : Nack → Bool) → ((x : Nack) → (b x && a x) ≡ both x) → (xs : List Nack) → filter a (filter b xs) ≡ filter both xs
filter-both a b both is [] = refl
filter-both a b both is (x ∷ xs) = by (filter-both a b both is xs) (b x) (a x) (both x) refl refl (is x)
  where
    by : filter a (filter b xs) ≡ filter both xs → (first second third : Bool) → b x ≡ first → a x ≡ second → (first && second) ≡ third
        → filter a (cond first (x ∷ filter b xs) (filter b xs)) ≡ cond third (x ∷ filter both xs) (filter both xs)
    by rest true true true e f h = rw f (ap (λ (l : List Nack). x ∷ l) rest)
    by rest true false false e f h = rw f rest
    by rest false second false e f h = rest
    by rest true true false e f h = absurd cc
    by rest true false true e f h = absurd cc
    by rest false second true e f h = absurd cc

and_false : (a : Bool) → (a && false) ≡ false
and_false true = refl
and_false false = refl

and_true : (a : Bool) → (a && true) ≡ a
and_true true = refl
and_true false = refl

module _ (name : Text) (names : List Text) (later : is_among names name ≡ false) where
  abbrev own : Nack → Bool
  own nack = is_same_name nack.owner name

  abbrev of_all : Nack → Bool
  of_all nack = is_among (name ∷ names) nack.owner

  owned-first : (nack : Nack) → (of_all nack && own nack) ≡ own nack
  owned-first nack = by (own nack) refl
    where
      by : (test : Bool) → own nack ≡ test → (of_all nack && test) ≡ test
      by true same =
          let one : nack.owner ≡ name = is_same_name-true nack.owner name same in
          let here : is_same_name name nack.owner ≡ true = subst (λ (t : Text). is_same_name name t ≡ true) (sym one) (is_same_name-refl name) in
          rw here refl
      by false apart = and_false (of_all nack)

  owned-later : (nack : Nack) → (of_all nack && not (own nack)) ≡ is_among names nack.owner
  owned-later nack = by (own nack) refl
    where
      by : (test : Bool) → own nack ≡ test → (of_all nack && not test) ≡ is_among names nack.owner
      by true same =
          let one : nack.owner ≡ name = is_same_name-true nack.owner name same in
          let none : is_among names nack.owner ≡ false = subst (λ (t : Text). is_among names t ≡ false) (sym one) later in
          and_false (of_all nack) ∙ sym none
      by false apart =
          let other : is_same_name name nack.owner ≡ false = nat_list_eq_equiv.symm name nack.owner ∙ apart in
          rw other (and_true (is_among names nack.owner))

  -- what is pending for all: the own entries of the first, and what is pending for the others
  split : (nacks : List Nack) → IsPermutation (of_dead (name ∷ names) nacks) (owned_by name nacks ++ of_dead names nacks)
  split nacks =
      let parts : IsPermutation (filter of_all nacks) (filter own (filter of_all nacks) ++ filter (λ nack. not (own nack)) (filter of_all nacks)) =
      IsPermutation-filter_both own (λ nack. not (own nack)) (λ nack. refl) (filter of_all nacks) in
      rw (filter-both own of_all own owned-first nacks, filter-both (λ nack. not (own nack)) of_all (λ nack. is_among names nack.owner) owned-later nacks) at parts

of_dead-nobody : (nacks : List Nack) → of_dead [] nacks ≡ []
of_dead-nobody [] = refl
of_dead-nobody (x ∷ xs) = of_dead-nobody xs

-- consumers that are named once each: their own entries are what is pending for them, in another order
pub own_of-dead : (dead : List Text) (nacks : List Nack) → NamesRise dead → IsPermutation (own_of dead nacks) (of_dead dead nacks)
own_of-dead [] nacks rises = rw (of_dead-nobody nacks) (IsPermutation-refl [])
own_of-dead (name ∷ names) nacks rises =
    let all = of_dead (name ∷ names) nacks in
    let joined = owned_by name nacks ++ of_dead names nacks in
    IsPermutation-trans (owned_by name nacks ++ own_of names nacks) joined all
    (IsPermutation-append_right (owned_by name nacks) (own_of names nacks) (of_dead names nacks) (own_of-dead names nacks rises.1))
    (IsPermutation-sym all joined (split name names (not_among-after name names rises.0) nacks))

-- as many of them pass a test
pub length-own_of : (dead : List Text) (nacks : List Nack) → NamesRise dead → (p : Nack → Bool) → length (filter p (own_of dead nacks)) ≡ length (filter p (of_dead dead nacks))
length-own_of dead nacks rises p =
    length-filter p (own_of dead nacks) ∙ sym (sum_by-IsPermutation (λ (nack : Nack). cond (p nack) 1 0) (own_of dead nacks) (of_dead dead nacks) (own_of-dead dead nacks rises))
    ∙ sym (length-filter p (of_dead dead nacks))

-- and sorted by id they are just what is pending for them
pub of_dead-sorted : {X : Type 0} (now : X → Nack) (dead : List Text) (nacks : List Nack) (own sorted : List X) → NamesRise dead → NacksRise nacks → map now own ≡ own_of dead nacks
    → IsPermutation own sorted → IsSortedBy (λ a b. is_less (now a).id (now b).id) sorted → map now sorted ≡ of_dead dead nacks
of_dead-sorted now dead nacks own sorted rises nacks_rise gathered moved in_order =
    sorted-same (of_dead dead nacks) (own_of dead nacks)
    (Rises-filter IsBelow (λ (nack : Nack). nack.id) (λ nack. is_among dead nack.owner) nacks nacks_rise)
    (own_of-dead dead nacks rises) (map now sorted)
    (subst (λ (l : List Nack). IsPermutation l (map now sorted)) gathered (IsPermutation-map now own sorted moved))
    (AreSorted-shown now sorted in_order)

-- ---- what is gone

-- the pending entries that are no longer in the stream, one after the other
abbrev pub gone_of : List Entry → List Nack → List (Id × Text)
gone_of entries nacks = flat_map (λ nack. gone_as nack (entry_with nack.id entries)) nacks

gone_as-has_id : (nack : Nack) (entries : List Entry) → gone_as nack (entry_with nack.id entries) ≡ cond (has_id nack.id entries) [] ((nack.id, nack.owner) ∷ [])
gone_as-has_id nack [] = refl
gone_as-has_id nack (x ∷ xs) = by (gone_as-has_id nack xs) (is_same_id x.id nack.id)
  where
    by : gone_as nack (entry_with nack.id xs) ≡ cond (has_id nack.id xs) [] ((nack.id, nack.owner) ∷ []) → (test : Bool)
        → gone_as nack (cond test (Some x) (entry_with nack.id xs)) ≡ cond (test || has_id nack.id xs) [] ((nack.id, nack.owner) ∷ [])
    by rest true = refl
    by rest false = rest

pub gone_each : (entries : List Entry) (nacks : List Nack) → gone_of entries nacks ≡ map (λ nack. (nack.id, nack.owner)) (filter (λ nack. not (has_id nack.id entries)) nacks)
gone_each entries [] = refl
gone_each entries (x ∷ xs) = ap (λ (l : List (Id × Text)). l ++ gone_of entries xs) (gone_as-has_id x entries) ∙ by (gone_each entries xs) (has_id x.id entries)
  where
    by : gone_of entries xs ≡ map (λ nack. (nack.id, nack.owner)) (filter (λ nack. not (has_id nack.id entries)) xs) → (test : Bool)
        → cond test [] ((x.id, x.owner) ∷ []) ++ gone_of entries xs
        ≡ map (λ nack. (nack.id, nack.owner)) (cond (not test) (x ∷ filter (λ nack. not (has_id nack.id entries)) xs) (filter (λ nack. not (has_id nack.id entries)) xs))
    by rest true = rest
    by rest false = ap (λ (l : List (Id × Text)). (x.id, x.owner) ∷ l) rest
