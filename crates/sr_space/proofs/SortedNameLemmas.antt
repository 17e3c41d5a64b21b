-- Names that are sorted, and then each left once, are the names in byte order.
use Rattle.std.proofs.Common.{◌≡◌, Bool, true, false, ◌||◌, List, [], ◌∷◌, inl, inr, refl, ap, sym, ◌∙◌, nat_eq}
use Rattle.std.specs.Cmp.Lexicographic.{pointwise, slice_cmp, texts_ties}
use Rattle.std.specs.List.{AllByRecursion, dedup}
use Rattle.std.specs.List.Sorted.{IsPermutation, IsSorted, IsStrictlySortedBy}
use Rattle.std.specs.Ordering.{is_lt, nat_cmp}
use Rattle.std.specs.declared.cmp.Ordering.TheVariants.{Less}
use Rattle.std.proofs.lemmas.Cmp.{nat_list_cmp_total, nat_list_eq_equiv}
use Rattle.std.proofs.lemmas.List.Kept.{Contains-dedup, Contains-from_dedup, IsStrictlySortedBy-dedup}
use Rattle.std.proofs.lemmas.List.Sorted.{IsPermutation-sym}
use Rattle.sr_bytes.specs.{AreInOrder, ComesBefore}
use Rattle.sr_group.proofs.NameLemmas.{comes_before-one_way, is_same_name-refl, is_same_name-true}
use Rattle.sr_policy.specs.{Text, is_among}
use Rattle.sr_space.specs.Snap.{in_order}
use Rattle.sr_space.proofs.RisingLemmas.{AreAfter}
use Rattle.sr_space.proofs.SortedLemmas.{Contains-one, IsIn, IsIn-contained, IsIn-permutation, Rises-same}
use Rattle.sr_space.proofs.NameOrderLemmas.{NamesRise, NamesRise-in_order, is_among-in_order, names_rise}

-- ---- a name is among names if it is one of them

IsIn-among : (names : List Text) (name : Text) → is_among names name ≡ true → IsIn name names
IsIn-among [] name among = absurd cc
IsIn-among (x ∷ xs) name among = by (λ more. IsIn-among xs name more) (pointwise nat_eq x name) refl among
  where
    by : (is_among xs name ≡ true → IsIn name xs) → (test : Bool) → pointwise nat_eq x name ≡ test → (test || is_among xs name) ≡ true → IsIn name (x ∷ xs)
    by rest true same more = inl (sym (is_same_name-true x name same))
    by rest false apart more = inr (rest more)

among-one_of : (names : List Text) (name : Text) → IsIn name names → is_among names name ≡ true
among-one_of [] name is = absurd is
among-one_of (x ∷ xs) name (inl same) = rw (same, is_same_name-refl x) refl
among-one_of (x ∷ xs) name (inr later) = or_later (pointwise nat_eq x name) (is_among xs name) (among-one_of xs name later)
  where
    or_later : (a b : Bool) → b ≡ true → (a || b) ≡ true
    or_later true b is = refl
    or_later false b is = is

-- ---- sorted names, each once, rise

after-sorted : (name : Text) (names : List Text) → AllByRecursion (λ other. slice_cmp nat_cmp name other ≡ Less) names → AreAfter ComesBefore (λ (other : Text). other) name names
after-sorted name [] all = tt
after-sorted name (x ∷ xs) all = (ap is_lt all.0, after-sorted name xs all.1)

NamesRise-sorted : (names : List Text) → IsStrictlySortedBy (slice_cmp nat_cmp) names → NamesRise names
unfolding IsStrictlySortedBy
NamesRise-sorted [] sorted = tt
NamesRise-sorted (x ∷ xs) sorted = (after-sorted x xs sorted.0, NamesRise-sorted xs sorted.1)

one_way : (a b : Text) → ComesBefore a b → ComesBefore b a → ⊥
one_way a b first second = let no = comes_before-one_way a b first in absurd (cc (second, no))

-- the names of one list that rise are those of the other in byte order
in_order-known : (list names : List Text) → NamesRise list → ((name : Text) → IsIn name list → IsIn name names) → ((name : Text) → IsIn name names → IsIn name list) → list ≡ in_order names
in_order-known list names rises there back =
    Rises-same ComesBefore (λ (name : Text). name) one_way list (in_order names) rises (NamesRise-in_order names)
    (λ name is. IsIn-among (in_order names) name (rw (is_among-in_order names name) (among-one_of names name (there name is))))
    (λ name is. back name (IsIn-among names name (rw (sym (is_among-in_order names name)) (among-one_of (in_order names) name is))))

-- names that are in byte order, each once, are so
pub in_order-already : (names : List Text) → AreInOrder ComesBefore names → names ≡ in_order names
in_order-already names order = in_order-known names names (names_rise names order) (λ name is. is) (λ name is. is)

-- what a sort and a dedup make of names
pub in_order-sorted : (names moved list : List Text) → IsPermutation names moved → IsSorted (slice_cmp nat_cmp) moved → list ≡ dedup (pointwise nat_eq) moved → list ≡ in_order names
in_order-sorted names moved list kept sorted is =
    let once : List Text = dedup (pointwise nat_eq) moved in
    let rises : NamesRise once = NamesRise-sorted once (IsStrictlySortedBy-dedup nat_list_cmp_total texts_ties moved sorted) in
    is ∙ in_order-known once names rises
    (λ name is_in. IsIn-permutation moved names name (IsPermutation-sym names moved kept) (IsIn-contained moved name (Contains-from_dedup (pointwise nat_eq) moved name (Contains-one once name is_in))))
    (λ name is_in. IsIn-contained once name (Contains-dedup nat_list_eq_equiv is_same_name-true moved name (Contains-one moved name (IsIn-permutation names moved name kept is_in))))
