-- Words in byte order: no two are the same exactly if each comes before the next.
use Rattle.std.proofs.Common.{◌≡◌, ◌+◌, ◌-◌, ◌<◌, ℕ, Bool, true, false, List, [], ◌∷◌, ◌++◌, length, map, take, get_or, inl, inr, refl, sym, ap, ◌∙◌, subst, append_assoc, arith, IsPermutation, IsSorted}
use Rattle.std.specs.Cmp.{IsTotalOrder}
use Rattle.std.specs.Cmp.Lexicographic.{slice_cmp, on_texts}
use Rattle.std.specs.List.{AllByRecursion, IsAllAdjacentAnswer, IsDistinct}
use Rattle.std.specs.Ordering.{eq_by_cmp, is_lt, nat_cmp}
use Rattle.std.specs.declared.cmp.Ordering.{Ordering}
use Rattle.std.specs.declared.cmp.Ordering.TheVariants.{Less, Equal, Greater}
use Rattle.std.proofs.lemmas.Bool.{false≢true}
use Rattle.std.proofs.lemmas.Cmp.{eq_by_cmp_equiv, nat_list_cmp_total}
use Rattle.std.proofs.lemmas.List.{map-append}
use Rattle.std.proofs.lemmas.List.Sorted.{IsPermutation-sym}
use Rattle.std.proofs.lemmas.Map.Keys.{IsDistinct-IsPermutation, IsDistinct-from_sorted, apart_from_distinct, sorted_from_all_adjacent}
use Rattle.std.proofs.lemmas.Map.Lookups.{exact_bytes}
use Rattle.sr_args.specs.FormWord.{Word}
use Rattle.sr_args.specs.Different.{IsAmong, AreDifferent}
use Rattle.sr_args.proofs.IdsLemmas.{take-next}

is_lt-true : (o : Ordering) → is_lt o ≡ true → o ≡ Less
is_lt-true Less e = refl
is_lt-true Equal e = absurd cc
is_lt-true Greater e = absurd cc

-- whether one word comes before the other in byte order
abbrev pub is_before : Word → Word → Bool
is_before word other = is_lt (slice_cmp nat_cmp word other)

abbrev is_same : Word → Word → Bool
is_same = eq_by_cmp (slice_cmp nat_cmp)

is_same-refl : (word : Word) → is_same word word ≡ true
is_same-refl word = (eq_by_cmp_equiv nat_list_cmp_total).refl word

is_same-exact : (word other : Word) → is_same word other ≡ true → word ≡ other
is_same-exact word other e = by (slice_cmp nat_cmp word other) refl
  where
    by : (o : Ordering) → slice_cmp nat_cmp word other ≡ o → word ≡ other
    by Equal o_is = exact_bytes word other o_is
    by Less o_is = absurd (let no : is_same word other ≡ false = rw o_is refl in cc)
    by Greater o_is = absurd (let no : is_same word other ≡ false = rw o_is refl in cc)

-- of two words of which neither comes before the other each is the other
is_same-neither : (word other : Word) → is_before word other ≡ false → is_before other word ≡ false → is_same word other ≡ true
is_same-neither word other p q = by (slice_cmp nat_cmp word other) refl
  where
    by : (o : Ordering) → slice_cmp nat_cmp word other ≡ o → is_same word other ≡ true
    by Less o_is = absurd (let yes : is_before word other ≡ true = ap is_lt o_is in cc)
    by Equal o_is = rw o_is refl
    by Greater o_is = absurd (let yes : is_before other word ≡ true = rw (nat_list_cmp_total.antisymm other word, o_is) refl in cc)

-- whatever has a word
module _ {X : Type 0} (text : X → Word) where
  abbrev order : X → X → Ordering
  order x y = slice_cmp nat_cmp (text x) (text y)

  apart-others : (x : X) (xs : List X) → (IsAmong (text x) (map text xs) → ⊥) → AllByRecursion (λ y. eq_by_cmp order x y ≡ false) xs
  apart-others x [] apart = tt
  apart-others x (y ∷ ys) apart = (by (is_same (text x) (text y)) refl, apart-others x ys (λ among. apart (inr among)))
    where
      by : (test : Bool) → is_same (text x) (text y) ≡ test → is_same (text x) (text y) ≡ false
      by true same = absurd (apart (inl (is_same-exact (text x) (text y) same)))
      by false differ = differ

  others-apart : (x : X) (xs : List X) → AllByRecursion (λ y. eq_by_cmp order x y ≡ false) xs → IsAmong (text x) (map text xs) → ⊥
  others-apart x [] all among = among
  others-apart x (y ∷ ys) all (inl same) = false≢true (sym all.0 ∙ subst (λ (word : Word). is_same (text x) word ≡ true) same (is_same-refl (text x)))
  others-apart x (y ∷ ys) all (inr later) = others-apart x ys all.1 later

  distinct-from_different : (xs : List X) → AreDifferent (map text xs) → IsDistinct (eq_by_cmp order) xs
  unfolding IsDistinct
  distinct-from_different [] different = tt
  distinct-from_different (x ∷ xs) different = (apart-others x xs different.0, distinct-from_different xs different.1)

  different-from_distinct : (xs : List X) → IsDistinct (eq_by_cmp order) xs → AreDifferent (map text xs)
  unfolding IsDistinct
  different-from_distinct [] distinct = tt
  different-from_distinct (x ∷ xs) distinct = (others-apart x xs distinct.0, different-from_distinct xs distinct.1)

  total : IsTotalOrder order
  total = on_texts text

  -- words that change places stay different
  AreDifferent-moved : (xs ys : List X) → IsPermutation xs ys → AreDifferent (map text xs) → AreDifferent (map text ys)
  AreDifferent-moved xs ys moved different =
      different-from_distinct ys (IsDistinct-IsPermutation (eq_by_cmp order) (eq_by_cmp_equiv total).symm xs ys moved (distinct-from_different xs different))

  -- each comes before the next
  different-rising : (xs : List X) → ((k : ℕ) (d : X) → k + 1 < length xs → true ≡ is_before (text (get_or xs k d)) (text (get_or xs (k + 1) d))) → AreDifferent (map text xs)
  different-rising [] rises = tt
  different-rising (x ∷ xs) rises =
      let all = x ∷ xs in
      different-from_distinct all (IsDistinct-from_sorted order all (sorted_from_all_adjacent total all x (λ k within. is_lt-true (order (get_or all k x) (get_or all (k + 1) x)) (sym (rises k x within)))))

  -- one is not less than the one after it, and is not greater either
  twice-tied : (xs : List X) → IsSorted order xs → (k : ℕ) → k + 1 < length xs → ((d : X) → false ≡ is_before (text (get_or xs k d)) (text (get_or xs (k + 1) d))) → AreDifferent (map text xs) → ⊥
  twice-tied [] sorted k within tied different = omega arith
  twice-tied (x ∷ xs) sorted k within tied different =
      let all = x ∷ xs in
      let same : is_same (text (get_or all k x)) (text (get_or all (k + 1) x)) ≡ true = is_same-neither (text (get_or all k x)) (text (get_or all (k + 1) x)) (sym (tied x)) (sorted k x (omega arith) within) in
      let apart = apart_from_distinct (eq_by_cmp order) all k (k + 1) x (distinct-from_different all different) (omega arith) within in
      false≢true (sym apart ∙ same)

  -- what looking at neighbours in byte order says of the words in any order
  pub different-sorted : (xs ys : List X) → IsPermutation xs ys → IsSorted order ys → (answer : Bool) → IsAllAdjacentAnswer (λ x y b. b ≡ is_before (text x) (text y)) ys answer → (answer ≡ true → AreDifferent (map text xs)) × (AreDifferent (map text xs) → answer ≡ true)
  different-sorted xs ys moved sorted true rises = (λ yes. AreDifferent-moved ys xs (IsPermutation-sym xs ys moved) (different-rising ys rises), λ different. refl)
  different-sorted xs ys moved sorted false tied =
      (λ no. absurd (false≢true no), λ different. absurd (twice-tied ys sorted tied.0 tied.1 tied.2 (AreDifferent-moved xs ys moved different)))

-- the first words so far, and one more
pub words-more : {X : Type 0} (text : X → Word) (many left : ℕ) (all words rest : List Word) (list : List X) (x : X) → 0 < left → words ≡ text x ∷ rest → map text list ++ take left words ≡ take many all → map text (list ++ x ∷ []) ++ take (left - 1) rest ≡ take many all
words-more text many left all words rest list x more next so_far =
    ap (λ (ws : List Word). ws ++ take (left - 1) rest) (map-append text list (x ∷ [])) ∙ append_assoc (map text list) (text x ∷ []) (take (left - 1) rest)
    ∙ ap (λ (ws : List Word). map text list ++ ws) (sym (take-next left words rest (text x) more next)) ∙ so_far
