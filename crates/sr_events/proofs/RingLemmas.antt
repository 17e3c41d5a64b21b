-- A ring stays one as it is made, as a token gets a turn, and as the next one takes its own.

use Rattle.std.proofs.Common.{◌≡◌, ℕ, ◌-◌, ◌<◌, ◌≤◌, Bool, true, false, ◌||◌, ◌&&◌, not, ltb, eqb, Some, List, []}
use Rattle.std.proofs.Common.{◌∷◌, ◌++◌, length, set, get_or, take, drop, replicate, refl, sym, ap, ◌∙◌, subst, ⊎_elim}
use Rattle.std.proofs.Common.{arith, rules}
use Rattle.std.proofs.lemmas.Bool.{false≢true, cases_eq, ne_eqb, eq-eqb, or_cases, or_right, or_from, or_left}
use Rattle.std.proofs.lemmas.Bool.{or_parts, eqb-true, lt-ltb, ltb-true, and_from, and_parts}
use Rattle.std.proofs.lemmas.Bool.{not_from_false, cond-true}
use Rattle.std.proofs.lemmas.List.{get_or-replicate, length-replicate, length-set, get_or-set_same, get_or-set_other}
use Rattle.std.proofs.lemmas.List.{take_all}
use Rattle.std.proofs.lemmas.List.Folds.{list_any-append}
use Rattle.std.proofs.lemmas.Map.Keys.{IsDistinct-head, IsDistinct-tail, IsDistinct-cons, IsDistinct-push}
use Rattle.std.proofs.lemmas.Map.Steps.{length-le_from_distinct_below}
use Rattle.std.specs.Cmp.{nat_eq_equiv}
use Rattle.std.specs.List.{IsDistinct, AllByRecursion, list_any, slice_get}
use Rattle.circular_buffer.specs.Buffer.{Buffer, buffer, keep_last}
use Rattle.sr_events.specs.Turns.{turns, with_first_turn, with_turn}
use Rattle.sr_events.specs.steps.Ring.{IsRing}

distinct_nil : IsDistinct eqb []
unfolding IsDistinct
distinct_nil = search rules

-- a new ring
pub IsRing-nil : (most : ℕ) (tokens : Buffer ℕ) (waits : List Bool) → tokens ≡ buffer [] most
    → waits ≡ replicate most false → IsRing tokens waits
IsRing-nil most tokens waits is_tokens is_waits = rw (is_tokens, is_waits) (record {
  capacity = sym (length-replicate most false);
  distinct = distinct_nil;
  below = λ token there. absurd (false≢true there);
  exact = λ token within.
      get_or-replicate most token false false (subst (λ n. token < n) (length-replicate most false) within);
})

-- a token that is apart from all is not there
absent_from_apart : (token : ℕ) (tokens : List ℕ) → AllByRecursion (λ other. eqb token other ≡ false) tokens
    → list_any (eqb token) tokens ≡ false
absent_from_apart token [] apart = refl
absent_from_apart token (other ∷ tokens) apart =
    or_from (eqb token other) (list_any (eqb token) tokens) apart.0 (absent_from_apart token tokens apart.1)

-- the first token is followed by the others
first_of : (tokens : List ℕ) (token : ℕ) → Some token ≡ slice_get tokens 0 → tokens ≡ token ∷ drop 1 tokens
first_of [] token first = absurd (cc)
first_of (other ∷ tokens) token first =
    let same : token ≡ other = cc in
    ap (λ head. head ∷ tokens) (sym same)

module _ (tokens : Buffer ℕ) (waits : List Bool) (ring : IsRing tokens waits)
    (token : ℕ) (first : Some token ≡ slice_get tokens.items 0) where
  abbrev rest : List ℕ
  rest = drop 1 tokens.items

  with_first : IsRing (buffer (token ∷ rest) tokens.capacity) waits
  with_first = subst (λ items. IsRing (buffer items tokens.capacity) waits) (first_of tokens.items token first) ring

  -- the token that has its turn is one that there is
  pub first_below : token < length waits
  first_below =
      with_first.below token (or_left (eqb token token) (list_any (eqb token) rest) (eq-eqb token token refl))

  exact_rest : (other : ℕ) → other < length waits
      → get_or (set waits token false) other false ≡ list_any (eqb other) rest
  exact_rest other here =
      ⊎_elim
      (λ (same : other ≡ token). rw same (
      get_or-set_same waits token false false first_below
      ∙ sym (absent_from_apart token rest (IsDistinct-head eqb token rest with_first.distinct))))
      (λ (apart : other ≡ token → ⊥).
      get_or-set_other waits token other false false apart
      ∙ with_first.exact other here
      ∙ ap (λ there. there || list_any (eqb other) rest) (ne_eqb other token apart))
      (cases_eq other token)

  -- the first token takes its turn
  pub IsRing-pop : (new : Buffer ℕ) → new ≡ buffer (drop 1 tokens.items) tokens.capacity
      → IsRing new (set waits token false)
  IsRing-pop new popped = rw popped (record {
    capacity = ring.capacity ∙ sym (length-set waits token false);
    distinct = IsDistinct-tail eqb token rest with_first.distinct;
    below = λ other there. rw (length-set waits token false)
        (with_first.below other (or_right (eqb other token) (list_any (eqb other) rest) there));
    exact = λ other here. exact_rest other (subst (λ n. other < n) (length-set waits token false) here);
  })

or_nothing : (b : Bool) → (b || false) ≡ b
or_nothing true = refl
or_nothing false = refl

or_swapped : (a b : Bool) → (a || b) ≡ (b || a)
or_swapped true b = sym (or_right b true refl)
or_swapped false b = sym (or_nothing b)

-- a token that is not there is apart from all
apart_from_absent : (token : ℕ) (tokens : List ℕ) → list_any (eqb token) tokens ≡ false
    → AllByRecursion (λ other. eqb token other ≡ false) tokens
apart_from_absent token [] absent = tt
apart_from_absent token (other ∷ tokens) absent =
    let (apart, rest) = or_parts (eqb token other) (list_any (eqb token) tokens) absent in
    (apart, apart_from_absent token tokens rest)

false_from_not : (b : Bool) → not b ≡ true → b ≡ false
false_from_not false is_not = refl
false_from_not true is_not = absurd (false≢true is_not)

module _ (token : ℕ) (tokens : List ℕ) (most : ℕ) (waits : List Bool) (ring : IsRing (buffer tokens most) waits)
    (begins : true ≡ (ltb token (length waits) && not (get_or waits token false))) where
  parts : (ltb token (length waits) ≡ true) × (not (get_or waits token false) ≡ true)
  parts = and_parts (ltb token (length waits)) (not (get_or waits token false)) (sym begins)

  within : token < length waits
  within = ltb-true token (length waits) parts.0

  absent : list_any (eqb token) tokens ≡ false
  absent = sym (ring.exact token within) ∙ false_from_not (get_or waits token false) parts.1

  -- one more token gets a turn, wherever
  module _ (more : List ℕ) (distinct : IsDistinct eqb more)
      (there_after : (other : ℕ) → list_any (eqb other) more ≡ (list_any (eqb other) tokens || eqb other token)) where
    exact_after : (other : ℕ) → other < length waits
        → get_or (set waits token true) other false ≡ list_any (eqb other) more
    exact_after other here = rw there_after (
        ⊎_elim
        (λ (same : other ≡ token). rw same (
        get_or-set_same waits token true false within
        ∙ sym (or_right (list_any (eqb token) tokens) (eqb token token) (eq-eqb token token refl))))
        (λ (apart : other ≡ token → ⊥).
        get_or-set_other waits token other true false apart
        ∙ ring.exact other here
        ∙ sym (or_nothing (list_any (eqb other) tokens))
        ∙ ap (λ last. list_any (eqb other) tokens || last) (sym (ne_eqb other token apart)))
        (cases_eq other token))

    IsRing-more : IsRing (buffer more most) (set waits token true)
    IsRing-more = record {
      capacity = ring.capacity ∙ sym (length-set waits token true);
      distinct = distinct;
      below = λ other there. rw (length-set waits token true) (
          ⊎_elim
          (λ (old : list_any (eqb other) tokens ≡ true). ring.below other old)
          (λ (same : eqb other token ≡ true). rw (eqb-true other token same) within)
          (or_cases (list_any (eqb other) tokens) (eqb other token) (sym (there_after other) ∙ there)));
      exact = λ other here. exact_after other (subst (λ n. other < n) (length-set waits token true) here);
    }

    -- each token is there at most once, so all of them have room
    fits : length more ≤ most
    fits = length-le_from_distinct_below more most distinct
        (λ other there. subst (λ n. other < n) (sym IsRing-more.capacity) (IsRing-more.below other there))

  -- there is such a token, and it has no turn yet
  added : (n : ℕ) → n ≡ length waits → (ltb token n && not (list_any (eqb token) tokens)) ≡ true
  added n is_n = and_from (ltb token n) (not (list_any (eqb token) tokens))
      (rw is_n (lt-ltb token (length waits) within)) (not_from_false (list_any (eqb token) tokens) absent)

  same_number : (after : List Bool) → after ≡ set waits token true → (n m : ℕ) → n ≡ length waits → m ≡ length after
      → m ≡ n
  same_number after flags n m is_n is_m = is_m ∙ ap length flags ∙ length-set waits token true ∙ sym is_n

  -- its turn comes after all others
  abbrev last : List ℕ
  last = tokens ++ token ∷ []

  distinct_last : IsDistinct eqb last
  distinct_last = IsDistinct-push nat_eq_equiv tokens token ring.distinct absent

  there_last : (other : ℕ) → list_any (eqb other) last ≡ (list_any (eqb other) tokens || eqb other token)
  there_last other = list_any-append (eqb other) tokens (token ∷ [])
      ∙ ap (λ end. list_any (eqb other) tokens || end) (or_nothing (eqb other token))

  kept_last : keep_last most last ≡ last
  kept_last =
      let none_over : length last - most ≡ 0 = omega (arith, fits last distinct_last there_last) in
      ap (λ n. drop n last) none_over

  module _ (new : Buffer ℕ) (pushed : new ≡ buffer (keep_last most last) most)
      (after : List Bool) (flags : after ≡ set waits token true) where
    pub IsRing-push : IsRing new after
    IsRing-push = rw (pushed, kept_last, flags) (IsRing-more last distinct_last there_last)

    pub with_turn-push : (n m : ℕ) → n ≡ length waits → m ≡ length after
        → turns new.items m ≡ with_turn token (turns tokens n)
    with_turn-push n m is_n is_m = rw (pushed, kept_last, same_number after flags n m is_n is_m) (sym (
        cond-true (ltb token n && not (list_any (eqb token) tokens)) (turns last n) (turns tokens n) (added n is_n)))

  -- its turn comes before all others
  abbrev front : List ℕ
  front = token ∷ tokens

  distinct_front : IsDistinct eqb front
  distinct_front = IsDistinct-cons eqb token tokens (apart_from_absent token tokens absent) ring.distinct

  there_front : (other : ℕ) → list_any (eqb other) front ≡ (list_any (eqb other) tokens || eqb other token)
  there_front other = or_swapped (eqb other token) (list_any (eqb other) tokens)

  kept_front : take most front ≡ front
  kept_front = take_all most front (fits front distinct_front there_front)

  module _ (new : Buffer ℕ) (pushed : new ≡ buffer (take most front) most)
      (after : List Bool) (flags : after ≡ set waits token true) where
    pub IsRing-push_front : IsRing new after
    IsRing-push_front = rw (pushed, kept_front, flags) (IsRing-more front distinct_front there_front)

    pub with_first_turn-push_front : (n m : ℕ) → n ≡ length waits → m ≡ length after
        → turns new.items m ≡ with_first_turn token (turns tokens n)
    with_first_turn-push_front n m is_n is_m = rw (pushed, kept_front, same_number after flags n m is_n is_m) (sym (
        cond-true (ltb token n && not (list_any (eqb token) tokens)) (turns front n) (turns tokens n) (added n is_n)))
