-- The allowed pairs, as they are written: the row of an entry, and the rows one after another.
use Rattle.std.proofs.Common.{◌≡◌, ℕ, ◌+◌, ◌-◌, ◌*◌, ◌<◌, ◌≤◌, List, [], ◌∷◌, ◌++◌, length, get_or, take, drop, Option}
use Rattle.std.proofs.Common.{Some, None, refl, sym, ap, ◌∙◌, subst, inl, inr, arith, length-append, length-drop, Bool}
use mir.Val.{bool_byte}
use Rattle.std.specs.Prelude.{IsSome}
use Rattle.std.specs.Option.{is_some}
use Rattle.std.proofs.Math.ListN.{set}
use Rattle.std.proofs.lemmas.Bool.{cases_eq, cases_lt, false≢true}
use Rattle.std.proofs.lemmas.List.{get_or-set_same, get_or-set_other, get_or-take, length-take-le, get_or_push}
use Rattle.std.proofs.lemmas.List.{get_or_append_left, drop-append-le, take-append-le, take_all, get_or_past}
use Rattle.std.proofs.Math.Nat.{mul-le-mul_right}
use Rattle.std.proofs.Math.Seq.{drop-append_seam}
use Rattle.sr_transport.specs.{Transport, consumers}
use Rattle.sr_transport.specs.plain.Problem.{cost_at, IsAllowed, IsWithinLimits}
use Rattle.sr_solver.specs.declared.pairs.Pair.{Pair}
use Rattle.sr_solver.specs.declared.set.ConsumerSet.{ConsumerSet}
use Rattle.sr_solver.specs.Sets.{IsIn}
use Rattle.sr_solver.specs.Pairs.{set_at, AreSetsOf, pair_at, IsRowOf, IsRowBelow, row_in, IsWithin, AreRowsOf}

-- no pair
abbrev blank_pair : Pair
blank_pair = record { consumer = 0; cost = 0 }

-- what stands before place m is as it was
before_set : (row : List Pair) (m j : ℕ) (pair : Pair) → j < m → pair_at (set row m pair) j ≡ pair_at row j
before_set row m j pair lt = get_or-set_other row m j pair blank_pair (λ e. omega (arith, e, lt))

-- consumer n is allowed
row_kept : (p : Transport) (i n m : ℕ) (pair : Pair) (row : List Pair) → IsRowBelow p i n m 0 row → m < length row
    → pair.consumer ≡ n → IsSome (cost_at p i n) → IsRowBelow p i (n + 1) (m + 1) 0 (set row m pair)
row_kept p i n m pair row is lt last some =
    let here : pair_at (set row m pair) m ≡ pair = get_or-set_same row m pair blank_pair lt in
    record {
      few = omega (arith, is.few);
      consumer = λ j ltj. elim (cases_eq j m) [
        | inl e ↦ rw (e, here) (omega (arith, last))
        | inr ne ↦
            rw (before_set row m j pair (omega (arith, ltj, ne))) (omega (arith, is.consumer j (omega (arith, ltj, ne))))
      ];
      allowed = λ j ltj. elim (cases_eq j m) [
        | inl e ↦ rw (e, here, last) some
        | inr ne ↦ rw (before_set row m j pair (omega (arith, ltj, ne))) (is.allowed j (omega (arith, ltj, ne)))
      ];
      cost = λ j lt0. absurd (omega arith);
      rising = λ j l ltj ltl.
          rw (before_set row m j pair (omega (arith, ltj, ltl))) (elim (cases_eq l m) [
            | inl e ↦ rw (e, here) (omega (arith, is.consumer j (omega (arith, ltj, e)), last))
            | inr ne ↦ rw (before_set row m l pair (omega (arith, ltl, ne))) (is.rising j l ltj (omega (arith, ltl, ne)))
          ]);
      each = λ c ltc is_some. elim (cases_eq c n) [
        | inl e ↦ (m, omega arith, ap (λ (x : Pair). x.consumer) here ∙ (last ∙ sym e))
        | inr ne ↦
            let at = is.each c (omega (arith, ltc, ne)) is_some in
            (at.0, omega (arith, at.1), ap (λ (x : Pair). x.consumer) (before_set row m at.0 pair at.1) ∙ at.2)
      ];
    }

-- consumer n is not allowed
row_passed : (p : Transport) (i n m : ℕ) (pair : Pair) (row : List Pair) → IsRowBelow p i n m 0 row
    → (IsSome (cost_at p i n) → ⊥) → IsRowBelow p i (n + 1) m 0 (set row m pair)
row_passed p i n m pair row is not = record {
  few = omega (arith, is.few);
  consumer = λ j ltj. rw (before_set row m j pair ltj) (omega (arith, is.consumer j ltj));
  allowed = λ j ltj. rw (before_set row m j pair ltj) (is.allowed j ltj);
  cost = λ j lt0. absurd (omega arith);
  rising = λ j l ltj ltl.
      rw (before_set row m j pair (omega (arith, ltj, ltl)), before_set row m l pair ltl) (is.rising j l ltj ltl);
  each = λ c ltc some. elim (cases_eq c n) [
    | inl e ↦ absurd (not (rw e at some))
    | inr ne ↦
        let at = is.each c (omega (arith, ltc, ne)) some in
        (at.0, at.1, ap (λ (x : Pair). x.consumer) (before_set row m at.0 pair at.1) ∙ at.2)
  ];
}

-- consumer n is written at place m, and stays there if it is allowed
pub row_next : (p : Transport) (i n m one : ℕ) (is_here : Bool) (given : Option ℕ) (pair : Pair) (row : List Pair)
    → IsRowBelow p i n m 0 row → m < length row → pair.consumer ≡ n
    → given ≡ cost_at p i n → is_here ≡ is_some given → one ≡ bool_byte is_here
    → IsRowBelow p i (n + 1) (m + one) 0 (set row m pair)
row_next p i n m one is_here None pair row is lt last same h o =
    let zero : one ≡ 0 = o ∙ ap bool_byte h in
    let stays : m + one ≡ m = omega (arith, zero) in
    rw stays (row_passed p i n m pair row is (λ some. false≢true (ap is_some same ∙ some)))
row_next p i n m one is_here (Some x) pair row is lt last same h o =
    let is_one : one ≡ 1 = o ∙ ap bool_byte h in
    rw is_one (row_kept p i n m pair row is lt last (ap is_some (sym same)))

-- no consumer is written
pub row_empty : (p : Transport) (i : ℕ) (row : List Pair) → IsRowBelow p i 0 0 0 row
row_empty p i row = record {
  few = omega arith;
  consumer = λ j lt. absurd (omega arith);
  allowed = λ j lt. absurd (omega arith);
  cost = λ j lt. absurd (omega arith);
  rising = λ j l lt ltl. absurd (omega arith);
  each = λ c lt. absurd (omega arith);
}

-- the consumers stay where a pair is replaced by one with the same consumer
consumer_stays : (row : List Pair) (k j : ℕ) (pair : Pair) → pair.consumer ≡ (pair_at row k).consumer
    → k < length row → (pair_at (set row k pair) j).consumer ≡ (pair_at row j).consumer
consumer_stays row k j pair same lt = elim (cases_eq j k) [
  | inl e ↦ rw (e, get_or-set_same row k pair blank_pair lt) same
  | inr ne ↦ rw (get_or-set_other row k j pair blank_pair ne) refl
]

-- one cost more is written
pub row_priced : (p : Transport) (i n m k : ℕ) (pair : Pair) (row : List Pair) → IsRowBelow p i n m k row
    → k < length row → pair.consumer ≡ (pair_at row k).consumer
    → cost_at p i (pair_at row k).consumer ≡ Some pair.cost → IsRowBelow p i n m (k + 1) (set row k pair)
row_priced p i n m k pair row is lt same cost =
    let stays : (j : ℕ) → (pair_at (set row k pair) j).consumer ≡ (pair_at row j).consumer =
    λ j. consumer_stays row k j pair same lt in
    record {
      few = is.few;
      consumer = λ j ltj. omega (arith, stays j, is.consumer j ltj);
      allowed = λ j ltj. rw (stays j) (is.allowed j ltj);
      cost = λ j ltj. elim (cases_eq j k) [
        | inl e ↦ rw (stays j, e, get_or-set_same row k pair blank_pair lt) cost
        | inr ne ↦ rw (get_or-set_other row k j pair blank_pair ne) (is.cost j (omega (arith, ltj, ne)))
      ];
      rising = λ j l ltj ltl. omega (arith, stays j, stays l, is.rising j l ltj ltl);
      each = λ c ltc some.
          let at = is.each c ltc some in
          (at.0, at.1, stays at.0 ∙ at.2);
    }

-- all consumers and costs are written
pub row_all : (p : Transport) (i n m k : ℕ) (row : List Pair) → IsRowBelow p i n m k row → n ≡ consumers p → k ≡ m
    → m ≤ length row → IsRowOf p i (take m row)
row_all p i n m k row is all last lt =
    let many : length (take m row) ≡ m = length-take-le m row lt in
    record {
      consumer = λ j ltj. rw (get_or-take m row j blank_pair (omega (arith, many, ltj)))
          (omega (arith, is.consumer j (omega (arith, many, ltj)), all));
      cost = λ j ltj. rw (get_or-take m row j blank_pair (omega (arith, many, ltj)))
          (is.cost j (omega (arith, many, ltj, last)));
      rising = λ j l ltj ltl.
          rw (
            get_or-take m row j blank_pair (omega (arith, many, ltj, ltl)),
            get_or-take m row l blank_pair (omega (arith, many, ltl)),
          )
          (is.rising j l ltj (omega (arith, many, ltl)));
      each = λ c allowed.
          let at = is.each c (omega (arith, allowed.0, all)) allowed.1 in (
            at.0,
            omega (arith, many, at.1),
            ap (λ (x : Pair). x.consumer) (get_or-take m row at.0 blank_pair at.1) ∙ at.2,
          );
    }

-- a row that is within the list before it grows
old_row : (starts : List ℕ) (pairs row : List Pair) (i x : ℕ) → i + 1 < length starts → IsWithin starts pairs i
    → row_in (starts ++ x ∷ []) (pairs ++ row) i ≡ row_in starts pairs i
old_row starts pairs row i x lt within =
    let first : ℕ = get_or starts i 0 in
    let next : ℕ = get_or starts (i + 1) 0 in
    rw (get_or_append_left starts (x ∷ []) 0 i (omega arith), get_or_append_left starts (x ∷ []) 0 (i + 1) lt) (
    rw (drop-append-le first pairs row (omega (arith, within.rises, within.fits))) (
    take-append-le (next - first) (drop first pairs) row
    (omega (arith, length-drop first pairs, within.rises, within.fits))))

-- the last row
last_row : (starts : List ℕ) (pairs row : List Pair) (n x : ℕ) → length starts ≡ n + 1
    → get_or starts n 0 ≡ length pairs → x ≡ length (pairs ++ row)
    → row_in (starts ++ x ∷ []) (pairs ++ row) n ≡ row
last_row starts pairs row n x many all is =
    rw (get_or_append_left starts (x ∷ []) 0 n (omega (arith, many)), get_or_push starts x 0 (n + 1) many, all) (
    rw (drop-append_seam pairs row) (
    take_all (x - length pairs) row (omega (arith, is, length-append pairs row))))

-- one row more
pub rows_more : (p : Transport) (n x : ℕ) (starts : List ℕ) (pairs row : List Pair) → AreRowsOf p n starts pairs
    → IsRowOf p n row → x ≡ length (pairs ++ row)
    → AreRowsOf p (n + 1) (starts ++ x ∷ []) (pairs ++ row)
rows_more p n x starts pairs row are is e = record {
  one_each = length-append starts (x ∷ []) ∙ omega (arith, are.one_each);
  all = get_or_push starts x 0 (n + 1) are.one_each ∙ e;
  within = λ i lt. elim (cases_eq i n) [
    | inl same ↦
        let first = get_or_append_left starts (x ∷ []) 0 n (omega (arith, are.one_each)) in
        let next = get_or_push starts x 0 (n + 1) are.one_each in
        rw same (record {
          rises = rw (first, next) (omega (arith, are.all, e, length-append pairs row));
          fits = rw next (omega (arith, e));
        })
    | inr ne ↦
        let old = are.within i (omega (arith, lt, ne)) in
        let first = get_or_append_left starts (x ∷ []) 0 i (omega (arith, lt, are.one_each)) in
        let next = get_or_append_left starts (x ∷ []) 0 (i + 1) (omega (arith, lt, ne, are.one_each)) in
        record {
          rises = rw (first, next) old.rises;
          fits = rw next (omega (arith, old.fits, length-append pairs row));
        }
  ];
  each = λ i lt. elim (cases_eq i n) [
    | inl same ↦ rw (same, last_row starts pairs row n x are.one_each are.all e) is
    | inr ne ↦
        rw (old_row starts pairs row i x (omega (arith, lt, ne, are.one_each)) (are.within i (omega (arith, lt, ne))))
        (are.each i (omega (arith, lt, ne)))
  ];
}

-- no row
pub rows_none : (p : Transport) (starts : List ℕ) (pairs : List Pair) → starts ≡ 0 ∷ [] → pairs ≡ []
    → AreRowsOf p 0 starts pairs
rows_none p starts pairs first none = rw (first, none) (record {
  one_each = refl;
  all = refl;
  within = λ i lt. absurd (omega arith);
  each = λ i lt. absurd (omega arith);
})

-- one set more
pub sets_more : (p : Transport) (n : ℕ) (sets : List ConsumerSet) (row : List Pair) (more : ConsumerSet)
    → length sets ≡ n → ((i c : ℕ) → i < n → IsAllowed p i c → IsIn (set_at sets i) c) → IsRowOf p n row
    → ((j : ℕ) → j < length row → IsIn more (pair_at row j).consumer)
    → (i c : ℕ) → i < n + 1 → IsAllowed p i c → IsIn (set_at (sets ++ more ∷ []) i) c
sets_more p n sets row more many each is here i c lt allowed =
    let none : ConsumerSet = record { bits = 0 } in
    elim (cases_eq i n) [
      | inl e ↦
          let at = is.each c (rw e at allowed) in
          rw (e, get_or_push sets more none n many) (subst (λ d. IsIn more d) at.2 (here at.0 at.1))
      | inr ne ↦
          rw (get_or_append_left sets (more ∷ []) none i (omega (arith, lt, ne, many)))
          (each i c (omega (arith, lt, ne)) allowed)
    ]

-- the consumers of a row have room in a set
pub row_small : (p : Transport) (i most : ℕ) (row : List Pair) → IsRowOf p i row → consumers p ≤ most
    → (j : ℕ) → j < length row → (pair_at row j).consumer < most
row_small p i most row is few j lt = omega (arith, is.consumer j lt, few)

-- no pair past the last entry is allowed
allowed_below : (p : Transport) (i c : ℕ) → IsWithinLimits p.rooms p.entries p.costs → IsAllowed p i c → i < p.entries
allowed_below p i c limits allowed = elim (cases_lt i p.entries) [
  | inl lt ↦ lt
  | inr over ↦
      let up : p.entries * consumers p ≤ i * consumers p = mul-le-mul_right (consumers p) over in
      absurd (false≢true (sym (ap (λ (o : Option ℕ). is_some o)
      (get_or_past p.costs (i * consumers p + c) None (omega (arith, up, limits.pairs)))) ∙ allowed.1))
]

-- all sets
pub sets_all : (p : Transport) (n : ℕ) (sets : List ConsumerSet) → IsWithinLimits p.rooms p.entries p.costs
    → n ≡ p.entries → length sets ≡ n
    → ((i c : ℕ) → i < n → IsAllowed p i c → IsIn (set_at sets i) c) → AreSetsOf p sets
sets_all p n sets limits all many each = record {
  one_each = many ∙ all;
  each = λ i c allowed. each i c (omega (arith, allowed_below p i c limits allowed, all)) allowed;
}
