-- The first entries, one after another: what is found with more of them, until as many as were wanted are stranded.
use Rattle.std.proofs.Common.{◌≡◌, ℕ, zero, suc, ◌+◌, ◌-◌, ◌<◌, ◌≤◌, ◌≢◌, Bool, true, false, cond, List, [], ◌∷◌, ◌++◌, length}
use Rattle.std.proofs.Common.{filter, Option, Some, None, is_some, max, unwrap_or, refl, sym, ap, subst, ◌∙◌, append_assoc}
use Rattle.std.proofs.Common.{append-nil, eqb, arith, rules, tests}
use Rattle.std.proofs.lemmas.List.{nil_from_length}
use Rattle.sr_ids.specs.declared.id.Id.{Id}
use Rattle.sr_live.specs.declared.looked.Row.{Row}
use Rattle.sr_live.specs.First.{first_rows, kept_rows, with_row}
use Rattle.sr_live.specs.steps.Listing.{Finds}

-- entries before some first ones
abbrev pub with_rows : List Row → List Row × Option Id → List Row × Option Id
with_rows rows first = (rows ++ first.0, first.1)

pub Finds-none : (wanted : ℕ) → 0 < wanted → Finds wanted [] wanted
Finds-none zero some = absurd (omega (arith, some))
Finds-none (suc more) some = λ later. refl

-- more of them
pub Finds-more : (wanted left last : ℕ) (rows more : List Row) → 0 < left → Finds wanted rows left → Finds left more last
    → Finds wanted (rows ++ more) last
Finds-more wanted zero last rows more some first then = absurd (omega (arith, some))
Finds-more wanted (suc left) zero rows more some first (front, row, is, all) = (
  rows ++ front,
  row,
  ap (λ (l : List Row). rows ++ l) is ∙ sym (append_assoc rows front (row ∷ [])),
  first more ∙ ap (λ (f : List Row × Option Id). with_rows rows f) all,
)
Finds-more wanted (suc left) (suc last) rows more some first then = λ later.
    ap (first_rows wanted) (append_assoc rows more later) ∙ first (more ++ later)
    ∙ ap (λ (f : List Row × Option Id). with_rows rows f) (then later)
    ∙ ap (λ (l : List Row). (l, (first_rows (suc last) later).1))
    (sym (append_assoc rows more (first_rows (suc last) later).0))

is_more : (n : ℕ) → n ≢ 0 → eqb n 0 ≡ false
is_more n some = search (rules, tests)

-- an entry that is gone
finds-gone : (wanted : ℕ) (row : Row) → 0 < wanted → is_some row.fields ≡ false → Finds wanted (row ∷ []) wanted
finds-gone zero row some gone = absurd (omega (arith, some))
finds-gone (suc more) row some gone = λ later.
    ap (λ (test : Bool). cond test (cond (eqb (suc more - 1) 0) (row ∷ [], Some row.id)
    (with_row row (first_rows (suc more - 1) later))) (with_row row (first_rows (suc more) later))) gone

-- a stranded one
finds-there : (wanted left : ℕ) (row : Row) → left + 1 ≡ wanted → is_some row.fields ≡ true → Finds wanted (row ∷ []) left
finds-there wanted zero row one there = (
  [],
  row,
  refl,
  ap (λ (test : Bool). cond test (cond (eqb (wanted - 1) 0) (row ∷ [], Some row.id)
      (with_row row (first_rows (wanted - 1) []))) (with_row row (first_rows wanted []))) there
      ∙ ap (λ (k : ℕ). cond (eqb k 0) (row ∷ [], Some row.id) (with_row row (first_rows k []))) (less wanted one),
)
  where
    less : (n : ℕ) → zero + 1 ≡ n → n - 1 ≡ 0
    less n is = omega (arith, is)
finds-there wanted (suc left) row one there = λ later.
    ap (λ (test : Bool). cond test (cond (eqb (wanted - 1) 0) (row ∷ [], Some row.id)
    (with_row row (first_rows (wanted - 1) later))) (with_row row (first_rows wanted later))) there
    ∙ ap (λ (k : ℕ). cond (eqb k 0) (row ∷ [], Some row.id) (with_row row (first_rows k later))) (less wanted one)
    ∙ ap (λ (test : Bool). cond test (row ∷ [], Some row.id) (with_row row (first_rows (suc left) later)))
    (is_more (suc left) (some left))
  where
    less : (n : ℕ) → suc left + 1 ≡ n → n - 1 ≡ suc left
    less n is = omega (arith, is)

    some : (k : ℕ) → suc k ≢ 0
    some k = λ is. omega (arith, is)

-- one entry
pub Finds-one : (wanted : ℕ) (row : Row) → 0 < wanted
    → Finds wanted (row ∷ []) (cond (is_some row.fields) (wanted - 1) wanted)
Finds-one wanted row some = by (is_some row.fields) refl
  where
    by : (test : Bool) → is_some row.fields ≡ test → Finds wanted (row ∷ []) (cond test (wanted - 1) wanted)
    by true there = finds-there wanted (wanted - 1) row (omega (arith, some)) there
    by false gone = finds-gone wanted row some gone

-- how many of them are stranded
abbrev pub stranded_in : List Row → ℕ
stranded_in rows = length (filter (λ (row : Row). is_some row.fields) rows)

-- no more entries than are wanted
pub finds-all : (rows : List Row) (wanted : ℕ) → 0 < wanted → length rows ≤ wanted
    → Finds wanted rows (wanted - stranded_in rows)
finds-all [] wanted some few = subst (Finds wanted []) (less wanted) (Finds-none wanted some)
  where
    less : (n : ℕ) → n ≡ n - 0
    less n = omega arith
finds-all (row ∷ rows) wanted some few = by (finds-all rows) (is_some row.fields) refl
  where
    counted : (test : Bool) → is_some row.fields ≡ test
        → stranded_in (row ∷ rows) ≡ length (cond test (row ∷ filter (λ (row : Row). is_some row.fields) rows)
        (filter (λ (row : Row). is_some row.fields) rows))
    counted test is = ap (λ (t : Bool). length (cond t (row ∷ filter (λ (row : Row). is_some row.fields) rows)
        (filter (λ (row : Row). is_some row.fields) rows))) is

    last : ((n : ℕ) → 0 < n → length rows ≤ n → Finds n rows (n - stranded_in rows)) → (left : ℕ) → left + 1 ≡ wanted → is_some row.fields ≡ true
        → Finds wanted (row ∷ rows) (left - stranded_in rows)
    last rest zero one there =
        let none : rows ≡ [] = nil_from_length rows (omega (arith, one, few)) in
        subst (λ (l : List Row). Finds wanted (row ∷ l) (zero - stranded_in l)) (sym none)
        (finds-there wanted zero row one there)
    last rest (suc left) one there =
        Finds-more wanted (suc left) (suc left - stranded_in rows) (row ∷ []) rows (omega arith)
        (finds-there wanted (suc left) row one there)
        (rest (suc left) (omega arith) (omega (arith, one, few)))

    by : ((n : ℕ) → 0 < n → length rows ≤ n → Finds n rows (n - stranded_in rows)) → (test : Bool) → is_some row.fields ≡ test
        → Finds wanted (row ∷ rows) (wanted - stranded_in (row ∷ rows))
    by rest false gone =
        subst (λ (n : ℕ). Finds wanted (row ∷ rows) (wanted - n)) (sym (counted false gone))
        (Finds-more wanted wanted (wanted - stranded_in rows) (row ∷ []) rows some (finds-gone wanted row some gone)
        (rest wanted some (omega (arith, few))))
    by rest true there =
        let one : (wanted - 1) + 1 ≡ wanted = omega (arith, some) in
        let is : (wanted - 1) - stranded_in rows ≡ wanted - suc (stranded_in rows) = omega arith in
        subst (λ (n : ℕ). Finds wanted (row ∷ rows) (wanted - n)) (sym (counted true there))
        (subst (Finds wanted (row ∷ rows)) is (last rest (wanted - 1) one there))

-- ---- what is kept

-- none asked for is one
first_rows-none : (rows : List Row) → first_rows 0 rows ≡ first_rows 1 rows
first_rows-none [] = refl
first_rows-none (row ∷ rows) =
    ap (λ (f : List Row × Option Id). cond (is_some row.fields) (row ∷ [], Some row.id) (with_row row f))
    (first_rows-none rows)

-- how many are wanted at first
abbrev pub wanted_at_first : Option ℕ → ℕ
wanted_at_first at_most = max (unwrap_or at_most 4097) 1

first_rows-asked : (n : ℕ) (rows : List Row) → first_rows (max n 1) rows ≡ first_rows n rows
first_rows-asked zero rows = sym (first_rows-none rows)
first_rows-asked (suc n) rows = ap (λ (k : ℕ). first_rows k rows) (most (suc n) (omega arith))
  where
    most : (k : ℕ) → 1 ≤ k → max k 1 ≡ k
    most k some = omega (arith, some)

-- as many as were asked for are found
pub kept-found : (at_most : Option ℕ) (rows : List Row) → is_some at_most ≡ true
    → Finds (wanted_at_first at_most) rows zero
    → (front : List Row) × (row : Row) × (rows ≡ front ++ row ∷ []) × (kept_rows at_most rows ≡ (rows, Some row.id))
kept-found None rows given found = absurd cc
kept-found (Some n) rows given (front, row, is, all) = (front, row, is, sym (first_rows-asked n rows) ∙ all)

-- fewer are
pub kept-whole : (at_most : Option ℕ) (rows : List Row) (left : ℕ) → 0 < left → Finds (wanted_at_first at_most) rows left
    → kept_rows at_most rows ≡ (rows, None)
kept-whole None rows left some found = refl
kept-whole (Some n) rows zero some found = absurd (omega (arith, some))
kept-whole (Some n) rows (suc left) some found =
    sym (first_rows-asked n rows) ∙ ap (first_rows (max n 1)) (sym (append-nil rows)) ∙ found []
    ∙ ap (λ (l : List Row). (l, None)) (append-nil rows)
