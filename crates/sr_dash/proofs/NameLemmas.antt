-- Names in byte order: which of them come before a name and after it, and two lists of them as one.
use Rattle.std.proofs.Common.{◌≡◌, ℕ, zero, suc, ◌+◌, ◌-◌, ◌<◌, Bool, true, false, not, List, [], ◌∷◌, ◌++◌, length, get_or, take, drop, filter, map, refl, ap, append_assoc, subst, sym, ◌∙◌, inl, inr, arith}
use mathlib.Core.List.{foldr}
use Rattle.std.proofs.Math.Seq.{drop-cons, take-nil}
use Rattle.std.proofs.lemmas.List.{length-drop, take_all}
use Rattle.std.proofs.lemmas.Bool.{cases_lt}
use Rattle.std.proofs.lemmas.Grind.{flat_map-append}
use Rattle.std.specs.List.{flat_map}
use Rattle.std.specs.List.Sorted.{IsPartitionedBy}
use Rattle.sr_bytes.specs.{comes_before, ComesBefore, AreInOrder}
use Rattle.sr_group.specs.declared.consumer.Consumer.{Consumer}
use Rattle.sr_group.specs.Group as group
use Rattle.sr_group.proofs.ConsumerLemmas.{AreAfter-before}
use Rattle.sr_group.proofs.NameLemmas.{comes_before-trans, comes_before-itself, comes_before-one_way, comes_before-neither}
use Rattle.sr_pending.proofs.Splitting.{Splits, drop-Splits}
use Rattle.sr_policy.specs.{Text}
use Rattle.sr_bytes.specs.{with_name}
use Rattle.sr_dash.specs.steps.Names.{AreAbove, AreRising, merged}

abbrev before : Text → List Text → List Text
before name names = filter (λ other. comes_before other name) names

abbrev after : Text → List Text → List Text
after name names = filter (λ other. comes_before name other) names

-- ---- what comes after a name

-- a name before the first of them is before all
pub AreAbove-before : (a b : Text) (names : List Text) → comes_before a b ≡ true → AreAbove b names → AreAbove a names
AreAbove-before a b [] lt above = tt
AreAbove-before a b (x ∷ xs) lt above = (comes_before-trans a b x lt above.0, AreAbove-before a b xs lt above.1)

-- all that come after the name, if all do
pub after-all : (name : Text) (names : List Text) → AreAbove name names → after name names ≡ names
after-all name [] above = refl
after-all name (x ∷ xs) above = rw above.0 (ap (λ (l : List Text). x ∷ l) (after-all name xs above.1))

-- none that comes before the name, if all come after it
pub before-none : (name : Text) (names : List Text) → AreAbove name names → before name names ≡ []
before-none name [] above = refl
before-none name (x ∷ xs) above = rw (comes_before-one_way name x above.0) (before-none name xs above.1)

-- what is left of names that come after a name comes after it
pub AreAbove-filter : (p : Text → Bool) (name : Text) (names : List Text) → AreAbove name names → AreAbove name (filter p names)
AreAbove-filter p name [] above = tt
AreAbove-filter p name (x ∷ xs) above = by (AreAbove-filter p name xs above.1) (p x) refl
  where
    by : AreAbove name (filter p xs) → (test : Bool) → p x ≡ test → AreAbove name (filter p (x ∷ xs))
    by rest true e = rw e (above.0, rest)
    by rest false e = rw e rest

pub AreRising-filter : (p : Text → Bool) (names : List Text) → AreRising names → AreRising (filter p names)
AreRising-filter p [] rising = tt
AreRising-filter p (x ∷ xs) rising = by (AreRising-filter p xs rising.1) (p x) refl
  where
    by : AreRising (filter p xs) → (test : Bool) → p x ≡ test → AreRising (filter p (x ∷ xs))
    by rest true e = rw e (AreAbove-filter p x xs rising.0, rest)
    by rest false e = rw e rest

-- ---- found by binary search

AreAbove-at : (name : Text) (names : List Text) (j : ℕ) (d : Text) → AreAbove name names → j < length names → comes_before name (get_or names j d) ≡ true
AreAbove-at name [] j d above within = absurd (omega arith)
AreAbove-at name (x ∷ xs) zero d above within = above.0
AreAbove-at name (x ∷ xs) (suc j) d above within = AreAbove-at name xs j d above.1 (omega arith)

AreRising-at : (names : List Text) (i j : ℕ) (d : Text) → AreRising names → i < j → j < length names → comes_before (get_or names i d) (get_or names j d) ≡ true
AreRising-at [] i j d rising lt within = absurd (omega arith)
AreRising-at (x ∷ xs) i zero d rising lt within = absurd (omega arith)
AreRising-at (x ∷ xs) zero (suc j) d rising lt within = AreAbove-at x xs j d rising.0 (omega arith)
AreRising-at (x ∷ xs) (suc i) (suc j) d rising lt within = AreRising-at xs i j d rising.1 (omega arith) (omega arith)

pub before_first : (names : List Text) (name : Text) → AreRising names → IsPartitionedBy (λ (other : Text). comes_before other name) names
before_first names name rising i j d le within earlier =
    elim (cases_lt i j) [
      | inl lt ↦ comes_before-trans (get_or names i d) (get_or names j d) name (AreRising-at names i j d rising lt within) earlier
      | inr ge ↦ let same : j ≡ i = omega arith in rw same at earlier
    ]

not-true : (b : Bool) → not b ≡ true → b ≡ false
not-true true e = absurd cc
not-true false e = refl

pub not_after_first : (names : List Text) (name : Text) → AreRising names → IsPartitionedBy (λ (other : Text). not (comes_before name other)) names
not_after_first names name rising i j d le within earlier =
    elim (cases_lt i j) [
      | inl lt ↦ by lt (comes_before name (get_or names i d)) refl
      | inr ge ↦ let same : j ≡ i = omega arith in rw same at earlier
    ]
  where
    not_later : comes_before name (get_or names j d) ≡ false
    not_later = not-true (comes_before name (get_or names j d)) earlier

    by : i < j → (test : Bool) → comes_before name (get_or names i d) ≡ test → not test ≡ true
    by lt true e =
        let yes = comes_before-trans name (get_or names i d) (get_or names j d) e (AreRising-at names i j d rising lt within) in
        absurd (cc (yes, not_later))
    by lt false e = refl

pub take-Splits : {X : Type 0} (p : X → Bool) (xs : List X) (i : ℕ) → Splits p xs i → take i xs ≡ filter p xs
take-Splits p [] i splits = take-nil i
take-Splits p (x ∷ xs) zero splits = rw splits.0 (take-Splits p xs zero splits.1)
take-Splits p (x ∷ xs) (suc i) splits = rw splits.0 (ap (λ (l : List _). x ∷ l) (take-Splits p xs i splits.1))

not-not : (b : Bool) → not (not b) ≡ b
not-not true = refl
not-not false = refl

filter-not_not : {X : Type 0} (p : X → Bool) (xs : List X) → filter (λ x. not (not (p x))) xs ≡ filter p xs
filter-not_not p [] = refl
filter-not_not {X = X} p (x ∷ xs) = by (filter-not_not p xs) (p x) refl
  where
    by : filter (λ x. not (not (p x))) xs ≡ filter p xs → (test : Bool) → p x ≡ test → filter (λ x. not (not (p x))) (x ∷ xs) ≡ filter p (x ∷ xs)
    by rest true e = rw e (ap (λ (l : List X). x ∷ l) rest)
    by rest false e = rw e rest

pub drop-not_Splits : {X : Type 0} (p : X → Bool) (xs : List X) (i : ℕ) → Splits (λ x. not (p x)) xs i → drop i xs ≡ filter p xs
drop-not_Splits p xs i splits = drop-Splits (λ x. not (p x)) xs i splits ∙ filter-not_not p xs

-- taking all that is left from a place on leaves it whole
pub drop-whole : {X : Type 0} (xs : List X) (i : ℕ) → take (length xs - i) (drop i xs) ≡ drop i xs
drop-whole xs i = take_all (length xs - i) (drop i xs) (omega (arith, length-drop i xs))

-- ---- names in order, by index

pub AreRising-in_order : (names : List Text) → AreInOrder ComesBefore names → AreRising names
AreRising-in_order [] order = tt
AreRising-in_order (x ∷ []) order = (tt, tt)
AreRising-in_order (x ∷ y ∷ ys) order =
    let rest : AreRising (y ∷ ys) = AreRising-in_order (y ∷ ys) (λ k d within. let next : suc k + 1 ≡ suc (k + 1) = omega arith in rw next at (order (suc k) d (omega arith))) in
    let first : comes_before x y ≡ true = order zero x (omega arith) in
    ((first, AreAbove-before x y ys first rest.0), rest)

-- ---- two lists as one

-- a name before all of them is the first
with_name-first : (name : Text) (names : List Text) → AreAbove name names → with_name name names ≡ name ∷ names
with_name-first name names above = rw (before-none name names above, after-all name names above) refl

-- a name that comes after the first of them is put after it
with_name-later : (name first : Text) (names : List Text) → comes_before first name ≡ true → with_name name (first ∷ names) ≡ first ∷ with_name name names
with_name-later name first names lt = rw (lt, comes_before-one_way first name lt) refl

-- a name that is the first of them stays once
with_name-same : (name : Text) (names : List Text) → AreAbove name names → with_name name (name ∷ names) ≡ name ∷ names
with_name-same name names above =
    rw (comes_before-itself name, before-none name names above, after-all name names above) refl

AreAbove-append : (name : Text) (xs ys : List Text) → AreAbove name xs → AreAbove name ys → AreAbove name (xs ++ ys)
AreAbove-append name [] ys above more = more
AreAbove-append name (x ∷ xs) ys above more = (above.0, AreAbove-append name xs ys above.1 more)

-- a name before all consumers and before all of the names is before both as one
merged-above : (name : Text) (consumers : List Consumer) (names : List Text) → group.AreAfter name consumers → AreAbove name names → AreAbove name (merged consumers names)
merged-above name [] names before_these above = above
merged-above name (c ∷ cs) names before_these above =
    let later = AreAbove-filter (λ other. comes_before c.name other) name names above in
    AreAbove-append name (before c.name names) (c.name ∷ merged cs (after c.name names)) (AreAbove-filter (λ other. comes_before other c.name) name names above) (before_these.0, merged-above name cs (after c.name names) before_these.1 later)

-- one more name before the others
merged-with : (consumers : List Consumer) (name : Text) (names : List Text) → group.AreInOrder consumers → AreAbove name names → merged consumers (name ∷ names) ≡ with_name name (merged consumers names)
merged-with [] name names order above = sym (with_name-first name names above)
merged-with (c ∷ cs) name names order above = by (merged-with cs name names order.1 above) (comes_before name c.name) refl
  where
    ahead : comes_before name c.name ≡ true → merged (c ∷ cs) (name ∷ names) ≡ with_name name (merged (c ∷ cs) names)
    ahead lt =
        let above_all = merged-above name (c ∷ cs) names (lt, AreAfter-before name c.name cs lt order.0) above in
        rw (lt, comes_before-one_way name c.name lt, with_name-first name (merged (c ∷ cs) names) above_all) refl

    later : merged cs (name ∷ names) ≡ with_name name (merged cs names) → comes_before c.name name ≡ true → merged (c ∷ cs) (name ∷ names) ≡ with_name name (merged (c ∷ cs) names)
    later rest lt =
        let over = AreAbove-before c.name name names lt above in
        rw (lt, comes_before-one_way c.name name lt, before-none c.name names over, after-all c.name names over) (
        ap (λ (l : List Text). c.name ∷ l) rest ∙ sym (with_name-later name c.name (merged cs names) lt))

    same : c.name ≡ name → merged (c ∷ cs) (name ∷ names) ≡ with_name name (merged (c ∷ cs) names)
    same e =
        let over : AreAbove c.name names = rw e above in
        let above_all : AreAbove c.name (merged cs names) = merged-above c.name cs names order.0 over in
        let itself : comes_before c.name c.name ≡ false = comes_before-itself c.name in
        let at_name : merged (c ∷ cs) (c.name ∷ names) ≡ with_name c.name (merged (c ∷ cs) names) =
        rw (itself, before-none c.name names over, after-all c.name names over) (sym (with_name-same c.name (merged cs names) above_all)) in
        subst (λ (n : Text). merged (c ∷ cs) (n ∷ names) ≡ with_name n (merged (c ∷ cs) names)) e at_name

    not_ahead : merged cs (name ∷ names) ≡ with_name name (merged cs names) → comes_before name c.name ≡ false → (test : Bool) → comes_before c.name name ≡ test → merged (c ∷ cs) (name ∷ names) ≡ with_name name (merged (c ∷ cs) names)
    not_ahead rest ge true e = later rest e
    not_ahead rest ge false e = same (comes_before-neither c.name name e ge)

    by : merged cs (name ∷ names) ≡ with_name name (merged cs names) → (test : Bool) → comes_before name c.name ≡ test → merged (c ∷ cs) (name ∷ names) ≡ with_name name (merged (c ∷ cs) names)
    by rest true e = ahead e
    by rest false e = not_ahead rest e (comes_before c.name name) refl

merged-alone : (consumers : List Consumer) → merged consumers [] ≡ map (λ c. c.name) consumers
merged-alone [] = refl
merged-alone (c ∷ cs) = ap (λ (l : List Text). c.name ∷ l) (merged-alone cs)

-- the names of the consumers with these among them
pub merged-all : (consumers : List Consumer) (names : List Text) → group.AreInOrder consumers → AreRising names → merged consumers names ≡ foldr with_name (map (λ c. c.name) consumers) names
merged-all consumers [] order rising = merged-alone consumers
merged-all consumers (x ∷ xs) order rising = merged-with consumers x xs order rising.0 ∙ ap (with_name x) (merged-all consumers xs order rising.1)

-- ---- the lines of names

-- after the lines of the names that come before a consumer, and its own line, come those of the rest
pub lines-next : (line_at : Text → List ℕ) (c : Consumer) (cs : List Consumer) (names : List Text) (start middle next : List ℕ) → middle ≡ start ++ flat_map line_at (before c.name names) → next ≡ middle ++ line_at c.name → next ++ flat_map line_at (merged cs (after c.name names)) ≡ start ++ flat_map line_at (merged (c ∷ cs) names)
lines-next line_at c cs names start middle next e1 e2 =
    let first = flat_map line_at (before c.name names) in
    let own = line_at c.name in
    let rest = flat_map line_at (merged cs (after c.name names)) in
    let parts : flat_map line_at (merged (c ∷ cs) names) ≡ first ++ (own ++ rest) = flat_map-append line_at (before c.name names) (c.name ∷ merged cs (after c.name names)) in
    rw (e2, e1, parts, append_assoc (start ++ first) own rest, append_assoc start first (own ++ rest)) refl

-- from a place on there is the consumer at it, and those from the next one on
pub consumers-at : (consumers : List Consumer) (i : ℕ) (c : Consumer) → i < length consumers → c ≡ get_or consumers i c → drop i consumers ≡ c ∷ drop (i + 1) consumers
consumers-at consumers i c within is =
    let next : suc i ≡ i + 1 = omega arith in
    drop-cons consumers i c within ∙ ap (λ (first : Consumer). first ∷ drop (suc i) consumers) (sym is) ∙ ap (λ (n : ℕ). c ∷ drop n consumers) next
