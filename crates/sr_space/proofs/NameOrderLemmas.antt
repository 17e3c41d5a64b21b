-- Names in byte order, each once: they rise, the same names are among them, and they are no more than a list that has them all.
use Rattle.std.proofs.Common.{◌≡◌, ℕ, zero, suc, ◌<◌, ◌≤◌, Bool, true, false, cond, not, ◌||◌, List, [], ◌∷◌, ◌++◌, length, filter, get_or, take, drop, slice_get, Some, None, inl, inr, ◌⊎◌, refl, ap, subst, sym, ◌∙◌, nat_eq, arith}
use Rattle.std.specs.Cmp.Lexicographic.{pointwise}
use Rattle.std.specs.List.{insert}
use Rattle.std.specs.List.Sorted.{IsPartitionedBy}
use Rattle.std.proofs.Math.Seq.{take-nil}
use Rattle.std.proofs.lemmas.List.Folds.{list_any-append}
use Rattle.sr_bytes.specs.{AreInOrder, ComesBefore, comes_before}
use Rattle.sr_group.proofs.NameLemmas.{comes_before-trans, comes_before-itself, comes_before-one_way, comes_before-neither, is_same_name-refl, is_same_name-true, is_same_name-before, is_same_name-after}
use Rattle.sr_pending.proofs.Splitting.{Splits, Splits-counted, drop-Splits}
use Rattle.sr_policy.specs.{Text, is_among}
use Rattle.sr_bytes.specs.{with_name}
use Rattle.sr_space.specs.Snap.{in_order}
use Rattle.sr_space.specs.steps.Snapping.{count_before}
use Rattle.sr_space.proofs.RisingLemmas.{AreAfter, Rises, AreAfter-filter, Rises-filter, in_order-rising, rising-in_order}

-- names that rise
abbrev pub NamesRise : List Text → Type 0
NamesRise names = Rises ComesBefore (λ (name : Text). name) names

abbrev AreNamesAfter : Text → List Text → Type 0
AreNamesAfter name names = AreAfter ComesBefore (λ (other : Text). other) name names

pub names_rise : (names : List Text) → AreInOrder ComesBefore names → NamesRise names
names_rise names order = rising-in_order ComesBefore (λ (name : Text). name) (λ a b c p q. comes_before-trans a b c p q) names order

pub names_in_order : (names : List Text) → NamesRise names → AreInOrder ComesBefore names
names_in_order names rises = in_order-rising ComesBefore (λ (name : Text). name) names rises

abbrev before : Text → List Text → List Text
before name names = filter (λ other. comes_before other name) names

abbrev after : Text → List Text → List Text
after name names = filter (λ other. comes_before name other) names

-- ---- a name in its place

before-none : (name : Text) (names : List Text) → AreNamesAfter name names → before name names ≡ []
before-none name [] later = refl
before-none name (x ∷ xs) later = rw (comes_before-one_way name x later.0) (before-none name xs later.1)

AreNamesAfter-after : (name : Text) (names : List Text) → AreNamesAfter name (after name names)
AreNamesAfter-after name [] = tt
AreNamesAfter-after name (x ∷ xs) = by (AreNamesAfter-after name xs) (comes_before name x) refl
  where
    by : AreNamesAfter name (after name xs) → (test : Bool) → comes_before name x ≡ test → AreNamesAfter name (cond test (x ∷ after name xs) (after name xs))
    by rest true e = (e, rest)
    by rest false e = rest

AreNamesAfter-trans : (a b : Text) (names : List Text) → comes_before a b ≡ true → AreNamesAfter b names → AreNamesAfter a names
AreNamesAfter-trans a b [] lt later = tt
AreNamesAfter-trans a b (x ∷ xs) lt later = (comes_before-trans a b x lt later.0, AreNamesAfter-trans a b xs lt later.1)

AreNamesAfter-append : (t name : Text) (xs ys : List Text) → AreNamesAfter t xs → comes_before t name ≡ true → AreNamesAfter t ys → AreNamesAfter t (xs ++ name ∷ ys)
AreNamesAfter-append t name [] ys earlier lt later = (lt, later)
AreNamesAfter-append t name (x ∷ xs) ys earlier lt later = (earlier.0, AreNamesAfter-append t name xs ys earlier.1 lt later)

-- a name that does not come before the first of them has none before it
before-not_first : (name x : Text) (xs : List Text) → comes_before x name ≡ false → AreNamesAfter x xs → before name xs ≡ []
before-not_first name x xs ge later = by (comes_before name x) refl
  where
    by : (test : Bool) → comes_before name x ≡ test → before name xs ≡ []
    by true lt = before-none name xs (AreNamesAfter-trans name x xs lt later)
    by false e =
        let same : x ≡ name = comes_before-neither x name ge e in
        before-none name xs (subst (λ (t : Text). AreNamesAfter t xs) same later)

pub NamesRise-with_name : (name : Text) (names : List Text) → NamesRise names → NamesRise (with_name name names)
NamesRise-with_name name [] rises = (tt, tt)
NamesRise-with_name name (x ∷ xs) rises = by (NamesRise-with_name name xs rises.1) (comes_before x name) refl
  where
    by : NamesRise (with_name name xs) → (test : Bool) → comes_before x name ≡ test → NamesRise (cond test (x ∷ before name xs) (before name xs) ++ name ∷ after name (x ∷ xs))
    by rest true lt =
        rw (comes_before-one_way x name lt) (
          AreNamesAfter-append x name (before name xs) (after name xs)
              (AreAfter-filter ComesBefore (λ (t : Text). t) x (λ other. comes_before other name) xs rises.0) lt
              (AreAfter-filter ComesBefore (λ (t : Text). t) x (λ other. comes_before name other) xs rises.0),
          rest,
        )
    by rest false ge =
        rw (before-not_first name x xs ge rises.0)
        (AreNamesAfter-after name (x ∷ xs), Rises-filter ComesBefore (λ (t : Text). t) (λ other. comes_before name other) (x ∷ xs) rises)

pub NamesRise-in_order : (names : List Text) → NamesRise (in_order names)
NamesRise-in_order [] = tt
NamesRise-in_order (name ∷ names) = NamesRise-with_name name (in_order names) (NamesRise-in_order names)

-- a list that is names in byte order
pub in_order-same : (list names : List Text) → list ≡ in_order names → AreInOrder ComesBefore list
in_order-same list names same = subst (AreInOrder ComesBefore) (sym same) (names_in_order (in_order names) (NamesRise-in_order names))

-- ---- which names are there

or_first : (x a n b c : Bool) → (a || (n || b)) ≡ (n || c) → ((x || a) || (n || b)) ≡ (n || (x || c))
or_first true a true b c h = refl
or_first true a false b c h = refl
or_first false a n b c h = h

or_second : (x a n b c : Bool) → (a || (n || b)) ≡ (n || c) → (a || (n || (x || b))) ≡ (n || (x || c))
or_second false a n b c h = h
or_second true true true b c h = refl
or_second true true false b c h = refl
or_second true false true b c h = refl
or_second true false false b c h = refl

or_again : (n c : Bool) → (n || c) ≡ (n || (n || c))
or_again true c = refl
or_again false c = refl

is_among-split : (name q : Text) (names : List Text) → (is_among (before name names) q || (pointwise nat_eq name q || is_among (after name names) q)) ≡ (pointwise nat_eq name q || is_among names q)
is_among-split name q [] = refl
is_among-split name q (x ∷ xs) = by (is_among-split name q xs) (comes_before x name) (comes_before name x) refl refl
  where
    same : Text → Bool
    same other = pointwise nat_eq other q

    by : (is_among (before name xs) q || (same name || is_among (after name xs) q)) ≡ (same name || is_among xs q)
        → (first second : Bool) → comes_before x name ≡ first → comes_before name x ≡ second
        → (is_among (cond first (x ∷ before name xs) (before name xs)) q || (same name || is_among (cond second (x ∷ after name xs) (after name xs)) q)) ≡ (same name || (same x || is_among xs q))
    by rest true true e f = absurd (let no = comes_before-one_way x name e in cc)
    by rest true false e f = or_first (same x) (is_among (before name xs) q) (same name) (is_among (after name xs) q) (is_among xs q) rest
    by rest false true e f = or_second (same x) (is_among (before name xs) q) (same name) (is_among (after name xs) q) (is_among xs q) rest
    by rest false false e f =
        let one : x ≡ name = comes_before-neither x name e f in
        rest ∙ or_again (same name) (is_among xs q) ∙ ap (λ (t : Text). same name || (same t || is_among xs q)) (sym one)

pub is_among-with_name : (name q : Text) (names : List Text) → is_among (with_name name names) q ≡ (pointwise nat_eq name q || is_among names q)
is_among-with_name name q names =
    list_any-append (λ other. pointwise nat_eq other q) (before name names) (name ∷ after name names) ∙ is_among-split name q names

pub is_among-in_order : (names : List Text) (q : Text) → is_among (in_order names) q ≡ is_among names q
is_among-in_order [] q = refl
is_among-in_order (name ∷ names) q = is_among-with_name name q (in_order names) ∙ ap (λ (rest : Bool). pointwise nat_eq name q || rest) (is_among-in_order names q)

-- ---- how many there are

-- each name is among the others
abbrev pub AreAmong : List Text → List Text → Type 0
AreAmong others [] = Unit {0}
AreAmong others (name ∷ names) = (is_among others name ≡ true) × AreAmong others names

AreAmong-filter : (others : List Text) (p : Text → Bool) (names : List Text) → AreAmong others names → AreAmong others (filter p names)
AreAmong-filter others p [] all = tt
AreAmong-filter others p (x ∷ xs) all = by (AreAmong-filter others p xs all.1) (p x)
  where
    by : AreAmong others (filter p xs) → (test : Bool) → AreAmong others (cond test (x ∷ filter p xs) (filter p xs))
    by rest true = (all.0, rest)
    by rest false = rest

AreAmong-append : (others xs ys : List Text) → AreAmong others xs → AreAmong others ys → AreAmong others (xs ++ ys)
AreAmong-append others [] ys front back = back
AreAmong-append others (x ∷ xs) ys front back = (front.0, AreAmong-append others xs ys front.1 back)

pub AreAmong-in_order : (others names : List Text) → AreAmong others names → AreAmong others (in_order names)
AreAmong-in_order others [] all = tt
AreAmong-in_order others (name ∷ names) all =
    let rest = AreAmong-in_order others names all.1 in
    AreAmong-append others (before name (in_order names)) (name ∷ after name (in_order names))
    (AreAmong-filter others (λ other. comes_before other name) (in_order names) rest)
    (all.0, AreAmong-filter others (λ other. comes_before name other) (in_order names) rest)

abbrev without : Text → List Text → List Text
without name names = filter (λ other. not (pointwise nat_eq other name)) names

or_true : (a b : Bool) → (a || b) ≡ true → a ≡ false → b ≡ true
or_true true b h fails = absurd cc
or_true false b h fails = h

or_right : (a b : Bool) → b ≡ true → (a || b) ≡ true
or_right true b h = refl
or_right false b h = h

length-without-le : (name : Text) (names : List Text) → length (without name names) ≤ length names
length-without-le name [] = omega arith
length-without-le name (x ∷ xs) = by (length-without-le name xs) (not (pointwise nat_eq x name))
  where
    by : length (without name xs) ≤ length xs → (test : Bool) → length (cond test (x ∷ without name xs) (without name xs)) ≤ suc (length xs)
    by le true = omega arith
    by le false = omega arith

-- without a name that is there, there are fewer
length-without : (name : Text) (names : List Text) → is_among names name ≡ true → length (without name names) < length names
length-without name [] there = absurd cc
length-without name (x ∷ xs) there = by (λ more. length-without name xs more) (pointwise nat_eq x name) refl
  where
    by : (is_among xs name ≡ true → length (without name xs) < length xs) → (test : Bool) → pointwise nat_eq x name ≡ test → length (cond (not test) (x ∷ without name xs) (without name xs)) < suc (length xs)
    by rest true e = omega (arith, length-without-le name xs)
    by rest false e = let fewer = rest (or_true (pointwise nat_eq x name) (is_among xs name) there e) in omega arith

-- another name stays
is_among-without : (name q : Text) (names : List Text) → comes_before name q ≡ true → is_among names q ≡ true → is_among (without name names) q ≡ true
is_among-without name q [] lt there = there
is_among-without name q (x ∷ xs) lt there = by (λ more. is_among-without name q xs lt more) (pointwise nat_eq x name) (pointwise nat_eq x q) refl refl
  where
    by : (is_among xs q ≡ true → is_among (without name xs) q ≡ true) → (first second : Bool) → pointwise nat_eq x name ≡ first → pointwise nat_eq x q ≡ second
        → is_among (cond (not first) (x ∷ without name xs) (without name xs)) q ≡ true
    by rest true true e f =
        let one = is_same_name-true x name e in
        let two = is_same_name-true x q f in
        let same : name ≡ q = sym one ∙ two in
        let no : comes_before name q ≡ false = rw same (comes_before-itself q) in
        absurd (cc (lt, no))
    by rest true false e f = rest (or_true (pointwise nat_eq x q) (is_among xs q) there f)
    by rest false true e f = rw f refl
    by rest false false e f = or_right (pointwise nat_eq x q) (is_among (without name xs) q) (rest (or_true (pointwise nat_eq x q) (is_among xs q) there f))

AreAmong-without : (name : Text) (others names : List Text) → AreNamesAfter name names → AreAmong others names → AreAmong (without name others) names
AreAmong-without name others [] later all = tt
AreAmong-without name others (x ∷ xs) later all = (is_among-without name x others later.0 all.0, AreAmong-without name others xs later.1 all.1)

-- names once each are no more than a list that has them all
pub length-among : (names others : List Text) → NamesRise names → AreAmong others names → length names ≤ length others
length-among [] others rises all = omega arith
length-among (name ∷ names) others rises all =
    let rest : length names ≤ length (without name others) = length-among names (without name others) rises.1 (AreAmong-without name others names rises.0 all.1) in
    let fewer : length (without name others) < length others = length-without name others all.0 in
    omega arith

-- ---- where binary search finds a name

AreNamesAfter-at : (name : Text) (names : List Text) (j : ℕ) (d : Text) → AreNamesAfter name names → j < length names → comes_before name (get_or names j d) ≡ true
AreNamesAfter-at name [] j d later within = absurd (omega arith)
AreNamesAfter-at name (x ∷ xs) zero d later within = later.0
AreNamesAfter-at name (x ∷ xs) (suc j) d later within = AreNamesAfter-at name xs j d later.1 (omega arith)

pub before_first : (names : List Text) (name : Text) → NamesRise names → IsPartitionedBy (λ (other : Text). comes_before other name) names
before_first [] name rises i j d le within earlier = absurd (omega arith)
before_first (x ∷ xs) name rises zero zero d le within earlier = earlier
before_first (x ∷ xs) name rises zero (suc j) d le within earlier =
    comes_before-trans x (get_or xs j d) name (AreNamesAfter-at x xs j d rises.0 (omega arith)) earlier
before_first (x ∷ xs) name rises (suc i) zero d le within earlier = absurd (omega arith)
before_first (x ∷ xs) name rises (suc i) (suc j) d le within earlier = before_first xs name rises.1 i j d (omega arith) (omega arith) earlier

pub splits_before : (names : List Text) (name : Text) → NamesRise names → Splits (λ (other : Text). comes_before other name) names (count_before name names)
splits_before names name rises = Splits-counted (λ (other : Text). comes_before other name) names (before_first names name rises)

pub not_among-after : (name : Text) (names : List Text) → AreNamesAfter name names → is_among names name ≡ false
not_among-after name [] later = refl
not_among-after name (x ∷ xs) later = rw (is_same_name-after x name later.0) (not_among-after name xs later.1)

-- no name is at the place: this one is not among them
pub not_among-no_place : (name : Text) (names : List Text) (i : ℕ) → Splits (λ (other : Text). comes_before other name) names i → slice_get names i ≡ None → is_among names name ≡ false
not_among-no_place name [] i splits none = refl
not_among-no_place name (x ∷ xs) zero splits none = absurd cc
not_among-no_place name (x ∷ xs) (suc i) splits none = rw (is_same_name-before x name splits.0) (not_among-no_place name xs i splits.1 none)

-- a name is at the place: this one is among them if they are one
pub among-place : (name : Text) (names : List Text) (i : ℕ) (found : Text) → NamesRise names → Splits (λ (other : Text). comes_before other name) names i → slice_get names i ≡ Some found
    → is_among names name ≡ pointwise nat_eq found name
among-place name [] i found rises splits here = absurd cc
among-place name (x ∷ xs) zero found rises splits here = by (comes_before name x) refl
  where
    one : x ≡ found
    one = cc

    first : (test : Bool) → pointwise nat_eq x name ≡ test → (test ≡ true) ⊎ (is_among xs name ≡ false) → (test || is_among xs name) ≡ test
    first true e known = refl
    first false e (inl passes) = absurd cc
    first false e (inr none) = none

    by : (test : Bool) → comes_before name x ≡ test → (pointwise nat_eq x name || is_among xs name) ≡ pointwise nat_eq found name
    by true lt =
        first (pointwise nat_eq x name) refl (inr (not_among-after name xs (AreNamesAfter-trans name x xs lt rises.0)))
        ∙ ap (λ (t : Text). pointwise nat_eq t name) one
    by false ge =
        let same : x ≡ name = comes_before-neither x name splits.0 ge in
        let yes : pointwise nat_eq x name ≡ true = rw same (is_same_name-refl name) in
        first (pointwise nat_eq x name) refl (inl yes) ∙ ap (λ (t : Text). pointwise nat_eq t name) one
among-place name (x ∷ xs) (suc i) found rises splits here =
    rw (is_same_name-before x name splits.0) (among-place name xs i found rises.1 splits.1 here)

-- ---- a name at its place

after-all : (name : Text) (names : List Text) → AreNamesAfter name names → after name names ≡ names
after-all name [] later = refl
after-all name (x ∷ xs) later = rw later.0 (ap (λ (l : List Text). x ∷ l) (after-all name xs later.1))

-- a name that is there has its place
pub with_name-among : (name : Text) (names : List Text) → NamesRise names → is_among names name ≡ true → names ≡ with_name name names
with_name-among name [] rises there = absurd cc
with_name-among name (x ∷ xs) rises there = by (λ more. with_name-among name xs rises.1 more) (comes_before x name) (comes_before name x) refl refl
  where
    by : (is_among xs name ≡ true → xs ≡ with_name name xs) → (first second : Bool) → comes_before x name ≡ first → comes_before name x ≡ second
        → x ∷ xs ≡ cond first (x ∷ before name xs) (before name xs) ++ name ∷ cond second (x ∷ after name xs) (after name xs)
    by rest true true e f = absurd (let no = comes_before-one_way x name e in cc)
    by rest true false e f = ap (λ (l : List Text). x ∷ l) (rest (or_true (pointwise nat_eq x name) (is_among xs name) there (is_same_name-before x name e)))
    by rest false true e f =
        let none = not_among-after name (x ∷ xs) (f, AreNamesAfter-trans name x xs f rises.0) in
        absurd (let both = sym none ∙ there in cc)
    by rest false false e f =
        let same : x ≡ name = comes_before-neither x name e f in
        let later : AreNamesAfter name xs = subst (λ (t : Text). AreNamesAfter t xs) same rises.0 in
        rw (before-none name xs later, after-all name xs later) (ap (λ (t : Text). t ∷ xs) same)

not_before-after : (name : Text) (names : List Text) → is_among names name ≡ false → filter (λ other. not (comes_before other name)) names ≡ after name names
not_before-after name [] none = refl
not_before-after name (x ∷ xs) none = by (λ nowhere. not_before-after name xs nowhere) (pointwise nat_eq x name) refl none
  where
    other_way : pointwise nat_eq x name ≡ false → (first second : Bool) → comes_before x name ≡ first → comes_before name x ≡ second → not first ≡ second
    other_way apart true true e f = absurd (let no = comes_before-one_way x name e in cc)
    other_way apart true false e f = refl
    other_way apart false true e f = refl
    other_way apart false false e f =
        let same : x ≡ name = comes_before-neither x name e f in
        let yes : pointwise nat_eq x name ≡ true = rw same (is_same_name-refl name) in
        absurd (cc (yes, apart))

    by : (is_among xs name ≡ false → filter (λ other. not (comes_before other name)) xs ≡ after name xs) → (test : Bool) → pointwise nat_eq x name ≡ test → (test || is_among xs name) ≡ false
        → filter (λ other. not (comes_before other name)) (x ∷ xs) ≡ after name (x ∷ xs)
    by rest true e nowhere = absurd cc
    by rest false e nowhere =
        rw (other_way e (comes_before x name) (comes_before name x) refl refl) (ap (λ (l : List Text). cond (comes_before name x) (x ∷ l) l) (rest nowhere))

take-Splits : (p : Text → Bool) (xs : List Text) (i : ℕ) → Splits p xs i → take i xs ≡ filter p xs
take-Splits p [] i splits = take-nil i
take-Splits p (x ∷ xs) zero splits = rw splits.0 (take-Splits p xs zero splits.1)
take-Splits p (x ∷ xs) (suc i) splits = rw splits.0 (ap (λ (l : List Text). x ∷ l) (take-Splits p xs i splits.1))

-- a name that is not there comes to its place
pub with_name-insert : (name : Text) (names : List Text) → NamesRise names → is_among names name ≡ false → insert names (count_before name names) name ≡ with_name name names
with_name-insert name names rises none =
    let first : Text → Bool = λ other. comes_before other name in
    let splits = splits_before names name rises in
    let front : take (count_before name names) names ≡ before name names = take-Splits first names (count_before name names) splits in
    let back : drop (count_before name names) names ≡ after name names = drop-Splits first names (count_before name names) splits ∙ not_before-after name names none in
    ap (λ (l : List Text). l ++ name ∷ drop (count_before name names) names) front ∙ ap (λ (l : List Text). before name names ++ name ∷ l) back
