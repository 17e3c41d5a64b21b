-- Consumers in byte order: where binary search finds one, and what is left with one more, one seen again or one gone.
use Rattle.std.proofs.Common.{◌≡◌, ℕ, zero, suc, ◌+◌, ◌<◌, Bool, true, false, cond, not, ◌||◌, List, [], ◌∷◌, ◌++◌, length, get_or, set, take, drop, filter, slice_get, Some, None, option_map, inl, inr, refl, ap, sym, ◌∙◌, arith}
use Rattle.std.proofs.Math.Seq.{take-nil}
use Rattle.std.proofs.lemmas.Bool.{cases_lt}
use Rattle.std.specs.List.{All, insert}
use Rattle.std.specs.List.Sorted.{IsPartitionedBy}
use Rattle.std.proofs.lemmas.List.Elements.{All-append, All-cons, All-filter}
use Rattle.std.proofs.lemmas.List.Folds.{list_any-append}
use Rattle.sr_bytes.specs.{comes_before}
use Rattle.sr_pending.specs.{is_same_name}
use Rattle.sr_pending.proofs.Splitting.{Splits, Splits-counted, drop-Splits}
use Rattle.sr_group.specs.declared.consumer.Consumer.{Consumer}
use Rattle.sr_group.specs.Group.{AreAfter, AreInOrder, consumer_with, has_consumer, seen_at, without_consumer}
use Rattle.sr_group.specs.steps.Consumers.{before}
use Rattle.sr_group.proofs.NameLemmas.{comes_before-trans, comes_before-itself, comes_before-one_way, comes_before-neither, is_same_name-refl, is_same_name-true, is_same_name-before, is_same_name-after}

-- ---- the consumers before a name come first

AreAfter-at : (name : List ℕ) (xs : List Consumer) (j : ℕ) (d : Consumer) → AreAfter name xs → j < length xs → comes_before name (get_or xs j d).name ≡ true
AreAfter-at name [] j d after within = absurd (omega arith)
AreAfter-at name (x ∷ xs) zero d after within = after.0
AreAfter-at name (x ∷ xs) (suc j) d after within = AreAfter-at name xs j d after.1 (omega arith)

AreInOrder-at : (xs : List Consumer) (i j : ℕ) (d : Consumer) → AreInOrder xs → i < j → j < length xs → comes_before (get_or xs i d).name (get_or xs j d).name ≡ true
AreInOrder-at [] i j d order lt within = absurd (omega arith)
AreInOrder-at (x ∷ xs) i zero d order lt within = absurd (omega arith)
AreInOrder-at (x ∷ xs) zero (suc j) d order lt within = AreAfter-at x.name xs j d order.0 (omega arith)
AreInOrder-at (x ∷ xs) (suc i) (suc j) d order lt within = AreInOrder-at xs i j d order.1 (omega arith) (omega arith)

pub before_first : (xs : List Consumer) (name : List ℕ) → AreInOrder xs → IsPartitionedBy (λ (c : Consumer). comes_before c.name name) xs
before_first xs name order i j d le within earlier =
    elim (cases_lt i j) [
      | inl lt ↦ comes_before-trans (get_or xs i d).name (get_or xs j d).name name (AreInOrder-at xs i j d order lt within) earlier
      | inr ge ↦ let same : j ≡ i = omega arith in rw same at earlier
    ]

-- a name before the first of them is before all
pub AreAfter-before : (a b : List ℕ) (xs : List Consumer) → comes_before a b ≡ true → AreAfter b xs → AreAfter a xs
AreAfter-before a b [] lt after = tt
AreAfter-before a b (x ∷ xs) lt after = (comes_before-trans a b x.name lt after.0, AreAfter-before a b xs lt after.1)

AreAfter-get : (name : List ℕ) (xs : List Consumer) (i : ℕ) (x : Consumer) → AreAfter name xs → slice_get xs i ≡ Some x → comes_before name x.name ≡ true
AreAfter-get name [] i x after found = cc
AreAfter-get name (y ∷ ys) zero x after found =
    let same : y ≡ x = cc in
    rw same at after.0
AreAfter-get name (y ∷ ys) (suc i) x after found = AreAfter-get name ys i x after.1 found

-- ---- whether a consumer is there

pub has_consumer-after : (name : List ℕ) (xs : List Consumer) → AreAfter name xs → has_consumer name xs ≡ false
has_consumer-after name [] after = refl
has_consumer-after name (x ∷ xs) after = rw (is_same_name-after x.name name after.0) (has_consumer-after name xs after.1)

pub has_consumer-not_first : (name : List ℕ) (x : Consumer) (xs : List Consumer) → has_consumer name (x ∷ xs) ≡ false → (is_same_name x.name name ≡ false) × (has_consumer name xs ≡ false)
has_consumer-not_first name x xs none = by (is_same_name x.name name) refl
  where
    by : (test : Bool) → is_same_name x.name name ≡ test → (test ≡ false) × (has_consumer name xs ≡ false)
    by true e = absurd (let yes = rw e at none in cc)
    by false e = (refl, rw e at none)

pub has_consumer-place : (name : List ℕ) (xs : List Consumer) (i : ℕ) (x : Consumer) → slice_get xs i ≡ Some x → x.name ≡ name → has_consumer name xs ≡ true
has_consumer-place name [] i x here same = cc
has_consumer-place name (y ∷ ys) zero x here same =
    let first : y ≡ x = cc in
    let test : is_same_name y.name name ≡ true = rw (first, same) (is_same_name-refl name) in
    rw test
has_consumer-place name (y ∷ ys) (suc i) x here same = by (has_consumer-place name ys i x here same) (is_same_name y.name name)
  where
    by : has_consumer name ys ≡ true → (test : Bool) → (test || has_consumer name ys) ≡ true
    by rest true = refl
    by rest false = rest

pub has_consumer-no_place : (name : List ℕ) (xs : List Consumer) (i : ℕ) → AreInOrder xs → Splits (λ (c : Consumer). comes_before c.name name) xs i → ((x : Consumer) → slice_get xs i ≡ Some x → x.name ≡ name → ⊥) → has_consumer name xs ≡ false
has_consumer-no_place name [] i order splits other = refl
has_consumer-no_place name (y ∷ ys) zero order splits other = by (comes_before name y.name) refl
  where
    by : (test : Bool) → comes_before name y.name ≡ test → has_consumer name (y ∷ ys) ≡ false
    by true lt = has_consumer-after name (y ∷ ys) (lt, AreAfter-before name y.name ys lt order.0)
    by false ge = absurd (other y refl (comes_before-neither y.name name splits.0 ge))
has_consumer-no_place name (y ∷ ys) (suc i) order splits other =
    rw (is_same_name-before y.name name splits.0) (has_consumer-no_place name ys i order.1 splits.1 other)

before_place : (name : List ℕ) (y : Consumer) (ys : List Consumer) (i : ℕ) (x : Consumer) → AreAfter y.name ys → slice_get ys i ≡ Some x → x.name ≡ name → comes_before y.name name ≡ true
before_place name y ys i x after here same = rw same at (AreAfter-get y.name ys i x after here)

-- ---- the one with a name

-- the consumer at its place is the one with the name
pub consumer_with-place : (name : List ℕ) (xs : List Consumer) (i : ℕ) (x d : Consumer) → AreInOrder xs → slice_get xs i ≡ Some x → x.name ≡ name → Some (get_or xs i d).seen ≡ option_map (λ c. c.seen) (consumer_with name xs)
consumer_with-place name [] i x d order here same = cc
consumer_with-place name (y ∷ ys) zero x d order here same =
    let first : y ≡ x = cc in
    let test : is_same_name y.name name ≡ true = rw (first, same) (is_same_name-refl name) in
    rw test refl
consumer_with-place name (y ∷ ys) (suc i) x d order here same =
    rw (is_same_name-before y.name name (before_place name y ys i x order.0 here same)) (consumer_with-place name ys i x d order.1 here same)

pub consumer_with-none : (name : List ℕ) (xs : List Consumer) → has_consumer name xs ≡ false → None ≡ option_map (λ (c : Consumer). c.seen) (consumer_with name xs)
consumer_with-none name [] none = refl
consumer_with-none name (x ∷ xs) none =
    let parts = has_consumer-not_first name x xs none in
    rw parts.0 (consumer_with-none name xs parts.1)

-- ---- without one

without-none : (name : List ℕ) (xs : List Consumer) → has_consumer name xs ≡ false → without_consumer name xs ≡ xs
without-none name [] none = refl
without-none name (x ∷ xs) none =
    let parts = has_consumer-not_first name x xs none in
    rw parts.0 (ap (λ (l : List Consumer). x ∷ l) (without-none name xs parts.1))

pub without_consumer-none : (name : List ℕ) (xs : List Consumer) → has_consumer name xs ≡ false → xs ≡ without_consumer name xs
without_consumer-none name xs none = sym (without-none name xs none)

without-place : (name : List ℕ) (xs : List Consumer) (i : ℕ) (x : Consumer) → AreInOrder xs → slice_get xs i ≡ Some x → x.name ≡ name → take i xs ++ drop (suc i) xs ≡ without_consumer name xs
without-place name [] i x order here same = cc
without-place name (y ∷ ys) zero x order here same =
    let first : y ≡ x = cc in
    let first_name : y.name ≡ name = ap (λ (c : Consumer). c.name) first ∙ same in
    let test : is_same_name y.name name ≡ true = rw first_name (is_same_name-refl name) in
    let after : AreAfter name ys = rw first_name at order.0 in
    rw test (sym (without-none name ys (has_consumer-after name ys after)))
without-place name (y ∷ ys) (suc i) x order here same =
    rw (is_same_name-before y.name name (before_place name y ys i x order.0 here same)) (ap (λ (l : List Consumer). y ∷ l) (without-place name ys i x order.1 here same))

pub without_consumer-removed : (name : List ℕ) (xs ys : List Consumer) (i : ℕ) (x : Consumer) → AreInOrder xs → slice_get xs i ≡ Some x → x.name ≡ name → ys ≡ take i xs ++ drop (i + 1) xs → ys ≡ without_consumer name xs
without_consumer-removed name xs ys i x order here same removed =
    let more : i + 1 ≡ suc i = omega arith in
    removed ∙ ap (λ (n : ℕ). take i xs ++ drop n xs) more ∙ without-place name xs i x order here same

-- ---- one that is seen

abbrev earlier : List ℕ → List Consumer → List Consumer
earlier name xs = filter (λ c. comes_before c.name name) xs

abbrev later : List ℕ → List Consumer → List Consumer
later name xs = filter (λ c. comes_before name c.name) xs

earlier-none : (name : List ℕ) (xs : List Consumer) → AreAfter name xs → earlier name xs ≡ []
earlier-none name [] after = refl
earlier-none name (x ∷ xs) after = rw (comes_before-one_way name x.name after.0) (earlier-none name xs after.1)

later-all : (name : List ℕ) (xs : List Consumer) → AreAfter name xs → later name xs ≡ xs
later-all name [] after = refl
later-all name (x ∷ xs) after = rw after.0 (ap (λ (l : List Consumer). x ∷ l) (later-all name xs after.1))

-- the consumer at its place is seen again
set-place : (name : List ℕ) (moment : ℕ) (xs : List Consumer) (i : ℕ) (x : Consumer) → AreInOrder xs → slice_get xs i ≡ Some x → x.name ≡ name → set xs i (record { name = name; seen = moment }) ≡ seen_at name moment xs
set-place name moment [] i x order here same = cc
set-place name moment (y ∷ ys) zero x order here same =
    let first : y ≡ x = cc in
    let first_name : y.name ≡ name = ap (λ (c : Consumer). c.name) first ∙ same in
    let not_earlier : comes_before y.name name ≡ false = rw first_name (comes_before-itself name) in
    let not_later : comes_before name y.name ≡ false = rw first_name (comes_before-itself name) in
    let after : AreAfter name ys = rw first_name at order.0 in
    let now : Consumer = record { name = name; seen = moment } in
    rw (not_earlier, not_later, earlier-none name ys after) (ap (λ (l : List Consumer). now ∷ l) (sym (later-all name ys after)))
set-place name moment (y ∷ ys) (suc i) x order here same =
    let lt = before_place name y ys i x order.0 here same in
    rw (lt, comes_before-one_way y.name name lt) (ap (λ (l : List Consumer). y ∷ l) (set-place name moment ys i x order.1 here same))

pub seen_at-set : (name : List ℕ) (moment : ℕ) (xs : List Consumer) (i : ℕ) (x : Consumer) → AreInOrder xs → slice_get xs i ≡ Some x → x.name ≡ name → set xs i (record { name = name; seen = moment }) ≡ seen_at name moment xs
seen_at-set = set-place

-- a consumer that was not there comes to its place
not_earlier-later : (name : List ℕ) (xs : List Consumer) → has_consumer name xs ≡ false → filter (λ c. not (comes_before c.name name)) xs ≡ later name xs
not_earlier-later name [] none = refl
not_earlier-later name (x ∷ xs) none =
    let parts = has_consumer-not_first name x xs none in
    rw (by (comes_before x.name name) refl) (ap (λ (l : List Consumer). cond (comes_before name x.name) (x ∷ l) l) (not_earlier-later name xs parts.1))
  where
    apart : is_same_name x.name name ≡ false
    apart = (has_consumer-not_first name x xs none).0

    neither : comes_before x.name name ≡ false → (test : Bool) → comes_before name x.name ≡ test → true ≡ test
    neither ge true e = refl
    neither ge false e =
        let same = comes_before-neither x.name name ge e in
        let yes : is_same_name x.name name ≡ true = rw same (is_same_name-refl name) in
        absurd (cc (yes, apart))

    by : (test : Bool) → comes_before x.name name ≡ test → not test ≡ comes_before name x.name
    by true e = sym (comes_before-one_way x.name name e)
    by false e = neither e (comes_before name x.name) refl

take-Splits : {X : Type 0} (p : X → Bool) (xs : List X) (i : ℕ) → Splits p xs i → take i xs ≡ filter p xs
take-Splits p [] i splits = take-nil i
take-Splits p (x ∷ xs) zero splits = rw splits.0 (take-Splits p xs zero splits.1)
take-Splits p (x ∷ xs) (suc i) splits = rw splits.0 (ap (λ (l : List _). x ∷ l) (take-Splits p xs i splits.1))

pub seen_at-insert : (name : List ℕ) (moment : ℕ) (xs : List Consumer) → AreInOrder xs → has_consumer name xs ≡ false → insert xs (before name xs) (record { name = name; seen = moment }) ≡ seen_at name moment xs
seen_at-insert name moment xs order none =
    let first : Consumer → Bool = λ c. comes_before c.name name in
    let now : Consumer = record { name = name; seen = moment } in
    let splits = Splits-counted first xs (before_first xs name order) in
    let front : take (before name xs) xs ≡ filter first xs = take-Splits first xs (before name xs) splits in
    let back : drop (before name xs) xs ≡ later name xs = drop-Splits first xs (before name xs) splits ∙ not_earlier-later name xs none in
    ap (λ (l : List Consumer). l ++ now ∷ drop (before name xs) xs) front ∙ ap (λ (l : List Consumer). filter first xs ++ now ∷ l) back

-- ---- what a group keeps

AreAfter-filter : (name : List ℕ) (p : Consumer → Bool) (xs : List Consumer) → AreAfter name xs → AreAfter name (filter p xs)
AreAfter-filter name p [] after = tt
AreAfter-filter name p (x ∷ xs) after = by (AreAfter-filter name p xs after.1) (p x)
  where
    by : AreAfter name (filter p xs) → (test : Bool) → AreAfter name (cond test (x ∷ filter p xs) (filter p xs))
    by rest true = (after.0, rest)
    by rest false = rest

pub AreInOrder-filter : (p : Consumer → Bool) (xs : List Consumer) → AreInOrder xs → AreInOrder (filter p xs)
AreInOrder-filter p [] order = tt
AreInOrder-filter p (x ∷ xs) order = by (AreInOrder-filter p xs order.1) (p x)
  where
    by : AreInOrder (filter p xs) → (test : Bool) → AreInOrder (cond test (x ∷ filter p xs) (filter p xs))
    by rest true = (AreAfter-filter x.name p xs order.0, rest)
    by rest false = rest

AreAfter-later : (name : List ℕ) (xs : List Consumer) → AreAfter name (later name xs)
AreAfter-later name [] = tt
AreAfter-later name (x ∷ xs) = by (AreAfter-later name xs) (comes_before name x.name) refl
  where
    by : AreAfter name (later name xs) → (test : Bool) → comes_before name x.name ≡ test → AreAfter name (cond test (x ∷ later name xs) (later name xs))
    by rest true e = (e, rest)
    by rest false e = rest

-- all come before the name
abbrev AreBefore : List ℕ → List Consumer → Type 0
AreBefore name [] = Unit {0}
AreBefore name (x ∷ xs) = (comes_before x.name name ≡ true) × AreBefore name xs

AreBefore-earlier : (name : List ℕ) (xs : List Consumer) → AreBefore name (earlier name xs)
AreBefore-earlier name [] = tt
AreBefore-earlier name (x ∷ xs) = by (AreBefore-earlier name xs) (comes_before x.name name) refl
  where
    by : AreBefore name (earlier name xs) → (test : Bool) → comes_before x.name name ≡ test → AreBefore name (cond test (x ∷ earlier name xs) (earlier name xs))
    by rest true e = (e, rest)
    by rest false e = rest

AreAfter-join : (name : List ℕ) (xs : List Consumer) (c : Consumer) (ys : List Consumer) → AreAfter name xs → comes_before name c.name ≡ true → AreAfter name ys → AreAfter name (xs ++ c ∷ ys)
AreAfter-join name [] c ys after here behind = (here, behind)
AreAfter-join name (x ∷ xs) c ys after here behind = (after.0, AreAfter-join name xs c ys after.1 here behind)

AreInOrder-join : (xs : List Consumer) (c : Consumer) (ys : List Consumer) → AreInOrder xs → AreBefore c.name xs → AreAfter c.name ys → AreInOrder ys → AreInOrder (xs ++ c ∷ ys)
AreInOrder-join [] c ys order first after rest = (after, rest)
AreInOrder-join (x ∷ xs) c ys order first after rest =
    (AreAfter-join x.name xs c ys order.0 first.0 (AreAfter-before x.name c.name ys first.0 after), AreInOrder-join xs c ys order.1 first.1 after rest)

pub AreInOrder-seen_at : (name : List ℕ) (moment : ℕ) (xs : List Consumer) → AreInOrder xs → AreInOrder (seen_at name moment xs)
AreInOrder-seen_at name moment xs order =
    AreInOrder-join (earlier name xs) (record { name = name; seen = moment }) (later name xs) (AreInOrder-filter (λ c. comes_before c.name name) xs order) (AreBefore-earlier name xs) (AreAfter-later name xs) (AreInOrder-filter (λ c. comes_before name c.name) xs order)

pub All-seen_at : (P : Consumer → Type 0) (name : List ℕ) (moment : ℕ) (xs : List Consumer) → P (record { name = name; seen = moment }) → All P xs → All P (seen_at name moment xs)
All-seen_at P name moment xs here all =
    All-append P (earlier name xs) (record { name = name; seen = moment } ∷ later name xs) (All-filter (λ c. comes_before c.name name) P xs all) (All-cons P (record { name = name; seen = moment }) (later name xs) here (All-filter (λ c. comes_before name c.name) P xs all))

-- ---- who is there after it

has_consumer-filter : (p : List ℕ → Bool) (other : List ℕ) (xs : List Consumer) → p other ≡ true → has_consumer other xs ≡ true → has_consumer other (filter (λ c. p c.name) xs) ≡ true
has_consumer-filter p other [] passes there = there
has_consumer-filter p other (x ∷ xs) passes there = by (λ rest. has_consumer-filter p other xs passes rest) (is_same_name x.name other) refl there
  where
    kept : p x.name ≡ true → is_same_name x.name other ≡ true → has_consumer other (filter (λ c. p c.name) (x ∷ xs)) ≡ true
    kept passed same = rw (passed, same)

    or_more : has_consumer other (filter (λ c. p c.name) xs) ≡ true → (test : Bool) → has_consumer other (cond test (x ∷ filter (λ c. p c.name) xs) (filter (λ c. p c.name) xs)) ≡ true
    or_more rest true = more (is_same_name x.name other)
      where
        more : (test : Bool) → (test || has_consumer other (filter (λ c. p c.name) xs)) ≡ true
        more true = refl
        more false = rest
    or_more rest false = rest

    by : (has_consumer other xs ≡ true → has_consumer other (filter (λ c. p c.name) xs) ≡ true) → (test : Bool) → is_same_name x.name other ≡ test → (test || has_consumer other xs) ≡ true → has_consumer other (filter (λ c. p c.name) (x ∷ xs)) ≡ true
    by others true same there =
        let passed : p x.name ≡ true = rw (is_same_name-true x.name other same) passes in
        kept passed same
    by others false same there = or_more (others there) (p x.name)

or_left : (a b : Bool) → a ≡ true → (a || b) ≡ true
or_left true b e = refl
or_left false b e = absurd cc

or_right : (a b : Bool) → b ≡ true → (a || b) ≡ true
or_right true b e = refl
or_right false b e = e

-- the consumer that is seen is there
pub has_consumer-seen : (name : List ℕ) (moment : ℕ) (xs : List Consumer) → has_consumer name (seen_at name moment xs) ≡ true
has_consumer-seen name moment xs =
    let now : Consumer = record { name = name; seen = moment } in
    let test : Consumer → Bool = λ c. is_same_name c.name name in
    list_any-append test (earlier name xs) (now ∷ later name xs)
    ∙ or_right (has_consumer name (earlier name xs)) (has_consumer name (now ∷ later name xs)) (or_left (is_same_name name name) (has_consumer name (later name xs)) (is_same_name-refl name))

-- and so are those that were there
pub has_consumer-seen_at : (name other : List ℕ) (moment : ℕ) (xs : List Consumer) → has_consumer other xs ≡ true → has_consumer other (seen_at name moment xs) ≡ true
has_consumer-seen_at name other moment xs there = by (comes_before other name) refl
  where
    split : has_consumer other (seen_at name moment xs) ≡ (has_consumer other (earlier name xs) || (is_same_name name other || has_consumer other (later name xs)))
    split = list_any-append (λ c. is_same_name c.name other) (earlier name xs) (record { name = name; seen = moment } ∷ later name xs)

    behind : comes_before other name ≡ false → (b : Bool) → comes_before name other ≡ b → has_consumer other (seen_at name moment xs) ≡ true
    behind ge true lt =
        split ∙ or_right (has_consumer other (earlier name xs)) (is_same_name name other || has_consumer other (later name xs)) (or_right (is_same_name name other) (has_consumer other (later name xs)) (has_consumer-filter (λ n. comes_before name n) other xs lt there))
    behind ge false ge2 =
        let same = comes_before-neither other name ge ge2 in
        let yes : is_same_name name other ≡ true = rw same (is_same_name-refl name) in
        split ∙ or_right (has_consumer other (earlier name xs)) (is_same_name name other || has_consumer other (later name xs)) (or_left (is_same_name name other) (has_consumer other (later name xs)) yes)

    by : (b : Bool) → comes_before other name ≡ b → has_consumer other (seen_at name moment xs) ≡ true
    by true lt = split ∙ or_left (has_consumer other (earlier name xs)) (is_same_name name other || has_consumer other (later name xs)) (has_consumer-filter (λ n. comes_before n name) other xs lt there)
    by false ge = behind ge (comes_before name other) refl

-- another than the one that goes stays
pub has_consumer-without : (name other : List ℕ) (xs : List Consumer) → is_same_name other name ≡ false → has_consumer other xs ≡ true → has_consumer other (without_consumer name xs) ≡ true
has_consumer-without name other xs apart there = has_consumer-filter (λ n. not (is_same_name n name)) other xs (ap not apart) there
