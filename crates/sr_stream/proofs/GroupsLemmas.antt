-- Groups in byte order of their names: where binary search finds one, and what is left with one more, one changed or one gone.
use Rattle.std.proofs.Common.{◌≡◌, ℕ, zero, suc, ◌+◌, ◌<◌, Bool, true, false, cond, not, ◌||◌, List, [], ◌∷◌, ◌++◌, length, get_or, set, take, drop, filter, slice_get, Option, Some, None, inl, inr, refl, ap, sym, ◌∙◌, arith}
use Rattle.std.proofs.Math.Seq.{take-nil}
use Rattle.std.proofs.lemmas.List.{take_more}
use Rattle.std.proofs.lemmas.Bool.{cases_lt}
use Rattle.std.proofs.lemmas.Option.{slice_get_read}
use Rattle.std.specs.List.{insert}
use Rattle.std.specs.List.Sorted.{IsPartitionedBy}
use Rattle.std.specs.Option.{option_map, is_some, IfSome, IfNone}
use Rattle.sr_bytes.specs.{comes_before}
use Rattle.sr_ids.specs.declared.id.Id.{Id}
use Rattle.sr_pending.specs.{is_same_name}
use Rattle.sr_pending.proofs.Splitting.{Splits, Splits-counted, drop-Splits}
use Rattle.sr_group.specs.{GroupState, KeptGroup}
use Rattle.sr_group.proofs.NameLemmas.{comes_before-trans, comes_before-itself, comes_before-one_way, comes_before-neither, is_same_name-refl, is_same_name-true, is_same_name-before, is_same_name-after}
use Rattle.sr_stream.specs.Groups.{ByName, AreAfter, AreInOrder, has_group, group_with, with_group, without_group, shown_groups, with_last}
use Rattle.sr_stream.specs.steps.Places.{IsPlace, before}

take-Splits : {X : Type 0} (p : X → Bool) (xs : List X) (i : ℕ) → Splits p xs i → take i xs ≡ filter p xs
take-Splits p [] i splits = take-nil i
take-Splits p (x ∷ xs) zero splits = rw splits.0 (take-Splits p xs zero splits.1)
take-Splits p (x ∷ xs) (suc i) splits = rw splits.0 (ap (λ (l : List _). x ∷ l) (take-Splits p xs i splits.1))

module _ {G : Type 0} where
  -- ---- the groups before a name come first

  AreAfter-at : (name : List ℕ) (xs : ByName G) (j : ℕ) (d : List ℕ × G) → AreAfter name xs → j < length xs → comes_before name (get_or xs j d).0 ≡ true
  AreAfter-at name [] j d after within = absurd (omega arith)
  AreAfter-at name (x ∷ xs) zero d after within = after.0
  AreAfter-at name (x ∷ xs) (suc j) d after within = AreAfter-at name xs j d after.1 (omega arith)

  AreInOrder-at : (xs : ByName G) (i j : ℕ) (d : List ℕ × G) → AreInOrder xs → i < j → j < length xs → comes_before (get_or xs i d).0 (get_or xs j d).0 ≡ true
  AreInOrder-at [] i j d order lt within = absurd (omega arith)
  AreInOrder-at (x ∷ xs) i zero d order lt within = absurd (omega arith)
  AreInOrder-at (x ∷ xs) zero (suc j) d order lt within = AreAfter-at x.0 xs j d order.0 (omega arith)
  AreInOrder-at (x ∷ xs) (suc i) (suc j) d order lt within = AreInOrder-at xs i j d order.1 (omega arith) (omega arith)

  pub before_first : (xs : ByName G) (name : List ℕ) → AreInOrder xs → IsPartitionedBy (λ (x : List ℕ × G). comes_before x.0 name) xs
  before_first xs name order i j d le within earlier =
      elim (cases_lt i j) [
        | inl lt ↦ comes_before-trans (get_or xs i d).0 (get_or xs j d).0 name (AreInOrder-at xs i j d order lt within) earlier
        | inr ge ↦ let same : j ≡ i = omega arith in rw same at earlier
      ]

  -- a name before the first of them is before all
  AreAfter-before : (a b : List ℕ) (xs : ByName G) → comes_before a b ≡ true → AreAfter b xs → AreAfter a xs
  AreAfter-before a b [] lt after = tt
  AreAfter-before a b (x ∷ xs) lt after = (comes_before-trans a b x.0 lt after.0, AreAfter-before a b xs lt after.1)

  AreAfter-get : (name other : List ℕ) (g : G) (xs : ByName G) (i : ℕ) → AreAfter name xs → slice_get xs i ≡ Some (other, g) → comes_before name other ≡ true
  AreAfter-get name other g [] i after found = cc
  AreAfter-get name other g (y ∷ ys) zero after found =
      let same : y ≡ (other, g) = cc in
      let there : y.0 ≡ other = ap (λ (x : List ℕ × G). x.0) same in
      rw there at after.0
  AreAfter-get name other g (y ∷ ys) (suc i) after found = AreAfter-get name other g ys i after.1 found

  -- ---- whether a group is there

  has_group-after : (name : List ℕ) (xs : ByName G) → AreAfter name xs → has_group name xs ≡ false
  has_group-after name [] after = refl
  has_group-after name (x ∷ xs) after = rw (is_same_name-after x.0 name after.0) (has_group-after name xs after.1)

  has_group-not_first : (name : List ℕ) (x : List ℕ × G) (xs : ByName G) → has_group name (x ∷ xs) ≡ false → (is_same_name x.0 name ≡ false) × (has_group name xs ≡ false)
  has_group-not_first name x xs none = by (is_same_name x.0 name) refl
    where
      by : (test : Bool) → is_same_name x.0 name ≡ test → (test ≡ false) × (has_group name xs ≡ false)
      by true e = absurd (let yes = rw e at none in cc)
      by false e = (refl, rw e at none)

  pub has_group-place : (name : List ℕ) (g : G) (xs : ByName G) (i : ℕ) → slice_get xs i ≡ Some (name, g) → has_group name xs ≡ true
  has_group-place name g [] i here = cc
  has_group-place name g (y ∷ ys) zero here =
      let first : y ≡ (name, g) = cc in
      let test : is_same_name y.0 name ≡ true = rw (ap (λ (x : List ℕ × G). x.0) first) (is_same_name-refl name) in
      rw test
  has_group-place name g (y ∷ ys) (suc i) here = by (has_group-place name g ys i here) (is_same_name y.0 name)
    where
      by : has_group name ys ≡ true → (test : Bool) → (test || has_group name ys) ≡ true
      by rest true = refl
      by rest false = rest

  pub has_group-no_place : (name : List ℕ) (xs : ByName G) (i : ℕ) → AreInOrder xs → Splits (λ (x : List ℕ × G). comes_before x.0 name) xs i → ((x : List ℕ × G) → slice_get xs i ≡ Some x → x.0 ≡ name → ⊥) → has_group name xs ≡ false
  has_group-no_place name [] i order splits other = refl
  has_group-no_place name (y ∷ ys) zero order splits other = by (comes_before name y.0) refl
    where
      by : (test : Bool) → comes_before name y.0 ≡ test → has_group name (y ∷ ys) ≡ false
      by true lt = has_group-after name (y ∷ ys) (lt, AreAfter-before name y.0 ys lt order.0)
      by false ge = absurd (other y refl (comes_before-neither y.0 name splits.0 ge))
  has_group-no_place name (y ∷ ys) (suc i) order splits other =
      rw (is_same_name-before y.0 name splits.0) (has_group-no_place name ys i order.1 splits.1 other)

  -- ---- the group of a name

  pub group_with-place : (name : List ℕ) (g : G) (xs : ByName G) (i : ℕ) → AreInOrder xs → slice_get xs i ≡ Some (name, g) → group_with name xs ≡ Some g
  group_with-place name g [] i order here = cc
  group_with-place name g (y ∷ ys) zero order here =
      let first : y ≡ (name, g) = cc in
      let test : is_same_name y.0 name ≡ true = rw (ap (λ (x : List ℕ × G). x.0) first) (is_same_name-refl name) in
      rw test (ap (λ (x : List ℕ × G). Some x.1) first)
  group_with-place name g (y ∷ ys) (suc i) order here =
      rw (is_same_name-before y.0 name (AreAfter-get y.0 name g ys i order.0 here)) (group_with-place name g ys i order.1 here)

  pub group_with-none : (name : List ℕ) (xs : ByName G) → has_group name xs ≡ false → group_with name xs ≡ None
  group_with-none name [] none = refl
  group_with-none name (x ∷ xs) none =
      let parts = has_group-not_first name x xs none in
      rw parts.0 (group_with-none name xs parts.1)

  -- ---- without one

  without-none : (name : List ℕ) (xs : ByName G) → has_group name xs ≡ false → without_group name xs ≡ xs
  without-none name [] none = refl
  without-none name (x ∷ xs) none =
      let parts = has_group-not_first name x xs none in
      rw parts.0 (ap (λ (l : ByName G). x ∷ l) (without-none name xs parts.1))

  pub without_group-none : (name : List ℕ) (xs : ByName G) → has_group name xs ≡ false → xs ≡ without_group name xs
  without_group-none name xs none = sym (without-none name xs none)

  without-place : (name : List ℕ) (g : G) (xs : ByName G) (i : ℕ) → AreInOrder xs → slice_get xs i ≡ Some (name, g) → take i xs ++ drop (suc i) xs ≡ without_group name xs
  without-place name g [] i order here = cc
  without-place name g (y ∷ ys) zero order here =
      let first : y ≡ (name, g) = cc in
      let first_name : y.0 ≡ name = ap (λ (x : List ℕ × G). x.0) first in
      let test : is_same_name y.0 name ≡ true = rw first_name (is_same_name-refl name) in
      let after : AreAfter name ys = rw first_name at order.0 in
      rw test (sym (without-none name ys (has_group-after name ys after)))
  without-place name g (y ∷ ys) (suc i) order here =
      rw (is_same_name-before y.0 name (AreAfter-get y.0 name g ys i order.0 here)) (ap (λ (l : ByName G). y ∷ l) (without-place name g ys i order.1 here))

  pub without_group-removed : (name : List ℕ) (g : G) (xs ys : ByName G) (i : ℕ) → AreInOrder xs → slice_get xs i ≡ Some (name, g) → ys ≡ take i xs ++ drop (i + 1) xs → ys ≡ without_group name xs
  without_group-removed name g xs ys i order here removed =
      let more : i + 1 ≡ suc i = omega arith in
      removed ∙ ap (λ (n : ℕ). take i xs ++ drop n xs) more ∙ without-place name g xs i order here

  -- ---- with one

  abbrev earlier : List ℕ → ByName G → ByName G
  earlier name xs = filter (λ x. comes_before x.0 name) xs

  abbrev later : List ℕ → ByName G → ByName G
  later name xs = filter (λ x. comes_before name x.0) xs

  earlier-none : (name : List ℕ) (xs : ByName G) → AreAfter name xs → earlier name xs ≡ []
  earlier-none name [] after = refl
  earlier-none name (x ∷ xs) after = rw (comes_before-one_way name x.0 after.0) (earlier-none name xs after.1)

  later-all : (name : List ℕ) (xs : ByName G) → AreAfter name xs → later name xs ≡ xs
  later-all name [] after = refl
  later-all name (x ∷ xs) after = rw after.0 (ap (λ (l : ByName G). x ∷ l) (later-all name xs after.1))

  -- the group at its place is another
  pub with_group-set : (name : List ℕ) (g now : G) (xs : ByName G) (i : ℕ) → AreInOrder xs → slice_get xs i ≡ Some (name, g) → set xs i (name, now) ≡ with_group name now xs
  with_group-set name g now [] i order here = cc
  with_group-set name g now (y ∷ ys) zero order here =
      let first : y ≡ (name, g) = cc in
      let first_name : y.0 ≡ name = ap (λ (x : List ℕ × G). x.0) first in
      let not_earlier : comes_before y.0 name ≡ false = rw first_name (comes_before-itself name) in
      let not_later : comes_before name y.0 ≡ false = rw first_name (comes_before-itself name) in
      let after : AreAfter name ys = rw first_name at order.0 in
      let one : List ℕ × G = (name, now) in
      rw (not_earlier, not_later, earlier-none name ys after) (ap (λ (l : ByName G). one ∷ l) (sym (later-all name ys after)))
  with_group-set name g now (y ∷ ys) (suc i) order here =
      let lt = AreAfter-get y.0 name g ys i order.0 here in
      rw (lt, comes_before-one_way y.0 name lt) (ap (λ (l : ByName G). y ∷ l) (with_group-set name g now ys i order.1 here))

  -- a group that was not there comes to its place
  not_earlier-later : (name : List ℕ) (xs : ByName G) → has_group name xs ≡ false → filter (λ x. not (comes_before x.0 name)) xs ≡ later name xs
  not_earlier-later name [] none = refl
  not_earlier-later name (x ∷ xs) none =
      let parts = has_group-not_first name x xs none in
      rw (by (comes_before x.0 name) refl) (ap (λ (l : ByName G). cond (comes_before name x.0) (x ∷ l) l) (not_earlier-later name xs parts.1))
    where
      apart : is_same_name x.0 name ≡ false
      apart = (has_group-not_first name x xs none).0

      neither : comes_before x.0 name ≡ false → (test : Bool) → comes_before name x.0 ≡ test → true ≡ test
      neither ge true e = refl
      neither ge false e =
          let same = comes_before-neither x.0 name ge e in
          let yes : is_same_name x.0 name ≡ true = rw same (is_same_name-refl name) in
          absurd (cc (yes, apart))

      by : (test : Bool) → comes_before x.0 name ≡ test → not test ≡ comes_before name x.0
      by true e = sym (comes_before-one_way x.0 name e)
      by false e = neither e (comes_before name x.0) refl

  pub with_group-insert : (name : List ℕ) (now : G) (xs : ByName G) → AreInOrder xs → has_group name xs ≡ false → insert xs (before name xs) (name, now) ≡ with_group name now xs
  with_group-insert name now xs order none =
      let first : List ℕ × G → Bool = λ x. comes_before x.0 name in
      let one : List ℕ × G = (name, now) in
      let splits = Splits-counted first xs (before_first xs name order) in
      let front : take (before name xs) xs ≡ filter first xs = take-Splits first xs (before name xs) splits in
      let back : drop (before name xs) xs ≡ later name xs = drop-Splits first xs (before name xs) splits ∙ not_earlier-later name xs none in
      ap (λ (l : ByName G). l ++ one ∷ drop (before name xs) xs) front ∙ ap (λ (l : ByName G). filter first xs ++ one ∷ l) back

  -- ---- in order

  AreAfter-filter : (name : List ℕ) (p : List ℕ × G → Bool) (xs : ByName G) → AreAfter name xs → AreAfter name (filter p xs)
  AreAfter-filter name p [] after = tt
  AreAfter-filter name p (x ∷ xs) after = by (AreAfter-filter name p xs after.1) (p x)
    where
      by : AreAfter name (filter p xs) → (test : Bool) → AreAfter name (cond test (x ∷ filter p xs) (filter p xs))
      by rest true = (after.0, rest)
      by rest false = rest

  pub AreInOrder-filter : (p : List ℕ × G → Bool) (xs : ByName G) → AreInOrder xs → AreInOrder (filter p xs)
  AreInOrder-filter p [] order = tt
  AreInOrder-filter p (x ∷ xs) order = by (AreInOrder-filter p xs order.1) (p x)
    where
      by : AreInOrder (filter p xs) → (test : Bool) → AreInOrder (cond test (x ∷ filter p xs) (filter p xs))
      by rest true = (AreAfter-filter x.0 p xs order.0, rest)
      by rest false = rest

  pub AreInOrder-without_group : (name : List ℕ) (xs : ByName G) → AreInOrder xs → AreInOrder (without_group name xs)
  AreInOrder-without_group name xs order = AreInOrder-filter (λ x. not (is_same_name x.0 name)) xs order

  AreAfter-later : (name : List ℕ) (xs : ByName G) → AreAfter name (later name xs)
  AreAfter-later name [] = tt
  AreAfter-later name (x ∷ xs) = by (AreAfter-later name xs) (comes_before name x.0) refl
    where
      by : AreAfter name (later name xs) → (test : Bool) → comes_before name x.0 ≡ test → AreAfter name (cond test (x ∷ later name xs) (later name xs))
      by rest true e = (e, rest)
      by rest false e = rest

  -- all come before the name
  abbrev AreBefore : List ℕ → ByName G → Type 0
  AreBefore name [] = Unit {0}
  AreBefore name (x ∷ xs) = (comes_before x.0 name ≡ true) × AreBefore name xs

  AreBefore-earlier : (name : List ℕ) (xs : ByName G) → AreBefore name (earlier name xs)
  AreBefore-earlier name [] = tt
  AreBefore-earlier name (x ∷ xs) = by (AreBefore-earlier name xs) (comes_before x.0 name) refl
    where
      by : AreBefore name (earlier name xs) → (test : Bool) → comes_before x.0 name ≡ test → AreBefore name (cond test (x ∷ earlier name xs) (earlier name xs))
      by rest true e = (e, rest)
      by rest false e = rest

  AreAfter-join : (name : List ℕ) (xs : ByName G) (c : List ℕ × G) (ys : ByName G) → AreAfter name xs → comes_before name c.0 ≡ true → AreAfter name ys → AreAfter name (xs ++ c ∷ ys)
  AreAfter-join name [] c ys after here behind = (here, behind)
  AreAfter-join name (x ∷ xs) c ys after here behind = (after.0, AreAfter-join name xs c ys after.1 here behind)

  AreInOrder-join : (xs : ByName G) (c : List ℕ × G) (ys : ByName G) → AreInOrder xs → AreBefore c.0 xs → AreAfter c.0 ys → AreInOrder ys → AreInOrder (xs ++ c ∷ ys)
  AreInOrder-join [] c ys order first after rest = (after, rest)
  AreInOrder-join (x ∷ xs) c ys order first after rest =
      (AreAfter-join x.0 xs c ys order.0 first.0 (AreAfter-before x.0 c.0 ys first.0 after), AreInOrder-join xs c ys order.1 first.1 after rest)

  pub AreInOrder-with_group : (name : List ℕ) (now : G) (xs : ByName G) → AreInOrder xs → AreInOrder (with_group name now xs)
  AreInOrder-with_group name now xs order =
      AreInOrder-join (earlier name xs) (name, now) (later name xs) (AreInOrder-filter (λ x. comes_before x.0 name) xs order) (AreBefore-earlier name xs) (AreAfter-later name xs) (AreInOrder-filter (λ x. comes_before name x.0) xs order)

-- ---- what is shown

map-append : (xs ys : ByName KeptGroup) → shown_groups (xs ++ ys) ≡ shown_groups xs ++ shown_groups ys
map-append [] ys = refl
map-append (x ∷ xs) ys = ap (λ (l : ByName GroupState). (x.0, x.1.shown) ∷ l) (map-append xs ys)

shown-filter : (p : List ℕ → Bool) (xs : ByName KeptGroup) → shown_groups (filter (λ x. p x.0) xs) ≡ filter (λ x. p x.0) (shown_groups xs)
shown-filter p [] = refl
shown-filter p (x ∷ xs) = by (shown-filter p xs) (p x.0)
  where
    by : shown_groups (filter (λ y. p y.0) xs) ≡ filter (λ y. p y.0) (shown_groups xs) → (test : Bool) → shown_groups (cond test (x ∷ filter (λ y. p y.0) xs) (filter (λ y. p y.0) xs)) ≡ cond test ((x.0, x.1.shown) ∷ filter (λ y. p y.0) (shown_groups xs)) (filter (λ y. p y.0) (shown_groups xs))
    by rest true = ap (λ (l : ByName GroupState). (x.0, x.1.shown) ∷ l) rest
    by rest false = rest

pub shown-with_group : (name : List ℕ) (now : KeptGroup) (xs : ByName KeptGroup) → shown_groups (with_group name now xs) ≡ with_group name now.shown (shown_groups xs)
shown-with_group name now xs =
    let one : List ℕ × GroupState = (name, now.shown) in
    map-append (filter (λ x. comes_before x.0 name) xs) ((name, now) ∷ filter (λ x. comes_before name x.0) xs)
    ∙ ap (λ (l : ByName GroupState). l ++ one ∷ shown_groups (filter (λ x. comes_before name x.0) xs)) (shown-filter (λ other. comes_before other name) xs)
    ∙ ap (λ (l : ByName GroupState). filter (λ x. comes_before x.0 name) (shown_groups xs) ++ one ∷ l) (shown-filter (λ other. comes_before name other) xs)

pub shown-without_group : (name : List ℕ) (xs : ByName KeptGroup) → shown_groups (without_group name xs) ≡ without_group name (shown_groups xs)
shown-without_group name xs = shown-filter (λ other. not (is_same_name other name)) xs

pub has_group-shown : (name : List ℕ) (xs : ByName KeptGroup) → has_group name (shown_groups xs) ≡ has_group name xs
has_group-shown name [] = refl
has_group-shown name (x ∷ xs) = ap (λ (b : Bool). is_same_name x.0 name || b) (has_group-shown name xs)

pub group_with-shown : (name : List ℕ) (xs : ByName KeptGroup) → option_map (λ g. g.shown) (group_with name xs) ≡ group_with name (shown_groups xs)
group_with-shown name [] = refl
group_with-shown name (x ∷ xs) = by (group_with-shown name xs) (is_same_name x.0 name)
  where
    by : option_map (λ (g : KeptGroup). g.shown) (group_with name xs) ≡ group_with name (shown_groups xs) → (test : Bool) → option_map (λ (g : KeptGroup). g.shown) (cond test (Some x.1) (group_with name xs)) ≡ cond test (Some x.1.shown) (group_with name (shown_groups xs))
    by rest true = refl
    by rest false = rest

AreAfter-shown : (name : List ℕ) (xs : ByName KeptGroup) → AreAfter name xs → AreAfter name (shown_groups xs)
AreAfter-shown name [] after = tt
AreAfter-shown name (x ∷ xs) after = (after.0, AreAfter-shown name xs after.1)

pub AreInOrder-shown : (xs : ByName KeptGroup) → AreInOrder xs → AreInOrder (shown_groups xs)
AreInOrder-shown [] order = tt
AreInOrder-shown (x ∷ xs) order = (AreAfter-shown x.0 xs order.0, AreInOrder-shown xs order.1)

AreAfter-kept : (name : List ℕ) (xs : ByName KeptGroup) → AreAfter name (shown_groups xs) → AreAfter name xs
AreAfter-kept name [] after = tt
AreAfter-kept name (x ∷ xs) after = (after.0, AreAfter-kept name xs after.1)

pub AreInOrder-kept : (xs : ByName KeptGroup) → AreInOrder (shown_groups xs) → AreInOrder xs
AreInOrder-kept [] order = tt
AreInOrder-kept (x ∷ xs) order = (AreAfter-kept x.0 xs order.0, AreInOrder-kept xs order.1)

-- ---- another last id

with_last-without : (name : List ℕ) (id : Id) (xs : ByName GroupState) → has_group name xs ≡ false → with_last name id xs ≡ xs
with_last-without name id [] none = refl
with_last-without name id (x ∷ xs) none =
    let parts = has_group-not_first name x xs none in
    rw parts.0 (ap (λ (l : ByName GroupState). x ∷ l) (with_last-without name id xs parts.1))

pub with_last-none : (name : List ℕ) (id : Id) (xs : ByName GroupState) → has_group name xs ≡ false → xs ≡ with_last name id xs
with_last-none name id xs none = sym (with_last-without name id xs none)

pub with_last-place : (name : List ℕ) (id : Id) (g : GroupState) (xs : ByName GroupState) (i : ℕ) → AreInOrder xs → slice_get xs i ≡ Some (name, g) → set xs i (name, record g { last = id }) ≡ with_last name id xs
with_last-place name id g [] i order here = cc
with_last-place name id g (y ∷ ys) zero order here =
    let first : y ≡ (name, g) = cc in
    let after : AreAfter name ys = rw (ap (λ (x : List ℕ × GroupState). x.0) first) at order.0 in
    rw (first, is_same_name-refl name) (ap (λ (l : ByName GroupState). (name, record g { last = id }) ∷ l) (with_last-none name id ys (has_group-after name ys after)))
with_last-place name id g (y ∷ ys) (suc i) order here =
    rw (is_same_name-before y.0 name (AreAfter-get y.0 name g ys i order.0 here)) (ap (λ (l : ByName GroupState). y ∷ l) (with_last-place name id g ys i order.1 here))

pub none-shown : (r : Option ℕ) (name : List ℕ) (xs : ByName KeptGroup) → IfNone r (has_group name xs ≡ false) → IfNone r (has_group name (shown_groups xs) ≡ false)
none-shown None name xs none = has_group-shown name xs ∙ none
none-shown (Some i) name xs none = tt

-- ---- one group is changed where it is

slice_get-within : {X : Type 0} (xs : List X) (i : ℕ) (x : X) → slice_get xs i ≡ Some x → i < length xs
slice_get-within [] i x here = cc
slice_get-within (y ∷ ys) zero x here = omega arith
slice_get-within (y ∷ ys) (suc i) x here = omega (arith, slice_get-within ys i x here)

pub IsPlace-within : (name : List ℕ) (xs : ByName KeptGroup) (i : ℕ) → IsPlace name xs i → i < length xs
IsPlace-within name xs i at = slice_get-within xs i (name, at.group) at.here

-- what is read at the place has the name
pub IsPlace-name : (name : List ℕ) (xs : ByName KeptGroup) (i : ℕ) (named : List ℕ × KeptGroup) → IsPlace name xs i → slice_get xs i ≡ Some named → named.0 ≡ name
IsPlace-name name xs i named at here = let both = sym at.here ∙ here in ap (λ (x : List ℕ × KeptGroup). x.0) (sym (Some-is both))
  where
    Some-is : Some (name, at.group) ≡ Some named → (name, at.group) ≡ named
    Some-is e = cc

pub set-kept : (name : List ℕ) (w : KeptGroup) (xs : ByName KeptGroup) (i : ℕ) → AreInOrder (shown_groups xs) → IsPlace name xs i → set xs i (name, w) ≡ with_group name w xs
set-kept name w xs i order at = with_group-set name at.group w xs i (AreInOrder-kept xs order) at.here

pub set-shown : (name : List ℕ) (w : KeptGroup) (xs : ByName KeptGroup) (i : ℕ) → AreInOrder (shown_groups xs) → IsPlace name xs i → shown_groups (set xs i (name, w)) ≡ with_group name w.shown (shown_groups xs)
set-shown name w xs i order at = ap shown_groups (set-kept name w xs i order at) ∙ shown-with_group name w xs

pub set-in_order : (name : List ℕ) (w : KeptGroup) (xs : ByName KeptGroup) (i : ℕ) → AreInOrder (shown_groups xs) → IsPlace name xs i → AreInOrder (shown_groups (set xs i (name, w)))
set-in_order name w xs i order at = rw (set-shown name w xs i order at) (AreInOrder-with_group name w.shown (shown_groups xs) order)

-- the place holds what is read there
pub IsPlace-read : (name : List ℕ) (xs : ByName KeptGroup) (i : ℕ) (named : List ℕ × KeptGroup) → IsPlace name xs i → named ≡ get_or xs i named → named ≡ (name, named.1)
IsPlace-read name xs i named at read =
    let within = IsPlace-within name xs i at in
    let here = slice_get_read xs (length xs) i named refl within read in
    ap (λ (n : List ℕ). (n, named.1)) (IsPlace-name name xs i named at here)

pub IsPlace-group : (name : List ℕ) (xs : ByName KeptGroup) (i : ℕ) (named : List ℕ × KeptGroup) → AreInOrder (shown_groups xs) → IsPlace name xs i → named ≡ get_or xs i named → Some named.1 ≡ group_with name xs
IsPlace-group name xs i named order at read =
    let within = IsPlace-within name xs i at in
    let here = slice_get_read xs (length xs) i named refl within read in
    let whole = here ∙ ap (λ (x : List ℕ × KeptGroup). Some x) (IsPlace-read name xs i named at read) in
    sym (group_with-place name named.1 xs i (AreInOrder-kept xs order) whole)

pub group_with-missing : (name : List ℕ) (xs : ByName KeptGroup) → has_group name (shown_groups xs) ≡ false → None ≡ group_with name xs
group_with-missing name xs none = sym (group_with-none name xs (sym (has_group-shown name xs) ∙ none))

pub has_group-there : (name : List ℕ) (xs : ByName KeptGroup) (i : ℕ) → IsPlace name xs i → has_group name (shown_groups xs) ≡ true
has_group-there name xs i at = has_group-shown name xs ∙ has_group-place name at.group xs i at.here

-- ---- the group that is found by its name

-- it has a place
group_with-found : {G : Type 0} (name : List ℕ) (g : G) (xs : ByName G) → group_with name xs ≡ Some g → (i : ℕ) × (slice_get xs i ≡ Some (name, g))
group_with-found name g [] found = cc
group_with-found name g (x ∷ xs) found = by (λ later. group_with-found name g xs later) (is_same_name x.0 name) refl found
  where
    by : (group_with name xs ≡ Some g → (i : ℕ) × (slice_get xs i ≡ Some (name, g))) → (test : Bool) → is_same_name x.0 name ≡ test → cond test (Some x.1) (group_with name xs) ≡ Some g → (i : ℕ) × (slice_get (x ∷ xs) i ≡ Some (name, g))
    by others true same here =
        let group : x.1 ≡ g = cc in
        (0, ap (λ (n : List ℕ). Some (n, x.1)) (is_same_name-true x.0 name same) ∙ ap (λ (h : _). Some (name, h)) group)
    by others false apart later = (suc (others later).0, (others later).1)

pub with_last-with_group : (name : List ℕ) (id : Id) (g : GroupState) (xs : ByName GroupState) → AreInOrder xs → group_with name xs ≡ Some g → with_group name (record g { last = id }) xs ≡ with_last name id xs
with_last-with_group name id g xs order found =
    let place = group_with-found name g xs found in
    sym (with_group-set name g (record g { last = id }) xs place.0 order place.1) ∙ with_last-place name id g xs place.0 order place.1

set-same : {X : Type 0} (xs : List X) (i : ℕ) (x : X) → slice_get xs i ≡ Some x → set xs i x ≡ xs
set-same [] i x here = cc
set-same (y ∷ ys) zero x here = let one : y ≡ x = cc in ap (λ (z : _). z ∷ ys) (sym one)
set-same (y ∷ ys) (suc i) x here = ap (λ (l : List _). y ∷ l) (set-same ys i x here)

-- written in its own place, it changes nothing
pub with_group-same : {G : Type 0} (name : List ℕ) (g : G) (xs : ByName G) → AreInOrder xs → group_with name xs ≡ Some g → with_group name g xs ≡ xs
with_group-same name g xs order found =
    let place = group_with-found name g xs found in
    sym (with_group-set name g g xs place.0 order place.1) ∙ set-same xs place.0 (name, g) place.1

-- ---- answers that the place gives

pub place-there : (r : Option ℕ) (name : List ℕ) (xs : ByName KeptGroup) → IfSome r (IsPlace name xs) → IfNone r (has_group name xs ≡ false) → is_some r ≡ has_group name (shown_groups xs)
place-there None name xs found none = sym (has_group-shown name xs ∙ none)
place-there (Some i) name xs found none = sym (has_group-there name xs i found)

-- ---- copies

-- one more is copied
pub copies-turn : (xs ys zs : ByName KeptGroup) (i : ℕ) (x d : List ℕ × KeptGroup) → i < length xs → shown_groups ys ≡ shown_groups (take i xs) → zs ≡ ys ++ x ∷ [] → d ≡ get_or xs i d → x.0 ≡ d.0 → x.1.shown ≡ d.1.shown → shown_groups zs ≡ shown_groups (take (i + 1) xs)
copies-turn xs ys zs i x d within so_far pushed read name group =
    let one : List ℕ × GroupState = (d.0, d.1.shown) in
    let whole : take (i + 1) xs ≡ take i xs ++ d ∷ [] = take_more xs i d within ∙ ap (λ (y : List ℕ × KeptGroup). take i xs ++ y ∷ []) (sym read) in
    let copy : (x.0, x.1.shown) ≡ one = ap (λ (n : List ℕ). (n, x.1.shown)) name ∙ ap (λ (g : GroupState). (d.0, g)) group in
    ap shown_groups pushed ∙ map-append ys (x ∷ [])
    ∙ ap (λ (l : ByName GroupState). l ++ (x.0, x.1.shown) ∷ []) so_far
    ∙ ap (λ (y : List ℕ × GroupState). shown_groups (take i xs) ++ y ∷ []) copy
    ∙ sym (map-append (take i xs) (d ∷ []))
    ∙ ap shown_groups (sym whole)
