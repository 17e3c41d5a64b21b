-- Filters of entries: after one came or went, one behind another, and what they find.
use Rattle.std.proofs.Common.{◌≡◌, ℕ, zero, suc, Bool, true, false, cond, List, [], ◌∷◌, ◌++◌, take, drop, filter, map, slice_get, Some, refl, ap, sym, ◌∙◌}
use Rattle.std.specs.List.{All, insert, remove}
use Rattle.std.proofs.lemmas.List.{take-append-drop}
use Rattle.std.proofs.lemmas.List.Elements.{All-head, All-tail, filter-append}
use Rattle.sr_ids.specs.declared.id.Id.{Id}
use Rattle.sr_pending.specs.declared.nack.Nack.{Nack}
use Rattle.sr_ids.specs.{is_same_id}
use Rattle.sr_pending.specs.Pending.{has_id}
use Rattle.sr_pending.proofs.SearchLemmas.{has_id-not_first}

-- what a filter makes of a list with one element more, or one less
module _ {X : Type 0} (p : X → Bool) where
  pub filter-first_no : (x : X) (xs : List X) → p x ≡ false → filter p (x ∷ xs) ≡ filter p xs
  filter-first_no x xs e = rw e refl

  pub filter-first_yes : (x : X) (xs : List X) → p x ≡ true → filter p (x ∷ xs) ≡ x ∷ filter p xs
  filter-first_yes x xs e = rw e refl

  pub filter-insert_no : (xs : List X) (i : ℕ) (x : X) → p x ≡ false → filter p (insert xs i x) ≡ filter p xs
  filter-insert_no xs i x e =
      filter-append p (take i xs) (x ∷ drop i xs)
      ∙ ap (λ (l : List X). filter p (take i xs) ++ l) (filter-first_no x (drop i xs) e)
      ∙ sym (filter-append p (take i xs) (drop i xs))
      ∙ ap (filter p) (take-append-drop i xs)

  pub filter-remove_no : (xs : List X) (i : ℕ) (x : X) → slice_get xs i ≡ Some x → p x ≡ false → filter p (remove xs i) ≡ filter p xs
  filter-remove_no [] i x here e = cc
  filter-remove_no (y ∷ ys) zero x here e =
      let first : y ≡ x = cc in
      sym (filter-first_no y ys (ap p first ∙ e))
  filter-remove_no (y ∷ ys) (suc i) x here e = ap (λ (l : List X). cond (p y) (y ∷ l) l) (filter-remove_no ys i x here e)

  pub filter-filter : (q : X → Bool) (xs : List X) → filter p (filter q xs) ≡ filter q (filter p xs)
  filter-filter q [] = refl
  filter-filter q (x ∷ xs) = by (p x) refl (q x) refl (filter-filter q xs)
    where
      by : (a : Bool) → p x ≡ a → (b : Bool) → q x ≡ b → filter p (filter q xs) ≡ filter q (filter p xs) → filter p (cond b (x ∷ filter q xs) (filter q xs)) ≡ filter q (cond a (x ∷ filter p xs) (filter p xs))
      by true e true f rest = rw (e, f) (ap (λ (l : List X). x ∷ l) rest)
      by true e false f rest = rw f rest
      by false e true f rest = rw e rest
      by false e false f rest = rest

  -- two tests that agree on a list
  pub filter-agree : (q : X → Bool) (xs : List X) → All (λ (x : X). q x ≡ p x) xs → filter q xs ≡ filter p xs
  filter-agree q [] all = refl
  filter-agree q (x ∷ xs) all =
      rw (All-head (λ (x : X). q x ≡ p x) x xs all) (ap (λ (l : List X). cond (p x) (x ∷ l) l) (filter-agree q xs (All-tail (λ (x : X). q x ≡ p x) x xs all)))

-- a list and what f makes of it, side by side
module _ {X Y : Type 0} (f : X → Y) where
  pub filter-map : (p : Y → Bool) (xs : List X) → filter p (map f xs) ≡ map f (filter (λ x. p (f x)) xs)
  filter-map p [] = refl
  filter-map p (x ∷ xs) = by (p (f x)) (filter-map p xs)
    where
      by : (test : Bool) → filter p (map f xs) ≡ map f (filter (λ x. p (f x)) xs) → cond test (f x ∷ filter p (map f xs)) (filter p (map f xs)) ≡ map f (cond test (x ∷ filter (λ x. p (f x)) xs) (filter (λ x. p (f x)) xs))
      by true rest = ap (λ (l : List Y). f x ∷ l) rest
      by false rest = rest

  pub map-agree : (g : X → Y) (xs : List X) → All (λ (x : X). g x ≡ f x) xs → map g xs ≡ map f xs
  map-agree g [] all = refl
  map-agree g (x ∷ xs) all =
      rw (All-head (λ (x : X). g x ≡ f x) x xs all) (ap (λ (l : List Y). f x ∷ l) (map-agree g xs (All-tail (λ (x : X). g x ≡ f x) x xs all)))

-- whether an entry is among those that pass
module _ (p : Nack → Bool) where
  pub has_id-filter : (id : Id) (xs : List Nack) → has_id id xs ≡ false → has_id id (filter p xs) ≡ false
  has_id-filter id [] none = refl
  has_id-filter id (x ∷ xs) none = by (p x) (has_id-not_first id x xs none) (has_id-filter id xs (has_id-not_first id x xs none).1)
    where
      by : (test : Bool) → (is_same_id x.id id ≡ false) × (has_id id xs ≡ false) → has_id id (filter p xs) ≡ false → has_id id (cond test (x ∷ filter p xs) (filter p xs)) ≡ false
      by true parts rest = rw parts.0 rest
      by false parts rest = rest

-- each passes where all do
pub filter-all : {X : Type 0} (xs : List X) → filter (λ _. true) xs ≡ xs
filter-all [] = refl
filter-all (x ∷ xs) = ap (λ (l : List _). x ∷ l) (filter-all xs)
