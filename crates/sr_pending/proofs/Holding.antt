-- What blocks hold where one of them changes.
use Rattle.std.proofs.Common.{rules, ◌≡◌, ℕ, zero, suc, ◌+◌, ◌-◌, ◌<◌, ◌≤◌, ◌==◌, Bool, true, false, Option, Some, None, IsSome, OnSome, ◌↔◌, List, [], ◌∷◌, ◌++◌, length, get_or, take, drop, set, refl, ap, sym, subst, ◌∙◌, arith}
use Rattle.std.proofs.lemmas.List.{append_assoc, append-nil, length-append, set_split}
use Rattle.std.proofs.lemmas.List.Edits.{insert-append_left, insert-append_right, remove-append_left, remove-append_right}
use Rattle.std.proofs.lemmas.List.Elements.{All-append}
use Rattle.std.specs.List.{insert, remove}
use Rattle.std.specs.declared.collections.VecDeque.{VecDeque}
use Rattle.sr_pending.specs.steps.Blocks.{AreFilled, held_in, items_at}

pub take-shorter : {X : Type 0} (n : ℕ) (xs ys : List X) → take (suc n) xs ≡ take (suc n) ys → take n xs ≡ take n ys
take-shorter n xs ys same = sym (take-twice n xs) ∙ ap (λ l. take n l) same ∙ take-twice n ys
  where
    take-twice : {X : Type 0} (n : ℕ) (xs : List X) → take n (take (suc n) xs) ≡ take n xs
    take-twice zero xs = refl
    take-twice (suc n) [] = refl
    take-twice (suc n) (x ∷ xs) = ap (λ l. x ∷ l) (take-twice n xs)

pub insert-behind : {X : Type 0} (a b : List X) (n : ℕ) (x : X) → insert (a ++ b) (length a + n) x ≡ a ++ insert b n x
insert-behind a b n x =
    let less : length a + n - length a ≡ n = omega arith in
    insert-append_right a b (length a) (length a + n) x refl (omega arith) ∙ ap (λ m. a ++ insert b m x) less

pub remove-behind : {X : Type 0} (a b : List X) (n : ℕ) → remove (a ++ b) (length a + n) ≡ a ++ remove b n
remove-behind a b n =
    let less : length a + n - length a ≡ n = omega arith in
    remove-append_right a b (length a) (length a + n) refl (omega arith) ∙ ap (λ m. a ++ remove b m) less

-- what `is_empty` tells
pub is_none : (n : ℕ) (test : Bool) → test ≡ (n == 0) → test ≡ true → n ≡ 0
is_none n test says is = search rules

pub is_some : (n : ℕ) (test : Bool) → test ≡ (n == 0) → test ≡ false → 0 < n
is_some n test says is = search rules

-- what `remove` leaves, of a place within
pub removed-within : {X : Type 0} (r : Option X) (P : Type 0) (n i : ℕ) → (IsSome r ↔ (i < n)) → i < n → OnSome r P → P
removed-within None P n i variant within left = absurd (let yes = variant.1 within in cc)
removed-within (Some x) P n i variant within left = left

module _ {T Z : Type 0} where
  -- what a block has
  pub items_at-read : (blocks : List (VecDeque T Z)) (i : ℕ) (was : VecDeque T Z) → i < length blocks → was ≡ get_or blocks i was → items_at i blocks ≡ was.items
  items_at-read [] i was within read = absurd (omega arith)
  items_at-read (d ∷ ds) zero was within read = ap (λ (e : VecDeque T Z). e.items) (sym read)
  items_at-read (d ∷ ds) (suc i) was within read = items_at-read ds i was (omega arith) read

  -- another block with the same elements
  pub exchanged : (blocks : List (VecDeque T Z)) (i : ℕ) (was is : VecDeque T Z) → i < length blocks → was ≡ get_or blocks i was → is.items ≡ was.items → held_in (set blocks i is) ≡ held_in blocks
  exchanged [] i was is within read same = absurd (omega arith)
  exchanged (d ∷ ds) zero was is within read same = ap (λ (l : List T). l ++ held_in ds) (same ∙ ap (λ (e : VecDeque T Z). e.items) read)
  exchanged (d ∷ ds) (suc i) was is within read same = ap (λ (l : List T). d.items ++ l) (exchanged ds i was is (omega arith) read same)

  -- the last element of a block stands before those of the next
  pub split_last : (blocks : List (VecDeque T Z)) (i : ℕ) (was is : VecDeque T Z) (last : T) (rest : List T) → i < length blocks → was ≡ get_or blocks i was → was.items ≡ is.items ++ last ∷ [] → held_in (take (suc i) (set blocks i is)) ++ last ∷ (held_in (drop (suc i) (set blocks i is)) ++ rest) ≡ held_in blocks ++ rest
  split_last [] i was is last rest within read cut = absurd (omega arith)
  split_last (d ∷ ds) zero was is last rest within read cut =
      let first : d.items ≡ is.items ++ last ∷ [] = rw read at cut in
      ap (λ (l : List T). l ++ last ∷ (held_in ds ++ rest)) (append-nil is.items)
      ∙ sym (append_assoc is.items (last ∷ []) (held_in ds ++ rest))
      ∙ ap (λ (l : List T). l ++ (held_in ds ++ rest)) (sym first)
      ∙ sym (append_assoc d.items (held_in ds) rest)
  split_last (d ∷ ds) (suc i) was is last rest within read cut =
      append_assoc d.items _ _
      ∙ ap (λ (l : List T). d.items ++ l) (split_last ds i was is last rest (omega arith) read cut)
      ∙ sym (append_assoc d.items _ _)

  -- one more element in a block
  pub inserted : (blocks : List (VecDeque T Z)) (i : ℕ) (was is : VecDeque T Z) (at : ℕ) (x : T) (rest : List T) → i < length blocks → was ≡ get_or blocks i was → at ≤ length was.items → is.items ≡ insert was.items at x → held_in (set blocks i is) ++ rest ≡ insert (held_in blocks ++ rest) (length (held_in (take i blocks)) + at) x
  inserted [] i was is at x rest within read le put = absurd (omega arith)
  inserted (d ∷ ds) zero was is at x rest within read le put =
      let first : is.items ≡ insert d.items at x = rw read at put in
      let short : at ≤ length d.items = rw read at le in
      let start : 0 + at ≡ at = omega arith in
      append_assoc is.items (held_in ds) rest
      ∙ ap (λ (l : List T). l ++ (held_in ds ++ rest)) first
      ∙ sym (insert-append_left d.items (held_in ds ++ rest) at x short)
      ∙ ap (λ (l : List T). insert l at x) (sym (append_assoc d.items (held_in ds) rest))
      ∙ ap (λ (n : ℕ). insert (held_in (d ∷ ds) ++ rest) n x) (sym start)
  inserted (d ∷ ds) (suc i) was is at x rest within read le put =
      let far : length (d.items ++ held_in (take i ds)) + at ≡ length d.items + (length (held_in (take i ds)) + at) = let l = length-append d.items (held_in (take i ds)) in omega arith in
      append_assoc d.items _ _
      ∙ ap (λ (l : List T). d.items ++ l) (inserted ds i was is at x rest (omega arith) read le put)
      ∙ sym (insert-behind d.items (held_in ds ++ rest) (length (held_in (take i ds)) + at) x)
      ∙ ap (λ (l : List T). insert l (length d.items + (length (held_in (take i ds)) + at)) x) (sym (append_assoc d.items (held_in ds) rest))
      ∙ ap (λ (n : ℕ). insert (held_in (d ∷ ds) ++ rest) n x) (sym far)

  -- one less
  pub removed : (blocks : List (VecDeque T Z)) (i : ℕ) (was is : VecDeque T Z) (at : ℕ) (rest : List T) → i < length blocks → was ≡ get_or blocks i was → at < length was.items → is.items ≡ remove was.items at → held_in (set blocks i is) ++ rest ≡ remove (held_in blocks ++ rest) (length (held_in (take i blocks)) + at)
  removed [] i was is at rest within read lt cut = absurd (omega arith)
  removed (d ∷ ds) zero was is at rest within read lt cut =
      let first : is.items ≡ remove d.items at = rw read at cut in
      let short : at < length d.items = rw read at lt in
      let start : 0 + at ≡ at = omega arith in
      append_assoc is.items (held_in ds) rest
      ∙ ap (λ (l : List T). l ++ (held_in ds ++ rest)) first
      ∙ sym (remove-append_left d.items (held_in ds ++ rest) at short)
      ∙ ap (λ (l : List T). remove l at) (sym (append_assoc d.items (held_in ds) rest))
      ∙ ap (λ (n : ℕ). remove (held_in (d ∷ ds) ++ rest) n) (sym start)
  removed (d ∷ ds) (suc i) was is at rest within read lt cut =
      let far : length (d.items ++ held_in (take i ds)) + at ≡ length d.items + (length (held_in (take i ds)) + at) = let l = length-append d.items (held_in (take i ds)) in omega arith in
      append_assoc d.items _ _
      ∙ ap (λ (l : List T). d.items ++ l) (removed ds i was is at rest (omega arith) read lt cut)
      ∙ sym (remove-behind d.items (held_in ds ++ rest) (length (held_in (take i ds)) + at))
      ∙ ap (λ (l : List T). remove l (length d.items + (length (held_in (take i ds)) + at))) (sym (append_assoc d.items (held_in ds) rest))
      ∙ ap (λ (n : ℕ). remove (held_in (d ∷ ds) ++ rest) n) (sym far)

  -- without an empty block the elements are the same
  pub emptied : (blocks : List (VecDeque T Z)) (i : ℕ) (was : VecDeque T Z) → i < length blocks → was ≡ get_or blocks i was → was.items ≡ [] → held_in (remove blocks i) ≡ held_in blocks
  emptied [] i was within read nothing = absurd (omega arith)
  emptied (d ∷ ds) zero was within read nothing =
      let first : d.items ≡ [] = rw read at nothing in
      rw first
  emptied (d ∷ ds) (suc i) was within read nothing = ap (λ (l : List T). d.items ++ l) (emptied ds i was (omega arith) read nothing)

  -- blocks are filled if those before one are, those behind it, and what takes its place
  pub filled-around : (blocks : List (VecDeque T Z)) (i : ℕ) (is : VecDeque T Z) → i < length blocks → AreFilled (take i blocks) → 0 < length is.items → AreFilled (drop (suc i) blocks) → AreFilled (set blocks i is)
  filled-around blocks i is within before full behind =
      subst AreFilled (sym (set_split blocks i is within)) (All-append (λ (d : VecDeque T Z). 0 < length d.items) (take i blocks) (is ∷ drop (suc i) blocks) before first)
    where
      first : AreFilled (is ∷ drop (suc i) blocks)
      first zero d lt = full
      first (suc k) d lt = behind k d (omega arith)
