-- What is seen of a list in blocks, and where its places lie.
use Rattle.std.proofs.Common.{◌≡◌, ℕ, zero, suc, ◌+◌, ◌-◌, ◌<◌, ◌≤◌, List, [], ◌∷◌, ◌++◌, length, get_or, take, map, Option, Some, None, IsSome, IfSome, ◌↔◌, option_copied, Bor, inl, inr, slice_get, refl, ap, subst, sym, ◌∙◌, arith}
use Rattle.std.proofs.lemmas.List.{append_assoc, append-nil, length-append, take-map, take_all}
use Rattle.std.proofs.lemmas.Bool.{cases_lt}
use Rattle.std.proofs.lemmas.Option.{slice_get_past, slice_get_read}
use Rattle.std.proofs.Math.Seq.{take-suc}
use Rattle.std.proofs.lemmas.Grind.{flat_map-append}
use Rattle.std.proofs.lemmas.List.Folds.{flat_map-map}
use Rattle.std.specs.List.{flat_map, insert, remove}
use Rattle.std.specs.VecDeque.{deque_items}
use Rattle.std.specs.declared.collections.VecDeque.{VecDeque}
use Rattle.sr_pending.specs.declared.blocks.Place.{Place}
use Rattle.sr_pending.specs.steps.Blocks.{IsIn, Laid, at_of, held_in, items_of}

module _ {T Z : Type 0} (closed : List (VecDeque T Z)) (tail : List T) (room : ℕ) where
  -- what contracts see
  abbrev pub laid : Laid T
  laid = record { closed = map deque_items closed; tail = tail; room = room }

  pub shown-items : items_of laid ≡ held_in closed ++ tail
  shown-items = ap (λ (l : List T). l ++ tail) (flat_map-map (λ (block : List T). block) deque_items closed)

  pub shown-at : (place : Place) → at_of place laid ≡ length (held_in (take place.block closed)) + place.at
  shown-at place =
      ap (λ (l : List (List T)). length (flat_map (λ block. block) l) + place.at) (take-map deque_items place.block closed)
      ∙ ap (λ (l : List T). length l + place.at) (flat_map-map (λ (block : List T). block) deque_items (take place.block closed))

  -- what is done to the parts is done to what is seen
  module _ (now : Laid T) (seen : laid ≡ now) (place : Place) where
    pub shown-insert : (xs : List T) (x : T) → xs ≡ insert (held_in closed ++ tail) (length (held_in (take place.block closed)) + place.at) x → xs ≡ insert (items_of now) (at_of place now) x
    shown-insert xs x put =
        put
        ∙ ap (λ (l : List T). insert l (length (held_in (take place.block closed)) + place.at) x) (sym shown-items)
        ∙ ap (λ (n : ℕ). insert (items_of laid) n x) (sym (shown-at place))
        ∙ ap (λ (l : Laid T). insert (items_of l) (at_of place l) x) seen

    pub shown-remove : (xs : List T) → xs ≡ remove (held_in closed ++ tail) (length (held_in (take place.block closed)) + place.at) → xs ≡ remove (items_of now) (at_of place now)
    shown-remove xs cut =
        cut
        ∙ ap (λ (l : List T). remove l (length (held_in (take place.block closed)) + place.at)) (sym shown-items)
        ∙ ap (λ (n : ℕ). remove (items_of laid) n) (sym (shown-at place))
        ∙ ap (λ (l : Laid T). remove (items_of l) (at_of place l)) seen

    pub shown-within : at_of place now < length (items_of now) → length (held_in (take place.block closed)) + place.at < length (held_in closed ++ tail)
    shown-within lt =
        let at : at_of place now ≡ length (held_in (take place.block closed)) + place.at = ap (λ (l : Laid T). at_of place l) (sym seen) ∙ shown-at place in
        let many : length (items_of now) ≡ length (held_in closed ++ tail) = ap (λ (l : Laid T). length (items_of l)) (sym seen) ∙ ap (λ (l : List T). length l) shown-items in
        omega (arith, at, many, lt)

    -- a place that is not in a closed block is in the open one
    pub start-behind : length closed ≤ place.block → length (held_in (take place.block closed)) + place.at ≡ length (held_in closed) + place.at
    start-behind past = ap (λ (l : List (VecDeque T Z)). length (held_in l) + place.at) (take_all place.block closed past)

    -- one of an element is before the end of the open block
    pub shown-open : at_of place now < length (items_of now) → length closed ≤ place.block → place.at < length tail
    shown-open lt past = omega (arith, shown-within lt, start-behind past, length-append (held_in closed) tail)

    -- it is in the blocks that are seen
    pub shown-in : IsIn place now → IsIn place laid
    shown-in is = subst (λ (l : Laid T). IsIn place l) (sym seen) is

-- the element at a place
pub slice_get-left : {X : Type 0} (a b : List X) (i : ℕ) → i < length a → slice_get (a ++ b) i ≡ slice_get a i
slice_get-left [] b i lt = absurd (omega arith)
slice_get-left (x ∷ xs) b zero lt = refl
slice_get-left (x ∷ xs) b (suc i) lt = slice_get-left xs b i (omega arith)

pub slice_get-right : {X : Type 0} (a b : List X) (i : ℕ) → slice_get (a ++ b) (length a + i) ≡ slice_get b i
slice_get-right [] b i = ap (λ n. slice_get b n) (let e : 0 + i ≡ i = omega arith in e)
slice_get-right (x ∷ xs) b i = ap (λ n. slice_get (x ∷ (xs ++ b)) n) (let e : suc (length xs) + i ≡ suc (length xs + i) = omega arith in e) ∙ slice_get-right xs b i

pub last-behind : {X : Type 0} (a b : List X) → 0 < length b → slice_get b (length b - 1) ≡ slice_get (a ++ b) (length (a ++ b) - 1)
last-behind a b some =
    let far : length a + (length b - 1) ≡ length (a ++ b) - 1 = let l = length-append a b in omega arith in
    sym (slice_get-right a b (length b - 1)) ∙ ap (λ n. slice_get (a ++ b) n) far

pub got : {T : Type 0} (closed : List (List T)) (tail : List T) (block at : ℕ) → block ≤ length closed → (block < length closed → at < length (get_or closed block [])) → slice_get (get_or (closed ++ tail ∷ []) block []) at ≡ slice_get (flat_map (λ (b : List T). b) closed ++ tail) (length (flat_map (λ (b : List T). b) (take block closed)) + at)
got [] tail zero at within short = ap (λ n. slice_get tail n) (let e : at ≡ 0 + at = omega arith in e)
got [] tail (suc block) at within short = absurd (omega arith)
got (b ∷ bs) tail zero at within short =
    let start : 0 + at ≡ at = omega arith in
    let lt : at < length b = short (omega arith) in
    sym (ap (λ (n : ℕ). slice_get ((b ++ flat_map (λ b. b) bs) ++ tail) n) start ∙ ap (λ l. slice_get l at) (append_assoc b (flat_map (λ b. b) bs) tail) ∙ slice_get-left b (flat_map (λ b. b) bs ++ tail) at lt)
got (b ∷ bs) tail (suc block) at within short =
    let flat = flat_map (λ b. b) (take block bs) in
    let far : length (b ++ flat) + at ≡ length b + (length flat + at) = let l = length-append b flat in omega arith in
    got bs tail block at (omega arith) (λ lt. short (omega arith))
    ∙ sym (ap (λ (n : ℕ). slice_get ((b ++ flat_map (λ b. b) bs) ++ tail) n) far ∙ ap (λ l. slice_get l (length b + (length flat + at))) (append_assoc b (flat_map (λ b. b) bs) tail) ∙ slice_get-right b (flat_map (λ b. b) bs ++ tail) (length flat + at))

-- the last element of the last block is the last of all
pub last-held : {T Z : Type 0} (blocks : List (VecDeque T Z)) (block : VecDeque T Z) → block ≡ get_or blocks (length blocks - 1) block → 0 < length blocks → 0 < length block.items → slice_get block.items (length block.items - 1) ≡ slice_get (held_in blocks) (length (held_in blocks) - 1)
last-held {T} {Z} blocks block read some full =
    let n = length blocks - 1 in
    let all : length blocks ≤ suc n = omega arith in
    let parted : held_in blocks ≡ held_in (take n blocks) ++ block.items =
    ap (λ (l : List (VecDeque T Z)). held_in l) (sym (take_all (suc n) blocks all) ∙ take-suc blocks n block (omega arith))
    ∙ flat_map-append deque_items (take n blocks) (get_or blocks n block ∷ [])
    ∙ ap (λ (l : List T). held_in (take n blocks) ++ l) (append-nil (get_or blocks n block).items ∙ ap (λ (d : VecDeque T Z). d.items) (sym read)) in
    let far : length (held_in blocks) - 1 ≡ length (held_in (take n blocks)) + (length block.items - 1) = let l = length-append (held_in (take n blocks)) block.items in omega (arith, ap (λ (l : List T). length l) parted) in
    sym (ap (λ (m : ℕ). slice_get (held_in blocks) m) far
    ∙ ap (λ (l : List T). slice_get l (length (held_in (take n blocks)) + (length block.items - 1))) parted
    ∙ slice_get-right (held_in (take n blocks)) block.items (length block.items - 1))

-- what `get` of a deque gives
pub copied-get : {T Z : Type 0} (block : VecDeque T Z) (i : ℕ) (r : Option (Bor T)) → (IsSome r ↔ (i < block.len)) → IfSome r (λ x. x.now ≡ get_or block.items i x.now) → option_copied r ≡ slice_get block.items i
copied-get block i None variant read =
    elim (cases_lt i block.len) [
      | inl lt ↦ absurd (let yes = variant.1 lt in cc)
      | inr ge ↦ sym (slice_get_past block.items i (let ok = block.ok in omega arith))
    ]
copied-get block i (Some x) variant read =
    let within : i < block.len = variant.0 refl in
    sym (slice_get_read block.items block.len i x.now block.ok.0 within read)

-- and `back`
pub copied-back : {T Z : Type 0} (block : VecDeque T Z) (r : Option (Bor T)) → (IsSome r ↔ (0 < block.len)) → IfSome r (λ x. x.now ≡ get_or block.items (block.len - 1) x.now) → option_copied r ≡ slice_get block.items (length block.items - 1)
copied-back block r variant read =
    copied-get block (block.len - 1) r both read ∙ ap (λ (n : ℕ). slice_get block.items n) (let ok = block.ok in omega arith)
  where
    both : IsSome r ↔ (block.len - 1 < block.len)
    both = ((λ yes. let some = variant.0 yes in omega arith), (λ lt. variant.1 (omega arith)))
