-- Where binary search finds the place in a list in blocks: first the block, by its last element, and then the place there.
use Rattle.std.proofs.Common.{◌≡◌, ℕ, zero, suc, ◌+◌, ◌-◌, ◌<◌, ◌≤◌, Bool, true, false, List, [], ◌∷◌, ◌++◌, length, get_or, take, map, slice_get, Some, refl, ap, sym, subst, ◌∙◌, arith}
use Rattle.std.proofs.lemmas.List.{append-nil, append_assoc, length-append, length-map}
use Rattle.std.proofs.lemmas.List.Elements.{All-map}
use Rattle.std.specs.Option.{option_map}
use Rattle.std.proofs.lemmas.Option.{slice_get-get_or, slice_get-map, slice_get_read, slice_get_within}
use Rattle.std.specs.List.{All, count_by, flat_map}
use Rattle.std.specs.List.Sorted.{IsPartitionedBy, IsPartitionPoint}
use Rattle.std.specs.VecDeque.{deque_items}
use Rattle.std.specs.declared.collections.VecDeque.{VecDeque}
use Rattle.sr_pending.specs.steps.Blocks.{AreFilled, IsIn, Laid, at_of, ends_in, items_of, passes}
use Rattle.sr_pending.specs.steps.Search.{IsEdge}
use Rattle.sr_pending.proofs.Splitting.{Splits, Splits-count, Splits-counted, Splits-point}

module _ {X : Type 0} (p : X → Bool) where
  -- where a list splits, those that pass come first
  Splits-fails : (xs : List X) (j : ℕ) (d : X) → Splits p xs zero → j < length xs → p (get_or xs j d) ≡ false
  Splits-fails [] j d splits within = absurd (omega arith)
  Splits-fails (x ∷ xs) zero d splits within = splits.0
  Splits-fails (x ∷ xs) (suc j) d splits within = Splits-fails xs j d splits.1 (omega arith)

  Splits-first : (xs : List X) (i : ℕ) → Splits p xs i → IsPartitionedBy p xs
  Splits-first [] i splits j k d le within passed = absurd (omega arith)
  Splits-first (x ∷ xs) zero splits j k d le within passed = absurd (let fails = Splits-fails (x ∷ xs) k d splits within in cc)
  Splits-first (x ∷ xs) (suc i) splits zero k d le within passed = splits.0
  Splits-first (x ∷ xs) (suc i) splits (suc j) zero d le within passed = absurd (omega arith)
  Splits-first (x ∷ xs) (suc i) splits (suc j) (suc k) d le within passed = Splits-first xs i splits.1 j k d (omega arith) (omega arith) passed

  pub Splits-within : (xs : List X) (i : ℕ) → Splits p xs i → i ≤ length xs
  Splits-within [] i splits = omega (arith, splits)
  Splits-within (x ∷ xs) zero splits = omega arith
  Splits-within (x ∷ xs) (suc i) splits = omega (arith, Splits-within xs i splits.1)

  -- where an element passes and the next one fails, the list splits
  pub Splits-edge : (xs : List X) (i k : ℕ) → Splits p xs k → IsEdge p xs i → k ≡ i
  Splits-edge [] i k splits edge = omega (arith, splits, edge.within)
  Splits-edge (x ∷ xs) zero zero splits edge = refl
  Splits-edge (x ∷ xs) zero (suc k) splits edge = absurd (let fails = edge.failed x refl in let passes = splits.0 in cc)
  Splits-edge (x ∷ xs) (suc i) zero splits edge =
      let lt : i < length (x ∷ xs) = omega (arith, edge.within) in
      let fails : p (get_or (x ∷ xs) i x) ≡ false = Splits-fails (x ∷ xs) i x splits lt in
      let passes : p (get_or (x ∷ xs) i x) ≡ true = edge.passed i (get_or (x ∷ xs) i x) refl (slice_get-get_or (x ∷ xs) i x lt) in
      absurd cc
  Splits-edge (x ∷ xs) (suc i) (suc k) splits edge =
      let le : i ≤ length xs = omega (arith, edge.within) in
      ap (λ (n : ℕ). suc n) (Splits-edge xs i k splits.1 (record { within = le; passed = λ j y is here. edge.passed (suc j) y (ap (λ (n : ℕ). suc n) is) here; failed = λ y here. edge.failed y here }))

  -- the two parts of a list that splits do too
  Splits-left : (x y : List X) (i : ℕ) → Splits p (x ++ y) i → (k : ℕ) × Splits p x k
  Splits-left [] y i splits = (zero, refl)
  Splits-left (a ∷ x) y zero splits = (zero, (splits.0, zeros x y splits.1))
    where
      zeros : (x y : List X) → Splits p (x ++ y) zero → Splits p x zero
      zeros [] y splits = refl
      zeros (a ∷ x) y splits = (splits.0, zeros x y splits.1)
  Splits-left (a ∷ x) y (suc i) splits = let rest = Splits-left x y i splits.1 in (suc rest.0, (splits.0, rest.1))

  Splits-right : (x y : List X) (i : ℕ) → Splits p (x ++ y) i → (k : ℕ) × Splits p y k
  Splits-right [] y i splits = (i, splits)
  Splits-right (a ∷ x) y zero splits = Splits-right x y zero splits.1
  Splits-right (a ∷ x) y (suc i) splits = Splits-right x y i splits.1

  -- a place within the first part is that of the whole
  Splits-here : (x y : List X) (i k : ℕ) → Splits p (x ++ y) i → Splits p x k → k < length x → k ≡ i
  Splits-here [] y i k all first lt = absurd (omega arith)
  Splits-here (a ∷ x) y zero zero all first lt = refl
  Splits-here (a ∷ x) y zero (suc k) all first lt = absurd (let no = all.0 in let yes = first.0 in cc)
  Splits-here (a ∷ x) y (suc i) zero all first lt = absurd (let yes = all.0 in let no = first.0 in cc)
  Splits-here (a ∷ x) y (suc i) (suc k) all first lt = ap (λ (n : ℕ). suc n) (Splits-here x y i k all.1 first.1 (omega arith))

  -- the last element of a block
  ends-more : (a b : X) (bs : List X) → ends_in p (a ∷ b ∷ bs) ≡ ends_in p (b ∷ bs)
  ends-more a b bs =
      let last : length (a ∷ b ∷ bs) - 1 ≡ suc (length (b ∷ bs) - 1) = omega arith in
      ap (λ (n : ℕ). passes p (slice_get (a ∷ b ∷ bs) n)) last

  -- where it passes, the list splits behind the block
  Splits-past : (block rest : List X) (i : ℕ) → Splits p (block ++ rest) i → ends_in p block ≡ true → (k : ℕ) × (i ≡ length block + k) × Splits p rest k
  Splits-past [] rest i splits ends = (i, omega arith, splits)
  Splits-past (a ∷ []) rest zero splits ends = absurd (let no = splits.0 in cc)
  Splits-past (a ∷ []) rest (suc i) splits ends = (i, omega arith, splits.1)
  Splits-past (a ∷ b ∷ bs) rest zero splits ends =
      let later = Splits-past (b ∷ bs) rest zero splits.1 (sym (ends-more a b bs) ∙ ends) in
      absurd (let none = later.1 in omega arith)
  Splits-past (a ∷ b ∷ bs) rest (suc i) splits ends =
      let later = Splits-past (b ∷ bs) rest i splits.1 (sym (ends-more a b bs) ∙ ends) in
      let many = later.1 in
      (later.0, omega arith, later.2)

  -- where the last element passes, all do
  pub Splits-all : (xs : List X) (i : ℕ) → Splits p xs i → ends_in p xs ≡ true → length xs ≡ i
  Splits-all xs i splits ends =
      let past = Splits-past xs [] i (subst (λ (l : List X). Splits p l i) (sym (append-nil xs)) splits) ends in
      let many = past.1 in
      let none = past.2 in
      omega (arith, many, none)

  -- where it fails, no later element passes
  Splits-before : (block rest : List X) (i : ℕ) → Splits p (block ++ rest) i → ends_in p block ≡ false → Splits p rest zero
  Splits-before [] rest i splits ends = absurd cc
  Splits-before (a ∷ []) rest zero splits ends = splits.1
  Splits-before (a ∷ []) rest (suc i) splits ends = absurd (let yes = splits.0 in cc)
  Splits-before (a ∷ b ∷ bs) rest zero splits ends = Splits-before (b ∷ bs) rest zero splits.1 (sym (ends-more a b bs) ∙ ends)
  Splits-before (a ∷ b ∷ bs) rest (suc i) splits ends = Splits-before (b ∷ bs) rest i splits.1 (sym (ends-more a b bs) ∙ ends)

  -- and the block splits before its end
  Splits-short : (block : List X) (i : ℕ) → Splits p block i → ends_in p block ≡ false → i < length block
  Splits-short [] i splits ends = absurd cc
  Splits-short (a ∷ []) zero splits ends = omega arith
  Splits-short (a ∷ []) (suc i) splits ends = absurd (let yes = splits.0 in cc)
  Splits-short (a ∷ b ∷ bs) zero splits ends = omega arith
  Splits-short (a ∷ b ∷ bs) (suc i) splits ends = let less = Splits-short (b ∷ bs) i splits.1 (sym (ends-more a b bs) ∙ ends) in omega arith

  -- where no element passes, no block's last one does
  Splits-no_end : (block rest : List X) → Splits p (block ++ rest) zero → 0 < length block → (ends_in p block ≡ false) × Splits p rest zero
  Splits-no_end [] rest splits full = absurd (omega arith)
  Splits-no_end (a ∷ []) rest splits full = splits
  Splits-no_end (a ∷ b ∷ bs) rest splits full =
      let later = Splits-no_end (b ∷ bs) rest splits.1 (omega arith) in
      (ends-more a b bs ∙ later.0, later.1)

  -- all elements of these blocks
  abbrev flat : List (List X) → List X
  flat blocks = flat_map (λ (block : List X). block) blocks

  abbrev AreFull : List (List X) → Type 0
  AreFull blocks = All (λ (block : List X). 0 < length block) blocks

  full-first : (b : List X) (bs : List (List X)) → AreFull (b ∷ bs) → 0 < length b
  full-first b bs full = full 0 b (omega arith)

  full-rest : (b : List X) (bs : List (List X)) → AreFull (b ∷ bs) → AreFull bs
  full-rest b bs full k d within = full (suc k) d (omega arith)

  -- the first block, and what lies behind it
  parts : (b : List X) (bs : List (List X)) (tail : List X) (i : ℕ) → Splits p (flat (b ∷ bs) ++ tail) i → Splits p (b ++ (flat bs ++ tail)) i
  parts b bs tail i splits = subst (λ (l : List X). Splits p l i) (append_assoc b (flat bs) tail) splits

  ends-none : (closed : List (List X)) (tail : List X) → Splits p (flat closed ++ tail) zero → AreFull closed → Splits (ends_in p) closed zero
  ends-none [] tail splits full = refl
  ends-none (b ∷ bs) tail splits full =
      let first = Splits-no_end b (flat bs ++ tail) (parts b bs tail zero splits) (full-first b bs full) in
      (first.0, ends-none bs tail first.1 (full-rest b bs full))

  -- the blocks split by their last elements
  ends-split : (closed : List (List X)) (tail : List X) (i : ℕ) → Splits p (flat closed ++ tail) i → AreFull closed → (k : ℕ) × Splits (ends_in p) closed k
  ends-split [] tail i splits full = (zero, refl)
  ends-split (b ∷ bs) tail i splits full = by (λ j rest. ends-split bs tail j rest (full-rest b bs full)) (ends_in p b) refl
    where
      by : ((j : ℕ) → Splits p (flat bs ++ tail) j → (k : ℕ) × Splits (ends_in p) bs k) → (test : Bool) → ends_in p b ≡ test → (k : ℕ) × Splits (ends_in p) (b ∷ bs) k
      by more true ends =
          let later = Splits-past b (flat bs ++ tail) i (parts b bs tail i splits) ends in
          let rest = more later.0 later.2 in
          (suc rest.0, (ends, rest.1))
      by more false ends =
          let none = Splits-before b (flat bs ++ tail) i (parts b bs tail i splits) ends in
          (zero, (ends, ends-none bs tail none (full-rest b bs full)))

  -- each block splits
  block-split : (closed : List (List X)) (tail : List X) (i n : ℕ) → Splits p (flat closed ++ tail) i → (k : ℕ) × Splits p (get_or (closed ++ tail ∷ []) n []) k
  block-split [] tail i zero splits = (i, splits)
  block-split [] tail i (suc n) splits = (zero, refl)
  block-split (b ∷ bs) tail i zero splits = Splits-left b (flat bs ++ tail) i (parts b bs tail i splits)
  block-split (b ∷ bs) tail i (suc n) splits =
      let rest = Splits-right b (flat bs ++ tail) i (parts b bs tail i splits) in
      block-split bs tail rest.0 n rest.1

  -- the place that is found: in a closed block, in the open one, and among all elements
  place-closed : (closed : List (List X)) (tail : List X) (n m : ℕ) → Splits (ends_in p) closed n → Splits p (get_or (closed ++ tail ∷ []) n []) m → n < length closed → m < length (get_or closed n [])
  place-closed [] tail n m ends here lt = absurd (omega arith)
  place-closed (b ∷ bs) tail zero m ends here lt = Splits-short b m here ends.0
  place-closed (b ∷ bs) tail (suc n) m ends here lt = place-closed bs tail n m ends.1 here (omega arith)

  place-tail : (closed : List (List X)) (tail : List X) (n m : ℕ) → n ≤ length closed → Splits p (get_or (closed ++ tail ∷ []) n []) m → length closed ≤ n → m ≤ length tail
  place-tail [] tail zero m le here past = Splits-within tail m here
  place-tail [] tail (suc n) m le here past = absurd (omega arith)
  place-tail (b ∷ bs) tail zero m le here past = absurd (omega arith)
  place-tail (b ∷ bs) tail (suc n) m le here past = place-tail bs tail n m (omega arith) here (omega arith)

  place-all : (closed : List (List X)) (tail : List X) (i n m : ℕ) → Splits p (flat closed ++ tail) i → Splits (ends_in p) closed n → Splits p (get_or (closed ++ tail ∷ []) n []) m → length (flat (take n closed)) + m ≡ i
  place-all [] tail i zero m splits ends here =
      let same : m ≡ i = sym (Splits-count p tail m here) ∙ Splits-count p tail i splits in
      omega arith
  place-all [] tail i (suc n) m splits ends here = absurd (omega arith)
  place-all (b ∷ bs) tail i zero m splits ends here =
      let same : m ≡ i = Splits-here b (flat bs ++ tail) i m (parts b bs tail i splits) here (Splits-short b m here ends.0) in
      omega arith
  place-all (b ∷ bs) tail i (suc n) m splits ends here =
      let later = Splits-past b (flat bs ++ tail) i (parts b bs tail i splits) ends.0 in
      let rest : length (flat (take n bs)) + m ≡ later.0 = place-all bs tail later.0 n m later.2 ends.1 here in
      let l = length-append b (flat (take n bs)) in
      let many = later.1 in
      omega arith

-- a list and what f makes of it, side by side
module _ {X Y : Type 0} (f : X → Y) (q : Y → Bool) where
  Splits-of_map : (xs : List X) (i : ℕ) → Splits q (map f xs) i → Splits (λ (x : X). q (f x)) xs i
  Splits-of_map [] i splits = splits
  Splits-of_map (x ∷ xs) zero splits = (splits.0, Splits-of_map xs zero splits.1)
  Splits-of_map (x ∷ xs) (suc i) splits = (splits.0, Splits-of_map xs i splits.1)

  pub Splits-map : (xs : List X) (i : ℕ) → Splits (λ (x : X). q (f x)) xs i → Splits q (map f xs) i
  Splits-map [] i splits = splits
  Splits-map (x ∷ xs) zero splits = (splits.0, Splits-map xs zero splits.1)
  Splits-map (x ∷ xs) (suc i) splits = (splits.0, Splits-map xs i splits.1)

module _ {T Z : Type 0} (p : T → Bool) where
  -- whether a block ends with an element that passes
  abbrev pub block_ends : VecDeque T Z → Bool
  block_ends block = ends_in p block.items

  module _ (laid : Laid T) (blocks : List (VecDeque T Z)) (shown : laid.closed ≡ map deque_items blocks) (filled : AreFilled blocks) (first : IsPartitionedBy p (items_of laid)) where
    full-closed : AreFull p laid.closed
    full-closed = subst (λ (l : List (List T)). AreFull p l) (sym shown) (All-map (λ (l : List T). 0 < length l) deque_items blocks filled)

    ends : (i : ℕ) × Splits (ends_in p) laid.closed i
    ends = ends-split p laid.closed laid.tail (count_by p (items_of laid)) (Splits-counted p (items_of laid) first) full-closed

    -- what the search for the block asks
    pub blocks-first : IsPartitionedBy block_ends blocks
    blocks-first =
        let same : Splits (ends_in p) (map deque_items blocks) ends.0 = subst (λ (l : List (List T)). Splits (ends_in p) l ends.0) shown ends.1 in
        Splits-first block_ends blocks ends.0 (Splits-of_map deque_items (ends_in p) blocks ends.0 same)

    -- the block that is found, by the search or by a guess
    pub found-ends : (n : ℕ) → n ≤ length blocks → IsPartitionPoint (λ (b : VecDeque T Z). block_ends b ≡ true) (λ (b : VecDeque T Z). block_ends b ≡ false) blocks n → Splits (ends_in p) laid.closed n
    found-ends n within found = subst (λ (l : List (List T)). Splits (ends_in p) l n) (sym shown) (Splits-map deque_items (ends_in p) blocks n (Splits-point block_ends blocks n within found))

    pub guessed-ends : (n : ℕ) → IsEdge (ends_in p) (map deque_items blocks) n → Splits (ends_in p) laid.closed n
    guessed-ends n edge =
        let right : IsEdge (ends_in p) laid.closed n = subst (λ (l : List (List T)). IsEdge (ends_in p) l n) (sym shown) edge in
        subst (λ (i : ℕ). Splits (ends_in p) laid.closed i) (Splits-edge (ends_in p) laid.closed n ends.0 ends.1 right) ends.1

module _ {T : Type 0} (p : T → Bool) where
  module _ (laid : Laid T) (first : IsPartitionedBy p (items_of laid)) (n : ℕ) (block : List T) (read : block ≡ get_or (laid.closed ++ laid.tail ∷ []) n []) where
    -- what the search in the block asks
    pub block-first : IsPartitionedBy p block
    block-first =
        let here = block-split p laid.closed laid.tail (count_by p (items_of laid)) n (Splits-counted p (items_of laid) first) in
        subst (λ (l : List T). IsPartitionedBy p l) (sym read) (Splits-first p (get_or (laid.closed ++ laid.tail ∷ []) n []) here.0 here.1)

    module _ (m : ℕ) (ends : Splits (ends_in p) laid.closed n) (within_block : m ≤ length block) (found_block : IsPartitionPoint (λ (x : T). p x ≡ true) (λ (x : T). p x ≡ false) block m) where
      splits-here : Splits p (get_or (laid.closed ++ laid.tail ∷ []) n []) m
      splits-here = subst (λ (l : List T). Splits p l m) read (Splits-point p block m within_block found_block)

      -- the place is one of the list
      pub found-place : IsIn (record { block = n; at = m }) laid
      found-place = record {
        within = Splits-within (ends_in p) laid.closed n ends;
        in_closed = λ lt. place-closed p laid.closed laid.tail n m ends splits-here lt;
        in_tail = λ past. place-tail p laid.closed laid.tail n m (Splits-within (ends_in p) laid.closed n ends) splits-here past;
      }

      -- as many elements pass as lie before it
      pub found-value : at_of (record { block = n; at = m }) laid ≡ count_by p (items_of laid)
      found-value = place-all p laid.closed laid.tail (count_by p (items_of laid)) n m (Splits-counted p (items_of laid) first) ends splits-here

-- a block that was looked at, and whether it ends with an element that passes
pub record IsSeen {T Z : Type 0} (p : T → Bool) (blocks : List (VecDeque T Z)) (at : ℕ) (test : Bool) : Type 0 where
  pub block : VecDeque T Z
  pub read : block ≡ get_or blocks at block
  pub ends : ends_in p block.items ≡ test

module _ {T Z : Type 0} (p : T → Bool) (blocks : List (VecDeque T Z)) where
  seen-ends : (at : ℕ) (test : Bool) → at < length blocks → IsSeen p blocks at test → (x : List T) → slice_get (map deque_items blocks) at ≡ Some x → ends_in p x ≡ test
  seen-ends at test lt seen x here =
      let there : slice_get (map deque_items blocks) at ≡ Some seen.block.items = slice_get-map deque_items blocks at ∙ ap (option_map deque_items) (slice_get_read blocks (length blocks) at seen.block refl lt seen.read) in
      let one : x ≡ seen.block.items = let both = sym here ∙ there in cc in
      ap (ends_in p) one ∙ seen.ends

  pub IsEdge-seen : (place : ℕ) → place ≤ length blocks → (0 < place → IsSeen p blocks (place - 1) true) → (place < length blocks → IsSeen p blocks place false) → IsEdge (ends_in p) (map deque_items blocks) place
  IsEdge-seen place le before behind =
      let many : length (map deque_items blocks) ≡ length blocks = length-map blocks deque_items in
      record {
        within = omega (arith, many, le);
        passed = λ k x is here. seen-ends k true (omega (arith, is, le)) (let at : place - 1 ≡ k = omega (arith, is) in subst (λ (n : ℕ). IsSeen p blocks n true) at (before (omega (arith, is)))) x here;
        failed = λ x here. let lt : place < length blocks = omega (arith, many, slice_get_within (map deque_items blocks) place x here) in seen-ends place false lt (behind lt) x here;
      }

-- a place in a block is one of the list
pub IsIn-block : {T : Type 0} (laid : Laid T) (block at : ℕ) → block ≤ length laid.closed → at < length (get_or (laid.closed ++ laid.tail ∷ []) block []) → IsIn (record { block = block; at = at }) laid
IsIn-block {T} laid block at le lt =
    let both = by laid.closed laid.tail block le lt in
    record { within = le; in_closed = both.0; in_tail = both.1 }
  where
    by : (closed : List (List T)) (tail : List T) (n : ℕ) → n ≤ length closed → at < length (get_or (closed ++ tail ∷ []) n []) → (n < length closed → at < length (get_or closed n [])) × (length closed ≤ n → at ≤ length tail)
    by [] tail zero le lt = ((λ few. absurd (omega arith)), (λ past. omega arith))
    by [] tail (suc n) le lt = absurd (omega arith)
    by (b ∷ bs) tail zero le lt = ((λ few. lt), (λ past. absurd (omega arith)))
    by (b ∷ bs) tail (suc n) le lt =
        let rest = by bs tail n (omega arith) lt in
        ((λ few. rest.0 (omega arith)), (λ past. rest.1 (omega arith)))
