-- A value that is brought in before a block of a list in blocks, and what each full block hands on.
use Rattle.std.proofs.Common.{◌≡◌, ℕ, zero, suc, ◌+◌, ◌-◌, ◌<◌, ◌≤◌, List, [], ◌∷◌, ◌++◌, length, get_or, take, drop, set, ap, sym, subst, ◌∙◌, arith}
use Rattle.std.proofs.lemmas.List.{append_assoc, append-nil, drop-set-add, drop_all, get_or-drop, take_all}
use Rattle.std.proofs.lemmas.List.{length-drop}
use Rattle.std.proofs.lemmas.List.Elements.{All-set}
use Rattle.std.specs.VecDeque.{deque_capacity, deque_len}
use Rattle.std.specs.declared.collections.VecDeque.{VecDeque}
use Rattle.sr_pending.specs.steps.Blocks.{AreFilled, held_in}

-- before the block at is value; what came before the block from was given, and no earlier block has changed
pub record Carries {T Z : Type 0} (from : ℕ) (given : T) (old new : VecDeque (VecDeque T Z) Z) (value : T) (at : ℕ) : Type 0 where
  pub items : (rest : List T) → held_in (take at new.items) ++ value ∷ (held_in (drop at new.items) ++ rest) ≡ held_in (take from old.items) ++ given ∷ (held_in (drop from old.items) ++ rest)
  pub before : take from new.items ≡ take from old.items
  pub blocks : deque_len new ≡ deque_len old
  pub places : deque_capacity new ≡ deque_capacity old
  pub filled : AreFilled (drop from old.items) → AreFilled (drop from new.items)

module _ {T Z : Type 0} where
  -- one full block hands its last element on
  pub shifted : (blocks : List (VecDeque T Z)) (i : ℕ) (was is : VecDeque T Z) (value last : T) (rest : List T) → i < length blocks → was ≡ get_or blocks i was → value ∷ was.items ≡ is.items ++ last ∷ [] → held_in (take (suc i) (set blocks i is)) ++ last ∷ (held_in (drop (suc i) (set blocks i is)) ++ rest) ≡ held_in (take i blocks) ++ value ∷ (held_in (drop i blocks) ++ rest)
  shifted [] i was is value last rest within read moved = absurd (omega arith)
  shifted (d ∷ ds) zero was is value last rest within read moved =
      let first : value ∷ d.items ≡ is.items ++ last ∷ [] = rw read at moved in
      ap (λ (l : List T). l ++ last ∷ (held_in ds ++ rest)) (append-nil is.items)
      ∙ sym (append_assoc is.items (last ∷ []) (held_in ds ++ rest))
      ∙ ap (λ (l : List T). l ++ (held_in ds ++ rest)) (sym first)
      ∙ ap (λ (l : List T). value ∷ l) (sym (append_assoc d.items (held_in ds) rest))
  shifted (d ∷ ds) (suc i) was is value last rest within read moved =
      append_assoc d.items _ _
      ∙ ap (λ (l : List T). d.items ++ l) (shifted ds i was is value last rest (omega arith) read moved)
      ∙ sym (append_assoc d.items _ _)

  -- one block takes the value in
  pub pushed : (blocks : List (VecDeque T Z)) (i : ℕ) (was is : VecDeque T Z) (value : T) (rest : List T) → i < length blocks → was ≡ get_or blocks i was → is.items ≡ value ∷ was.items → held_in (set blocks i is) ++ rest ≡ held_in (take i blocks) ++ value ∷ (held_in (drop i blocks) ++ rest)
  pushed [] i was is value rest within read moved = absurd (omega arith)
  pushed (d ∷ ds) zero was is value rest within read moved =
      let first : is.items ≡ value ∷ d.items = rw read at moved in
      rw first
  pushed (d ∷ ds) (suc i) was is value rest within read moved =
      append_assoc d.items _ _
      ∙ ap (λ (l : List T). d.items ++ l) (pushed ds i was is value rest (omega arith) read moved)
      ∙ sym (append_assoc d.items _ _)

  -- behind all blocks it comes before the rest
  pub behind : (blocks : List (VecDeque T Z)) (at : ℕ) (value : T) (rest : List T) → length blocks ≤ at → held_in blocks ++ value ∷ rest ≡ held_in (take at blocks) ++ value ∷ (held_in (drop at blocks) ++ rest)
  behind blocks at value rest past =
      ap (λ (l : List (VecDeque T Z)). held_in l ++ value ∷ rest) (sym (take_all at blocks past))
      ∙ ap (λ (l : List (VecDeque T Z)). held_in (take at blocks) ++ value ∷ (held_in l ++ rest)) (sym (drop_all at blocks past))

  -- behind a place all blocks stay filled if one of them is filled anew
  pub filled-set : (blocks : List (VecDeque T Z)) (from i : ℕ) (is : VecDeque T Z) → from ≤ i → 0 < length is.items → AreFilled (drop from blocks) → AreFilled (drop from (set blocks i is))
  filled-set blocks from i is le full filled =
      let apart : from + (i - from) ≡ i = omega arith in
      let moved : drop from (set blocks i is) ≡ set (drop from blocks) (i - from) is = ap (λ (n : ℕ). drop from (set blocks n is)) (sym apart) ∙ drop-set-add from blocks (i - from) is in
      subst AreFilled (sym moved) (All-set (λ (d : VecDeque T Z). 0 < length d.items) (drop from blocks) (i - from) is full filled)

  -- and each of them is filled
  pub filled-at : (blocks : List (VecDeque T Z)) (from i : ℕ) (was : VecDeque T Z) → from ≤ i → i < length blocks → was ≡ get_or blocks i was → AreFilled (drop from blocks) → 0 < length was.items
  filled-at blocks from i was le within read filled =
      let apart : from + (i - from) ≡ i = omega arith in
      let moved : get_or (drop from blocks) (i - from) was ≡ get_or blocks i was = get_or-drop from blocks (i - from) was ∙ ap (λ (n : ℕ). get_or blocks n was) apart in
      let short : i - from < length (drop from blocks) = let l = length-drop from blocks in omega arith in
      subst (λ (d : VecDeque T Z). 0 < length d.items) (moved ∙ sym read) (filled (i - from) was short)
