-- The elements from one place to another, where they lie in blocks one after another.
use Rattle.std.proofs.Common.{◌≡◌, ℕ, zero, suc, ◌+◌, ◌-◌, ◌<◌, ◌≤◌, List, [], ◌∷◌, ◌++◌, length, get_or, take, drop, map, min, ◌⊎◌, inl, inr, ap, sym, subst, ◌∙◌, arith}
use Rattle.std.proofs.lemmas.List.{append_assoc, append-nil, drop-map, length-append, length-drop, length-map, take-append-le, take-map, take_rest, drop-append-le}
use Rattle.std.proofs.lemmas.Bool.{cases_lt}
use Rattle.std.proofs.lemmas.List.Folds.{flat_map-map}
use Rattle.std.proofs.lemmas.Grind.{flat_map-append}
use Rattle.std.proofs.Math.Seq.{take-append-add, drop-append-add}
use Rattle.std.specs.List.{flat_map, slice_range}
use Rattle.std.specs.VecDeque.{deque_items, deque_len}
use Rattle.std.specs.declared.collections.VecDeque.{VecDeque}
use Rattle.sr_pending.specs.declared.blocks.Place.{Place}
use Rattle.sr_pending.specs.steps.Blocks.{IsIn, Laid, at_of, held_in, items_of}

module _ {T : Type 0} where
  -- all elements of these blocks
  abbrev pub flat : List (List T) → List T
  flat blocks = flat_map (λ (block : List T). block) blocks

  -- where the elements of a block start
  abbrev pub start : List (List T) → ℕ → ℕ
  start blocks b = length (flat (take b blocks))

  slice-none : (l : List T) (a b : ℕ) → b ≤ a → slice_range l a b ≡ []
  slice-none l a b le = let none : b - a ≡ 0 = omega arith in ap (λ (n : ℕ). take n (drop a l)) none

  slice-behind : (x ys : List T) (a b : ℕ) → slice_range (x ++ ys) (length x + a) (length x + b) ≡ slice_range ys a b
  slice-behind x ys a b =
      let less : length x + b - (length x + a) ≡ b - a = omega arith in
      ap (λ (n : ℕ). take n (drop (length x + a) (x ++ ys))) less ∙ ap (λ (l : List T). take (b - a) l) (drop-append-add x ys a)

  slice-within : (x ys : List T) (a b : ℕ) → a ≤ length x → b ≤ length x → slice_range (x ++ ys) a b ≡ slice_range x a b
  slice-within x ys a b la lb =
      let short : b - a ≤ length (drop a x) = omega (arith, length-drop a x) in
      ap (λ (l : List T). take (b - a) l) (drop-append-le a x ys la) ∙ take-append-le (b - a) (drop a x) ys short

  slice-across : (x ys : List T) (a n : ℕ) → a ≤ length x → slice_range (x ++ ys) a (length x + n) ≡ drop a x ++ take n ys
  slice-across x ys a n la =
      let far : length x + n - a ≡ length (drop a x) + n = omega (arith, length-drop a x) in
      ap (λ (l : List T). take (length x + n - a) l) (drop-append-le a x ys la) ∙ ap (λ (m : ℕ). take m (drop a x ++ ys)) far ∙ take-append-add (drop a x) ys n

  slice-min : (x : List T) (a b : ℕ) → slice_range x (min a b) b ≡ slice_range x a b
  slice-min x a b = go (cases_lt a b)
    where
      go : (a < b) ⊎ (b ≤ a) → slice_range x (min a b) b ≡ slice_range x a b
      go (inl lt) = let same : min a b ≡ a = omega arith in ap (λ (n : ℕ). slice_range x n b) same
      go (inr ge) = slice-none x (min a b) b (omega arith) ∙ sym (slice-none x a b ge)

  start-next : (x : List T) (xs : List (List T)) (b at : ℕ) → start (x ∷ xs) (suc b) + at ≡ length x + (start xs b + at)
  start-next x xs b at = let l = length-append x (flat (take b xs)) in omega arith

  -- the first elements, up to a place
  first-run : (blocks : List (List T)) (p pa : ℕ) → p < length blocks → pa ≤ length (get_or blocks p []) → take (start blocks p + pa) (flat blocks) ≡ flat (take p blocks) ++ take pa (get_or blocks p [])
  first-run [] p pa lt le = absurd (omega arith)
  first-run (x ∷ xs) zero pa lt le =
      let at : 0 + pa ≡ pa = omega arith in
      ap (λ (n : ℕ). take n (x ++ flat xs)) at ∙ take-append-le pa x (flat xs) le
  first-run (x ∷ xs) (suc p) pa lt le =
      ap (λ (n : ℕ). take n (x ++ flat xs)) (start-next x xs p pa)
      ∙ take-append-add x (flat xs) (start xs p + pa)
      ∙ ap (λ (l : List T). x ++ l) (first-run xs p pa (omega arith) le)
      ∙ sym (append_assoc x (flat (take p xs)) (take pa (get_or xs p [])))

  slice-next : (x : List T) (xs : List (List T)) (f p fa pa : ℕ) → slice_range (flat (x ∷ xs)) (start (x ∷ xs) (suc f) + fa) (start (x ∷ xs) (suc p) + pa) ≡ slice_range (flat xs) (start xs f + fa) (start xs p + pa)
  slice-next x xs f p fa pa =
      ap (λ (n : ℕ). slice_range (x ++ flat xs) n (start (x ∷ xs) (suc p) + pa)) (start-next x xs f fa)
      ∙ ap (λ (n : ℕ). slice_range (x ++ flat xs) (length x + (start xs f + fa)) n) (start-next x xs p pa)
      ∙ slice-behind x (flat xs) (start xs f + fa) (start xs p + pa)

  -- within one block
  run-same : (blocks : List (List T)) (b fa pa : ℕ) → b < length blocks → fa ≤ length (get_or blocks b []) → pa ≤ length (get_or blocks b []) → slice_range (flat blocks) (start blocks b + fa) (start blocks b + pa) ≡ slice_range (get_or blocks b []) fa pa
  run-same [] b fa pa lt lf lp = absurd (omega arith)
  run-same (x ∷ xs) zero fa pa lt lf lp =
      let at : 0 + fa ≡ fa = omega arith in
      let past : 0 + pa ≡ pa = omega arith in
      ap (λ (n : ℕ). slice_range (x ++ flat xs) n (0 + pa)) at
      ∙ ap (λ (n : ℕ). slice_range (x ++ flat xs) fa n) past
      ∙ slice-within x (flat xs) fa pa lf lp
  run-same (x ∷ xs) (suc b) fa pa lt lf lp = slice-next x xs b b fa pa ∙ run-same xs b fa pa (omega arith) lf lp

  -- a block ends before a later one starts
  start-after : (blocks : List (List T)) (p f : ℕ) → p < f → f ≤ length blocks → start blocks p + length (get_or blocks p []) ≤ start blocks f
  start-after [] p f lt le = absurd (omega arith)
  start-after (x ∷ xs) p zero lt le = absurd (omega arith)
  start-after (x ∷ xs) zero (suc f) lt le = let l = length-append x (flat (take f xs)) in omega arith
  start-after (x ∷ xs) (suc p) (suc f) lt le =
      let l = length-append x (flat (take f xs)) in
      let m = length-append x (flat (take p xs)) in
      omega (arith, start-after xs p f (omega arith) (omega arith))

  -- back to an earlier block
  run-none : (blocks : List (List T)) (f p fa pa : ℕ) → p < f → f ≤ length blocks → pa ≤ length (get_or blocks p []) → slice_range (flat blocks) (start blocks f + fa) (start blocks p + pa) ≡ []
  run-none blocks f p fa pa lt le lp =
      slice-none (flat blocks) (start blocks f + fa) (start blocks p + pa) (omega (arith, start-after blocks p f lt le))

  -- on to a later block
  run-apart : (blocks : List (List T)) (f p fa pa : ℕ) → f < p → p < length blocks → fa ≤ length (get_or blocks f []) → pa ≤ length (get_or blocks p []) → slice_range (flat blocks) (start blocks f + fa) (start blocks p + pa) ≡ drop fa (get_or blocks f []) ++ (flat (slice_range blocks (suc f) p) ++ take pa (get_or blocks p []))
  run-apart [] f p fa pa lt le lf lp = absurd (omega arith)
  run-apart (x ∷ xs) f zero fa pa lt le lf lp = absurd (omega arith)
  run-apart (x ∷ xs) zero (suc p) fa pa lt le lf lp =
      let at : 0 + fa ≡ fa = omega arith in
      let less : suc p - 1 ≡ p = omega arith in
      ap (λ (n : ℕ). slice_range (x ++ flat xs) n (start (x ∷ xs) (suc p) + pa)) at
      ∙ ap (λ (n : ℕ). slice_range (x ++ flat xs) fa n) (start-next x xs p pa)
      ∙ slice-across x (flat xs) fa (start xs p + pa) lf
      ∙ ap (λ (l : List T). drop fa x ++ l) (first-run xs p pa (omega arith) lp)
      ∙ ap (λ (n : ℕ). drop fa x ++ (flat (take n xs) ++ take pa (get_or xs p []))) (sym less)
  run-apart (x ∷ xs) (suc f) (suc p) fa pa lt le lf lp =
      let less : suc p - suc (suc f) ≡ p - suc f = omega arith in
      slice-next x xs f p fa pa
      ∙ run-apart xs f p fa pa (omega arith) (omega arith) lf lp
      ∙ ap (λ (n : ℕ). drop fa (get_or xs f []) ++ (flat (take n (drop (suc f) xs)) ++ take pa (get_or xs p []))) (sym less)

  -- a place is within its block
  at-within : (closed : List (List T)) (tail : List T) (b at : ℕ) → b ≤ length closed → (b < length closed → at < length (get_or closed b [])) → (length closed ≤ b → at ≤ length tail) → at ≤ length (get_or (closed ++ tail ∷ []) b [])
  at-within [] tail zero at le inside behind = behind (omega arith)
  at-within [] tail (suc b) at le inside behind = absurd (omega arith)
  at-within (x ∷ xs) tail zero at le inside behind = omega (arith, inside (omega arith))
  at-within (x ∷ xs) tail (suc b) at le inside behind = at-within xs tail b at (omega arith) (λ lt. inside (omega arith)) (λ ge. behind (omega arith))

  -- the open block is the last one
  all-flat : (closed : List (List T)) (tail : List T) → flat (closed ++ tail ∷ []) ≡ flat closed ++ tail
  all-flat closed tail = flat_map-append (λ (block : List T). block) closed (tail ∷ []) ∙ ap (λ (l : List T). flat closed ++ l) (append-nil tail)

  all-start : (closed : List (List T)) (tail : List T) (b : ℕ) → b ≤ length closed → start (closed ++ tail ∷ []) b ≡ start closed b
  all-start closed tail b le = ap (λ (l : List (List T)). length (flat l)) (take-append-le b closed (tail ∷ []) le)

  all-length : (closed : List (List T)) (tail : List T) (b : ℕ) → b ≤ length closed → b < length (closed ++ tail ∷ [])
  all-length closed tail b le = let l = length-append closed (tail ∷ []) in omega arith

  all-slice : (closed : List (List T)) (tail : List T) (f p fa pa : ℕ) → f ≤ length closed → p ≤ length closed → slice_range (flat closed ++ tail) (start closed f + fa) (start closed p + pa) ≡ slice_range (flat (closed ++ tail ∷ [])) (start (closed ++ tail ∷ []) f + fa) (start (closed ++ tail ∷ []) p + pa)
  all-slice closed tail f p fa pa lf lp =
      ap (λ (l : List T). slice_range l (start closed f + fa) (start closed p + pa)) (sym (all-flat closed tail))
      ∙ ap (λ (n : ℕ). slice_range (flat (closed ++ tail ∷ [])) (n + fa) (start closed p + pa)) (sym (all-start closed tail f lf))
      ∙ ap (λ (n : ℕ). slice_range (flat (closed ++ tail ∷ [])) (start (closed ++ tail ∷ []) f + fa) (n + pa)) (sym (all-start closed tail p lp))

  place-within : (laid : Laid T) (place : Place) → IsIn place laid → place.at ≤ length (get_or (laid.closed ++ laid.tail ∷ []) place.block [])
  place-within laid place is = at-within laid.closed laid.tail place.block place.at is.within is.in_closed is.in_tail

  laid-slice : (laid : Laid T) (from past : Place) → IsIn from laid → IsIn past laid → slice_range (items_of laid) (at_of from laid) (at_of past laid) ≡ slice_range (flat (laid.closed ++ laid.tail ∷ [])) (start (laid.closed ++ laid.tail ∷ []) from.block + from.at) (start (laid.closed ++ laid.tail ∷ []) past.block + past.at)
  laid-slice laid from past is_from is_past = all-slice laid.closed laid.tail from.block past.block from.at past.at is_from.within is_past.within

  -- where both places are in one block
  laid-same : (laid : Laid T) (from past : Place) → IsIn from laid → IsIn past laid → from.block ≡ past.block → slice_range (items_of laid) (at_of from laid) (at_of past laid) ≡ slice_range (get_or (laid.closed ++ laid.tail ∷ []) from.block []) from.at past.at
  laid-same laid from past is_from is_past same =
      let blocks = laid.closed ++ laid.tail ∷ [] in
      let short : past.at ≤ length (get_or blocks from.block []) = subst (λ (b : ℕ). past.at ≤ length (get_or blocks b [])) (sym same) (place-within laid past is_past) in
      laid-slice laid from past is_from is_past
      ∙ ap (λ (b : ℕ). slice_range (flat blocks) (start blocks from.block + from.at) (start blocks b + past.at)) (sym same)
      ∙ run-same blocks from.block from.at past.at (all-length laid.closed laid.tail from.block is_from.within) (place-within laid from is_from) short

  -- one that ends before it starts
  pub runs-none : (laid : Laid T) (from past : Place) → IsIn from laid → IsIn past laid → past.block < from.block → [] ≡ slice_range (items_of laid) (at_of from laid) (at_of past laid)
  runs-none laid from past is_from is_past lt =
      let blocks = laid.closed ++ laid.tail ∷ [] in
      let within : from.block ≤ length blocks = let l = all-length laid.closed laid.tail from.block is_from.within in omega arith in
      sym (run-none blocks from.block past.block from.at past.at lt within (place-within laid past is_past))
      ∙ sym (laid-slice laid from past is_from is_past)

module _ {T Z : Type 0} where
  -- where its block is read
  pub place-fits : (laid : Laid T) (place : Place) (b : ℕ) (block : VecDeque T Z) → IsIn place laid → b ≡ place.block → block.items ≡ get_or (laid.closed ++ laid.tail ∷ []) b [] → place.at ≤ deque_len block
  place-fits laid place b block is same read =
      let here = read ∙ ap (λ (n : ℕ). get_or (laid.closed ++ laid.tail ∷ []) n []) same in
      omega (arith, block.ok.0, ap (λ (l : List T). length l) here, place-within laid place is)

  -- the closed blocks up to a place
  pub blocks-fit : (laid : Laid T) (closed : VecDeque (VecDeque T Z) Z) (n : ℕ) → map deque_items closed.items ≡ laid.closed → n ≤ length laid.closed → n ≤ deque_len closed
  blocks-fit laid closed n shown le = omega (arith, closed.ok.0, length-map closed.items deque_items, ap (λ (l : List (List T)). length l) shown)

  -- a run within one block
  pub runs-same : (laid : Laid T) (from past : Place) (block first last : List T) (middle : List (VecDeque T Z)) (at : ℕ) → IsIn from laid → IsIn past laid → from.block ≡ past.block → block ≡ get_or (laid.closed ++ laid.tail ∷ []) from.block [] → at ≡ min from.at past.at → first ≡ slice_range block at past.at → middle ≡ [] → last ≡ [] → first ++ held_in middle ++ last ≡ slice_range (items_of laid) (at_of from laid) (at_of past laid)
  runs-same laid from past block first last middle at is_from is_past same read least is_first is_middle is_last =
      append_assoc first (held_in middle) last
      ∙ ap (λ (l : List (VecDeque T Z)). first ++ (held_in l ++ last)) is_middle
      ∙ ap (λ (l : List T). first ++ l) is_last
      ∙ append-nil first
      ∙ is_first
      ∙ ap (λ (n : ℕ). slice_range block n past.at) least
      ∙ slice-min block from.at past.at
      ∙ ap (λ (l : List T). slice_range l from.at past.at) read
      ∙ sym (laid-same laid from past is_from is_past same)

  -- the whole blocks between two places
  between : (ds : List (VecDeque T Z)) (tail : List T) (f p : ℕ) → f < p → p ≤ length (map deque_items ds) → flat (slice_range (map deque_items ds ++ tail ∷ []) (suc f) p) ≡ held_in (slice_range ds (f + 1) p)
  between ds tail f p lt le =
      let closed = map deque_items ds in
      let step : suc f ≡ f + 1 = omega arith in
      let first : suc f ≤ length closed = omega arith in
      let short : p - suc f ≤ length (drop (suc f) closed) = omega (arith, length-drop (suc f) closed) in
      ap (λ (l : List (List T)). flat (take (p - suc f) l)) (drop-append-le (suc f) closed (tail ∷ []) first)
      ∙ ap (λ (l : List (List T)). flat l) (take-append-le (p - suc f) (drop (suc f) closed) (tail ∷ []) short)
      ∙ ap (λ (l : List (List T)). flat (take (p - suc f) l)) (drop-map deque_items (suc f) ds)
      ∙ ap (λ (l : List (List T)). flat l) (take-map deque_items (p - suc f) (drop (suc f) ds))
      ∙ flat_map-map (λ (block : List T). block) deque_items (slice_range ds (suc f) p)
      ∙ ap (λ (n : ℕ). held_in (slice_range ds n p)) step

  -- one over several blocks
  pub runs-apart : (laid : Laid T) (from past : Place) (ds : List (VecDeque T Z)) (block_from block_past first last : List T) (middle : List (VecDeque T Z)) (len : ℕ) → laid.closed ≡ map deque_items ds → IsIn from laid → IsIn past laid → from.block < past.block → block_from ≡ get_or (laid.closed ++ laid.tail ∷ []) from.block [] → block_past ≡ get_or (laid.closed ++ laid.tail ∷ []) past.block [] → len ≡ length block_from → first ≡ slice_range block_from from.at len → middle ≡ slice_range ds (from.block + 1) past.block → last ≡ slice_range block_past 0 past.at → first ++ held_in middle ++ last ≡ slice_range (items_of laid) (at_of from laid) (at_of past laid)
  runs-apart laid from past ds block_from block_past first last middle len shown is_from is_past lt read_from read_past is_len is_first is_middle is_last =
      let blocks = laid.closed ++ laid.tail ∷ [] in
      let f = from.block in
      let p = past.block in
      let all : past.at - 0 ≡ past.at = omega arith in
      let front : first ≡ drop from.at (get_or blocks f []) = is_first ∙ ap (λ (n : ℕ). slice_range block_from from.at n) is_len ∙ take_rest block_from from.at ∙ ap (λ (l : List T). drop from.at l) read_from in
      let back : last ≡ take past.at (get_or blocks p []) = is_last ∙ ap (λ (n : ℕ). take n block_past) all ∙ ap (λ (l : List T). take past.at l) read_past in
      let inner : held_in middle ≡ flat (slice_range blocks (suc f) p) =
      ap (λ (l : List (VecDeque T Z)). held_in l) is_middle
      ∙ sym (between ds laid.tail f p lt (subst (λ (l : List (List T)). p ≤ length l) shown is_past.within))
      ∙ ap (λ (l : List (List T)). flat (slice_range (l ++ laid.tail ∷ []) (suc f) p)) (sym shown) in
      append_assoc first (held_in middle) last
      ∙ ap (λ (l : List T). l ++ (held_in middle ++ last)) front
      ∙ ap (λ (l : List T). drop from.at (get_or blocks f []) ++ (l ++ last)) inner
      ∙ ap (λ (l : List T). drop from.at (get_or blocks f []) ++ (flat (slice_range blocks (suc f) p) ++ l)) back
      ∙ sym (run-apart blocks f p from.at past.at lt (all-length laid.closed laid.tail p is_past.within) (place-within laid from is_from) (place-within laid past is_past))
      ∙ sym (laid-slice laid from past is_from is_past)
