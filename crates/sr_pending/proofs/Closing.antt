-- An open block that is closed, behind the others.
use Rattle.std.proofs.Common.{◌≡◌, zero, suc, ◌<◌, List, [], ◌∷◌, ◌++◌, length, ap, subst, sym, ◌∙◌, arith}
use Rattle.std.proofs.lemmas.List.{append-nil}
use Rattle.std.proofs.lemmas.List.Elements.{All-append}
use Rattle.std.proofs.lemmas.Grind.{flat_map-append}
use Rattle.std.specs.VecDeque.{deque_items}
use Rattle.std.specs.declared.collections.VecDeque.{VecDeque}
use Rattle.sr_pending.specs.steps.Blocks.{AreFilled, held_in}

module _ {T Z : Type 0} (closed more : List (VecDeque T Z)) (block : VecDeque T Z) (pushed : more ≡ closed ++ block ∷ []) where
  pub closed-items : (tail rest : List T) → block.items ≡ tail → rest ≡ [] → held_in more ++ rest ≡ held_in closed ++ tail
  closed-items tail rest same none =
      ap (λ (l : List T). held_in more ++ l) none
      ∙ append-nil (held_in more)
      ∙ ap (λ (l : List (VecDeque T Z)). held_in l) pushed
      ∙ flat_map-append deque_items closed (block ∷ [])
      ∙ ap (λ (l : List T). held_in closed ++ l) (append-nil block.items ∙ same)

  pub closed-filled : AreFilled closed → 0 < length block.items → AreFilled more
  closed-filled filled full = subst AreFilled (sym pushed) (All-append (λ (d : VecDeque T Z). 0 < length d.items) closed (block ∷ []) filled one)
    where
      one : AreFilled (block ∷ [])
      one zero d lt = full
      one (suc k) d lt = absurd (omega arith)
