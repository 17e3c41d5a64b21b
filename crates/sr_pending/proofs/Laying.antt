-- What a list in blocks keeps after a change of its parts.
use Rattle.std.proofs.Common.{◌≡◌, ℕ, ◌+◌, ◌-◌, ◌*◌, ◌^◌, ◌<◌, ◌≤◌, ◌++◌, List, ◌∷◌, length, drop, take, inl, inr, ap, subst, sym, ◌∙◌, arith}
use Rattle.std.proofs.lemmas.Bool.{cases_lt}
use Rattle.std.proofs.lemmas.List.{length-append, length-drop, length-take}
use Rattle.std.specs.List.{insert}
use Rattle.std.specs.VecDeque.{deque_capacity, deque_len}
use Rattle.std.specs.declared.collections.VecDeque.{VecDeque}
use Rattle.sr_pending.specs.declared.closed_blocks.TheConstants.{BLOCK}
use Rattle.sr_pending.specs.steps.Blocks.{AreFilled, AreSpare, IsLaid, Rotates, held_in}

longer : {X : Type 0} (xs : List X) (i : ℕ) (x : X) → length (insert xs i x) ≡ length xs + 1
longer xs i x = omega (arith, length-append (take i xs) (x ∷ drop i xs), length-take i xs, length-drop i xs)

module _ {T Z : Type 0} where
  -- the open block may be closed, if what came before left room
  pub laid-rotated : (closed new : VecDeque (VecDeque T Z) Z) (tail tail_new : VecDeque T Z) (spare spare_new : VecDeque (VecDeque T Z) Z) (count room : ℕ) → Rotates closed new tail tail_new spare spare_new → count ≡ length (held_in closed.items ++ tail.items) → deque_len tail + room ≤ deque_capacity tail + BLOCK * deque_len spare → count + room < 2 ^ 63 → IsLaid new tail_new spare_new count room
  laid-rotated closed new tail tail_new spare spare_new count room rotates counted fits small =
      record {
        filled = rotates.filled;
        counted = counted ∙ sym (ap length rotates.items);
        spares = rotates.spares;
        places = rotates.places;
        fits = omega (arith, rotates.fits, fits);
        ready = λ some. elim (cases_lt 0 (deque_len spare_new)) [
          | inl lt ↦ rotates.ready lt
          | inr none ↦ omega (arith, rotates.fits, fits, some, none)
        ];
        small = small;
      }

  module _ (closed : VecDeque (VecDeque T Z) Z) (tail : VecDeque T Z) (spare : VecDeque (VecDeque T Z) Z) (count room : ℕ) (laid : IsLaid closed tail spare count room) where
    -- one more element, in the room that there was
    pub laid-inserted : (put new : VecDeque (VecDeque T Z) Z) (tail_put tail_new : VecDeque T Z) (spare_new : VecDeque (VecDeque T Z) Z) (at : ℕ) (x : T) → Rotates put new tail_put tail_new spare spare_new → held_in put.items ++ tail_put.items ≡ insert (held_in closed.items ++ tail.items) at x → deque_len tail_put ≤ deque_len tail + 1 → deque_capacity tail ≤ deque_capacity tail_put → 0 < room → IsLaid new tail_new spare_new (count + 1) (room - 1)
    laid-inserted put new tail_put tail_new spare_new at x rotates items short wide some =
        let many = ap (λ (l : List T). length l) items ∙ longer (held_in closed.items ++ tail.items) at x in
        laid-rotated put new tail_put tail_new spare spare_new (count + 1) (room - 1) rotates (omega (arith, laid.counted, many)) (omega (arith, laid.fits, short, wide, some)) (omega (arith, laid.small, some))

    -- other closed blocks, no more of them
    pub laid-closed : (new : VecDeque (VecDeque T Z) Z) (left : ℕ) → AreFilled new.items → left ≡ length (held_in new.items ++ tail.items) → deque_len new ≤ deque_len closed → deque_capacity new ≡ deque_capacity closed → left ≤ count → IsLaid new tail spare left room
    laid-closed new left filled counted blocks places le =
        record {
          filled = filled;
          counted = counted;
          spares = laid.spares;
          places = omega (arith, laid.places, blocks, places);
          fits = laid.fits;
          ready = laid.ready;
          small = omega (arith, laid.small, le);
        }

    -- another open block with no more elements
    pub laid-tail : (new : VecDeque T Z) (left : ℕ) → left + deque_len tail ≡ count + deque_len new → deque_len new ≤ deque_len tail → deque_capacity new ≡ deque_capacity tail → IsLaid closed new spare left room
    laid-tail new left moved short wide =
        let had = length-append (held_in closed.items) tail.items in
        let has = length-append (held_in closed.items) new.items in
        record {
          filled = laid.filled;
          counted = omega (arith, laid.counted, had, has, tail.ok.0, new.ok.0, moved);
          spares = laid.spares;
          places = laid.places;
          fits = omega (arith, laid.fits, short, wide);
          ready = λ some. omega (arith, laid.ready some, short, wide);
          small = omega (arith, laid.small, moved, short);
        }

    -- the open block with memory for what is to come
    pub laid-wider : (new : VecDeque T Z) (more : ℕ) → new.items ≡ tail.items → deque_len new + more ≤ deque_capacity new → count + more < 2 ^ 63 → IsLaid closed new spare count more
    laid-wider new more same wide few =
        record {
          filled = laid.filled;
          counted = laid.counted ∙ sym (ap (λ (l : List T). length (held_in closed.items ++ l)) same);
          spares = laid.spares;
          places = laid.places;
          fits = omega (arith, wide);
          ready = λ some. omega (arith, wide, some);
          small = few;
        }

    -- more memory for it
    pub laid-wide : (new : VecDeque T Z) → new.items ≡ tail.items → deque_len new ≡ deque_len tail → deque_capacity tail ≤ deque_capacity new → IsLaid closed new spare count room
    laid-wide new same len wide =
        record {
          filled = laid.filled;
          counted = laid.counted ∙ sym (ap (λ (l : List T). length (held_in closed.items ++ l)) same);
          spares = laid.spares;
          places = laid.places;
          fits = omega (arith, laid.fits, len, wide);
          ready = λ some. omega (arith, laid.ready some, len, wide);
          small = laid.small;
        }

    -- more spare blocks, and places for them
    pub laid-spare : (new more : VecDeque (VecDeque T Z) Z) → new.items ≡ closed.items → AreSpare more.items → deque_len spare ≤ deque_len more → deque_len new + deque_len more ≤ deque_capacity new → IsLaid new tail more count room
    laid-spare new more same spares least places =
        record {
          filled = subst AreFilled (sym same) laid.filled;
          counted = laid.counted ∙ sym (ap (λ (l : List (VecDeque T Z)). length (held_in l ++ tail.items)) same);
          spares = spares;
          places = places;
          fits = omega (arith, laid.fits, least);
          ready = laid.ready;
          small = laid.small;
        }
