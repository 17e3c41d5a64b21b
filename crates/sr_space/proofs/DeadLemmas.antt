-- What is pending for one dead consumer.
use Rattle.std.proofs.Common.{◌≡◌, ℕ, Bool, true, false, cond, List, [], ◌∷◌, filter, length, get_or, refl, sym, ap, ◌∙◌, ◌≤◌, ◌<◌, arith}
use Rattle.std.specs.Cmp.Lexicographic.{bytes_decides}
use Rattle.sr_pending.specs.declared.nack.Nack.{Nack}
use Rattle.sr_pending.specs.{is_same_name, owned_by}
use Rattle.sr_policy.specs.{Text, is_among}
use Rattle.sr_space.specs.Snap.{of_dead}

-- a test finds the same among what a weaker test lets through
pub filter-within : {X : Type 0} (p q : X → Bool) → ((x : X) → p x ≡ true → q x ≡ true) → (xs : List X) → filter p (filter q xs) ≡ filter p xs
filter-within p q within [] = refl
filter-within {X = X} p q within (x ∷ xs) = by (q x) refl (p x) refl (filter-within p q within xs)
  where
    by : (b : Bool) → q x ≡ b → (a : Bool) → p x ≡ a → filter p (filter q xs) ≡ filter p xs
        → filter p (cond b (x ∷ filter q xs) (filter q xs)) ≡ cond a (x ∷ filter p xs) (filter p xs)
    by true weak true strong rest = rw strong (ap (λ (l : List X). x ∷ l) rest)
    by true weak false strong rest = rw strong rest
    by false weak true strong rest = absurd (let both : false ≡ true = sym weak ∙ within x strong in cc)
    by false weak false strong rest = rest

-- who is among one name has it
among-one : (name other : Text) → is_among (name ∷ []) other ≡ true → is_same_name other name ≡ true
among-one name other among = by (is_same_name name other) refl
  where
    by : (test : Bool) → is_same_name name other ≡ test → is_same_name other name ≡ true
    by true same = let one : name ≡ other = (bytes_decides name other).0 same in (bytes_decides other name).1 (sym one)
    by false apart = absurd (let both : is_among (name ∷ []) other ≡ true = among in grind arith)

-- a list of one item
only : (xs : List Text) (x : Text) → 1 ≤ length xs → length xs < 2 → x ≡ get_or xs 0 x → xs ≡ x ∷ []
only [] x some few first = absurd (omega arith)
only (y ∷ []) x some few first = ap (λ (z : Text). z ∷ []) (sym first)
only (y ∷ z ∷ xs) x some few first = absurd (omega arith)

-- if one consumer is dead, nothing of what is pending for it is lost among its own entries
pub of_dead-only : (dead : List Text) (name : Text) (nacks own : List Nack) → 1 ≤ length dead → length dead < 2 → name ≡ get_or dead 0 name → own ≡ owned_by name nacks → of_dead dead own ≡ of_dead dead nacks
of_dead-only dead name nacks own some few first is =
    let one : dead ≡ name ∷ [] = only dead name some few first in
    rw (one, is) (filter-within (λ (nack : Nack). is_among (name ∷ []) nack.owner) (λ (nack : Nack). is_same_name nack.owner name)
    (λ nack. among-one name nack.owner) nacks)
