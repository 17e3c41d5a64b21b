-- Words that are written once each.

use Rattle.std.specs.Prelude.{⊤, ◌≡◌, ◌⊎◌, ℕ, List, [], ◌∷◌}

-- the word is one of these
abbrev pub IsAmong : List ℕ → List (List ℕ) → Type 0
IsAmong word [] = ⊥
IsAmong word (other ∷ words) = (word ≡ other) ⊎ IsAmong word words

-- no word is written twice
abbrev pub AreDifferent : List (List ℕ) → Type 0
AreDifferent [] = ⊤
AreDifferent (word ∷ words) = (IsAmong word words → ⊥) × AreDifferent words
