-- Whose turn it is in an event loop: a queue of tokens, each at most once.

use Rattle.std.specs.Prelude.{ℕ, List, [], ◌∷◌, ◌++◌, ◌&&◌, not, nat_eq, nat_lt, if◌then◌else◌}
use Rattle.std.specs.List.{list_any}

-- the tokens that have a turn, the next one first; and how many tokens there are: those below `most`
pub record Turns : Type 0 where
  pub tokens : List ℕ
  pub most : ℕ

abbrev pub turns : List ℕ → ℕ → Turns
turns tokens most = record { tokens = tokens; most = most }

-- with a turn for this token after all others, if there is such a token and it has none
abbrev pub with_turn : ℕ → Turns → Turns
with_turn token ring =
    if nat_lt token ring.most && not (list_any (nat_eq token) ring.tokens)
    then turns (ring.tokens ++ token ∷ []) ring.most
    else ring

-- with a turn for this token before all others, if there is such a token and it has none
abbrev pub with_first_turn : ℕ → Turns → Turns
with_first_turn token ring =
    if nat_lt token ring.most && not (list_any (nat_eq token) ring.tokens)
    then turns (token ∷ ring.tokens) ring.most
    else ring
