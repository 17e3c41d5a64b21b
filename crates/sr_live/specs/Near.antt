-- A group in which few entries came and went.
-- Source: docs/LIVE.md.

use Rattle.std.specs.Prelude.{⊤, ◌≡◌, ℕ, ◌+◌, ◌≤◌, List, [], ◌∷◌}
use Rattle.sr_policy.specs.declared.live.Live.{Live}
use Rattle.sr_live.specs.Bounds.{terms_of}

-- a consumer on the same terms, for which at most so many entries more are pending, or fewer
pub record IsNear (n : ℕ) (old now : Live) : Type 0 where
  pub terms : terms_of old ≡ terms_of now
  pub more : now.pending ≤ old.pending + n
  pub fewer : old.pending ≤ now.pending + n

-- the same for each of them
abbrev pub AreNear : ℕ → List Live → List Live → Type 0
AreNear n [] [] = ⊤
AreNear n (before ∷ old) (after ∷ now) = IsNear n before after × AreNear n old now
AreNear n [] (after ∷ now) = ⊥
AreNear n (before ∷ old) [] = ⊥
