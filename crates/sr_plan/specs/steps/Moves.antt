-- What the cursors over the moves and over the prices of a plan keep. No public clause cites this module.

use Rattle.std.specs.Prelude.{◌≡◌, ℕ, ◌<◌, List, All, length}
use Rattle.std.specs.List.{sum_by}
use Rattle.sr_policy.specs.{tier_count}
use Rattle.sr_policy.specs.declared.live.Live.{Live}
use Rattle.sr_policy.specs.declared.stranded.Stranded.{Stranded}

-- there is a price for each tier of the live consumers
abbrev pub ArePrices : List Live → List ℕ → Type 0
ArePrices live prices = length prices ≡ sum_by tier_count live

-- each entry goes to one of the live consumers
pub record AreMoves (stranded : List Stranded) (assign : List ℕ) (live : List Live) : Type 0 where
  pub each : length assign ≡ length stranded
  pub consumers : All (λ c. c < length live) assign
