use Rattle.std.proofs.Common.{◌≡◌, ◌<◌, ℕ, map}
use Rattle.sr_live.specs.Stars.{IsLongest, key_at}
use Rattle.sr_live.proofs.stars.key_for.Given as goal

abbrev pub invariant-loop-at : goal.invariant-loop-at
invariant-loop-at l =
    ((k : ℕ) → k < l.at → key_at (map (λ key. key.now) l.keys) k ≡ l.consumer → ⊥)
    × IsLongest (map (λ key. key.now) l.keys) l.consumer l.at l.found
