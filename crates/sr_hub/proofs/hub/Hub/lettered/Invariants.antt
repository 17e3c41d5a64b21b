use Rattle.std.proofs.Common.{ℕ, ◌<◌}
use Rattle.sr_hub.specs.Lines.{IsLettered, state_of}
use Rattle.sr_hub.proofs.hub.Hub.lettered.Given as goal

-- none before it has a letter
abbrev pub invariant-loop-token : goal.invariant-loop-token
invariant-loop-token l = (earlier : ℕ) → earlier < l.token → IsLettered (state_of l.self) earlier → ⊥
