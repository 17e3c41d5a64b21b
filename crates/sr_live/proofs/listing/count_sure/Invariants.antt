use Rattle.std.proofs.Common.{◌≡◌, All, Some, true, take}
use Rattle.sr_live.specs.steps.Listing.{are_sure}
use Rattle.sr_live.proofs.listing.count_sure.Given as goal

abbrev pub invariant-loop-at : goal.invariant-loop-at
invariant-loop-at l = All (λ one. are_sure l.listings (Some one.0) ≡ true) (take l.at l.ahead)
