use Rattle.std.proofs.Common.{◌≡◌, map, take}
use Rattle.sr_live.specs.steps.Listing.{unlisted_of}
use Rattle.sr_live.proofs.listing.unlisted.Given as goal

abbrev pub invariant-loop-name : goal.invariant-loop-name
invariant-loop-name l = l.listings.items ≡ map unlisted_of (take l.name-index l.dead)
