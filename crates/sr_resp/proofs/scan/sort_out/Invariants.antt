use Rattle.std.proofs.Common.{◌≡◌, ◌≤◌, ◌+◌, ◌-◌, length, take}
use Rattle.sr_resp.specs.Scanning.{Sorting}
use Rattle.sr_resp.proofs.scan.sort_out.Given as goal

abbrev pub invariant-loop-found : goal.invariant-loop-found
invariant-loop-found l = record {
  sorting : Sorting l.bytes l.item l.first l.at l.stage l.places.items l.initial.waiting.items l.waiting.items;
  kept : take (length l.initial.places.items) l.places.items ≡ l.initial.places.items;
  rises : l.initial.looked ≤ l.looked;
  looked : l.looked + (length l.item - l.at) ≤ l.initial.looked + (length l.bytes - l.from);
}

abbrev pub decreases-loop-found : goal.decreases-loop-found
decreases-loop-found l = length l.item
