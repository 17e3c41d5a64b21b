use Rattle.std.proofs.Common.{◌≤◌, ◌+◌, ◌-◌, length}
use Rattle.sr_resp.specs.Scanning.{Scanning}
use Rattle.sr_resp.proofs.scan.scan.Given as goal

abbrev pub invariant-loop-at : goal.invariant-loop-at
invariant-loop-at l = record {
  scanning : Scanning l.item l.from l.fn.entered l.initial.places.items l.places.items l.at l.stage;
  rises : l.initial.looked ≤ l.looked;
  looked : l.looked + (length l.item - l.at) ≤ l.initial.looked + (length l.item - l.from);
}

abbrev pub decreases-loop-at : goal.decreases-loop-at
decreases-loop-at l = length l.item - l.at
