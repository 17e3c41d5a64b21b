use Rattle.std.proofs.Common.{◌≡◌, ◌≤◌, length, map, take}
use Rattle.sr_live.specs.Words.{ids_to}
use Rattle.sr_live.proofs.spare.count_for.Given as goal

abbrev pub invariant-loop-one : goal.invariant-loop-one
invariant-loop-one l = record {
  counted : l.count ≡ length (ids_to (map (λ move. (move.0, move.1.now)) (take l.one-index l.moves)) l.name);
  few : l.count ≤ l.one-index;
}
