use Rattle.std.proofs.Common.{◌≡◌, ℕ, ◌<◌, length}
use Rattle.sr_transport.specs.plain.Problem.{IsAllowed}
use Rattle.sr_solver.specs.Pairs.{set_at, AreRowsOf}
use Rattle.sr_solver.specs.Sets.{IsIn}
use Rattle.sr_solver.proofs.costs.pairs_of.Given as goal

abbrev pub invariant-loop-entry : goal.invariant-loop-entry
invariant-loop-entry l = record {
  room : length l.row ≡ 64;
  rows : AreRowsOf l.problem l.entry l.starts.items l.pairs.items;
  sets : length l.sets.items ≡ l.entry;
  each : (i c : ℕ) → i < l.entry → IsAllowed l.problem i c → IsIn (set_at l.sets.items i) c;
}
