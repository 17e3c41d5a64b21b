use Rattle.std.proofs.Common.{◌≡◌, ◌++◌, length, map}
use Rattle.sr_live.proofs.words.list_of.Given as goal

abbrev pub invariant-loop-one : goal.invariant-loop-one
invariant-loop-one l = map (λ move. (move.0, move.1.now)) l.list.items ++ l.moves ≡ l.initial.moves

abbrev pub decreases-loop-one : goal.decreases-loop-one
decreases-loop-one l = length l.moves
