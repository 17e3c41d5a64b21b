use Rattle.std.proofs.Common.{◌≡◌, ◌++◌, length}
use Rattle.std.specs.List.{flat_map}
use Rattle.sr_resp.specs.{array_header}
use Rattle.sr_check.specs.{move_answer}
use Rattle.sr_plan.proofs.reply.moves_reply.Given as goal

abbrev pub invariant-loop-id : goal.invariant-loop-id
invariant-loop-id l =
    l.draft ++ flat_map move_answer l.moves ≡ array_header (length l.initial.moves)
    ++ flat_map move_answer l.initial.moves

abbrev pub decreases-loop-id : goal.decreases-loop-id
decreases-loop-id l = length l.moves
