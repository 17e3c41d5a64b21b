-- Private clauses alone cite this: the batches of a plan that are moved to their consumers in one group.

use Rattle.std.specs.Prelude.{ℕ, List, map, Option, Some, None, pos, true}
use Rattle.sr_args.specs.declared.commands.xclaim.TimeAsked.TheVariants.{Now}
use Rattle.sr_group.specs.{after_moves, GroupState}
use Rattle.sr_group.specs.Claim.{MoveState}
use Rattle.sr_plan.specs.{BatchState}
use Rattle.sr_stream.specs.{group_with, with_group, StreamState, with_groups}
use Rattle.sr_space.specs.Bounds.{in_63_bits}
use Rattle.sr_space.specs.commands.Xclaim.{claim_of}

-- a batch as a move, with the claim of XCLAIM 0 .. JUSTID
abbrev pub move_for : BatchState → MoveState
move_for batch = record {
  claimer = batch.consumer;
  claim = claim_of (pos 0) Now None true;
  ids = batch.ids;
}

-- a stream after these batches are moved in a group that was found
abbrev pub with_batches : ℕ → List BatchState → List ℕ → StreamState → Option GroupState → StreamState
with_batches moment batches name stream None = stream
with_batches moment batches name stream (Some group) = with_groups
    (with_group name (after_moves (in_63_bits moment) stream.entries (map move_for batches) group) stream.groups)
    stream

-- the stream after these batches are moved in its group of this name, if it has one
abbrev pub stream_after : ℕ → List BatchState → List ℕ → StreamState → StreamState
stream_after moment batches name stream = with_batches moment batches name stream (group_with name stream.groups)
