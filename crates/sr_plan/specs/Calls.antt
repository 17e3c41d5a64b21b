-- The calls of XCLAIM that carry out a plan: one for each consumer that gets entries.
-- Source: docs/RECOVERY.md; Redis documentation, command XCLAIM.

use Rattle.std.specs.Prelude.{pos, List, map, None, true}
use Rattle.sr_args.specs.declared.call.Call.{Call}
use Rattle.sr_args.specs.declared.call.Call.TheVariants.{Xclaim}
use Rattle.sr_args.specs.declared.commands.xclaim.TimeAsked.TheVariants.{Now}
use Rattle.sr_policy.specs.{Text, SnapshotState}
use Rattle.sr_plan.specs.Batches.{BatchState, batches_in}
use Rattle.sr_plan.specs.Verdict.{PlanAnswer}

-- XCLAIM key group consumer 0 id .. JUSTID
abbrev pub claim_call : Text → Text → BatchState → Call
claim_call key group batch = Xclaim (record {
  key = key;
  group = group;
  consumer = batch.consumer;
  least_idle = pos 0;
  ids = batch.ids;
  time = Now;
  count = None;
  just_ids = true;
})

-- the call for each of these batches, in their order
abbrev pub calls_for : Text → Text → List BatchState → List Call
calls_for key group batches = map (claim_call key group) batches

-- the calls of a verdict: none for a shortage
abbrev pub claim_calls : SnapshotState → PlanAnswer → List Call
claim_calls shown answer = calls_for shown.key shown.group (batches_in shown answer)
