use Rattle.std.proofs.Common.{◌≡◌, ◌+◌, ◌≤◌, length, drop}
use Rattle.sr_check.specs.PlanReply.{reached_from}
use Rattle.sr_check.proofs.shortage.reached.Given as goal

abbrev pub invariant-loop-number : goal.invariant-loop-number
invariant-loop-number l = record {
  few : l.count ≤ l.number;
  counted : l.count + length (reached_from l.problem l.set l.number (drop l.number l.live))
      ≡ length (reached_from l.problem l.set 0 l.live);
}
