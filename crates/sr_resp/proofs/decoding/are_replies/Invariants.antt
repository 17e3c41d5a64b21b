use Rattle.std.proofs.Common.{◌≤◌, length}
use Rattle.std.specs.Prelude.{◌↔◌}
use Rattle.sr_resp.specs.steps.Decoding.{AreSpelledReplies}
use Rattle.sr_resp.proofs.decoding.are_replies.Given as goal

abbrev pub invariant-loop-due : goal.invariant-loop-due
invariant-loop-due l = record {
  same : AreSpelledReplies l.due l.left ↔ AreSpelledReplies l.fn.n l.fn.bytes;
  within : length l.left ≤ length l.fn.bytes;
}

abbrev pub decreases-loop-due : goal.decreases-loop-due
decreases-loop-due l = length l.left
