use Rattle.std.proofs.Common.{◌≡◌}
use Rattle.sr_resp.specs.Reply.{array_of}
use Rattle.sr_resp.proofs.reply.Reply.array.Given as goal

abbrev pub invariant-loop-item : goal.invariant-loop-item
invariant-loop-item g l = l.array ≡ array_of l.yielded
