use Rattle.std.proofs.Common.{◌≡◌, map, take}
use Rattle.sr_resp.specs.{array_of}
use Rattle.sr_space.specs.commands.Xinfo.{consumer_answer}
use Rattle.sr_space.proofs.commands.xinfo.consumers_reply.Given as goal

abbrev pub invariant-loop-place : goal.invariant-loop-place
invariant-loop-place l = l.lines ≡ array_of (map (consumer_answer l.moment l.group.shown.nacks) (take l.place l.group.shown.consumers))
