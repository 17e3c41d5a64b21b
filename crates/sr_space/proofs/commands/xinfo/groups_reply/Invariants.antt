use Rattle.std.proofs.Common.{◌≡◌, map, take}
use Rattle.sr_resp.specs.{array_of}
use Rattle.sr_space.specs.commands.Xinfo.{group_answer}
use Rattle.sr_space.proofs.commands.xinfo.groups_reply.Given as goal

abbrev pub invariant-loop-named : goal.invariant-loop-named
invariant-loop-named l = l.lines ≡ array_of (map (λ named. group_answer named.0 named.1.shown) (take l.named-index l.groups))
