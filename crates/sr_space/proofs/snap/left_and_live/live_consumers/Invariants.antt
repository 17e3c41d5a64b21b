use Rattle.std.proofs.Common.{◌≡◌, ◌++◌, drop}
use Rattle.sr_policy.specs.{consumers_of}
use Rattle.sr_space.specs.steps.Snapping.{live_among}
use Rattle.sr_space.proofs.snap.left_and_live.live_consumers.Given as goal

abbrev pub invariant-loop-name : goal.invariant-loop-name
invariant-loop-name l =
    l.list.items ++ live_among l.policy l.dead l.group.shown.nacks (drop l.name-index l.name-items) ≡ live_among l.policy l.dead l.group.shown.nacks l.name-items
