use Rattle.std.proofs.Common.{◌≡◌, drop}
use Rattle.sr_bytes.specs.{comes_before}
use Rattle.sr_policy.proofs.order.are_before.Given as goal

abbrev pub invariant-loop-place : goal.invariant-loop-place
invariant-loop-place l = comes_before (drop l.place l.bytes) (drop l.place l.others) ≡ comes_before l.bytes l.others
