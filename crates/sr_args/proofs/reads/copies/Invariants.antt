use Rattle.std.proofs.Common.{◌≡◌, take}
use Rattle.sr_args.proofs.reads.copies.Given as goal

abbrev pub invariant-loop-stream : goal.invariant-loop-stream
invariant-loop-stream g l = l.list.items ≡ take l.stream-index l.streams
