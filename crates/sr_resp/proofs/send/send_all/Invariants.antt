use Rattle.std.proofs.Common.{◌≡◌, ◌≤◌, ◌-◌, length, take}
use Rattle.std.specs.Io.KnownBytes.{Appends}
use Rattle.sr_resp.proofs.send.send_all.Given as goal

abbrev pub invariant-loop-sent : goal.invariant-loop-sent
invariant-loop-sent g l = (l.sent ≤ length l.bytes) × Appends (g.W.Sink.contents l.initial.sink) (g.W.Sink.contents l.sink) (take l.sent l.bytes) × (g.W.Sink.failed l.sink ≡ g.W.Sink.failed l.initial.sink)

abbrev pub decreases-loop-sent : goal.decreases-loop-sent
decreases-loop-sent g l = length l.bytes - l.sent
