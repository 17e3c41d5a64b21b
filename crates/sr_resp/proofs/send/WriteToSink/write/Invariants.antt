use Rattle.std.proofs.Common.{◌≡◌}
use Rattle.std.specs.Io.KnownBytes.{Keeps}
use Rattle.sr_resp.proofs.send.WriteToSink.write.Given as goal

-- writes that were interrupted wrote nothing
abbrev pub invariant-loop : goal.invariant-loop
invariant-loop g l =
    (l.self.failed ≡ l.initial.self.failed) × Keeps (g.W.Write.contents l.initial.self.writer) (g.W.Write.contents l.self.writer)
