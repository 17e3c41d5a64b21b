use Rattle.std.proofs.Common.{◌≡◌}
use Rattle.std.specs.Io.KnownBytes.{Keeps}
use Rattle.sr_session.proofs.source.ReadFromSource.read.Given as goal

-- reads that were interrupted gave nothing
abbrev pub invariant-loop : goal.invariant-loop
invariant-loop g l =
    (l.self.ended ≡ l.initial.self.ended) × (l.self.failed ≡ l.initial.self.failed) × Keeps (g.R.Read.remaining l.initial.self.reader) (g.R.Read.remaining l.self.reader)
