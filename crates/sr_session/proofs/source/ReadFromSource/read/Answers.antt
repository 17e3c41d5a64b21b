use Rattle.std.proofs.Common.{arith, refl}
use Rattle.std.proofs.KnownBytes.{Keeps-refl, Keeps-trans}
use Rattle.sr_session.proofs.RunLemmas.{Consumes-after}
use Rattle.sr_session.proofs.source.ReadFromSource.read.Goals as goal

pub loop-init : goal.loop-init
loop-init g c = (refl, refl, Keeps-refl _)

pub loop-preserved : goal.loop-preserved
loop-preserved g c =
    let i = c.loop.invariant in
    (i.0, i.1, Keeps-trans _ _ _ i.2 c.in-Err.ensures.bytes)

pub returns-then-count-eq0 : goal.returns-then-count-eq0
returns-then-count-eq0 g c =
    let i = c.loop.invariant in
    let read = c.in-Ok.ensures in
    record { bound = read.bound.0; bytes = (Consumes-after _ _ _ _ i.2 read.bytes.0, read.bytes.1); end = λ none room. refl; more = λ some. absurd (omega (arith, some, c.if-count-eq0.true)); count = tt; ok = i.1; err = tt; err_end = tt }

pub returns-else-count-eq0 : goal.returns-else-count-eq0
returns-else-count-eq0 g c =
    let i = c.loop.invariant in
    let read = c.in-Ok.ensures in
    record { bound = read.bound.0; bytes = (Consumes-after _ _ _ _ i.2 read.bytes.0, read.bytes.1); end = λ none room. absurd (c.if-count-eq0.false none); more = λ some. i.0; count = tt; ok = i.1; err = tt; err_end = tt }
