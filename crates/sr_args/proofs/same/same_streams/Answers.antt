use Rattle.std.proofs.lemmas.Slice.Eq.{slice_eq-Decides}
use Rattle.sr_args.proofs.EqualLemmas.{stream_decides}
use Rattle.sr_args.proofs.same.same_streams.Goals as goal

pub returns : goal.returns
returns c = slice_eq-Decides stream_decides c.args.a.now c.args.b.now c.eq.result (cc)
