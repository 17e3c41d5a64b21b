use Rattle.std.proofs.Common.{replicate, take, arith}
use Rattle.std.proofs.lemmas.List.{take-replicate}
use Rattle.sr_dash.proofs.LineLemmas.{wrote_these}
use Rattle.sr_dash.proofs.write.write_spaces.Goals as goal

pub returns : goal.returns
returns c =
    let count = c.args.count in
    wrote_these c.extend_from_slice.result c.args.out.now.items c.extend_from_slice.new.self.items (take count (replicate 20 32)) (replicate count 32) c.extend_from_slice.ensures.items (take-replicate count 20 32 (omega arith))
