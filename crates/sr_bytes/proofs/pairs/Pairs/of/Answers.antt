use Rattle.std.proofs.Common.{◌∙◌}
use Rattle.sr_bytes.proofs.PackedLemmas.{pairs-known}
use Rattle.sr_bytes.proofs.pairs.Pairs.of.Goals as goal

pub returns : goal.returns
returns c = λ pairs packs. c.new.ensures c.requires ∙ pairs-known c.args.text.now c.requires pairs packs.whole packs.short
