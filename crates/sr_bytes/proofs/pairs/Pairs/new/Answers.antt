use Rattle.std.proofs.Common.{refl}
use Rattle.sr_bytes.proofs.PackedLemmas.{pairs-same}
use Rattle.sr_bytes.proofs.pairs.Pairs.new.Goals as goal

pub returns : goal.returns
returns c = λ is. pairs-same _ _ _ is refl
