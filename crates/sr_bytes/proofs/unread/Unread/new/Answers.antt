use Rattle.std.proofs.Common.{refl}
use Rattle.sr_bytes.proofs.WordsLemmas.{words-same}
use Rattle.sr_bytes.proofs.unread.Unread.new.Goals as goal

pub returns : goal.returns
returns c = λ is. words-same _ _ _ is refl
