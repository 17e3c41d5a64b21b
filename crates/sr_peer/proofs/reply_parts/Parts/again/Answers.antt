use Rattle.std.proofs.Common.{refl, ◌∙◌}
use Rattle.sr_peer.proofs.SpelledLemmas.{parts-same}
use Rattle.sr_peer.proofs.reply_parts.Parts.again.Goals as goal

pub returns : goal.returns
returns c = parts-same _ _ _ _ refl ∙ c.self.view_is
