use Rattle.sr_peer.proofs.SpelledLemmas.{parts-spelled}
use Rattle.sr_peer.proofs.reply_parts.Parts.new.Goals as goal

pub returns : goal.returns
returns c = parts-spelled c.args.text.now _
