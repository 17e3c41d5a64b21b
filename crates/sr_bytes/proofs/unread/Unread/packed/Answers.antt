use Rattle.sr_bytes.proofs.WordsLemmas.{packs-words}
use Rattle.sr_bytes.proofs.unread.Unread.packed.Goals as goal

pub returns : goal.returns
returns c = packs-words _ c.self.inside.words c.args.self.now c.self.view_is
