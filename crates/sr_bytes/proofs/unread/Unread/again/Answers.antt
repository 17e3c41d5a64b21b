use Rattle.std.proofs.Common.{length, refl, sym, ap, ◌∙◌}
use Rattle.sr_bytes.proofs.WordsLemmas.{words-same}
use Rattle.sr_bytes.proofs.unread.Unread.again.Goals as goal

pub invariant_of-result-2 : goal.invariant_of-result-2
invariant_of-result-2 c = c.self.invariant ∙ sym (ap length (words-same _ _ _ c.self.inside.words refl))

pub returns : goal.returns
returns c = words-same _ _ _ c.self.inside.words refl ∙ c.self.view_is
