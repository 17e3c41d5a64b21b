use Rattle.std.proofs.Common.{length, sym, ap, ◌∙◌}
use Rattle.sr_bytes.specs.PackedWords.{IsPackedWords}
use Rattle.sr_bytes.proofs.WordsLemmas.{words-same}
use Rattle.sr_bytes.proofs.words.Words.unread.Goals as goal

pub new-requires-clause-counted : goal.new-requires-clause-counted
new-requires-clause-counted c = λ is. c.self.invariant ∙ sym (ap length (words-same _ _ is c.self.inside.words c.as_slice.ensures.value))

pub returns : goal.returns
returns c =
    let is : IsPackedWords c.as_slice.result.now = rw c.as_slice.ensures.value c.self.inside.words in
    c.new.ensures is ∙ words-same _ _ is c.self.inside.words c.as_slice.ensures.value ∙ c.self.view_is
