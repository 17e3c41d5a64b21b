use Rattle.std.proofs.Common.{◌<◌, sym, ◌∙◌, refl, arith}
use Rattle.sr_bytes.specs.PackedWords.{packed_words}
use Rattle.sr_bytes.proofs.WordsLemmas.{first-word, words-first}
use Rattle.sr_bytes.proofs.unread.Unread.peek.Goals as goal

pub first_string-requires : goal.first_string-requires
first_string-requires c =
    let some : 0 < c.self.inside.count = omega (arith, c.if-self-eq0.false) in
    let f = first-word c.self.inside.left.now c.self.inside.words c.self.inside.count c.self.invariant some in
    (f.word, packed_words f.others, f.short, f.whole)

pub returns-clause-some : goal.returns-clause-some
returns-clause-some c =
    let some : 0 < c.self.inside.count = omega (arith, c.if-self-eq0.false) in
    let f = first-word c.self.inside.left.now c.self.inside.words c.self.inside.count c.self.invariant some in
    let both = c.first_string.ensures f.word (packed_words f.others) f.short f.whole in
    (f.others, words-first _ f.others _ f.word _ (sym c.self.view_is ∙ f.list) both.0 refl)
