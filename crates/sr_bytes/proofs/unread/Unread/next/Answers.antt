use Rattle.std.proofs.Common.{◌<◌, sym, ◌∙◌, arith}
use Rattle.sr_bytes.specs.PackedWords.{packed_words}
use Rattle.sr_bytes.proofs.WordsLemmas.{words-known, first-word, words-first, words-fewer, counted-less}
use Rattle.sr_bytes.proofs.unread.Unread.next.Goals as goal

pub first_string-requires : goal.first_string-requires
first_string-requires c =
    let some : 0 < c.self.inside.count = omega (arith, c.if-self-eq0.false) in
    let f = first-word c.self.inside.left.now c.self.inside.words c.self.inside.count c.self.invariant some in
    (f.word, packed_words f.others, f.short, f.whole)

pub invariant_of-self-inside : goal.invariant_of-self-inside
invariant_of-self-inside c =
    let some : 0 < c.self.inside.count = omega (arith, c.if-self-eq0.false) in
    let f = first-word c.self.inside.left.now c.self.inside.words c.self.inside.count c.self.invariant some in
    let both = c.first_string.ensures f.word (packed_words f.others) f.short f.whole in
    ((f.others, record { whole = both.1; short = f.are_short }), tt)

pub invariant_of-self : goal.invariant_of-self
invariant_of-self c =
    let some : 0 < c.self.inside.count = omega (arith, c.if-self-eq0.false) in
    let f = first-word c.self.inside.left.now c.self.inside.words c.self.inside.count c.self.invariant some in
    let both = c.first_string.ensures f.word (packed_words f.others) f.short f.whole in
    counted-less _ f.others _ f.word c.self.inside.count c.self.invariant f.list (words-known _ _ f.others both.1 f.are_short)

pub returns-clause-some : goal.returns-clause-some
returns-clause-some c =
    let some : 0 < c.self.inside.count = omega (arith, c.if-self-eq0.false) in
    let f = first-word c.self.inside.left.now c.self.inside.words c.self.inside.count c.self.invariant some in
    let both = c.first_string.ensures f.word (packed_words f.others) f.short f.whole in
    words-first _ f.others _ f.word _ (sym c.self.view_is ∙ f.list) both.0 (words-known _ _ f.others both.1 f.are_short)

pub returns-clause-shorter : goal.returns-clause-shorter
returns-clause-shorter c =
    let some : 0 < c.self.inside.count = omega (arith, c.if-self-eq0.false) in
    let f = first-word c.self.inside.left.now c.self.inside.words c.self.inside.count c.self.invariant some in
    let both = c.first_string.ensures f.word (packed_words f.others) f.short f.whole in
    words-fewer _ f.others _ f.word (sym c.self.view_is ∙ f.list) (words-known _ _ f.others both.1 f.are_short)
