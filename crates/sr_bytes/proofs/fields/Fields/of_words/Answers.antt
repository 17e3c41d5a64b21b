use Rattle.std.proofs.Common.{List, ℕ, subst, sym}
use Rattle.sr_bytes.specs.Packed.{Packs}
use Rattle.sr_bytes.specs.PackedWords.{paired}
use Rattle.sr_bytes.proofs.WordsLemmas.{packs-paired, pairs-paired}
use Rattle.sr_bytes.proofs.fields.Fields.of_words.Goals as goal

pub invariant_of-result : goal.invariant_of-result
invariant_of-result c =
    let packs = packs-paired c.packed.result.now c.args.words c.requires c.packed.ensures in
    let text = sym c.in_ok-from_slice.ensures.items in
    ((paired c.args.words, subst (λ (bytes : List ℕ). Packs bytes (paired c.args.words)) text packs), tt)

pub returns : goal.returns
returns c =
    pairs-paired c.in_ok-from_slice.field-0.items c.packed.result.now _ c.args.words c.in_ok-from_slice.ensures.items
    c.requires c.packed.ensures
