use Rattle.std.proofs.Common.{List, [], ◌∷◌, ◌++◌, ap, ◌∙◌}
use Rattle.std.proofs.lemmas.Result.{err_from_is_err_and}
use Rattle.sr_bytes.specs.Packed.{Pair}
use Rattle.sr_bytes.proofs.PackedLemmas.{pairs-same, pairs-more, IsPacked-grown}
use Rattle.sr_bytes.proofs.fields.Fields.add.Goals as goal

pub invariant_of-self-inside : goal.invariant_of-self-inside
invariant_of-self-inside c =
    (IsPacked-grown c.append_pair.result c.self.inside.text.items c.append_pair.new.out.items (c.args.field.now, c.args.value.now) c.self.inside.pairs c.append_pair.ensures.short c.append_pair.ensures.ok c.append_pair.ensures.err, tt)

pub returns-in_err-append_pair-clause-err : goal.returns-in_err-append_pair-clause-err
returns-in_err-append_pair-clause-err c =
    let p = err_from_is_err_and c.from_residual.result c.from_residual.ensures.1 in
    rw p.1 (pairs-same _ _ _ c.self.inside.pairs c.in_err-append_pair.ensures.err ∙ c.self.view_is)

pub returns-clause-ok : goal.returns-clause-ok
returns-clause-ok c =
    let pair : Pair = (c.args.field.now, c.args.value.now) in
    let more = pairs-more _ _ _ c.self.inside.pairs pair c.append_pair.ensures.short c.in_ok-append_pair.ensures.ok in
    more ∙ ap (λ (l : List Pair). l ++ pair ∷ []) c.self.view_is
