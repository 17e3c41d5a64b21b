use Rattle.std.proofs.Common.{List, [], ◌∷◌, ◌++◌, ap, sym, ◌∙◌, append-nil}
use Rattle.std.proofs.lemmas.Result.{err_from_is_err_and}
use Rattle.sr_resp.specs.Reply.{Part, Array, part_text}
use Rattle.sr_resp.specs.steps.Pieces.{part_of}
use Rattle.sr_resp.proofs.DraftLemmas.{parts-same, parts-more, IsSpelled-grown}
use Rattle.sr_resp.proofs.draft.Draft.add.Goals as goal

pub invariant_of-self-inside : goal.invariant_of-self-inside
invariant_of-self-inside c =
    let part = part_of c.args.piece in
    (IsSpelled-grown c.append_piece.result c.self.inside.rest.items c.append_piece.new.out.items (part_text part) (part ∷ []) c.self.inside.others (c.append_piece.ensures.fit, tt) (sym (append-nil (part_text part))) c.append_piece.ensures.ok c.append_piece.ensures.err, tt)

pub returns-in_err-append_piece-clause-err : goal.returns-in_err-append_piece-clause-err
returns-in_err-append_piece-clause-err c =
    let p = err_from_is_err_and c.from_residual.result c.from_residual.ensures.1 in
    rw p.1 (ap (λ l. Array c.self.inside.items ∷ l) (parts-same _ _ _ c.self.inside.others c.in_err-append_piece.ensures.err) ∙ c.self.view_is)

pub returns-clause-ok : goal.returns-clause-ok
returns-clause-ok c =
    let part = part_of c.args.piece in
    let more = parts-more _ _ (part_text part) _ c.self.inside.others (part ∷ []) (c.append_piece.ensures.fit, tt) (sym (append-nil (part_text part))) c.in_ok-append_piece.ensures.ok in
    ap (λ l. Array c.self.inside.items ∷ l) more ∙ ap (λ (l : List Part). l ++ part ∷ []) c.self.view_is
