use Rattle.std.proofs.Common.{◌≡◌, List, [], ◌∷◌, ◌++◌, ap, ◌∙◌}
use Rattle.std.specs.List.{flat_map}
use Rattle.std.proofs.lemmas.Result.{IfOk-from_err}
use Rattle.sr_resp.specs.{ReplyParts, array_of}
use Rattle.sr_space.specs.commands.Xclaim.{deleted_answer}
use Rattle.sr_space.proofs.ArrayLemmas.{left-after, left-none, left-same}
use Rattle.sr_space.proofs.ClaimLemmas.{deleted_of, deleted-more, deleted-none}
use Rattle.sr_space.proofs.commands.xclaim.deleted_reply.Goals as goal

pub loop-item-preserved-in-Continue-1 : goal.loop-item-preserved-in-Continue-1
loop-item-preserved-in-Continue-1 c =
    let item = c.in-Some.item in
    let line = ap (λ (line : ReplyParts). line ∷ []) c.id_reply.ensures ∙ deleted-more item.id item.found c.if-not-item.true in
    let added = λ (items : List ReplyParts) (is : c.loop-item.deleted ≡ array_of items). c.in_ok-push.ensures.ok items is ∙ ap (λ (more : List ReplyParts). array_of (items ++ more)) line in
    left-after _ _ (deleted_of item) _ _ (rw c.in-Some.ensures.some at c.loop-item.invariant) added

pub loop-item-preserved : goal.loop-item-preserved
loop-item-preserved c =
    let item = c.in-Some.item in
    let rest = flat_map deleted_of c.next.new.self in
    left-same _ _ rest _ (ap (flat_map deleted_of) c.in-Some.ensures.some ∙ ap (λ (more : List ReplyParts). more ++ rest) (deleted-none item.id item.found c.if-not-item.false)) c.loop-item.invariant

pub returns-in_err-push : goal.returns-in_err-push
returns-in_err-push c = IfOk-from_err _ _ c.from_residual.ensures.0

pub returns : goal.returns
returns c = left-none _ _ _ c.loop-item.invariant (ap (flat_map deleted_of) c.in_default.ensures.none) ∙ ap deleted_answer c.listed-listed.ensures
