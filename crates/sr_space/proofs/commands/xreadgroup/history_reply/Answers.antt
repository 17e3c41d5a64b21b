use Rattle.std.proofs.Common.{List, [], ◌∷◌, ◌++◌, map, ap, refl, subst, ◌∙◌}
use Rattle.std.proofs.lemmas.Result.{IfOk-weaker}
use Rattle.sr_group.specs.declared.shown.Listed.{Listed}
use Rattle.sr_resp.specs.{ReplyParts, array_of, bulk_string}
use Rattle.sr_space.proofs.ArrayLemmas.{HasLeft, left-after, left-none}
use Rattle.sr_space.proofs.ReadGroupLemmas.{again}
use Rattle.sr_space.proofs.commands.xreadgroup.history_reply.Goals as goal

pub loop-item-init : goal.loop-item-init
loop-item-init c = record { items = []; is = c.empty_array-items.ensures; whole = refl }

pub loop-item-preserved : goal.loop-item-preserved
loop-item-preserved c =
    let each = again c.args.entries.now.entries in
    let all = map each c.listed-listed.result in
    let left = map each c.next.new.self in
    let item = each c.in-Some.item ∷ [] in
    let had : HasLeft c.loop-item.items (item ++ left) all = subst (λ (l : List Listed). HasLeft c.loop-item.items (map each l) all) c.in-Some.ensures.some c.loop-item.invariant in
    left-after c.loop-item.items c.push.new.self item left all had (λ items is. c.in_ok-push.ensures.ok items is ∙ ap (λ (a : ReplyParts). array_of (items ++ a ∷ [])) c.in_ok-again_reply.ensures)

pub returns : goal.returns
returns c =
    let each = again c.args.entries.now.entries in
    let listed = left-none c.loop-item.items (map each c.loop-item.listed) (map each c.listed-listed.result) c.loop-item.invariant (ap (map each) c.in_default.ensures.none) ∙ ap (λ (l : List Listed). array_of (map each l)) c.listed-listed.ensures in
    IfOk-weaker c.array.result _ _ (λ reply is. is
    ∙ ap (λ (a : ReplyParts). array_of (a ∷ c.loop-item.items ∷ [])) (c.bulk.ensures ∙ ap bulk_string c.in_ok-name.ensures)
    ∙ ap (λ (a : ReplyParts). array_of (bulk_string c.args.key.now ∷ a ∷ [])) listed) c.array.ensures
