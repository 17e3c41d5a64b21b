use Rattle.std.proofs.Common.{List, ◌+◌, ◌∷◌, refl, ap, sym, subst, ◌∙◌, arith}
use Rattle.std.proofs.lemmas.Result.{err_from_is_err_and}
use Rattle.sr_resp.specs.Reply.{Part, Array, IsReply, reply_text}
use Rattle.sr_resp.specs.Spelled.{parts_of}
use Rattle.sr_resp.proofs.DraftLemmas.{parts-same, parts-more, parts-few, IsSpelled-grown, header-raised}
use Rattle.sr_resp.proofs.ReplyLemmas.{items-le, IsReply-push}
use Rattle.sr_resp.proofs.draft.Draft.push.Goals as goal

pub returns-in_err-append_to-clause-err : goal.returns-in_err-append_to-clause-err
returns-in_err-append_to-clause-err c =
    let p = err_from_is_err_and c.from_residual.result c.from_residual.ensures.1 in
    rw p.1 (ap (λ l. Array c.self.inside.items ∷ l) (parts-same _ _ _ c.self.inside.others c.in_err-append_to.ensures.err) ∙ c.self.view_is)

pub returns-in_err-append_to-clause-one : goal.returns-in_err-append_to-clause-one
returns-in_err-append_to-clause-one c =
    let same = ap (λ l. Array c.self.inside.items ∷ l) (parts-same _ _ _ c.self.inside.others c.in_err-append_to.ensures.err) ∙ c.self.view_is in
    subst IsReply (sym same) c.requires

pub overflow_add-self : goal.overflow_add-self
overflow_add-self c =
    let items = c.self.inside.items in
    let rest = c.self.inside.rest in
    let parts = parts_of rest.items c.self.inside.others in
    let few = items-le (Array items) parts items refl (rw c.self.view_is c.requires) in
    let short = parts-few rest.items c.self.inside.others in
    omega (arith, few, short, rest.small, rest.ok)

pub invariant_of-self-inside-2 : goal.invariant_of-self-inside-2
invariant_of-self-inside-2 c =
    (IsSpelled-grown c.append_to.result c.self.inside.rest.items c.append_to.new.out.items (reply_text c.args.item.now) c.args.item.now c.self.inside.others c.append_to.ensures.fit refl c.append_to.ensures.ok c.append_to.ensures.err, tt)

pub returns-clause-ok : goal.returns-clause-ok
returns-clause-ok c = λ items others e.
    let item = c.args.item.now in
    let more = parts-more _ _ (reply_text item) _ c.self.inside.others item c.append_to.ensures.fit refl c.in_ok-append_to.ensures.ok in
    header-raised c.self.inside.items items (parts_of c.self.inside.rest.items c.self.inside.others) others item _ more (c.self.view_is ∙ e)

pub returns-clause-one : goal.returns-clause-one
returns-clause-one c =
    let item = c.args.item.now in
    let items = c.self.inside.items in
    let parts = parts_of c.self.inside.rest.items c.self.inside.others in
    let more = parts-more _ _ (reply_text item) _ c.self.inside.others item c.append_to.ensures.fit refl c.in_ok-append_to.ensures.ok in
    let grown = IsReply-push (Array items) parts item items refl (rw c.self.view_is c.requires) c.append_to.ensures.one in
    subst (λ (l : List Part). IsReply (Array (items + 1) ∷ l)) (sym more) grown
