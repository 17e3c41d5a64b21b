use Rattle.std.proofs.Common.{rules, ◌≡◌, ◌∷◌}
use Rattle.std.proofs.lemmas.Result.{IfErr-weaker, IfOk-weaker}
use Rattle.sr_peer.specs.{Bulk}
use Rattle.sr_peer.specs.Reply as wire
use Rattle.sr_live.proofs.SaidLemmas.{front-none, front-some}
use Rattle.sr_live.proofs.MisreadLemmas.{tells-next}
use Rattle.sr_live.proofs.said.front_said.Goals as goal

pub returns-in_ok-string-in-Some-Bulk-clause-ok : goal.returns-in_ok-string-in-Some-Bulk-clause-ok
returns-in_ok-string-in-Some-Bulk-clause-ok c =
    let least = c.in-Some-Bulk._least.now in
    let third : c.integer.new.parts ≡ Bulk least ∷ c.next.new.self = search rules in
    IfOk-weaker c.header-in-Some-Bulk.result _ _ (λ count last. front-some c.in_ok-header.field-0 count
    c.in_ok-integer.field-0 least c.in_ok-string-in-Some-Bulk.field-0.now c.args.parts.now c.header.new.parts
    c.integer.new.parts c.next.new.self c.string.new.parts c.header-in-Some-Bulk.new.parts c.if-branch-ne4.false
    c.in_ok-header.ensures.ok c.in_ok-integer.ensures.ok third c.in_ok-string-in-Some-Bulk.ensures.ok last)
    c.header-in-Some-Bulk.ensures.ok

pub returns-in-Some-NullBulk-clause-ok : goal.returns-in-Some-NullBulk-clause-ok
returns-in-Some-NullBulk-clause-ok c =
    let third : c.integer.new.parts ≡ wire.NullBulk ∷ c.next.new.self = search rules in
    IfOk-weaker c.none_said.result _ _ (λ count last. front-none c.in_ok-header.field-0 count c.in_ok-integer.field-0
    c.args.parts.now c.header.new.parts c.integer.new.parts c.next.new.self c.none_said.new.parts c.if-branch-ne4.false
    last.0 c.in_ok-header.ensures.ok c.in_ok-integer.ensures.ok third last.1) c.none_said.ensures.ok

pub returns-in_ok-string-in-Some-Bulk-clause-err : goal.returns-in_ok-string-in-Some-Bulk-clause-err
returns-in_ok-string-in-Some-Bulk-clause-err c =
    let least = c.in-Some-Bulk._least.now in
    let third : c.integer.new.parts ≡ Bulk least ∷ c.next.new.self = search rules in
    IfErr-weaker c.header-in-Some-Bulk.result _ _ (λ misread tells.
    tells-next _ c.header.new.parts c.args.parts.now misread c.in_ok-header.ensures.ok
    (tells-next _ c.integer.new.parts c.header.new.parts misread c.in_ok-integer.ensures.ok
    (tells-next _ c.next.new.self c.integer.new.parts misread third
    (tells-next _ c.string.new.parts c.next.new.self misread c.in_ok-string-in-Some-Bulk.ensures.ok tells))))
    c.header-in-Some-Bulk.ensures.told
