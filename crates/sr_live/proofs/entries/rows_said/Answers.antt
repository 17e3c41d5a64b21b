use Rattle.std.proofs.Common.{rules, ◌≡◌, ◌++◌, ◌∷◌, [], ap}
use Rattle.std.proofs.lemmas.Result.{on_ok_weaker}
use Rattle.sr_policy.specs.{Text}
use Rattle.sr_live.specs.declared.looked.Row.{Row}
use Rattle.sr_live.proofs.LookingLemmas.{AreSaid-all, AreSaid-next, AreSaid-none, listed_of}
use Rattle.std.specs.List.{flat_map}
use Rattle.sr_live.proofs.MisreadLemmas.{tells-later, tells-passed}
use Rattle.sr_live.proofs.entries.rows_said.Goals as goal

pub loop-id-init : goal.loop-id-init
loop-id-init c = AreSaid-none c.args.parts c.args.rows.now.items

pub loop-id-preserved : goal.loop-id-preserved
loop-id-preserved c =
    let row : Row = record {
      id = c.loop-id-item.result.0;
      owner = c.in_ok-copy.field-0;
      fields = c.in_ok-fields.fields;
    } in
    let same : listed_of row ≡ c.loop-id-item.result =
    ap (λ (owner : Text). (c.loop-id-item.result.0, owner)) c.in_ok-copy.ensures in
    let pushed : c.push.new.self.items ≡ c.loop-id.rows.items ++ row ∷ [] = search rules in
    AreSaid-next c.args.parts c.loop-id.parts c.entry_said.new.parts c.args.listed.now c.loop-id.id-index
    c.loop-id-item.result row c.args.rows.now.items c.loop-id.rows.items c.push.new.self.items c.loop-id-test.true
    c.loop-id-item.is same pushed c.loop-id.invariant c.in_ok-fields.ensures.ok

pub returns-clause-ok : goal.returns-clause-ok
returns-clause-ok c =
    on_ok_weaker c.end.result
    (λ none. AreSaid-all c.args.parts c.loop-id.parts c.args.listed.now c.loop-id.id-index c.args.rows.now.items
    c.loop-id.rows.items c.loop-id-test.false none c.loop-id.invariant)
    c.end.ensures.ok

pub returns-in_err-fields-clause-err : goal.returns-in_err-fields-clause-err
returns-in_err-fields-clause-err c =
    let was = c.loop-id.invariant in
    tells-passed c.from_residual.result _ c.args.parts c.from_residual.ensures.1
    (tells-later (flat_map (λ reply. reply) was.0) c.loop-id.parts c.args.parts _ was.3 c.in_err-fields.ensures.err)
