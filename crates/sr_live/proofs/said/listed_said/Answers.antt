use Rattle.std.proofs.Common.{arith}
use Rattle.sr_live.proofs.SaidLemmas.{IsEntry-from}
use Rattle.sr_live.proofs.MisreadLemmas.{tells-next, tells-passed}
use Rattle.sr_live.proofs.said.listed_said.Goals as goal

pub returns-clause-ok : goal.returns-clause-ok
returns-clause-ok c =
    let fields = c.in_ok-pairs_said.field-0 in
    IsEntry-from c.in_ok-id.id c.in_ok-id.ensures.ok.0 fields c.in_ok-header.field-0 c.in_ok-places.places c.args.parts.now
    c.header.new.parts c.id_said.new.parts c.header-2.new.parts c.pairs_said.new.parts c.in_ok-id.ensures.ok.1
    c.if-branch-ne2.false (omega (arith, c.in_ok-pairs_said.ensures.ok.0)) c.in_ok-header.ensures.ok c.in_ok-id.ensures.ok.2 c.in_ok-places.ensures.ok
    c.in_ok-pairs_said.ensures.ok.1

pub returns-in_err-places-clause-err : goal.returns-in_err-places-clause-err
returns-in_err-places-clause-err c =
    tells-passed c.from_residual-in_err-places.result _ c.args.parts.now c.from_residual-in_err-places.ensures.1
    (tells-next _ c.header.new.parts c.args.parts.now _ c.in_ok-header.ensures.ok
    (tells-next _ c.id_said.new.parts c.header.new.parts _ c.in_ok-id.ensures.ok.2 c.in_err-places.ensures.told))
