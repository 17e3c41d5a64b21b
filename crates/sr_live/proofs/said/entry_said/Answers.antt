use Rattle.sr_live.proofs.SaidLemmas.{SaysEntry-one}
use Rattle.sr_live.proofs.MisreadLemmas.{tells-next, tells-passed}
use Rattle.sr_live.proofs.said.entry_said.Goals as goal

pub returns-in_ok-fields_said-in-1-clause-ok : goal.returns-in_ok-fields_said-in-1-clause-ok
returns-in_ok-fields_said-in-1-clause-ok c =
    SaysEntry-one c.args.id c.in_ok-fields_said-in-1.field-0 c.in_ok-header.field-0 c.args.parts.now
    c.header.new.parts c.fields_said.new.parts c.in-1.is c.in_ok-header.ensures.ok c.in_ok-fields_said-in-1.ensures.ok

pub returns-in_err-fields_said-in-1-clause-err : goal.returns-in_err-fields_said-in-1-clause-err
returns-in_err-fields_said-in-1-clause-err c =
    tells-passed c.from_residual-in_err-fields_said-in-1.result _ c.args.parts.now
    c.from_residual-in_err-fields_said-in-1.ensures.1
    (tells-next _ c.header.new.parts c.args.parts.now _ c.in_ok-header.ensures.ok
    c.in_err-fields_said-in-1.ensures.err)
