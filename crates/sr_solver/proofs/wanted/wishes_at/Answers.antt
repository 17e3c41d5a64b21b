use Rattle.std.proofs.Common.{length, ap, ◌∙◌, arith}
use Rattle.std.proofs.lemmas.List.{take_at}
use Rattle.std.proofs.lemmas.Result.{IfOk-from_err}
use Rattle.sr_solver.proofs.wanted.wishes_at.Goals as goal

pub returns-in_err-crowds : goal.returns-in_err-crowds
returns-in_err-crowds c = IfOk-from_err _ _ c.from_residual.ensures.0

pub loop-entry-init : goal.loop-entry-init
loop-entry-init c = omega (arith, c.in_ok-crowds.ensures.len, c.consumers.ensures.count)

pub join_crowds-requires-clause-entry : goal.join_crowds-requires-clause-entry
join_crowds-requires-clause-entry c = omega arith

pub join_crowds-requires-clause-crowds_each : goal.join_crowds-requires-clause-crowds_each
join_crowds-requires-clause-crowds_each c = ap length c.deref_mut.ensures.value ∙ c.loop-entry.invariant

pub loop-entry-preserved : goal.loop-entry-preserved
loop-entry-preserved c =
    ap length (take_at c.join_crowds.new.crowds _ c.loop-entry.crowds.len
    (omega (arith, c.join_crowds.ensures, c.deref_mut.ensures.len)))
    ∙ (c.join_crowds.ensures ∙ (ap length c.deref_mut.ensures.value ∙ c.loop-entry.invariant))

pub returns : goal.returns
returns c = c.loop-entry.invariant

pub join_crowds-requires-clause-prices_each : goal.join_crowds-requires-clause-prices_each
join_crowds-requires-clause-prices_each c = c.requires.one_each
