use Rattle.std.proofs.Common.{◌≡◌, ◌≤◌, [], sym, subst, arith, Global}
use Rattle.std.proofs.lemmas.List.Elements.{All-push}
use Rattle.std.specs.VecDeque.{deque_capacity}
use Rattle.std.specs.declared.collections.VecDeque.{VecDeque}
use Rattle.sr_pending.specs.steps.Blocks.{AreSpare, IsSpare}
use Rattle.sr_pending.proofs.closed_blocks.provide.Goals as goal

pub returns-in_err-reserve-clause-spares : goal.returns-in_err-reserve-clause-spares
returns-in_err-reserve-clause-spares g c = subst AreSpare (sym c.reserve.ensures.items) c.loop-made.invariant.0

pub returns-in_err-block-clause-spares : goal.returns-in_err-block-clause-spares
returns-in_err-block-clause-spares g c = subst AreSpare (sym c.reserve.ensures.items) c.loop-made.invariant.0

pub returns-clause-spares : goal.returns-clause-spares
returns-clause-spares g c = c.loop-made.invariant.0

pub loop-made-preserved : goal.loop-made-preserved
loop-made-preserved g c =
    let spare = c.reserve.new.self.items in
    let block = c.in_ok-block.block in
    let had : AreSpare spare = subst AreSpare (sym c.reserve.ensures.items) c.loop-made.invariant.0 in
    let len = c.push_back_reserved.ensures.len in
    let before = c.reserve.ensures.len in (
      subst AreSpare (sym c.push_back_reserved.ensures.items) (All-push (λ (d : VecDeque g.row.T.Denot Global). IsSpare d) spare block had (c.in_ok-block.ensures.items, omega (arith, c.in_ok-block.ensures.capacity))),
      omega (arith, len, before, c.loop-made.invariant.1),
      omega (arith, len, before, c.loop-made.invariant.2),
      omega (arith, len, before, c.loop-made.invariant.1, c.loop-made-test.true),
    )

pub returns-in_err-reserve-clause-least : goal.returns-in_err-reserve-clause-least
returns-in_err-reserve-clause-least g c = omega (arith, c.reserve.ensures.len, c.loop-made.invariant.2)

pub returns-in_err-reserve-clause-most : goal.returns-in_err-reserve-clause-most
returns-in_err-reserve-clause-most g c = omega (arith, c.reserve.ensures.len, c.loop-made.invariant.3)

pub returns-in_err-block-clause-least : goal.returns-in_err-block-clause-least
returns-in_err-block-clause-least g c = omega (arith, c.reserve.ensures.len, c.loop-made.invariant.2)

pub returns-in_err-block-clause-most : goal.returns-in_err-block-clause-most
returns-in_err-block-clause-most g c = omega (arith, c.reserve.ensures.len, c.loop-made.invariant.3)
