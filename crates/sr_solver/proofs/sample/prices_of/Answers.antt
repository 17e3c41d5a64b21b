use Rattle.std.proofs.Common.{length, ap, ◌∙◌, arith}
use Rattle.std.proofs.lemmas.Result.{IfOk-from_err}
use Rattle.sr_solver.specs.Order.{IsPartOf}
use Rattle.sr_solver.proofs.sample.prices_of.Goals as goal

pub loop-init : goal.loop-init
loop-init c = c.requires.part

pub returns-in_err-rooms : goal.returns-in_err-rooms
returns-in_err-rooms c = IfOk-from_err _ _ c.from_residual.ensures.0

pub picked-requires : goal.picked-requires
picked-requires c =
    rw (c.deref-in-loop.ensures.value, c.deref-in-loop-2.ensures.value) (record {
      one_each = c.in_ok-rooms.ensures.one_each ∙ ap (λ p. length p.rooms) c.requires.source;
      small = c.in_ok-rooms.ensures.small;
      part = c.loop.invariant;
    })

pub returns-in_err-prices : goal.returns-in_err-prices
returns-in_err-prices c = IfOk-from_err _ _ c.from_residual-in_err-prices.ensures.0

pub returns-in-Placed : goal.returns-in-Placed
returns-in-Placed c =
    (rw c.in-Placed.is at c.in_ok-prices.ensures).one_each
    ∙ ap (λ p. length p.rooms) c.picked.ensures
    ∙ ap length c.deref-in-loop.ensures.value
    ∙ c.in_ok-rooms.ensures.one_each

pub returns-in_err-sample-in-Short : goal.returns-in_err-sample-in-Short
returns-in_err-sample-in-Short c = IfOk-from_err _ _ c.from_residual-in_err-sample-in-Short.ensures.0

pub loop-preserved : goal.loop-preserved
loop-preserved c =
    let part : IsPartOf c.args.source.now c.deref-in-Short.result.now =
    rw c.deref-in-Short.ensures.value c.loop.invariant in
    record {
      entries = c.in_ok-sample-in-Short.ensures.below _ part.entries;
      few = omega (arith, c.in_ok-sample-in-Short.ensures.few, part.few);
    }

pub returns : goal.returns
returns c = tt
