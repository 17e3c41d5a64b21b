use Rattle.std.proofs.Common.{rules, ◌≡◌, ◌++◌, ◌∷◌, []}
use Rattle.sr_live.proofs.SaidLemmas.{consumers-next}
use Rattle.std.specs.List.{flat_map}
use Rattle.sr_live.specs.Said.{consumer_parts}
use Rattle.sr_live.proofs.MisreadLemmas.{tells-later, tells-next, tells-passed}
use Rattle.sr_live.proofs.said.idles_said.Goals as goal

pub loop-preserved : goal.loop-preserved
loop-preserved c =
    let number = c.in_ok-consumer_said.field-0 in
    let pushed : c.push.new.self.items ≡ c.loop.idles.items ++ number ∷ [] = search rules in
    consumers-next c.header.new.parts c.loop.parts c.consumer_said.new.parts c.loop.idles.items
    c.push.new.self.items number c.loop.counter pushed c.loop.invariant c.in_ok-consumer_said.ensures.ok

pub returns-in_err-consumer_said-clause-err : goal.returns-in_err-consumer_said-clause-err
returns-in_err-consumer_said-clause-err c =
    let was = c.loop.invariant in
    tells-passed c.from_residual-in_err-consumer_said.result _ c.args.parts c.from_residual-in_err-consumer_said.ensures.1
    (tells-next _ c.header.new.parts c.args.parts _ c.in_ok-count.ensures.ok
    (tells-later (flat_map consumer_parts was.0) c.loop.parts c.header.new.parts _ was.3
    c.in_err-consumer_said.ensures.err))
