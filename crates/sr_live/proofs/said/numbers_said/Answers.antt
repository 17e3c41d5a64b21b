use Rattle.std.proofs.Common.{rules, ◌≡◌, ◌++◌, ◌∷◌, []}
use Rattle.sr_live.proofs.SaidLemmas.{numbers-next, numbers-whole}
use Rattle.std.specs.List.{flat_map}
use Rattle.sr_live.specs.Said.{number_parts}
use Rattle.sr_live.proofs.MisreadLemmas.{tells-later, tells-passed}
use Rattle.sr_live.proofs.said.numbers_said.Goals as goal

pub loop-preserved : goal.loop-preserved
loop-preserved c =
    let number = c.in_ok-number_said.field-0 in
    let pushed : c.push.new.self.items ≡ c.loop.numbers.items ++ number ∷ [] = search rules in
    numbers-next c.front_said.new.parts c.loop.parts c.number_said.new.parts c.loop.numbers.items c.push.new.self.items
    number c.loop.counter pushed c.in_ok-number_said.ensures.ok c.loop.invariant

pub returns-clause-ok : goal.returns-clause-ok
returns-clause-ok c =
    let whole : c.loop.counter ≡ c.in_ok-count.count = search rules in
    numbers-whole c.args.parts c.front_said.new.parts c.loop.parts c.loop.numbers.items c.loop.counter c.in_ok-count.count
    whole c.in_ok-end.ensures.ok c.in_ok-count.ensures.ok c.loop.invariant

pub returns-in_err-number_said-clause-err : goal.returns-in_err-number_said-clause-err
returns-in_err-number_said-clause-err c =
    let front = c.in_ok-count.ensures.ok in
    tells-passed c.from_residual-in_err-number_said.result _ c.args.parts c.from_residual-in_err-number_said.ensures.1
    (tells-later front.0 c.front_said.new.parts c.args.parts _ front.2
    (tells-later (flat_map number_parts c.loop.numbers.items) c.loop.parts c.front_said.new.parts _
    c.loop.invariant.1 c.in_err-number_said.ensures.err))
