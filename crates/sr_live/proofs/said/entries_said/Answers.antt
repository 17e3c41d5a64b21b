use Rattle.std.proofs.Common.{rules, ◌≡◌, ◌++◌, ◌∷◌, []}
use Rattle.sr_live.proofs.SaidLemmas.{entries-next}
use Rattle.sr_live.proofs.MisreadLemmas.{tells-later, tells-next, tells-passed}
use Rattle.sr_live.proofs.said.entries_said.Goals as goal

pub loop-preserved : goal.loop-preserved
loop-preserved c =
    let entry = c.in_ok-listed_said.field-0 in
    let pushed : c.push.new.self.items ≡ c.loop.entries.items ++ entry ∷ [] = search rules in
    entries-next c.header.new.parts c.loop.parts c.listed_said.new.parts c.loop.entries.items c.push.new.self.items entry
    c.loop.counter pushed c.loop.invariant c.in_ok-listed_said.ensures.ok

pub returns-in_err-listed_said-clause-err : goal.returns-in_err-listed_said-clause-err
returns-in_err-listed_said-clause-err c =
    let was = c.loop.invariant in
    tells-passed c.from_residual-in_err-listed_said.result _ c.args.parts c.from_residual-in_err-listed_said.ensures.1
    (tells-next _ c.header.new.parts c.args.parts _ c.in_ok-count.ensures.ok
    (tells-later was.0 c.loop.parts c.header.new.parts _ was.3 c.in_err-listed_said.ensures.err))
