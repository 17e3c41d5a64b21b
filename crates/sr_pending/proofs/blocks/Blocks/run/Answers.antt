use Rattle.std.proofs.Common.{◌≡◌, ℕ, ◌+◌, ◌<◌, ◌≤◌, map, min, refl, sym, ap, ◌∙◌, arith}
use Rattle.std.specs.VecDeque.{deque_items}
use Rattle.sr_pending.specs.steps.Blocks.{Laid}
use Rattle.sr_pending.proofs.Running.{blocks-fit, place-fits, runs-apart, runs-none, runs-same}
use Rattle.sr_pending.proofs.blocks.Blocks.run.Goals as goal

next : {a b : ℕ} → (a ≡ b → ⊥) → a ≤ b → a + 1 ≤ b
next apart le = omega arith

least : (a b m : ℕ) → m ≡ min a b → m ≤ b
least a b m is = omega arith

pub range-requires : goal.range-requires
range-requires g c =
    record { start_le_end = least c.args.from.at c.args.past.at c.min.result c.min.ensures; in_bounds = place-fits c.args.self.now c.args.past c.args.from.block c.block.result.now c.requires.past c.if-from-past.true c.block.ensures; not_exhausted = tt }

pub range-requires-2 : goal.range-requires-2
range-requires-2 g c =
    record { start_le_end = place-fits c.args.self.now c.args.from c.args.from.block c.block-2.result.now c.requires.from refl c.block-2.ensures; in_bounds = omega arith; not_exhausted = tt }

pub range-requires-3 : goal.range-requires-3
range-requires-3 g c =
    let shown = ap (λ (l : Laid g.row.T.Denot). l.closed) c.self.view_is in
    record { start_le_end = next c.if-from-past.false c.if-past-from.false; in_bounds = blocks-fit c.args.self.now c.self.inside.closed c.args.past.block shown c.requires.past.within; not_exhausted = tt }

pub range-requires-4 : goal.range-requires-4
range-requires-4 g c =
    record { start_le_end = omega arith; in_bounds = place-fits c.args.self.now c.args.past c.args.past.block c.block-3.result.now c.requires.past refl c.block-3.ensures; not_exhausted = tt }

pub returns-then-from-past : goal.returns-then-from-past
returns-then-from-past g c =
    runs-same c.args.self.now c.args.from c.args.past c.block.result.now.items _ _ _ c.min.result c.requires.from c.requires.past c.if-from-past.true c.block.ensures c.min.ensures c.range.ensures.rest c.range-then-from-past.ensures.rest c.range-then-from-past-2.ensures.rest

pub returns-then-past-from : goal.returns-then-past-from
returns-then-past-from g c =
    c.nothing.ensures ∙ runs-none c.args.self.now c.args.from c.args.past c.requires.from c.requires.past c.if-past-from.true

pub returns : goal.returns
returns g c =
    let shown : c.args.self.now.closed ≡ map deque_items c.self.inside.closed.items = ap (λ (l : Laid g.row.T.Denot). l.closed) (sym c.self.view_is) in
    let later : c.args.from.block < c.args.past.block = omega (arith, c.if-from-past.false, c.if-past-from.false) in
    runs-apart c.args.self.now c.args.from c.args.past c.self.inside.closed.items c.block-2.result.now.items c.block-3.result.now.items _ _ _ _ shown c.requires.from c.requires.past later c.block-2.ensures c.block-3.ensures c.block-2.result.now.ok.0 c.range-2.ensures.rest c.range-3.ensures.rest c.range-4.ensures.rest
