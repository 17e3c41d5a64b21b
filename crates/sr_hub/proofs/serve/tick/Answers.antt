use Rattle.sr_hub.specs.Lines.{state_of}
use Rattle.std.proofs.Common.{ℕ, Bool, IsTrue, subst, refl, ◌∙◌}
use Rattle.sr_hub.proofs.ServeLemmas.{keeps-same, keeps-tick, keeps-to, tells-same}
use Rattle.sr_hub.proofs.serve.tick.Goals as goal

pub returns-then-is_tick : goal.returns-then-is_tick
returns-then-is_tick g c =
    keeps-to (g.C.Clock.may_tell c.args.keeper.now.clock) (g.C.Clock.may_tell c.rests.new.self.clock) (state_of c.args.hub.now) (state_of c.tick-due.new.self) (tells-same g.C.Clock.may_tell c.is_tick.new.self c.rests.new.self c.rests.ensures ∙ tells-same g.C.Clock.may_tell c.args.keeper.now c.is_tick.new.self c.is_tick.ensures)
    (keeps-tick (g.C.Clock.may_tell c.args.keeper.now.clock) c.now.result (state_of c.args.hub.now) (state_of c.tick-due.new.self) c.tick-due.result (subst (λ (t : ℕ → Bool). IsTrue (t c.now.result)) (tells-same g.C.Clock.may_tell c.args.keeper.now c.is_tick.new.self c.is_tick.ensures) c.now.ensures) c.tick-due.ensures.event c.tick-due.ensures.none c.tick-due.ensures.err c.tick-due.ensures.same c.tick-due.ensures.lines)

pub returns-else-is_tick : goal.returns-else-is_tick
returns-else-is_tick g c =
    keeps-same (g.C.Clock.may_tell c.args.keeper.now.clock) (g.C.Clock.may_tell c.is_tick.new.self.clock) (state_of c.args.hub.now) (state_of c.args.hub.now) (tells-same g.C.Clock.may_tell c.args.keeper.now c.is_tick.new.self c.is_tick.ensures) refl
