use Rattle.sr_hub.specs.Lines.{state_of}
use Rattle.std.proofs.Common.{ℕ, Bool, IsTrue, subst, ◌∙◌}
use Rattle.sr_hub.proofs.ServeLemmas.{at-by, keeps-at, keeps-none, keeps-to, quiet-says, tells-same}
use Rattle.sr_hub.proofs.plans.make_plan.Goals as goal

pub returns-in_default : goal.returns-in_default
returns-in_default g c =
    keeps-none (g.C.Clock.may_tell c.args.keeper.now.clock) (state_of c.args.hub.now)

pub returns : goal.returns
returns g c =
    keeps-to (g.C.Clock.may_tell c.args.keeper.now.clock) (g.C.Clock.may_tell c.looks_up.new.self.clock) (state_of c.args.hub.now) (state_of c.judge-done.new.self) (tells-same g.C.Clock.may_tell c.weighs-2.new.self c.looks_up.new.self c.looks_up.ensures ∙ tells-same g.C.Clock.may_tell c.weighs.new.self c.weighs-2.new.self c.weighs-2.ensures ∙ tells-same g.C.Clock.may_tell c.args.keeper.now c.weighs.new.self c.weighs.ensures)
    (keeps-at (g.C.Clock.may_tell c.args.keeper.now.clock) c.now.result (state_of c.args.hub.now) (state_of c.judge-done.new.self) (subst (λ (t : ℕ → Bool). IsTrue (t c.now.result)) (tells-same g.C.Clock.may_tell c.args.keeper.now c.weighs.new.self c.weighs.ensures) c.now.ensures) c.judge-done.ensures.timed
    (quiet-says ((state_of c.args.hub.now).at c.args.token) c.args.hub.now.book c.judge-done.new.self.book c.judge-done.ensures.said)
    (at-by c.args.token (state_of c.args.hub.now) (state_of c.judge-done.new.self) c.judge-done.ensures.session c.judge-done.ensures.others) c.judge-done.ensures.lines)
