use Rattle.sr_hub.specs.Lines.{state_of}
use Rattle.std.proofs.Common.{ℕ, Bool, IsTrue, subst, ◌∙◌}
use Rattle.sr_hub.proofs.ServeLemmas.{at-by, keeps-at, keeps-none, keeps-to, quiet-says, tells-same}
use Rattle.sr_hub.proofs.plans.conclude.Goals as goal

pub returns-then-ne : goal.returns-then-ne
returns-then-ne g c =
    keeps-none (g.C.Clock.may_tell c.args.keeper.now.clock) (state_of c.args.hub.now)

pub returns-in-None : goal.returns-in-None
returns-in-None g c =
    keeps-none (g.C.Clock.may_tell c.args.keeper.now.clock) (state_of c.args.hub.now)

pub returns-in-Some : goal.returns-in-Some
returns-in-Some g c =
    keeps-to (g.C.Clock.may_tell c.args.keeper.now.clock) (g.C.Clock.may_tell c.weighs-in-Some.new.self.clock) (state_of c.args.hub.now) (state_of c.conclude.new.self) (tells-same g.C.Clock.may_tell c.weighs.new.self c.weighs-in-Some.new.self c.weighs-in-Some.ensures ∙ tells-same g.C.Clock.may_tell c.args.keeper.now c.weighs.new.self c.weighs.ensures)
    (keeps-at (g.C.Clock.may_tell c.args.keeper.now.clock) c.now.result (state_of c.args.hub.now) (state_of c.conclude.new.self) (subst (λ (t : ℕ → Bool). IsTrue (t c.now.result)) (tells-same g.C.Clock.may_tell c.args.keeper.now c.weighs.new.self c.weighs.ensures) c.now.ensures) c.conclude.ensures.timed
    (quiet-says ((state_of c.args.hub.now).at c.args.planned.token) c.args.hub.now.book c.conclude.new.self.book c.conclude.ensures.said)
    (at-by c.args.planned.token (state_of c.args.hub.now) (state_of c.conclude.new.self) c.conclude.ensures.session c.conclude.ensures.others) c.conclude.ensures.lines)
