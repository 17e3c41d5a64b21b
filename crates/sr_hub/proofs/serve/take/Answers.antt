use Rattle.sr_hub.specs.Lines.{state_of}
use Rattle.std.proofs.Common.{ℕ, Bool, IsTrue, subst, ◌∙◌}
use Rattle.sr_hub.proofs.ServeLemmas.{at-by, quiet-says, takes-at, takes-same, takes-to, tells-same}
use Rattle.sr_hub.proofs.serve.take.Goals as goal

pub returns-then-exceeds : goal.returns-then-exceeds
returns-then-exceeds g c =
    takes-to c.args.token c.args.piece.now (g.C.Clock.may_tell c.args.keeper.now.clock) (g.C.Clock.may_tell c.hears_of.new.self.clock) (state_of c.args.hub.now) (state_of c.pass_over.new.self) (tells-same g.C.Clock.may_tell c.args.keeper.now c.hears_of.new.self c.hears_of.ensures)
    (takes-same c.args.token c.args.piece.now (g.C.Clock.may_tell c.args.keeper.now.clock) (state_of c.args.hub.now) (state_of c.pass_over.new.self) c.pass_over.ensures.book (at-by c.args.token (state_of c.args.hub.now) (state_of c.pass_over.new.self) c.pass_over.ensures.session c.pass_over.ensures.others) (c.pass_over.ensures.lines c.args.piece.now))

pub returns : goal.returns
returns g c =
    takes-to c.args.token c.args.piece.now (g.C.Clock.may_tell c.args.keeper.now.clock) (g.C.Clock.may_tell c.weighs-2.new.self.clock) (state_of c.args.hub.now) (state_of c.take-taken.new.self) (tells-same g.C.Clock.may_tell c.weighs.new.self c.weighs-2.new.self c.weighs-2.ensures ∙ tells-same g.C.Clock.may_tell c.hears_of.new.self c.weighs.new.self c.weighs.ensures ∙ tells-same g.C.Clock.may_tell c.args.keeper.now c.hears_of.new.self c.hears_of.ensures)
    (takes-at c.args.token c.args.piece.now (g.C.Clock.may_tell c.args.keeper.now.clock) c.now.result (state_of c.args.hub.now) (state_of c.take-taken.new.self) (subst (λ (t : ℕ → Bool). IsTrue (t c.now.result)) (tells-same g.C.Clock.may_tell c.args.keeper.now c.hears_of.new.self c.hears_of.ensures) c.now.ensures) c.take-taken.ensures.timed
    (quiet-says ((state_of c.args.hub.now).at c.args.token) c.args.hub.now.book c.take-taken.new.self.book c.take-taken.ensures.said)
    (at-by c.args.token (state_of c.args.hub.now) (state_of c.take-taken.new.self) c.take-taken.ensures.session c.take-taken.ensures.others) c.take-taken.ensures.lines)
