use Rattle.sr_hub.specs.Lines.{state_of}
use Rattle.sr_hub.specs.steps.Serving.{loop_of}
use Rattle.sr_hub.proofs.ServeLemmas.{clock-same, serves-bound, serves-none, serves-then}
use Rattle.sr_hub.proofs.serve.resume.Goals as goal

pub returns-then-not-may_resume : goal.returns-then-not-may_resume
returns-then-not-may_resume g c =
    serves-none (loop_of (state_of c.args.hub.now) (g.S.Sockets.may_have c.args.sockets.now) (g.C.Clock.may_tell c.args.keeper.now.clock))

pub returns-in_default : goal.returns-in_default
returns-in_default g c =
    serves-bound (state_of c.args.hub.now) (g.S.Sockets.may_have c.args.sockets.now) (g.C.Clock.may_tell c.args.keeper.now.clock) (g.C.Clock.may_tell c.goes_on.new.self.clock) (clock-same g.C.Clock.may_tell c.args.keeper.now.clock c.goes_on.new.self.clock c.goes_on.ensures.clock)

pub returns-in-Some : goal.returns-in-Some
returns-in-Some g c =
    serves-then (loop_of (state_of c.args.hub.now) (g.S.Sockets.may_have c.args.sockets.now) (g.C.Clock.may_tell c.args.keeper.now.clock)) (loop_of (state_of c.args.hub.now) (g.S.Sockets.may_have c.args.sockets.now) (g.C.Clock.may_tell c.goes_on.new.self.clock)) (loop_of (state_of c.attend.new.hub) (g.S.Sockets.may_have c.attend.new.sockets) (g.C.Clock.may_tell c.attend.new.keeper.clock))
    (serves-bound (state_of c.args.hub.now) (g.S.Sockets.may_have c.args.sockets.now) (g.C.Clock.may_tell c.args.keeper.now.clock) (g.C.Clock.may_tell c.goes_on.new.self.clock) (clock-same g.C.Clock.may_tell c.args.keeper.now.clock c.goes_on.new.self.clock c.goes_on.ensures.clock))
    (c.attend.ensures)
