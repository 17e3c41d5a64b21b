use Rattle.sr_hub.specs.Lines.{state_of}
use Rattle.sr_hub.specs.steps.Serving.{loop_of}
use Rattle.sr_hub.proofs.ServeLemmas.{serves-then}
use Rattle.sr_hub.proofs.serve.look_after.Goals as goal

pub returns : goal.returns
returns g c =
    serves-then (loop_of (state_of c.args.hub.now) (g.S.Sockets.may_have c.args.sockets.now) (g.C.Clock.may_tell c.args.keeper.now.clock)) (loop_of (state_of c.resume.new.hub) (g.S.Sockets.may_have c.resume.new.sockets) (g.C.Clock.may_tell c.resume.new.keeper.clock)) (loop_of (state_of c.sweep.new.hub) (g.S.Sockets.may_have c.sweep.new.sockets) (g.C.Clock.may_tell c.sweep.new.keeper.clock))
    (c.resume.ensures)
    (c.sweep.ensures)
