use Rattle.sr_hub.specs.Lines.{state_of}
use Rattle.sr_hub.specs.steps.Serving.{loop_of}
use Rattle.sr_hub.proofs.ServeLemmas.{serves-bound, serves-keeps, serves-then, tells-same}
use Rattle.sr_hub.proofs.serve.hand.Goals as goal

pub returns : goal.returns
returns g c =
    serves-then (loop_of (state_of c.args.hub.now) (g.S.Sockets.may_have c.args.sockets.now) (g.C.Clock.may_tell c.args.keeper.now.clock)) (loop_of (state_of c.further.new.hub) (g.S.Sockets.may_have c.args.sockets.now) (g.C.Clock.may_tell c.further.new.keeper.clock)) (loop_of (state_of c.attend.new.hub) (g.S.Sockets.may_have c.attend.new.sockets) (g.C.Clock.may_tell c.attend.new.keeper.clock))
    (serves-keeps (state_of c.args.hub.now) (state_of c.further.new.hub) (g.S.Sockets.may_have c.args.sockets.now) (g.C.Clock.may_tell c.args.keeper.now.clock) (g.C.Clock.may_tell c.further.new.keeper.clock) c.further.ensures)
    (serves-then (loop_of (state_of c.further.new.hub) (g.S.Sockets.may_have c.args.sockets.now) (g.C.Clock.may_tell c.further.new.keeper.clock)) (loop_of (state_of c.further.new.hub) (g.S.Sockets.may_have c.args.sockets.now) (g.C.Clock.may_tell c.hears_of.new.self.clock)) (loop_of (state_of c.attend.new.hub) (g.S.Sockets.may_have c.attend.new.sockets) (g.C.Clock.may_tell c.attend.new.keeper.clock))
    (serves-bound (state_of c.further.new.hub) (g.S.Sockets.may_have c.args.sockets.now) (g.C.Clock.may_tell c.further.new.keeper.clock) (g.C.Clock.may_tell c.hears_of.new.self.clock) (tells-same g.C.Clock.may_tell c.further.new.keeper c.hears_of.new.self c.hears_of.ensures))
    (c.attend.ensures))
