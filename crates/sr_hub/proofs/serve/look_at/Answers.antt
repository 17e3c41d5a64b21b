use Rattle.sr_hub.specs.Lines.{state_of}
use Rattle.sr_hub.specs.steps.Serving.{loop_of}
use Rattle.sr_hub.proofs.ServeLemmas.{serves-bound, serves-then, tells-same}
use Rattle.sr_hub.proofs.serve.look_at.Goals as goal

pub returns-then-gives_up : goal.returns-then-gives_up
returns-then-gives_up g c =
    serves-then (loop_of (state_of c.args.hub.now) (g.S.Sockets.may_have c.args.sockets.now) (g.C.Clock.may_tell c.args.keeper.now.clock)) (loop_of (state_of c.args.hub.now) (g.S.Sockets.may_have c.args.sockets.now) (g.C.Clock.may_tell c.gives_up.new.self.clock)) (loop_of (state_of c.dismiss-then-gives_up.new.hub) (g.S.Sockets.may_have c.dismiss-then-gives_up.new.sockets) (g.C.Clock.may_tell c.dismiss-then-gives_up.new.keeper.clock))
    (serves-bound (state_of c.args.hub.now) (g.S.Sockets.may_have c.args.sockets.now) (g.C.Clock.may_tell c.args.keeper.now.clock) (g.C.Clock.may_tell c.gives_up.new.self.clock) (tells-same g.C.Clock.may_tell c.args.keeper.now c.gives_up.new.self c.gives_up.ensures))
    (c.dismiss-then-gives_up.ensures)

pub returns-else-gives_up : goal.returns-else-gives_up
returns-else-gives_up g c =
    serves-bound (state_of c.args.hub.now) (g.S.Sockets.may_have c.args.sockets.now) (g.C.Clock.may_tell c.args.keeper.now.clock) (g.C.Clock.may_tell c.gives_up.new.self.clock) (tells-same g.C.Clock.may_tell c.args.keeper.now c.gives_up.new.self c.gives_up.ensures)
