use Rattle.sr_hub.specs.Lines.{state_of}
use Rattle.sr_hub.specs.steps.Serving.{loop_of}
use Rattle.sr_hub.proofs.ServeLemmas.{serves-bound, serves-keeps, serves-none, serves-then, tells-same}
use Rattle.sr_hub.proofs.plans.begin_now.Goals as goal

pub returns-then-not-asks_recovery : goal.returns-then-not-asks_recovery
returns-then-not-asks_recovery g c =
    serves-none (loop_of (state_of c.args.hub.now) (g.S.Sockets.may_have c.args.sockets.now) (g.C.Clock.may_tell c.args.keeper.now.clock))

pub returns : goal.returns
returns g c =
    serves-then (loop_of (state_of c.args.hub.now) (g.S.Sockets.may_have c.args.sockets.now) (g.C.Clock.may_tell c.args.keeper.now.clock)) (loop_of (state_of c.args.hub.now) (g.S.Sockets.may_have c.args.sockets.now) (g.C.Clock.may_tell c.looks_up.new.self.clock)) (loop_of (state_of c.judge.new.hub) (g.S.Sockets.may_have c.judge.new.sockets) (g.C.Clock.may_tell c.tires.new.self.clock))
    (serves-bound (state_of c.args.hub.now) (g.S.Sockets.may_have c.args.sockets.now) (g.C.Clock.may_tell c.args.keeper.now.clock) (g.C.Clock.may_tell c.looks_up.new.self.clock) (tells-same g.C.Clock.may_tell c.args.keeper.now c.looks_up.new.self c.looks_up.ensures))
    (serves-then (loop_of (state_of c.args.hub.now) (g.S.Sockets.may_have c.args.sockets.now) (g.C.Clock.may_tell c.looks_up.new.self.clock)) (loop_of (state_of c.further.new.hub) (g.S.Sockets.may_have c.args.sockets.now) (g.C.Clock.may_tell c.further.new.keeper.clock)) (loop_of (state_of c.judge.new.hub) (g.S.Sockets.may_have c.judge.new.sockets) (g.C.Clock.may_tell c.tires.new.self.clock))
    (serves-keeps (state_of c.args.hub.now) (state_of c.further.new.hub) (g.S.Sockets.may_have c.args.sockets.now) (g.C.Clock.may_tell c.looks_up.new.self.clock) (g.C.Clock.may_tell c.further.new.keeper.clock) c.further.ensures)
    (serves-then (loop_of (state_of c.further.new.hub) (g.S.Sockets.may_have c.args.sockets.now) (g.C.Clock.may_tell c.further.new.keeper.clock)) (loop_of (state_of c.judge.new.hub) (g.S.Sockets.may_have c.judge.new.sockets) (g.C.Clock.may_tell c.judge.new.keeper.clock)) (loop_of (state_of c.judge.new.hub) (g.S.Sockets.may_have c.judge.new.sockets) (g.C.Clock.may_tell c.tires.new.self.clock))
    (c.judge.ensures)
    (serves-bound (state_of c.judge.new.hub) (g.S.Sockets.may_have c.judge.new.sockets) (g.C.Clock.may_tell c.judge.new.keeper.clock) (g.C.Clock.may_tell c.tires.new.self.clock) (tells-same g.C.Clock.may_tell c.judge.new.keeper c.tires.new.self c.tires.ensures))))
