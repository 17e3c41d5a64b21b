use Rattle.sr_hub.specs.Lines.{state_of}
use Rattle.sr_hub.specs.steps.Serving.{loop_of}
use Rattle.sr_hub.proofs.ServeLemmas.{serves-keeps, serves-then}
use Rattle.sr_hub.proofs.serve.go_on.Goals as goal

pub returns-then-asks_recovery : goal.returns-then-asks_recovery
returns-then-asks_recovery g c =
    serves-then (loop_of (state_of c.args.hub.now) (g.S.Sockets.may_have c.args.sockets.now) (g.C.Clock.may_tell c.args.keeper.now.clock)) (loop_of (state_of c.judge.new.hub) (g.S.Sockets.may_have c.judge.new.sockets) (g.C.Clock.may_tell c.judge.new.keeper.clock)) (loop_of (state_of c.begin.new.hub) (g.S.Sockets.may_have c.begin.new.sockets) (g.C.Clock.may_tell c.begin.new.keeper.clock))
    (c.judge.ensures)
    (serves-then (loop_of (state_of c.judge.new.hub) (g.S.Sockets.may_have c.judge.new.sockets) (g.C.Clock.may_tell c.judge.new.keeper.clock)) (loop_of (state_of c.write_some-written.new.hub) (g.S.Sockets.may_have c.write_some-written.new.sockets) (g.C.Clock.may_tell c.write_some-written.new.keeper.clock)) (loop_of (state_of c.begin.new.hub) (g.S.Sockets.may_have c.begin.new.sockets) (g.C.Clock.may_tell c.begin.new.keeper.clock))
    (c.write_some-written.ensures)
    (c.begin.ensures))

pub returns-then-not-written : goal.returns-then-not-written
returns-then-not-written g c =
    serves-then (loop_of (state_of c.args.hub.now) (g.S.Sockets.may_have c.args.sockets.now) (g.C.Clock.may_tell c.args.keeper.now.clock)) (loop_of (state_of c.judge.new.hub) (g.S.Sockets.may_have c.judge.new.sockets) (g.C.Clock.may_tell c.judge.new.keeper.clock)) (loop_of (state_of c.write_some-written.new.hub) (g.S.Sockets.may_have c.write_some-written.new.sockets) (g.C.Clock.may_tell c.write_some-written.new.keeper.clock))
    (c.judge.ensures)
    (c.write_some-written.ensures)

pub returns : goal.returns
returns g c =
    serves-then (loop_of (state_of c.args.hub.now) (g.S.Sockets.may_have c.args.sockets.now) (g.C.Clock.may_tell c.args.keeper.now.clock)) (loop_of (state_of c.judge.new.hub) (g.S.Sockets.may_have c.judge.new.sockets) (g.C.Clock.may_tell c.judge.new.keeper.clock)) (loop_of (state_of c.further.new.hub) (g.S.Sockets.may_have c.write_some-written.new.sockets) (g.C.Clock.may_tell c.further.new.keeper.clock))
    (c.judge.ensures)
    (serves-then (loop_of (state_of c.judge.new.hub) (g.S.Sockets.may_have c.judge.new.sockets) (g.C.Clock.may_tell c.judge.new.keeper.clock)) (loop_of (state_of c.write_some-written.new.hub) (g.S.Sockets.may_have c.write_some-written.new.sockets) (g.C.Clock.may_tell c.write_some-written.new.keeper.clock)) (loop_of (state_of c.further.new.hub) (g.S.Sockets.may_have c.write_some-written.new.sockets) (g.C.Clock.may_tell c.further.new.keeper.clock))
    (c.write_some-written.ensures)
    (serves-keeps (state_of c.write_some-written.new.hub) (state_of c.further.new.hub) (g.S.Sockets.may_have c.write_some-written.new.sockets) (g.C.Clock.may_tell c.write_some-written.new.keeper.clock) (g.C.Clock.may_tell c.further.new.keeper.clock) c.further.ensures))
