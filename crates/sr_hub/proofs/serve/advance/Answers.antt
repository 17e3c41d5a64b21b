use Rattle.sr_hub.specs.Lines.{state_of}
use Rattle.sr_hub.specs.steps.Serving.{loop_of}
use Rattle.sr_hub.proofs.ServeLemmas.{clock-same, serves-bound, serves-none, serves-then}
use Rattle.sr_hub.proofs.serve.advance.Goals as goal

pub loop-round-init : goal.loop-round-init
loop-round-init g c =
    serves-none (loop_of (state_of c.args.hub.now) (g.S.Sockets.may_have c.args.sockets.now) (g.C.Clock.may_tell c.args.keeper.now.clock))

pub returns-then-not-go_on : goal.returns-then-not-go_on
returns-then-not-go_on g c =
    serves-then (loop_of (state_of c.args.hub.now) (g.S.Sockets.may_have c.args.sockets.now) (g.C.Clock.may_tell c.args.keeper.now.clock)) (loop_of (state_of c.loop-round.hub) (g.S.Sockets.may_have c.loop-round.sockets) (g.C.Clock.may_tell c.loop-round.keeper.clock)) (loop_of (state_of c.go_on.new.hub) (g.S.Sockets.may_have c.go_on.new.sockets) (g.C.Clock.may_tell c.go_on.new.keeper.clock))
    (c.loop-round.invariant)
    (c.go_on.ensures)

pub returns-then-puts_off : goal.returns-then-puts_off
returns-then-puts_off g c =
    serves-then (loop_of (state_of c.args.hub.now) (g.S.Sockets.may_have c.args.sockets.now) (g.C.Clock.may_tell c.args.keeper.now.clock)) (loop_of (state_of c.loop-round.hub) (g.S.Sockets.may_have c.loop-round.sockets) (g.C.Clock.may_tell c.loop-round.keeper.clock)) (loop_of (state_of c.go_on.new.hub) (g.S.Sockets.may_have c.go_on.new.sockets) (g.C.Clock.may_tell c.puts_off.new.self.clock))
    (c.loop-round.invariant)
    (serves-then (loop_of (state_of c.loop-round.hub) (g.S.Sockets.may_have c.loop-round.sockets) (g.C.Clock.may_tell c.loop-round.keeper.clock)) (loop_of (state_of c.go_on.new.hub) (g.S.Sockets.may_have c.go_on.new.sockets) (g.C.Clock.may_tell c.go_on.new.keeper.clock)) (loop_of (state_of c.go_on.new.hub) (g.S.Sockets.may_have c.go_on.new.sockets) (g.C.Clock.may_tell c.puts_off.new.self.clock))
    (c.go_on.ensures)
    (serves-bound (state_of c.go_on.new.hub) (g.S.Sockets.may_have c.go_on.new.sockets) (g.C.Clock.may_tell c.go_on.new.keeper.clock) (g.C.Clock.may_tell c.puts_off.new.self.clock) (clock-same g.C.Clock.may_tell c.go_on.new.keeper.clock c.puts_off.new.self.clock c.puts_off.ensures.clock)))

pub loop-round-preserved : goal.loop-round-preserved
loop-round-preserved g c =
    serves-then (loop_of (state_of c.args.hub.now) (g.S.Sockets.may_have c.args.sockets.now) (g.C.Clock.may_tell c.args.keeper.now.clock)) (loop_of (state_of c.loop-round.hub) (g.S.Sockets.may_have c.loop-round.sockets) (g.C.Clock.may_tell c.loop-round.keeper.clock)) (loop_of (state_of c.go_on.new.hub) (g.S.Sockets.may_have c.go_on.new.sockets) (g.C.Clock.may_tell c.puts_off.new.self.clock))
    (c.loop-round.invariant)
    (serves-then (loop_of (state_of c.loop-round.hub) (g.S.Sockets.may_have c.loop-round.sockets) (g.C.Clock.may_tell c.loop-round.keeper.clock)) (loop_of (state_of c.go_on.new.hub) (g.S.Sockets.may_have c.go_on.new.sockets) (g.C.Clock.may_tell c.go_on.new.keeper.clock)) (loop_of (state_of c.go_on.new.hub) (g.S.Sockets.may_have c.go_on.new.sockets) (g.C.Clock.may_tell c.puts_off.new.self.clock))
    (c.go_on.ensures)
    (serves-bound (state_of c.go_on.new.hub) (g.S.Sockets.may_have c.go_on.new.sockets) (g.C.Clock.may_tell c.go_on.new.keeper.clock) (g.C.Clock.may_tell c.puts_off.new.self.clock) (clock-same g.C.Clock.may_tell c.go_on.new.keeper.clock c.puts_off.new.self.clock c.puts_off.ensures.clock)))
