use Rattle.sr_hub.specs.Lines.{state_of}
use Rattle.sr_hub.specs.steps.Serving.{loop_of}
use Rattle.sr_hub.proofs.ServeLemmas.{clock-same, serves-bound, serves-then}
use Rattle.sr_hub.proofs.serve.serve_sockets.Goals as goal

pub loop-turn-init : goal.loop-turn-init
loop-turn-init g c =
    serves-bound (state_of c.args.hub.now) (g.S.Sockets.may_have c.args.sockets.now) (g.C.Clock.may_tell c.args.clock.now) (g.C.Clock.may_tell c.new-keeper.result.clock) (clock-same g.C.Clock.may_tell c.args.clock.now c.new-keeper.result.clock c.new-keeper.ensures)

pub returns : goal.returns
returns g c = record { served = λ records traffic is are. c.loop-turn.invariant.goes_on records traffic is are }

pub returns-then-not-hear : goal.returns-then-not-hear
returns-then-not-hear g c = record {
  served = λ records traffic is are. (serves-then (loop_of (state_of c.args.hub.now) (g.S.Sockets.may_have c.args.sockets.now) (g.C.Clock.may_tell c.args.clock.now)) (loop_of (state_of c.loop-turn.hub) (g.S.Sockets.may_have c.loop-turn.sockets) (g.C.Clock.may_tell c.loop-turn.keeper.clock)) (loop_of (state_of c.hear.new.hub) (g.S.Sockets.may_have c.hear.new.sockets) (g.C.Clock.may_tell c.hear.new.keeper.clock)) c.loop-turn.invariant c.hear.ensures).goes_on records traffic is are;
}

pub loop-turn-preserved : goal.loop-turn-preserved
loop-turn-preserved g c =
    serves-then (loop_of (state_of c.args.hub.now) (g.S.Sockets.may_have c.args.sockets.now) (g.C.Clock.may_tell c.args.clock.now)) (loop_of (state_of c.loop-turn.hub) (g.S.Sockets.may_have c.loop-turn.sockets) (g.C.Clock.may_tell c.loop-turn.keeper.clock)) (loop_of (state_of c.settle.new.hub) (g.S.Sockets.may_have c.settle.new.sockets) (g.C.Clock.may_tell c.settle.new.keeper.clock))
    c.loop-turn.invariant
    (serves-then (loop_of (state_of c.loop-turn.hub) (g.S.Sockets.may_have c.loop-turn.sockets) (g.C.Clock.may_tell c.loop-turn.keeper.clock)) (loop_of (state_of c.hear.new.hub) (g.S.Sockets.may_have c.hear.new.sockets) (g.C.Clock.may_tell c.hear.new.keeper.clock)) (loop_of (state_of c.settle.new.hub) (g.S.Sockets.may_have c.settle.new.sockets) (g.C.Clock.may_tell c.settle.new.keeper.clock)) c.hear.ensures c.settle.ensures)
