use Rattle.sr_hub.specs.Lines.{state_of}
use Rattle.sr_hub.specs.steps.Serving.{loop_of}
use Rattle.sr_hub.proofs.ServeLemmas.{serves-bound, serves-then, tells-same}
use Rattle.sr_hub.proofs.serve.sweep.Goals as goal

pub returns-then-not-is_sweep : goal.returns-then-not-is_sweep
returns-then-not-is_sweep g c =
    serves-bound (state_of c.args.hub.now) (g.S.Sockets.may_have c.args.sockets.now) (g.C.Clock.may_tell c.args.keeper.now.clock) (g.C.Clock.may_tell c.is_sweep.new.self.clock) (tells-same g.C.Clock.may_tell c.args.keeper.now c.is_sweep.new.self c.is_sweep.ensures)

pub loop-token-init : goal.loop-token-init
loop-token-init g c =
    serves-bound (state_of c.args.hub.now) (g.S.Sockets.may_have c.args.sockets.now) (g.C.Clock.may_tell c.args.keeper.now.clock) (g.C.Clock.may_tell c.is_sweep.new.self.clock) (tells-same g.C.Clock.may_tell c.args.keeper.now c.is_sweep.new.self c.is_sweep.ensures)

pub loop-token-preserved : goal.loop-token-preserved
loop-token-preserved g c =
    serves-then (loop_of (state_of c.args.hub.now) (g.S.Sockets.may_have c.args.sockets.now) (g.C.Clock.may_tell c.args.keeper.now.clock)) (loop_of (state_of c.loop-token.hub) (g.S.Sockets.may_have c.loop-token.sockets) (g.C.Clock.may_tell c.loop-token.keeper.clock)) (loop_of (state_of c.look_at.new.hub) (g.S.Sockets.may_have c.look_at.new.sockets) (g.C.Clock.may_tell c.look_at.new.keeper.clock))
    (c.loop-token.invariant)
    (c.look_at.ensures)
