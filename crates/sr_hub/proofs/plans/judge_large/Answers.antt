use Rattle.sr_hub.specs.Lines.{state_of}
use Rattle.sr_hub.specs.steps.Serving.{loop_of}
use Rattle.sr_hub.proofs.ServeLemmas.{serves-keeps, serves-then}
use Rattle.sr_hub.proofs.plans.judge_large.Goals as goal

pub returns : goal.returns
returns g c =
    serves-then (loop_of (state_of c.args.hub.now) (g.S.Sockets.may_have c.args.sockets.now) (g.C.Clock.may_tell c.args.keeper.now.clock)) (loop_of (state_of c.args.hub.now) (g.S.Sockets.may_have c.hand_over.new.sockets) (g.C.Clock.may_tell c.hand_over.new.keeper.clock)) (loop_of (state_of c.make_plan.new.hub) (g.S.Sockets.may_have c.hand_over.new.sockets) (g.C.Clock.may_tell c.make_plan.new.keeper.clock))
    (c.hand_over.ensures)
    (serves-keeps (state_of c.args.hub.now) (state_of c.make_plan.new.hub) (g.S.Sockets.may_have c.hand_over.new.sockets) (g.C.Clock.may_tell c.hand_over.new.keeper.clock) (g.C.Clock.may_tell c.make_plan.new.keeper.clock) c.make_plan.ensures)
