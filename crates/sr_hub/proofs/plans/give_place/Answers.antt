use Rattle.sr_hub.specs.Lines.{state_of}
use Rattle.sr_hub.specs.steps.Serving.{loop_of}
use Rattle.sr_hub.proofs.ServeLemmas.{serves-bound, serves-none, serves-then, tells-same}
use Rattle.sr_hub.proofs.plans.give_place.Goals as goal

pub returns-then-is_busy : goal.returns-then-is_busy
returns-then-is_busy g c =
    serves-none (loop_of (state_of c.args.hub.now) (g.S.Sockets.may_have c.args.sockets.now) (g.C.Clock.may_tell c.args.keeper.now.clock))

pub returns-in_default : goal.returns-in_default
returns-in_default g c =
    serves-bound (state_of c.args.hub.now) (g.S.Sockets.may_have c.args.sockets.now) (g.C.Clock.may_tell c.args.keeper.now.clock) (g.C.Clock.may_tell c.wants_plan.new.self.clock) (tells-same g.C.Clock.may_tell c.args.keeper.now c.wants_plan.new.self c.wants_plan.ensures)

pub returns : goal.returns
returns g c =
    serves-then (loop_of (state_of c.args.hub.now) (g.S.Sockets.may_have c.args.sockets.now) (g.C.Clock.may_tell c.args.keeper.now.clock)) (loop_of (state_of c.args.hub.now) (g.S.Sockets.may_have c.args.sockets.now) (g.C.Clock.may_tell c.wants_plan.new.self.clock)) (loop_of (state_of c.attend.new.hub) (g.S.Sockets.may_have c.attend.new.sockets) (g.C.Clock.may_tell c.attend.new.keeper.clock))
    (serves-bound (state_of c.args.hub.now) (g.S.Sockets.may_have c.args.sockets.now) (g.C.Clock.may_tell c.args.keeper.now.clock) (g.C.Clock.may_tell c.wants_plan.new.self.clock) (tells-same g.C.Clock.may_tell c.args.keeper.now c.wants_plan.new.self c.wants_plan.ensures))
    (serves-then (loop_of (state_of c.args.hub.now) (g.S.Sockets.may_have c.args.sockets.now) (g.C.Clock.may_tell c.wants_plan.new.self.clock)) (loop_of (state_of c.begin_now.new.hub) (g.S.Sockets.may_have c.begin_now.new.sockets) (g.C.Clock.may_tell c.begin_now.new.keeper.clock)) (loop_of (state_of c.attend.new.hub) (g.S.Sockets.may_have c.attend.new.sockets) (g.C.Clock.may_tell c.attend.new.keeper.clock))
    (c.begin_now.ensures)
    (c.attend.ensures))
