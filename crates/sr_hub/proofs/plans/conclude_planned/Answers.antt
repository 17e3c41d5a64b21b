use Rattle.sr_hub.specs.Lines.{state_of}
use Rattle.sr_hub.specs.steps.Serving.{loop_of}
use Rattle.sr_hub.proofs.ServeLemmas.{serves-bound, serves-keeps, serves-none, serves-same, serves-then, tells-same}
use Rattle.sr_hub.proofs.plans.conclude_planned.Goals as goal

pub returns-then-not-expects_plans : goal.returns-then-not-expects_plans
returns-then-not-expects_plans g c =
    serves-none (loop_of (state_of c.args.hub.now) (g.S.Sockets.may_have c.args.sockets.now) (g.C.Clock.may_tell c.args.keeper.now.clock))

pub returns-in_default : goal.returns-in_default
returns-in_default g c =
    serves-same (state_of c.args.hub.now) (g.S.Sockets.may_have c.args.sockets.now) (g.S.Sockets.may_have c.planned.new.self) (g.C.Clock.may_tell c.args.keeper.now.clock) (g.C.Clock.may_tell c.note_planned.new.self.clock) (tells-same g.C.Clock.may_tell c.args.keeper.now c.note_planned.new.self c.note_planned.ensures) c.planned.ensures

pub returns : goal.returns
returns g c =
    serves-then (loop_of (state_of c.args.hub.now) (g.S.Sockets.may_have c.args.sockets.now) (g.C.Clock.may_tell c.args.keeper.now.clock)) (loop_of (state_of c.args.hub.now) (g.S.Sockets.may_have c.planned.new.self) (g.C.Clock.may_tell c.begins.new.self.clock)) (loop_of (state_of c.attend.new.hub) (g.S.Sockets.may_have c.attend.new.sockets) (g.C.Clock.may_tell c.attend.new.keeper.clock))
    (serves-same (state_of c.args.hub.now) (g.S.Sockets.may_have c.args.sockets.now) (g.S.Sockets.may_have c.planned.new.self) (g.C.Clock.may_tell c.args.keeper.now.clock) (g.C.Clock.may_tell c.begins.new.self.clock) (tells-same g.C.Clock.may_tell c.args.keeper.now c.begins.new.self c.begins.ensures) c.planned.ensures)
    (serves-then (loop_of (state_of c.args.hub.now) (g.S.Sockets.may_have c.planned.new.self) (g.C.Clock.may_tell c.begins.new.self.clock)) (loop_of (state_of c.conclude.new.hub) (g.S.Sockets.may_have c.planned.new.self) (g.C.Clock.may_tell c.conclude.new.keeper.clock)) (loop_of (state_of c.attend.new.hub) (g.S.Sockets.may_have c.attend.new.sockets) (g.C.Clock.may_tell c.attend.new.keeper.clock))
    (serves-keeps (state_of c.args.hub.now) (state_of c.conclude.new.hub) (g.S.Sockets.may_have c.planned.new.self) (g.C.Clock.may_tell c.begins.new.self.clock) (g.C.Clock.may_tell c.conclude.new.keeper.clock) c.conclude.ensures)
    (serves-then (loop_of (state_of c.conclude.new.hub) (g.S.Sockets.may_have c.planned.new.self) (g.C.Clock.may_tell c.conclude.new.keeper.clock)) (loop_of (state_of c.conclude.new.hub) (g.S.Sockets.may_have c.planned.new.self) (g.C.Clock.may_tell c.tires.new.self.clock)) (loop_of (state_of c.attend.new.hub) (g.S.Sockets.may_have c.attend.new.sockets) (g.C.Clock.may_tell c.attend.new.keeper.clock))
    (serves-bound (state_of c.conclude.new.hub) (g.S.Sockets.may_have c.planned.new.self) (g.C.Clock.may_tell c.conclude.new.keeper.clock) (g.C.Clock.may_tell c.tires.new.self.clock) (tells-same g.C.Clock.may_tell c.conclude.new.keeper c.tires.new.self c.tires.ensures))
    (serves-then (loop_of (state_of c.conclude.new.hub) (g.S.Sockets.may_have c.planned.new.self) (g.C.Clock.may_tell c.tires.new.self.clock)) (loop_of (state_of c.conclude.new.hub) (g.S.Sockets.may_have c.planned.new.self) (g.C.Clock.may_tell c.hears_of.new.self.clock)) (loop_of (state_of c.attend.new.hub) (g.S.Sockets.may_have c.attend.new.sockets) (g.C.Clock.may_tell c.attend.new.keeper.clock))
    (serves-bound (state_of c.conclude.new.hub) (g.S.Sockets.may_have c.planned.new.self) (g.C.Clock.may_tell c.tires.new.self.clock) (g.C.Clock.may_tell c.hears_of.new.self.clock) (tells-same g.C.Clock.may_tell c.tires.new.self c.hears_of.new.self c.hears_of.ensures))
    (c.attend.ensures))))
