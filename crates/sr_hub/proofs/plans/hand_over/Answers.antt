use Rattle.std.proofs.Common.{refl}
use Rattle.sr_hub.specs.Lines.{state_of}
use Rattle.sr_hub.specs.steps.Serving.{loop_of}
use Rattle.sr_hub.proofs.ServeLemmas.{serves-bound, serves-none, serves-same, tells-same}
use Rattle.sr_hub.proofs.plans.hand_over.Goals as goal

pub returns-in_default : goal.returns-in_default
returns-in_default g c =
    serves-none (loop_of (state_of c.args.hub.now) (g.S.Sockets.may_have c.args.sockets.now) (g.C.Clock.may_tell c.args.keeper.now.clock))

pub returns-in_default-2 : goal.returns-in_default-2
returns-in_default-2 g c =
    serves-none (loop_of (state_of c.args.hub.now) (g.S.Sockets.may_have c.args.sockets.now) (g.C.Clock.may_tell c.args.keeper.now.clock))

pub returns-in_default-copy_of : goal.returns-in_default-copy_of
returns-in_default-copy_of g c =
    serves-none (loop_of (state_of c.args.hub.now) (g.S.Sockets.may_have c.args.sockets.now) (g.C.Clock.may_tell c.args.keeper.now.clock))

pub returns-then-is_planning : goal.returns-then-is_planning
returns-then-is_planning g c =
    serves-none (loop_of (state_of c.args.hub.now) (g.S.Sockets.may_have c.args.sockets.now) (g.C.Clock.may_tell c.args.keeper.now.clock))

pub returns-then-is_busy : goal.returns-then-is_busy
returns-then-is_busy g c =
    serves-bound (state_of c.args.hub.now) (g.S.Sockets.may_have c.args.sockets.now) (g.C.Clock.may_tell c.args.keeper.now.clock) (g.C.Clock.may_tell c.waits_for_plan.new.self.clock) (tells-same g.C.Clock.may_tell c.args.keeper.now c.waits_for_plan.new.self c.waits_for_plan.ensures)

pub returns : goal.returns
returns g c =
    serves-same (state_of c.args.hub.now) (g.S.Sockets.may_have c.args.sockets.now) (g.S.Sockets.may_have c.plan.new.self) (g.C.Clock.may_tell c.args.keeper.now.clock) (g.C.Clock.may_tell c.args.keeper.now.clock) refl c.plan.ensures
