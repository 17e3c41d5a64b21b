use Rattle.sr_hub.specs.Lines.{state_of}
use Rattle.sr_hub.proofs.ServeLemmas.{serves-bound, tells-same}
use Rattle.sr_hub.proofs.plans.begin.Goals as goal

pub returns-then-waits_for_plan : goal.returns-then-waits_for_plan
returns-then-waits_for_plan g c =
    serves-bound (state_of c.args.hub.now) (g.S.Sockets.may_have c.args.sockets.now) (g.C.Clock.may_tell c.args.keeper.now.clock) (g.C.Clock.may_tell c.waits_for_plan.new.self.clock) (tells-same g.C.Clock.may_tell c.args.keeper.now c.waits_for_plan.new.self c.waits_for_plan.ensures)
