use Rattle.sr_hub.specs.Lines.{state_of}
use Rattle.sr_hub.specs.steps.Serving.{loop_of}
use Rattle.sr_hub.proofs.ServeLemmas.{serves-then}
use Rattle.sr_hub.proofs.plans.go_on_with_recoveries.Goals as goal

pub returns : goal.returns
returns g c =
    serves-then (loop_of (state_of c.args.hub.now) (g.S.Sockets.may_have c.args.sockets.now) (g.C.Clock.may_tell c.args.keeper.now.clock)) (loop_of (state_of c.conclude_planned.new.hub) (g.S.Sockets.may_have c.conclude_planned.new.sockets) (g.C.Clock.may_tell c.conclude_planned.new.keeper.clock)) (loop_of (state_of c.give_place.new.hub) (g.S.Sockets.may_have c.give_place.new.sockets) (g.C.Clock.may_tell c.give_place.new.keeper.clock))
    (c.conclude_planned.ensures)
    (c.give_place.ensures)
