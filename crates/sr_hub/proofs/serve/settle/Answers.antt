use Rattle.sr_hub.specs.Lines.{state_of}
use Rattle.sr_hub.specs.steps.Serving.{loop_of}
use Rattle.sr_hub.proofs.ServeLemmas.{keeps-to, serves-keeps, serves-then, tells-same}
use Rattle.sr_hub.proofs.serve.settle.Goals as goal

pub returns : goal.returns
returns g c =
    serves-then (loop_of (state_of c.args.hub.now) (g.S.Sockets.may_have c.args.sockets.now) (g.C.Clock.may_tell c.args.keeper.now.clock)) (loop_of (state_of c.tick.new.hub) (g.S.Sockets.may_have c.args.sockets.now) (g.C.Clock.may_tell c.tick.new.keeper.clock)) (loop_of (state_of c.look_after.new.hub) (g.S.Sockets.may_have c.look_after.new.sockets) (g.C.Clock.may_tell c.look_after.new.keeper.clock))
    (serves-keeps (state_of c.args.hub.now) (state_of c.tick.new.hub) (g.S.Sockets.may_have c.args.sockets.now) (g.C.Clock.may_tell c.args.keeper.now.clock) (g.C.Clock.may_tell c.tick.new.keeper.clock) c.tick.ensures)
    (serves-then (loop_of (state_of c.tick.new.hub) (g.S.Sockets.may_have c.args.sockets.now) (g.C.Clock.may_tell c.tick.new.keeper.clock)) (loop_of (state_of c.go_on_with_recoveries.new.hub) (g.S.Sockets.may_have c.go_on_with_recoveries.new.sockets) (g.C.Clock.may_tell c.go_on_with_recoveries.new.keeper.clock)) (loop_of (state_of c.look_after.new.hub) (g.S.Sockets.may_have c.look_after.new.sockets) (g.C.Clock.may_tell c.look_after.new.keeper.clock))
    (c.go_on_with_recoveries.ensures)
    (serves-then (loop_of (state_of c.go_on_with_recoveries.new.hub) (g.S.Sockets.may_have c.go_on_with_recoveries.new.sockets) (g.C.Clock.may_tell c.go_on_with_recoveries.new.keeper.clock)) (loop_of (state_of c.hand_letters.new.hub) (g.S.Sockets.may_have c.hand_letters.new.sockets) (g.C.Clock.may_tell c.hand_letters.new.keeper.clock)) (loop_of (state_of c.look_after.new.hub) (g.S.Sockets.may_have c.look_after.new.sockets) (g.C.Clock.may_tell c.look_after.new.keeper.clock))
    (c.hand_letters.ensures)
    (serves-then (loop_of (state_of c.hand_letters.new.hub) (g.S.Sockets.may_have c.hand_letters.new.sockets) (g.C.Clock.may_tell c.hand_letters.new.keeper.clock)) (loop_of (state_of c.forget.new.hub) (g.S.Sockets.may_have c.hand_letters.new.sockets) (g.C.Clock.may_tell c.forget.new.self.clock)) (loop_of (state_of c.look_after.new.hub) (g.S.Sockets.may_have c.look_after.new.sockets) (g.C.Clock.may_tell c.look_after.new.keeper.clock))
    (serves-keeps (state_of c.hand_letters.new.hub) (state_of c.forget.new.hub) (g.S.Sockets.may_have c.hand_letters.new.sockets) (g.C.Clock.may_tell c.hand_letters.new.keeper.clock) (g.C.Clock.may_tell c.forget.new.self.clock) (keeps-to (g.C.Clock.may_tell c.hand_letters.new.keeper.clock) (g.C.Clock.may_tell c.forget.new.self.clock) (state_of c.hand_letters.new.hub) (state_of c.forget.new.hub) (tells-same g.C.Clock.may_tell c.hand_letters.new.keeper c.forget.new.self c.forget.ensures.same) (c.forget.ensures.keeps (g.C.Clock.may_tell c.hand_letters.new.keeper.clock))))
    (c.look_after.ensures))))
