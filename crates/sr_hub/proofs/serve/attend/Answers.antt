use Rattle.sr_hub.specs.Lines.{state_of}
use Rattle.sr_hub.specs.steps.Serving.{loop_of}
use Rattle.sr_hub.proofs.ServeLemmas.{serves-none, serves-then}
use Rattle.sr_hub.proofs.serve.attend.Goals as goal

pub returns-then-is_later : goal.returns-then-is_later
returns-then-is_later g c =
    serves-none (loop_of (state_of c.args.hub.now) (g.S.Sockets.may_have c.args.sockets.now) (g.C.Clock.may_tell c.args.keeper.now.clock))

pub returns : goal.returns
returns g c =
    serves-then (loop_of (state_of c.args.hub.now) (g.S.Sockets.may_have c.args.sockets.now) (g.C.Clock.may_tell c.args.keeper.now.clock)) (loop_of (state_of c.advance.new.hub) (g.S.Sockets.may_have c.advance.new.sockets) (g.C.Clock.may_tell c.advance.new.keeper.clock)) (loop_of (state_of c.close_if_over.new.hub) (g.S.Sockets.may_have c.close_if_over.new.sockets) (g.C.Clock.may_tell c.close_if_over.new.keeper.clock))
    (c.advance.ensures)
    (c.close_if_over.ensures)
