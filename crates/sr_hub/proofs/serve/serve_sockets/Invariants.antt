use Rattle.sr_hub.specs.Lines.{state_of}
use Rattle.sr_hub.specs.steps.Serving.{Serves, loop_of}
use Rattle.sr_hub.proofs.serve.serve_sockets.Given as goal

abbrev pub invariant-loop-turn : goal.invariant-loop-turn
invariant-loop-turn g l =
    Serves (loop_of (state_of l.fn.hub) (g.S.Sockets.may_have l.fn.sockets) (g.C.Clock.may_tell l.fn.clock))
    (loop_of (state_of l.hub) (g.S.Sockets.may_have l.sockets) (g.C.Clock.may_tell l.keeper.clock))
