use Rattle.sr_hub.specs.Lines.{state_of}
use Rattle.sr_hub.specs.steps.Serving.{loop_of}
use Rattle.sr_hub.proofs.ServeLemmas.{serves-bound, serves-none, serves-then, tells-same}
use Rattle.sr_hub.proofs.serve.hand_letters.Goals as goal

pub loop-letter-init : goal.loop-letter-init
loop-letter-init g c =
    serves-none (loop_of (state_of c.args.hub.now) (g.S.Sockets.may_have c.args.sockets.now) (g.C.Clock.may_tell c.args.keeper.now.clock))

pub returns-in_default : goal.returns-in_default
returns-in_default g c =
    serves-then (loop_of (state_of c.args.hub.now) (g.S.Sockets.may_have c.args.sockets.now) (g.C.Clock.may_tell c.args.keeper.now.clock)) (loop_of (state_of c.loop-letter.hub) (g.S.Sockets.may_have c.loop-letter.sockets) (g.C.Clock.may_tell c.loop-letter.keeper.clock)) (loop_of (state_of c.loop-letter.hub) (g.S.Sockets.may_have c.loop-letter.sockets) (g.C.Clock.may_tell c.next_lettered.new.self.clock))
    (c.loop-letter.invariant)
    (serves-bound (state_of c.loop-letter.hub) (g.S.Sockets.may_have c.loop-letter.sockets) (g.C.Clock.may_tell c.loop-letter.keeper.clock) (g.C.Clock.may_tell c.next_lettered.new.self.clock) (tells-same g.C.Clock.may_tell c.loop-letter.keeper c.next_lettered.new.self c.next_lettered.ensures.same))

pub returns-then-is_long : goal.returns-then-is_long
returns-then-is_long g c =
    serves-then (loop_of (state_of c.args.hub.now) (g.S.Sockets.may_have c.args.sockets.now) (g.C.Clock.may_tell c.args.keeper.now.clock)) (loop_of (state_of c.loop-letter.hub) (g.S.Sockets.may_have c.loop-letter.sockets) (g.C.Clock.may_tell c.loop-letter.keeper.clock)) (loop_of (state_of c.hand.new.hub) (g.S.Sockets.may_have c.hand.new.sockets) (g.C.Clock.may_tell c.hand.new.keeper.clock))
    (c.loop-letter.invariant)
    (serves-then (loop_of (state_of c.loop-letter.hub) (g.S.Sockets.may_have c.loop-letter.sockets) (g.C.Clock.may_tell c.loop-letter.keeper.clock)) (loop_of (state_of c.loop-letter.hub) (g.S.Sockets.may_have c.loop-letter.sockets) (g.C.Clock.may_tell c.next_lettered.new.self.clock)) (loop_of (state_of c.hand.new.hub) (g.S.Sockets.may_have c.hand.new.sockets) (g.C.Clock.may_tell c.hand.new.keeper.clock))
    (serves-bound (state_of c.loop-letter.hub) (g.S.Sockets.may_have c.loop-letter.sockets) (g.C.Clock.may_tell c.loop-letter.keeper.clock) (g.C.Clock.may_tell c.next_lettered.new.self.clock) (tells-same g.C.Clock.may_tell c.loop-letter.keeper c.next_lettered.new.self c.next_lettered.ensures.same))
    (c.hand.ensures))

pub loop-letter-preserved : goal.loop-letter-preserved
loop-letter-preserved g c =
    serves-then (loop_of (state_of c.args.hub.now) (g.S.Sockets.may_have c.args.sockets.now) (g.C.Clock.may_tell c.args.keeper.now.clock)) (loop_of (state_of c.loop-letter.hub) (g.S.Sockets.may_have c.loop-letter.sockets) (g.C.Clock.may_tell c.loop-letter.keeper.clock)) (loop_of (state_of c.hand.new.hub) (g.S.Sockets.may_have c.hand.new.sockets) (g.C.Clock.may_tell c.hand.new.keeper.clock))
    (c.loop-letter.invariant)
    (serves-then (loop_of (state_of c.loop-letter.hub) (g.S.Sockets.may_have c.loop-letter.sockets) (g.C.Clock.may_tell c.loop-letter.keeper.clock)) (loop_of (state_of c.loop-letter.hub) (g.S.Sockets.may_have c.loop-letter.sockets) (g.C.Clock.may_tell c.next_lettered.new.self.clock)) (loop_of (state_of c.hand.new.hub) (g.S.Sockets.may_have c.hand.new.sockets) (g.C.Clock.may_tell c.hand.new.keeper.clock))
    (serves-bound (state_of c.loop-letter.hub) (g.S.Sockets.may_have c.loop-letter.sockets) (g.C.Clock.may_tell c.loop-letter.keeper.clock) (g.C.Clock.may_tell c.next_lettered.new.self.clock) (tells-same g.C.Clock.may_tell c.loop-letter.keeper c.next_lettered.new.self c.next_lettered.ensures.same))
    (c.hand.ensures))
