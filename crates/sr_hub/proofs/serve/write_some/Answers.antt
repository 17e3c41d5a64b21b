use Rattle.sr_hub.specs.Lines.{state_of}
use Rattle.sr_hub.specs.steps.Serving.{loop_of}
use Rattle.sr_hub.proofs.ServeLemmas.{serves-none, serves-write, session-sent, tells-same}
use Rattle.sr_hub.proofs.serve.write_some.Goals as goal

pub returns-in_default : goal.returns-in_default
returns-in_default g c =
    serves-none (loop_of (state_of c.args.hub.now) (g.S.Sockets.may_have c.args.sockets.now) (g.C.Clock.may_tell c.args.keeper.now.clock))

pub returns-then-length-eq0 : goal.returns-then-length-eq0
returns-then-length-eq0 g c =
    serves-none (loop_of (state_of c.args.hub.now) (g.S.Sockets.may_have c.args.sockets.now) (g.C.Clock.may_tell c.args.keeper.now.clock))

pub returns : goal.returns
returns g c =
    serves-write (state_of c.args.hub.now) (state_of c.sent.new.self) (g.S.Sockets.may_have c.args.sockets.now) (g.S.Sockets.may_have c.write-count.new.self) (g.C.Clock.may_tell c.args.keeper.now.clock) (g.C.Clock.may_tell c.sends.new.self.clock) c.args.token c.write-count.result c.in-Some.bytes.now (tells-same g.C.Clock.may_tell c.args.keeper.now c.sends.new.self c.sends.ensures) c.sent.ensures.book c.in-Some.ensures c.sent.ensures.lines
    (session-sent c.args.token c.write-count.result (state_of c.args.hub.now) (state_of c.sent.new.self) c.sent.ensures.at) c.sent.ensures.others c.write-count.ensures.bytes
