use Rattle.sr_hub.specs.Lines.{state_of}
use Rattle.sr_hub.proofs.ServeLemmas.{serves-bound, serves-same, tells-same}
use Rattle.sr_hub.proofs.serve.close_if_over.Goals as goal

pub returns-in-Some : goal.returns-in-Some
returns-in-Some g c =
    serves-same (state_of c.args.hub.now) (g.S.Sockets.may_have c.args.sockets.now) (g.S.Sockets.may_have c.hold.new.self) (g.C.Clock.may_tell c.args.keeper.now.clock) (g.C.Clock.may_tell c.looks_at.new.self.clock) (tells-same g.C.Clock.may_tell c.args.keeper.now c.looks_at.new.self c.looks_at.ensures) c.hold.ensures

pub returns-in_default : goal.returns-in_default
returns-in_default g c =
    serves-bound (state_of c.args.hub.now) (g.S.Sockets.may_have c.args.sockets.now) (g.C.Clock.may_tell c.args.keeper.now.clock) (g.C.Clock.may_tell c.looks_at.new.self.clock) (tells-same g.C.Clock.may_tell c.args.keeper.now c.looks_at.new.self c.looks_at.ensures)
