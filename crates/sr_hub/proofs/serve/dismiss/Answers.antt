use Rattle.sr_hub.specs.Lines.{state_of}
use Rattle.sr_hub.proofs.ServeLemmas.{serves-close}
use Rattle.sr_hub.proofs.serve.dismiss.Goals as goal

pub returns : goal.returns
returns g c =
    serves-close (state_of c.args.hub.now) (state_of c.release.new.hub) (g.S.Sockets.may_have c.args.sockets.now) (g.S.Sockets.may_have c.close.new.self) (g.C.Clock.may_tell c.args.keeper.now.clock) (g.C.Clock.may_tell c.release.new.keeper.clock) c.args.token c.close.ensures c.release.ensures
