use Rattle.sr_hub.specs.Lines.{state_of}
use Rattle.sr_hub.proofs.ServeLemmas.{releases-close, tells-same}
use Rattle.sr_hub.proofs.serve.release.Goals as goal

pub returns : goal.returns
returns g c =
    releases-close c.args.token (g.C.Clock.may_tell c.args.keeper.now.clock) (g.C.Clock.may_tell c.goes.new.self.clock) c.now.result (state_of c.args.hub.now) (state_of c.close.new.self) c.close.result (tells-same g.C.Clock.may_tell c.args.keeper.now c.goes.new.self c.goes.ensures) c.now.ensures
    c.close.ensures.event c.close.ensures.gone c.close.ensures.others c.close.ensures.lines c.close.ensures.err
