use Rattle.sr_hub.specs.Lines.{state_of}
use Rattle.sr_hub.proofs.ServeLemmas.{at-by, keeps-at, keeps-to, quiet-says, tells-same}
use Rattle.sr_hub.proofs.serve.further.Goals as goal

pub returns : goal.returns
returns g c =
    keeps-to (g.C.Clock.may_tell c.args.keeper.now.clock) (g.C.Clock.may_tell c.weighs.new.self.clock) (state_of c.args.hub.now) (state_of c.go_on-there.new.self) (tells-same g.C.Clock.may_tell c.args.keeper.now c.weighs.new.self c.weighs.ensures)
    (keeps-at (g.C.Clock.may_tell c.args.keeper.now.clock) c.now.result (state_of c.args.hub.now) (state_of c.go_on-there.new.self) c.now.ensures c.go_on-there.ensures.timed (quiet-says ((state_of c.args.hub.now).at c.args.token) c.args.hub.now.book c.go_on-there.new.self.book c.go_on-there.ensures.said)
    (at-by c.args.token (state_of c.args.hub.now) (state_of c.go_on-there.new.self) c.go_on-there.ensures.session c.go_on-there.ensures.others) c.go_on-there.ensures.lines)
