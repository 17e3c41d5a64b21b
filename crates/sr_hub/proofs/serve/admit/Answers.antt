use Rattle.std.proofs.Common.{◌∙◌, IsTrue, refl, subst, ℕ, Bool}
use Rattle.sr_hub.specs.Lines.{state_of}
use Rattle.sr_hub.proofs.ServeLemmas.{keeps-same, serves-both, serves-name, serves-same, session-is, tells-same}
use Rattle.sr_hub.proofs.serve.admit.Goals as goal

pub returns-then-is_full : goal.returns-then-is_full
returns-then-is_full g c =
    serves-same (state_of c.args.hub.now) (g.S.Sockets.may_have c.args.sockets.now) (g.S.Sockets.may_have c.turn_away.new.self) (g.C.Clock.may_tell c.args.keeper.now.clock) (g.C.Clock.may_tell c.args.keeper.now.clock) (refl) c.turn_away.ensures

pub returns-then-is_err : goal.returns-then-is_err
returns-then-is_err g c =
    serves-same (state_of c.args.hub.now) (g.S.Sockets.may_have c.args.sockets.now) (g.S.Sockets.may_have c.refuse.new.self) (g.C.Clock.may_tell c.args.keeper.now.clock) (g.C.Clock.may_tell c.reserve.new.self.clock) (tells-same g.C.Clock.may_tell c.args.keeper.now c.reserve.new.self c.reserve.ensures) c.refuse.ensures

pub returns-in-Ok : goal.returns-in-Ok
returns-in-Ok g c =
    serves-name (state_of c.args.hub.now) (state_of c.connect.new.self) (g.S.Sockets.may_have c.args.sockets.now) (g.S.Sockets.may_have c.name.new.self) (g.C.Clock.may_tell c.args.keeper.now.clock) (g.C.Clock.may_tell c.comes.new.self.clock) c.in-Ok.token c.now.result
    (tells-same g.C.Clock.may_tell c.reserve.new.self c.comes.new.self c.comes.ensures ∙ tells-same g.C.Clock.may_tell c.args.keeper.now c.reserve.new.self c.reserve.ensures)
    (subst (λ (t : ℕ → Bool). IsTrue (t c.now.result)) (tells-same g.C.Clock.may_tell c.args.keeper.now c.reserve.new.self c.reserve.ensures) c.now.ensures)
    c.in-Ok.ensures.free (session-is ((state_of c.connect.new.self).at c.in-Ok.token) _ c.in-Ok.ensures.session) c.in-Ok.ensures.others c.in-Ok.ensures.event c.in-Ok.ensures.lines c.name.ensures

pub returns-in-Err : goal.returns-in-Err
returns-in-Err g c =
    serves-both (state_of c.args.hub.now) (state_of c.connect.new.self) (g.S.Sockets.may_have c.args.sockets.now) (g.S.Sockets.may_have c.refuse-in-Err.new.self) (g.C.Clock.may_tell c.args.keeper.now.clock) (g.C.Clock.may_tell c.reserve.new.self.clock) c.refuse-in-Err.ensures
    (keeps-same (g.C.Clock.may_tell c.args.keeper.now.clock) (g.C.Clock.may_tell c.reserve.new.self.clock) (state_of c.args.hub.now) (state_of c.connect.new.self) (tells-same g.C.Clock.may_tell c.args.keeper.now c.reserve.new.self c.reserve.ensures) c.in-Err.ensures.err)
