use Rattle.std.proofs.Common.{take, ◌∙◌}
use Rattle.sr_hub.specs.Lines.{state_of}
use Rattle.sr_hub.specs.steps.Serving.{loop_of}
use Rattle.sr_hub.proofs.ServeLemmas.{serves-bound, serves-same, serves-takes, serves-then, tells-same}
use Rattle.sr_hub.proofs.serve.hear.Goals as goal

pub returns-in-End : goal.returns-in-End
returns-in-End g c =
    serves-same (state_of c.args.hub.now) (g.S.Sockets.may_have c.args.sockets.now) (g.S.Sockets.may_have c.next-heard.new.self) (g.C.Clock.may_tell c.args.keeper.now.clock) (g.C.Clock.may_tell c.hears.new.self.clock) (tells-same g.C.Clock.may_tell c.patience-wait.new.self c.hears.new.self c.hears.ensures ∙ tells-same g.C.Clock.may_tell c.args.keeper.now c.patience-wait.new.self c.patience-wait.ensures) c.in-End.ensures.bytes

pub returns-in-Nothing : goal.returns-in-Nothing
returns-in-Nothing g c =
    serves-same (state_of c.args.hub.now) (g.S.Sockets.may_have c.args.sockets.now) (g.S.Sockets.may_have c.next-heard.new.self) (g.C.Clock.may_tell c.args.keeper.now.clock) (g.C.Clock.may_tell c.hears.new.self.clock) (tells-same g.C.Clock.may_tell c.patience-wait.new.self c.hears.new.self c.hears.ensures ∙ tells-same g.C.Clock.may_tell c.args.keeper.now c.patience-wait.new.self c.patience-wait.ensures) c.in-Nothing.ensures.bytes

pub returns-in-Planned : goal.returns-in-Planned
returns-in-Planned g c =
    serves-same (state_of c.args.hub.now) (g.S.Sockets.may_have c.args.sockets.now) (g.S.Sockets.may_have c.next-heard.new.self) (g.C.Clock.may_tell c.args.keeper.now.clock) (g.C.Clock.may_tell c.note_planned.new.self.clock) (tells-same g.C.Clock.may_tell c.hears.new.self c.note_planned.new.self c.note_planned.ensures ∙ tells-same g.C.Clock.may_tell c.patience-wait.new.self c.hears.new.self c.hears.ensures ∙ tells-same g.C.Clock.may_tell c.args.keeper.now c.patience-wait.new.self c.patience-wait.ensures) c.in-Planned.ensures.bytes

pub returns-in-Bytes : goal.returns-in-Bytes
returns-in-Bytes g c =
    serves-then (loop_of (state_of c.args.hub.now) (g.S.Sockets.may_have c.args.sockets.now) (g.C.Clock.may_tell c.args.keeper.now.clock)) (loop_of (state_of c.args.hub.now) (g.S.Sockets.may_have c.args.sockets.now) (g.C.Clock.may_tell c.hears.new.self.clock)) (loop_of (state_of c.attend.new.hub) (g.S.Sockets.may_have c.attend.new.sockets) (g.C.Clock.may_tell c.attend.new.keeper.clock))
    (serves-bound (state_of c.args.hub.now) (g.S.Sockets.may_have c.args.sockets.now) (g.C.Clock.may_tell c.args.keeper.now.clock) (g.C.Clock.may_tell c.hears.new.self.clock) (tells-same g.C.Clock.may_tell c.patience-wait.new.self c.hears.new.self c.hears.ensures ∙ tells-same g.C.Clock.may_tell c.args.keeper.now c.patience-wait.new.self c.patience-wait.ensures))
    (serves-then (loop_of (state_of c.args.hub.now) (g.S.Sockets.may_have c.args.sockets.now) (g.C.Clock.may_tell c.hears.new.self.clock)) (loop_of (state_of c.take.new.hub) (g.S.Sockets.may_have c.next-heard.new.self) (g.C.Clock.may_tell c.take.new.keeper.clock)) (loop_of (state_of c.attend.new.hub) (g.S.Sockets.may_have c.attend.new.sockets) (g.C.Clock.may_tell c.attend.new.keeper.clock))
    (serves-takes (state_of c.args.hub.now) (state_of c.take.new.hub) (g.S.Sockets.may_have c.args.sockets.now) (g.S.Sockets.may_have c.next-heard.new.self) (g.C.Clock.may_tell c.hears.new.self.clock) (g.C.Clock.may_tell c.take.new.keeper.clock) c.in-Bytes.token (take c.in-Bytes.count c.next-heard.new.buffer) c.in-Bytes.ensures.bytes c.take.ensures)
    (c.attend.ensures))

pub returns-in-Came : goal.returns-in-Came
returns-in-Came g c =
    serves-then (loop_of (state_of c.args.hub.now) (g.S.Sockets.may_have c.args.sockets.now) (g.C.Clock.may_tell c.args.keeper.now.clock)) (loop_of (state_of c.args.hub.now) (g.S.Sockets.may_have c.next-heard.new.self) (g.C.Clock.may_tell c.hears.new.self.clock)) (loop_of (state_of c.admit.new.hub) (g.S.Sockets.may_have c.admit.new.sockets) (g.C.Clock.may_tell c.admit.new.keeper.clock))
    (serves-same (state_of c.args.hub.now) (g.S.Sockets.may_have c.args.sockets.now) (g.S.Sockets.may_have c.next-heard.new.self) (g.C.Clock.may_tell c.args.keeper.now.clock) (g.C.Clock.may_tell c.hears.new.self.clock) (tells-same g.C.Clock.may_tell c.patience-wait.new.self c.hears.new.self c.hears.ensures ∙ tells-same g.C.Clock.may_tell c.args.keeper.now c.patience-wait.new.self c.patience-wait.ensures) c.in-Came.ensures.bytes)
    (c.admit.ensures)

pub returns-in-Room : goal.returns-in-Room
returns-in-Room g c =
    serves-then (loop_of (state_of c.args.hub.now) (g.S.Sockets.may_have c.args.sockets.now) (g.C.Clock.may_tell c.args.keeper.now.clock)) (loop_of (state_of c.args.hub.now) (g.S.Sockets.may_have c.next-heard.new.self) (g.C.Clock.may_tell c.hears.new.self.clock)) (loop_of (state_of c.attend-in-Room.new.hub) (g.S.Sockets.may_have c.attend-in-Room.new.sockets) (g.C.Clock.may_tell c.attend-in-Room.new.keeper.clock))
    (serves-same (state_of c.args.hub.now) (g.S.Sockets.may_have c.args.sockets.now) (g.S.Sockets.may_have c.next-heard.new.self) (g.C.Clock.may_tell c.args.keeper.now.clock) (g.C.Clock.may_tell c.hears.new.self.clock) (tells-same g.C.Clock.may_tell c.patience-wait.new.self c.hears.new.self c.hears.ensures ∙ tells-same g.C.Clock.may_tell c.args.keeper.now c.patience-wait.new.self c.patience-wait.ensures) c.in-Room.ensures.bytes)
    (c.attend-in-Room.ensures)

pub returns-in-Over : goal.returns-in-Over
returns-in-Over g c =
    serves-then (loop_of (state_of c.args.hub.now) (g.S.Sockets.may_have c.args.sockets.now) (g.C.Clock.may_tell c.args.keeper.now.clock)) (loop_of (state_of c.args.hub.now) (g.S.Sockets.may_have c.next-heard.new.self) (g.C.Clock.may_tell c.hears.new.self.clock)) (loop_of (state_of c.dismiss.new.hub) (g.S.Sockets.may_have c.dismiss.new.sockets) (g.C.Clock.may_tell c.dismiss.new.keeper.clock))
    (serves-same (state_of c.args.hub.now) (g.S.Sockets.may_have c.args.sockets.now) (g.S.Sockets.may_have c.next-heard.new.self) (g.C.Clock.may_tell c.args.keeper.now.clock) (g.C.Clock.may_tell c.hears.new.self.clock) (tells-same g.C.Clock.may_tell c.patience-wait.new.self c.hears.new.self c.hears.ensures ∙ tells-same g.C.Clock.may_tell c.args.keeper.now c.patience-wait.new.self c.patience-wait.ensures) c.in-Over.ensures.bytes)
    (c.dismiss.ensures)
