use Rattle.std.proofs.Common.{refl}
use Rattle.sr_group.specs.declared.shown.Act.TheVariants.{Touch, Forget, Only}
use Rattle.sr_group.proofs.ShowLemmas.{HaveRoom-given, HaveRoom-other}
use Rattle.sr_group.proofs.show.apply.Goals as goal

pub returns-in-Give-clause-rooms : goal.returns-in-Give-clause-rooms
returns-in-Give-clause-rooms c = λ acts have.
    HaveRoom-given c.in-Give.nack acts c.args.pending.now.rooms c.give.new.pending.rooms c.give.ensures.rooms (rw c.in-Give.is at have)

pub returns-in-Touch-clause-rooms : goal.returns-in-Touch-clause-rooms
returns-in-Touch-clause-rooms c = λ acts have.
    HaveRoom-other (Touch c.in-Touch.id c.in-Touch.time c.in-Touch.count) acts c.args.pending.now.rooms c.touch.new.self.rooms refl c.touch.ensures.rooms (rw c.in-Touch.is at have)

pub returns-in-Forget-clause-rooms : goal.returns-in-Forget-clause-rooms
returns-in-Forget-clause-rooms c = λ acts have.
    HaveRoom-other (Forget c.in-Forget.id) acts c.args.pending.now.rooms c.remove.new.self.rooms refl c.remove.ensures.rooms (rw c.in-Forget.is at have)

pub returns-in-Only-clause-rooms : goal.returns-in-Only-clause-rooms
returns-in-Only-clause-rooms c = λ acts have.
    HaveRoom-other (Only c.in-Only._listed) acts c.args.pending.now.rooms c.args.pending.now.rooms refl refl (rw c.in-Only.is at have)
