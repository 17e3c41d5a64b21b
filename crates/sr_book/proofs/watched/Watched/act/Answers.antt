use Rattle.std.proofs.Common.{sym, subst}
use Rattle.sr_book.specs.Records.{IsSettled}
use Rattle.sr_book.specs.Server.{moment_after}
use Rattle.sr_book.proofs.watched.Watched.act.Goals as goal

pub invariant_of-self-2 : goal.invariant_of-self-2
invariant_of-self-2 c =
    let old = c.self.inside.machine in
    c.ready_after.ensures old c.args.index (moment_after old.last c.args.told)
    (λ yes. subst IsSettled (sym c.self.view_is) (c.settled-was_settled.ensures.0 yes)) c.in_ok-acted.ensures.server
