use Rattle.std.proofs.Common.{subst}
use Rattle.sr_book.specs.Watched.{AreQuietBeside, IsBound}
use Rattle.sr_book.specs.declared.watched.Ready.{Ready}
use Rattle.sr_book.proofs.WatchedLemmas.{quiet-settled, settled-quiet}
use Rattle.sr_book.proofs.watched.is_settled.Goals as goal

pub returns-in-At : goal.returns-in-At
returns-in-At c =
    let machine = c.args.machine.now in
    let beside : AreQuietBeside c.in-At.key machine = subst (λ (ready : Ready). IsBound ready machine) c.in-At.is c.requires in (
      λ yes. quiet-settled machine c.in-At.key beside (c.is_quiet_at.ensures.0 yes),
      λ settled. c.is_quiet_at.ensures.1 (settled-quiet machine c.in-At.key beside settled),
    )
