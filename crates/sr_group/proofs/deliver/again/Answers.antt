use Rattle.std.proofs.Common.{ℕ, ap, sym}
use Rattle.sr_group.specs.declared.shown.Act.TheVariants.{Touch}
use Rattle.sr_group.proofs.DeliveryLemmas.{entry_with-none, entry_with-some}
use Rattle.sr_group.proofs.deliver.again.Goals as goal

pub returns-in-Some : goal.returns-in-Some
returns-in-Some c =
    let nack = c.args.nack.now in
    rw (entry_with-some nack.id c.args.entries.now.entries c.in-Some._entry (sym c.in-Some.ensures)) (ap (λ (n : ℕ). Touch nack.id c.args.moment n) c.one_more.ensures)

pub returns-in-None : goal.returns-in-None
returns-in-None c = rw (entry_with-none c.args.nack.now.id c.args.entries.now.entries (sym c.in-None.ensures))
