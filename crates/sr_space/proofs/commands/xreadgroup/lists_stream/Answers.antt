use Rattle.sr_space.proofs.WaitingLemmas.{lists-pending}
use Rattle.sr_space.proofs.commands.xreadgroup.lists_stream.Goals as goal

pub returns-in-Some-PendingAfter : goal.returns-in-Some-PendingAfter
returns-in-Some-PendingAfter c =
    let read = c.in-Some-PendingAfter in
    lists-pending c.args.asked read.field-0-1 c.args.stream.now.shown.entries read.field-0-0.now.shown _ read.is-1 read.ensures
