use Rattle.std.proofs.Common.{refl, sym, Err}
use Rattle.sr_hub.specs.steps.Calls.{is_gone}
use Rattle.sr_hub.proofs.HubLemmas.{refuses-at}
use Rattle.sr_hub.proofs.placed.pass_over_at.Goals as goal

pub returns-in_default-clause-refused : goal.returns-in_default-clause-refused
returns-in_default-clause-refused c = is_gone refl (sym c.in_default.ensures.value) refl

pub returns-clause-refused : goal.returns-clause-refused
returns-clause-refused c =
    refuses-at c.args.connections.now c.args.book.now c.args.book.now c.args.token c.in-Some.connection.now c.cut_off.new.connection c.in-Some.ensures.value
    (Err c.cut_off.result) c.cut_off.ensures.untaken refl
