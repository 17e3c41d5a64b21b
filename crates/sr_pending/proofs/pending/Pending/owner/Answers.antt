use Rattle.std.proofs.Common.{◌≡◌, sym, ◌∙◌}
use Rattle.sr_pending.proofs.OwnerLemmas.{owned_by-first}
use Rattle.sr_pending.proofs.pending.Pending.owner.Goals as goal

pub returns-in-Some : goal.returns-in-Some
returns-in-Some c =
    let name = c.args.name.now in
    let nack = c.in-Some.nack.now in
    let same : nack.owner ≡ name = owned_by-first name c.args.self.now.nacks nack c.next.new.self (sym c.of.ensures ∙ c.in-Some.ensures.some) in
    rw same at c.copy.ensures
