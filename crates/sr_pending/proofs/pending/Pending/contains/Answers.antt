use Rattle.std.proofs.Common.{ap, sym, ◌∙◌}
use Rattle.sr_pending.specs.steps.Blocks.{items_of}
use Rattle.sr_pending.specs.Pending.{PendingState, has_id}
use Rattle.sr_pending.proofs.ListingLemmas.{pending-found}
use Rattle.sr_pending.proofs.pending.Pending.contains.Goals as goal

pub returns-in-Some : goal.returns-in-Some
returns-in-Some c =
    let found = c.in-Some.ensures.found in
    sym (pending-found c.self.inside.slab (items_of c.self.inside.slots) c.args.id c.in-Some._slot found.place found.at)
    ∙ ap (λ (p : PendingState). has_id c.args.id p.nacks) c.self.view_is
