use Rattle.std.proofs.Common.{◌≡◌, ℕ, [], Bool, true, not, List, filter, ap, refl, sym, ◌∙◌}
use Rattle.sr_ids.specs.declared.id.Id.{Id}
use Rattle.sr_pending.specs.steps.Blocks.{items_of}
use Rattle.sr_pending.specs.declared.nack.Nack.{Nack}
use Rattle.sr_ids.specs.{is_below}
use Rattle.sr_pending.specs.Pending.{PendingState, first_of, is_between, owned_by, pending_above, pending_between}
use Rattle.sr_pending.specs.steps.OwnedSlots.{slots_by, slots_in}
use Rattle.sr_pending.specs.steps.Slots.{nacks_at}
use Rattle.sr_pending.proofs.ListingLemmas.{listed-all, taken-all}
use Rattle.sr_pending.proofs.pending.Pending.from_id.Goals as goal

pub new-requires : goal.new-requires
new-requires c =
    taken-all c.self.inside.slab (items_of c.self.inside.slots) c.self.invariant.taken (λ id. not (is_below id c.args.start)) c.from.result c.from.ensures

pub returns : goal.returns
returns c =
    let start = c.args.start in
    c.new.ensures
    ∙ listed-all c.self.inside.slab (items_of c.self.inside.slots) c.self.invariant.taken (λ id. not (is_below id start)) c.from.result c.from.ensures
    ∙ ap (λ (seen : List Nack). filter (λ nack. not (is_below nack.id start)) seen) (ap (λ (p : PendingState). p.nacks) c.self.view_is)
