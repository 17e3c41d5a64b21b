use Rattle.std.proofs.Common.{◌≡◌, Some, ap, sym, ◌∙◌, arith}
use Rattle.std.specs.HashMap.{Updates}
use Rattle.sr_pending.specs.steps.Blocks.{items_of}
use Rattle.sr_pending.specs.Pending.{is_same_name}
use Rattle.sr_pending.specs.steps.OwnedSlots.{slots_by, slots_in, spare_by, spare_in}
use Rattle.sr_pending.proofs.HeldLemmas.{KeepsSlots-update}
use Rattle.sr_pending.proofs.held.grow.Goals as goal

pub returns-in-Some-clause-keeps : goal.returns-in-Some-clause-keeps
returns-in-Some-clause-keeps c =
    let owner = c.args.owner.now in
    let held = c.args.held.now in
    let was = c.in-Some.slots.now in
    let is = c.reserve.new.self in
    let updates : Updates is_same_name held (c.get_mut.follows.lender is) owner (Some is) = (c.get_mut.follows.holds is).3 c.requires in
    let had : items_of was ≡ slots_by held owner = ap slots_in c.in-Some.ensures.value in
    let had_spare : spare_by held owner ≡ was.room = sym (ap spare_in c.in-Some.ensures.value) in
    KeepsSlots-update owner held (c.get_mut.follows.lender is) is updates (c.reserve.ensures.items ∙ had) (omega (arith, had_spare, c.reserve.ensures.keeps))
