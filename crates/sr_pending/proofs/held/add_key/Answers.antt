use Rattle.std.proofs.Common.{◌≡◌, ℕ, false, List, [], Option, Some, None, refl, subst, sym, ◌∙◌, arith}
use Rattle.std.specs.HashMap.{Updates, get}
use Rattle.std.specs.Option.{is_some}
use Rattle.sr_pending.specs.steps.Blocks.{Laid}
use Rattle.sr_pending.specs.Pending.{is_same_name}
use Rattle.sr_pending.specs.steps.OwnedSlots.{slots_in, spare_in}
use Rattle.sr_pending.proofs.HeldLemmas.{KeepsSlots-update}
use Rattle.sr_pending.proofs.held.add_key.Goals as goal

-- an owner without a key has no slots, and no memory for them
no_key : (slots : Option (Laid ℕ)) → is_some slots ≡ false → ([] ≡ slots_in slots) × (spare_in slots ≡ 0)
no_key None none = (refl, refl)
no_key (Some slots) none = absurd (cc)

pub returns-in_ok-insert-clause-keeps : goal.returns-in_ok-insert-clause-keeps
returns-in_ok-insert-clause-keeps c =
    let owner = c.args.owner.now in
    let held = c.args.held.now in
    let now = c.insert.new.self in
    let updates : Updates is_same_name held now owner (Some c.new.result) = subst (λ (o : List ℕ). Updates is_same_name held now o (Some c.new.result)) c.in_ok-copy.ensures c.in_ok-insert.ensures.updates in
    let none = no_key (get is_same_name held owner) (sym c.contains_key.ensures ∙ c.if-not-contains_key.true) in
    KeepsSlots-update owner held now c.new.result updates (c.new.ensures.items ∙ none.0) (omega (arith, none.1))
