use Rattle.std.proofs.Common.{rules, ◌≡◌, true, sym, ◌∙◌}
use Rattle.sr_ids.specs.{is_below}
use Rattle.sr_group.proofs.FoundLemmas.{delivery-above}
use Rattle.sr_group.proofs.claim.delivery_now.Goals as goal

pub returns-then-lt : goal.returns-then-lt
returns-then-lt c =
    let above : is_below c.args.greatest c.args.id ≡ true = search rules in
    c.first_delivery.ensures ∙ sym (delivery-above c.args.greatest c.args.acts.now c.args.id c.args.pending.now.nacks above c.requires)
