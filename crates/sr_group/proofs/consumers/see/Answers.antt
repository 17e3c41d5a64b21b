use Rattle.std.proofs.Common.{◌≡◌, ℕ, false, ap, ◌∙◌}
use Rattle.std.specs.List.{insert}
use Rattle.sr_group.specs.declared.consumer.Consumer.{Consumer}
use Rattle.sr_group.specs.Group.{has_consumer}
use Rattle.sr_group.specs.steps.Consumers.{before}
use Rattle.sr_group.proofs.ConsumerLemmas.{seen_at-insert}
use Rattle.sr_group.proofs.consumers.see.Goals as goal

pub returns-in-None-clause-items : goal.returns-in-None-clause-items
returns-in-None-clause-items c =
    let consumers = c.args.consumers.now.items in
    let name = c.args.name in
    let now : Consumer = record { name = name; seen = c.args.moment } in
    let none : has_consumer name consumers ≡ false = rw c.as_slice.ensures.value at c.in-None.ensures.none in
    let place : c.count_before-place.result ≡ before name consumers = rw c.as_slice-in-None.ensures.value at c.count_before-place.ensures in
    c.insert_at.ensures.items ∙ ap (λ (n : ℕ). insert consumers n now) place ∙ seen_at-insert name c.args.moment consumers c.requires.order none
