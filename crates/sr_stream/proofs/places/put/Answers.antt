use Rattle.std.proofs.Common.{◌≡◌, ℕ, List, ap, ◌∙◌}
use Rattle.std.specs.List.{insert}
use Rattle.sr_group.specs.{KeptGroup}
use Rattle.sr_stream.specs.steps.Places.{before}
use Rattle.sr_stream.proofs.GroupsLemmas.{with_group-insert}
use Rattle.sr_stream.proofs.places.put.Goals as goal

pub returns : goal.returns
returns c =
    let groups = c.args.groups.now.items in
    let named : List ℕ × KeptGroup = c.args.named in
    let place : c.count_before-place.result ≡ before named.0 groups = rw (c.as_slice.ensures.value, c.name.ensures) at c.count_before-place.ensures in
    c.insert_at.ensures ∙ ap (λ (n : ℕ). insert groups n named) place ∙ with_group-insert named.0 named.1 groups c.requires.order c.requires.missing
