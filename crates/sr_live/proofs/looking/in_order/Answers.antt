use Rattle.std.proofs.Common.{rules}
use Rattle.std.proofs.lemmas.Fn.{always_returns_same}
use Rattle.sr_ids.specs.declared.id.Id.{Id}
use Rattle.sr_policy.specs.{Text}
use Rattle.sr_live.proofs.LookingLemmas.{sorted-below}
use Rattle.sr_live.proofs.looking.in_order.Goals as goal

pub returns-clause-rising : goal.returns-clause-rising
returns-clause-rising c =
    sorted-below c.sort_by_key.new.self.items
    (c.in_ok-sort_by_key.ensures.sorted (λ (entry : Id × Text). entry.0)
    (always_returns_same _ _ _ (λ a r f' k. search rules)))
