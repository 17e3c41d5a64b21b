use Rattle.std.proofs.Common.{◌≡◌, [], All, length}
use Rattle.sr_plan.proofs.batches.ids_of_each.Given as goal

abbrev pub invariant-loop : goal.invariant-loop
invariant-loop l = (length l.lists.items ≡ l.counter) × All (λ list. list.items ≡ []) l.lists.items
