use Rattle.std.proofs.Common.{rules, List, ℕ, subst}
use Rattle.std.specs.Cmp.Lexicographic.{slice_cmp}
use Rattle.std.specs.List.Sorted.{IsSorted}
use Rattle.std.specs.Ordering.{is_lt, nat_cmp}
use Rattle.std.proofs.lemmas.Cmp.{nat_list_cmp_total}
use Rattle.std.proofs.lemmas.Fn.{always_returns_same}
use Rattle.std.proofs.lemmas.List.Filters.{dedup_is}
use Rattle.std.proofs.lemmas.List.Sorted.{ranks_by}
use Rattle.sr_bytes.specs.{AreInOrder, ComesBefore}
use Rattle.sr_space.proofs.SortedNameLemmas.{in_order-already, in_order-sorted}
use Rattle.sr_space.proofs.snap.names.put_in_order.Goals as goal

pub returns-then-are_in_order : goal.returns-then-are_in_order
returns-then-are_in_order c =
    in_order-already c.args.names.now.items
    (subst (λ (l : List (List ℕ)). AreInOrder ComesBefore l) c.as_slice.ensures.value (c.are_in_order.ensures.0 c.if-are_in_order.true))

pub returns : goal.returns
returns c =
    let names = c.args.names.now.items in
    let moved = c.sort_unstable_by.new.self.items in
    let sorted : IsSorted (slice_cmp nat_cmp) moved = c.sort_unstable_by.ensures.sorted (λ a b. is_lt (slice_cmp nat_cmp a b)) (ranks_by nat_list_cmp_total (λ (name : List ℕ). name))
    (always_returns_same _ _ _ (λ a r f' k. search rules)) in
    in_order-sorted names moved c.dedup.new.self.items c.sort_unstable_by.ensures.permutation sorted (dedup_is _ _ _ c.dedup.ensures.filtered)
