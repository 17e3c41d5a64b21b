use Rattle.std.proofs.Common.{rules}
use Rattle.std.proofs.lemmas.Fn.{always_returns_same}
use Rattle.sr_args.proofs.DifferentLemmas.{different-sorted, is_before}
use Rattle.sr_args.proofs.streams.are_different_by_order.Goals as goal

pub returns : goal.returns
returns c =
    let words = c.args.words.items in
    let moved = c.sort_unstable.new.self.items in
    different-sorted (λ word. word.now) words moved c.sort_unstable.ensures.permutation c.sort_unstable.ensures.sorted c.is_sorted_by.result
    (rw c.deref.ensures.value at (c.is_sorted_by.ensures.cases (λ word next. is_before word.now next.now) (always_returns_same _ _ _ (λ a r f' k. search rules))))
