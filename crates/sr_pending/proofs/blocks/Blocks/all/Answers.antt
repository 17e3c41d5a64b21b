use Rattle.std.proofs.Common.{◌≡◌, [], ap, sym, ◌∙◌}
use Rattle.std.specs.VecDeque.Iter.{deque_iter_rest}
use Rattle.sr_pending.specs.steps.Blocks.{Laid, items_of}
use Rattle.sr_pending.proofs.Showing.{shown-items}
use Rattle.sr_pending.proofs.blocks.Blocks.all.Goals as goal

pub returns : goal.returns
returns g c =
    let b = c.self.inside in
    let none : deque_iter_rest c.range.result ≡ [] = c.range.ensures.rest in
    rw (none, c.iter.ensures.rest, c.iter-2.ensures.rest) (sym (shown-items b.closed.items b.tail.items b.room) ∙ ap (λ (l : Laid g.row.T.Denot). items_of l) c.self.view_is)
