use Rattle.std.proofs.Common.{ℕ, List, Option, drop, length, ap, ◌∙◌, arith}
use Rattle.std.proofs.lemmas.Slice.{between_to_end}
use Rattle.sr_waiters.specs.Queue.{QueueState, taken}
use Rattle.sr_waiters.proofs.QueueLemmas.{taken-from}
use Rattle.sr_waiters.proofs.queue.Queue.iter.Goals as goal

pub returns : goal.returns
returns g c =
    let q = c.self.inside in
    let slots = c.as_slice-slots.result.now in
    ap taken (c.iter.ensures.rest ∙ between_to_end slots q.first (length slots) (omega arith) ∙ ap (λ (l : List (Option (ℕ × g.row.T.Denot))). drop q.first l) c.as_slice-slots.ensures.value)
    ∙ taken-from q.first q.slots.items c.self.invariant.blank ∙ ap (λ (s : QueueState g.row.T.Denot). s.entries) c.self.view_is
