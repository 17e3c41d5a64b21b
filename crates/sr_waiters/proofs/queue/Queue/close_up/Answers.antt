use Rattle.std.proofs.Common.{rules, ◌≡◌, ℕ, List, Option, is_some, length, nat_eq, filter, ap, sym, subst, ◌∙◌, arith}
use Rattle.std.proofs.lemmas.Fn.{filter_same}
use Rattle.std.specs.List.{IsDistinct}
use Rattle.std.specs.Map.{keys_of}
use Rattle.sr_waiters.specs.Queue.{ArePlaced, QueueState, taken}
use Rattle.sr_waiters.proofs.QueueLemmas.{closed-there, queued-closed, taken-closed}
use Rattle.sr_waiters.proofs.queue.Queue.close_up.Goals as goal

pub number-requires-clause-once : goal.number-requires-clause-once
number-requires-clause-once g c =
    let slots = c.self.inside.slots.items in
    let left : c.retain.new.self.items ≡ filter is_some slots = filter_same _ (λ (slot : Option (ℕ × g.row.T.Denot)). is_some slot) _ (λ x b f k. search rules) _ _ c.retain.ensures.filtered in
    let same : taken c.as_slice.result.now ≡ taken slots = ap taken (c.as_slice.ensures.value ∙ left) ∙ taken-closed slots in
    subst (λ (l : List (ℕ × g.row.T.Denot)). IsDistinct nat_eq (keys_of l)) (sym same) c.self.invariant.once

pub number-requires-clause-there : goal.number-requires-clause-there
number-requires-clause-there g c =
    let q = c.self.inside in
    let left : c.retain.new.self.items ≡ filter is_some q.slots.items = filter_same _ (λ (slot : Option (ℕ × g.row.T.Denot)). is_some slot) _ (λ x b f k. search rules) _ _ c.retain.ensures.filtered in
    closed-there q.slots.items c.as_slice.result.now q.places q.first c.self.invariant (ap taken (c.as_slice.ensures.value ∙ left) ∙ taken-closed q.slots.items)

pub invariant_of-self : goal.invariant_of-self
invariant_of-self g c =
    let q = c.self.inside in
    let left : c.retain.new.self.items ≡ filter is_some q.slots.items = filter_same _ (λ (slot : Option (ℕ × g.row.T.Denot)). is_some slot) _ (λ x b f k. search rules) _ _ c.retain.ensures.filtered in
    let same : taken c.retain.new.self.items ≡ taken q.slots.items = ap taken left ∙ taken-closed q.slots.items in
    let placed = subst (λ (l : List (Option (ℕ × g.row.T.Denot))). ArePlaced c.number.new.places l) c.as_slice.ensures.value c.number.ensures.placed in
    let counted = c.number.ensures.len ∙ c.self.invariant.counted ∙ sym (ap length same) in
    queued-closed q.slots.items c.retain.new.self.items q.places c.number.new.places q.first c.self.invariant same placed counted

pub returns-clause-entries : goal.returns-clause-entries
returns-clause-entries g c =
    let q = c.self.inside in
    let left : c.retain.new.self.items ≡ filter is_some q.slots.items = filter_same _ (λ (slot : Option (ℕ × g.row.T.Denot)). is_some slot) _ (λ x b f k. search rules) _ _ c.retain.ensures.filtered in
    ap taken left ∙ taken-closed q.slots.items ∙ ap (λ (s : QueueState g.row.T.Denot). s.entries) c.self.view_is

pub returns-clause-room : goal.returns-clause-room
returns-clause-room g c =
    let room = ap (λ (s : QueueState g.row.T.Denot). s.room) c.self.view_is in
    let places = c.number.ensures.room in
    let capacity = c.retain.ensures.capacity in
    let bound = c.retain.ensures.bound in
    omega (arith, room, places, capacity, bound)
