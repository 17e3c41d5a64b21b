use Rattle.std.proofs.Common.{◌≡◌, [], ◌∷◌, ◌++◌, ℕ, List, Option, Some, false, is_some, length, nat_eq, ap, sym, subst, ◌∙◌, arith}
use Rattle.std.specs.HashMap.{Updates}
use Rattle.std.specs.Map.{lookup}
use Rattle.sr_waiters.specs.Queue.{IsQueued, QueueState, taken}
use Rattle.sr_waiters.proofs.QueueLemmas.{queued-pushed, taken-append}
use Rattle.sr_waiters.proofs.queue.Queue.push.Goals as goal

pub invariant_of-self : goal.invariant_of-self
invariant_of-self g c =
    let q = c.self.inside in
    let next = c.insert-noted.new.self in
    let absent = subst (λ (s : QueueState g.row.T.Denot). is_some (lookup (nat_eq c.args.session) s.entries) ≡ false) (sym c.self.view_is) c.requires.absent in
    let place : c.len-place.result ≡ length q.slots.items = omega (arith, q.slots.ok.0) in
    let old = rw c.unwrap.ensures at c.insert-noted.ensures.old in
    let updates = rw c.unwrap.ensures at c.insert-noted.ensures.updates in
    let len = rw c.unwrap.ensures at c.insert-noted.ensures.len in
    subst (λ (l : List (Option (ℕ × g.row.T.Denot))). IsQueued l next q.first) (sym c.push_reserved.ensures.items)
    (queued-pushed q.slots.items q.places q.first c.self.invariant next c.args.session c.args.value c.unwrap.result absent old
    (subst (λ (n : ℕ). Updates nat_eq q.places next c.args.session (Some n)) place updates) len)

pub returns-clause-entries : goal.returns-clause-entries
returns-clause-entries g c =
    ap taken c.push_reserved.ensures.items ∙ taken-append c.self.inside.slots.items (Some (c.args.session, c.args.value) ∷ [])
    ∙ ap (λ (s : QueueState g.row.T.Denot). s.entries ++ (c.args.session, c.args.value) ∷ []) c.self.view_is

pub returns-clause-once : goal.returns-clause-once
returns-clause-once g c = (invariant_of-self g c).once
