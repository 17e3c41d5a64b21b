use Rattle.std.proofs.Common.{◌≡◌, ℕ, List, Option, None, take, set, nat_eq, ap, sym, subst, ◌∙◌, arith}
use Rattle.std.specs.List.{IsDistinct}
use Rattle.std.specs.Map.{keys_of, lookup}
use Rattle.std.specs.Option.{option_map}
use Rattle.sr_waiters.specs.Queue.{IsQueued, QueueState, taken, without_entry}
use Rattle.sr_waiters.proofs.QueueLemmas.{blank-emptied, left-entries, left-once, missing-stays, one-left, queued-left, queued-missing, queued-value}
use Rattle.sr_waiters.proofs.queue.Queue.remove.Goals as goal

pub returns-in-None-clause-value : goal.returns-in-None-clause-value
returns-in-None-clause-value g c =
    let q = c.self.inside in
    sym (queued-missing q.slots.items q.places q.first c.self.invariant c.args.session (sym c.in-None.ensures.value))
    ∙ ap (λ (s : QueueState g.row.T.Denot). lookup (nat_eq c.args.session) s.entries) c.self.view_is

pub returns-in-None-clause-entries : goal.returns-in-None-clause-entries
returns-in-None-clause-entries g c =
    let q = c.self.inside in
    sym (missing-stays (nat_eq c.args.session) (taken q.slots.items) (queued-missing q.slots.items q.places q.first c.self.invariant c.args.session (sym c.in-None.ensures.value)))
    ∙ one-left c.args.session (taken q.slots.items) c.self.invariant.once ∙ ap (λ (s : QueueState g.row.T.Denot). without_entry c.args.session s.entries) c.self.view_is

pub index_mut-requires : goal.index_mut-requires
index_mut-requires g c =
    let q = c.self.inside in
    let at = queued-value q.slots.items q.places q.first c.self.invariant c.args.session c.in-Some.place None (sym c.in-Some.ensures.value) in
    omega (arith, at.0, q.slots.ok.0)

pub first_taken-self-inside-requires-clause-blank : goal.first_taken-self-inside-requires-clause-blank
first_taken-self-inside-requires-clause-blank g c =
    let q = c.self.inside in
    let now : c.as_slice.result.now ≡ set q.slots.items c.in-Some.place None = c.as_slice.ensures.value ∙ ap (λ (s : Option (ℕ × g.row.T.Denot)). set q.slots.items c.in-Some.place s) c.replace-slot.ensures.after in
    ap (λ (l : List (Option (ℕ × g.row.T.Denot))). taken (take q.first l)) now ∙ blank-emptied q.first q.slots.items c.in-Some.place c.self.invariant.blank

pub invariant_of-self-in-Some : goal.invariant_of-self-in-Some
invariant_of-self-in-Some g c =
    let q = c.self.inside in
    let now : c.as_slice.result.now ≡ set q.slots.items c.in-Some.place None = c.as_slice.ensures.value ∙ ap (λ (s : Option (ℕ × g.row.T.Denot)). set q.slots.items c.in-Some.place s) c.replace-slot.ensures.after in
    let first = c.first_taken-self-inside.result in
    let blank = ap (λ (l : List (Option (ℕ × g.row.T.Denot))). taken (take first l)) (sym now) ∙ c.first_taken-self-inside.ensures.blank in
    let within = rw now at c.first_taken-self-inside.ensures.within in
    let left = queued-left q.slots.items q.places q.first c.self.invariant c.remove.new.self c.args.session c.in-Some.place (sym c.in-Some.ensures.value) first c.in-Some.ensures.updates c.in-Some.ensures.len blank within in
    subst (λ (s : Option (ℕ × g.row.T.Denot)). IsQueued (set q.slots.items c.in-Some.place s) c.remove.new.self first) (sym c.replace-slot.ensures.after) left

pub returns-in-Some-clause-value : goal.returns-in-Some-clause-value
returns-in-Some-clause-value g c =
    let q = c.self.inside in
    let at = queued-value q.slots.items q.places q.first c.self.invariant c.args.session c.in-Some.place c.index_mut.result.now (sym c.in-Some.ensures.value) in
    c.value_of.ensures ∙ ap (λ (s : Option (ℕ × g.row.T.Denot)). option_map (λ (e : ℕ × g.row.T.Denot). e.1) s) (c.replace-slot.ensures.value ∙ c.index_mut.ensures.value) ∙ sym at.1
    ∙ ap (λ (s : QueueState g.row.T.Denot). lookup (nat_eq c.args.session) s.entries) c.self.view_is

pub returns-in-Some-clause-entries : goal.returns-in-Some-clause-entries
returns-in-Some-clause-entries g c =
    let q = c.self.inside in
    c.close_up.ensures.entries ∙ ap (λ (s : Option (ℕ × g.row.T.Denot)). taken (set q.slots.items c.in-Some.place s)) c.replace-slot.ensures.after
    ∙ left-entries q.slots.items q.places q.first c.self.invariant c.remove.new.self c.args.session c.in-Some.place (sym c.in-Some.ensures.value)
    ∙ one-left c.args.session (taken q.slots.items) c.self.invariant.once ∙ ap (λ (s : QueueState g.row.T.Denot). without_entry c.args.session s.entries) c.self.view_is

pub returns-in-Some-clause-once : goal.returns-in-Some-clause-once
returns-in-Some-clause-once g c =
    let q = c.self.inside in
    let now = c.close_up.ensures.entries ∙ ap (λ (s : Option (ℕ × g.row.T.Denot)). taken (set q.slots.items c.in-Some.place s)) c.replace-slot.ensures.after in
    subst (λ (l : List (ℕ × g.row.T.Denot)). IsDistinct nat_eq (keys_of l)) (sym now)
    (left-once q.slots.items q.places q.first c.self.invariant c.remove.new.self c.args.session c.in-Some.place (sym c.in-Some.ensures.value))
