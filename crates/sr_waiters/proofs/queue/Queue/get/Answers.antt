use Rattle.std.proofs.Common.{◌≡◌, [], None, nat_eq, ap, sym, refl, ◌∙◌, arith}
use Rattle.std.specs.Map.{lookup}
use Rattle.std.specs.Option.{option_map}
use Rattle.sr_waiters.specs.Queue.{QueueState}
use Rattle.sr_waiters.proofs.QueueLemmas.{queued-missing, queued-value}
use Rattle.sr_waiters.proofs.queue.Queue.get.Goals as goal

pub returns-then-is_empty : goal.returns-then-is_empty
returns-then-is_empty g c =
    let empty : c.args.self.now.entries ≡ [] = c.is_empty.ensures.0 c.if-is_empty.true in
    rw empty refl

pub returns-in-None : goal.returns-in-None
returns-in-None g c =
    let q = c.self.inside in
    sym (queued-missing q.slots.items q.places q.first c.self.invariant c.args.session (sym c.in-None.ensures.value))
    ∙ ap (λ (s : QueueState g.row.T.Denot). lookup (nat_eq c.args.session) s.entries) c.self.view_is

pub index-requires : goal.index-requires
index-requires g c =
    let q = c.self.inside in
    let at = queued-value q.slots.items q.places q.first c.self.invariant c.args.session c.in-Some.place.now None (sym c.in-Some.ensures.value) in
    omega (arith, at.0, q.slots.ok.0)

pub returns-in-Some : goal.returns-in-Some
returns-in-Some g c =
    let q = c.self.inside in
    let at = queued-value q.slots.items q.places q.first c.self.invariant c.args.session c.in-Some.place.now c.index.result.now (sym c.in-Some.ensures.value) in
    c.value_in.ensures ∙ ap (λ (s : _). option_map (λ (e : _). e.1) s) c.index.ensures ∙ sym at.1
    ∙ ap (λ (s : QueueState g.row.T.Denot). lookup (nat_eq c.args.session) s.entries) c.self.view_is
