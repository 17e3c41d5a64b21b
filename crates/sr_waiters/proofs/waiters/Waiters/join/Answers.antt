use Rattle.std.proofs.Common.{rules, ◌≡◌, false, ◌∷◌, ◌++◌, [], sym, subst, ◌∙◌, List}
use Rattle.sr_waiters.specs.Index.{IsIndexed}
use Rattle.sr_waiters.specs.Layout.{shown_reads}
use Rattle.sr_waiters.specs.Waiters.{Waiting, WaitersState, due_at, has_session}
use Rattle.sr_waiters.proofs.IndexLemmas.{indexed-joined}
use Rattle.sr_waiters.proofs.ReadLemmas.{due-joined, has_session_shown, once_shown, shown_joined}
use Rattle.sr_waiters.proofs.waiters.Waiters.join.Goals as goal

pub returns-clause-list : goal.returns-clause-list
returns-clause-list c = search (rules, shown_joined)

pub invariant_of-self : goal.invariant_of-self
invariant_of-self c = (
  c.push.ensures.once,
  λ yes.
      let read : Waiting = record { session = c.args.session; call = c.args.call; deadline = c.args.deadline } in
      let inside = c.self.inside in
      let shown = shown_reads inside.reads.entries in
      let list : shown_reads c.push.new.self.entries ≡ shown ++ read ∷ [] = search (rules, shown_joined) in
      let absent : has_session c.args.session shown ≡ false = subst (λ (w : WaitersState). has_session c.args.session w.list ≡ false) (sym c.self.view_is) c.requires.absent in
      let puts = c.put_if_indexed-self-inside.ensures yes in
      subst (λ (l : List Waiting). IsIndexed c.put_if_indexed-self-inside.new.index l) (sym list)
      (indexed-joined c.index_again-indexed.new.index c.put_if_indexed-self-inside.new.index shown (c.index_again-indexed.ensures puts.0) read absent puts.1),
  λ moment before.
      let read : Waiting = record { session = c.args.session; call = c.args.call; deadline = c.args.deadline } in
      let shown = shown_reads c.self.inside.reads.entries in
      let list : shown_reads c.push.new.self.entries ≡ shown ++ read ∷ [] = search (rules, shown_joined) in
      let sooner = c.earlier-self-inside.ensures in
      subst (λ (l : List Waiting). due_at moment l ≡ []) (sym list)
      (due-joined moment shown read (c.self.invariant.2 moment (sooner.a moment before)) (sooner.b moment before)),
)

pub index_again-indexed-requires-clause-once : goal.index_again-indexed-requires-clause-once
index_again-indexed-requires-clause-once c = once_shown c.self.inside.reads.entries c.self.invariant.0

pub push-requires-clause-absent : goal.push-requires-clause-absent
push-requires-clause-absent c =
    has_session_shown c.args.session c.self.inside.reads.entries
    ∙ subst (λ (w : WaitersState). has_session c.args.session w.list ≡ false) (sym c.self.view_is) c.requires.absent
