use Rattle.std.proofs.Common.{rules, ◌≡◌, [], Some, is_some, false, ap, sym, subst, ◌∙◌, List}
use Rattle.sr_waiters.specs.Index.{IsIndexed, asking}
use Rattle.sr_waiters.specs.Layout.{shown_reads}
use Rattle.sr_waiters.specs.Waiters.{Waiting, WaitersState, call_of, due_at, has_session, read_of, without_session}
use Rattle.sr_waiters.proofs.IndexLemmas.{indexed-left}
use Rattle.sr_waiters.proofs.ReadLemmas.{call_of_shown, due-without, has_session_shown, once_shown, shown_left, stored_call, without_absent}
use Rattle.sr_waiters.proofs.waiters.Waiters.leave.Goals as goal

pub returns-in-None-clause-list : goal.returns-in-None-clause-list
returns-in-None-clause-list c = search (rules, has_session_shown, shown_left)

pub returns-in-Some-clause-list : goal.returns-in-Some-clause-list
returns-in-Some-clause-list c = search (rules, has_session_shown, shown_left)

pub invariant_of-self-in-Some : goal.invariant_of-self-in-Some
invariant_of-self-in-Some c = (
  c.remove.ensures.once,
  λ yes.
      let inside = c.self.inside in
      let stored = inside.reads.entries in
      let shown = shown_reads stored in
      let session = c.args.session in
      let call = c.in-Some.read.call in
      let list : shown_reads c.remove.new.self.entries ≡ without_session session shown =
      ap shown_reads c.remove.ensures.entries ∙ shown_left session stored in
      let is : call_of (read_of session shown) ≡ Some call = sym (call_of_shown session stored) ∙ ap stored_call (sym c.in-Some.ensures.value) in
      subst (λ (l : List Waiting). IsIndexed c.take_read.new.index l) (sym list)
      (indexed-left inside.index c.take_read.new.index shown (c.self.invariant.1 yes) session call (once_shown stored c.self.invariant.0) is c.take_read.ensures),
  λ moment before.
      let stored = c.self.inside.reads.entries in
      let session = c.args.session in
      let list : shown_reads c.remove.new.self.entries ≡ without_session session (shown_reads stored) =
      ap shown_reads c.remove.ensures.entries ∙ shown_left session stored in
      subst (λ (l : List Waiting). due_at moment l ≡ []) (sym list)
      (due-without moment session (shown_reads stored) (c.self.invariant.2 moment before)),
)

pub invariant_of-self : goal.invariant_of-self
invariant_of-self c =
    let stored = c.self.inside.reads.entries in
    let shown = shown_reads stored in
    let absent : has_session c.args.session shown ≡ false = sym (has_session_shown c.args.session stored) ∙ ap is_some (sym c.in-None.ensures.value) in
    let same : shown_reads c.remove.new.self.entries ≡ shown =
    ap shown_reads c.remove.ensures.entries ∙ shown_left c.args.session stored ∙ without_absent c.args.session shown absent in (
      c.remove.ensures.once,
      λ yes key. c.self.invariant.1 yes key ∙ ap (asking key) (sym same),
      λ moment before. subst (λ (l : List Waiting). due_at moment l ≡ []) (sym same) (c.self.invariant.2 moment before),
    )

pub returns-in-None-clause-there : goal.returns-in-None-clause-there
returns-in-None-clause-there c =
    ap is_some c.in-None.ensures.value ∙ has_session_shown c.args.session c.self.inside.reads.entries
    ∙ ap (λ (w : WaitersState). has_session c.args.session w.list) c.self.view_is

pub returns-in-Some-clause-there : goal.returns-in-Some-clause-there
returns-in-Some-clause-there c =
    ap is_some c.in-Some.ensures.value ∙ has_session_shown c.args.session c.self.inside.reads.entries
    ∙ ap (λ (w : WaitersState). has_session c.args.session w.list) c.self.view_is
