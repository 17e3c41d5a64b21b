use Rattle.std.proofs.Common.{◌≡◌, ℕ, ◌&&◌, List, [], ◌∙◌, ap, sym}
use Rattle.sr_waiters.specs.Layout.{shown_reads}
use Rattle.sr_waiters.specs.declared.waiters.Blocked.{Blocked}
use Rattle.sr_waiters.specs.Waiters.{WaitersState, asks, first_that, session_of}
use Rattle.sr_waiters.proofs.IndexLemmas.{first-indexed}
use Rattle.sr_waiters.proofs.ReadLemmas.{once_shown}
use Rattle.sr_waiters.proofs.waiters.Waiters.first_at.Goals as goal

pub returns-then-is_empty : goal.returns-then-is_empty
returns-then-is_empty g c = λ test computes.
    let inside = c.self.inside in
    let key = c.args.key.now in
    let empty : inside.reads.entries ≡ [] = c.is_empty.ensures.0 c.if-is_empty.true in
    ap (λ (l : List (ℕ × Blocked)). session_of (first_that (λ call. asks key call && test call) (shown_reads l))) (sym empty)
    ∙ ap (λ (w : WaitersState). session_of (first_that (λ call. asks key call && test call) w.list)) c.self.view_is

pub returns-then-self : goal.returns-then-self
returns-then-self g c = λ test computes.
    let inside = c.self.inside in
    let shown = shown_reads inside.reads.entries in
    let key = c.args.key.now in
    c.first_by_index.ensures test computes
    ∙ first-indexed inside.index shown key test (once_shown inside.reads.entries c.self.invariant.0) (c.self.invariant.1 c.if-self.true)
    ∙ ap (λ (w : WaitersState). session_of (first_that (λ call. asks key call && test call) w.list)) c.self.view_is
