use Rattle.std.proofs.Common.{◌≡◌, false, [], ◌∷◌, ◌++◌, append_assoc, ap, sym, subst, ◌∙◌}
use Rattle.sr_waiters.specs.Layout.{shown_read, shown_reads}
use Rattle.sr_waiters.specs.Waiters.{AreOnce, has_session}
use Rattle.sr_waiters.proofs.CopyLemmas.{absent_before}
use Rattle.sr_waiters.proofs.IndexLemmas.{indexed-joined}
use Rattle.sr_waiters.proofs.ReadLemmas.{Stored}
use Rattle.sr_waiters.proofs.waiters.index_of.Goals as goal

pub loop-session-preserved : goal.loop-session-preserved
loop-session-preserved c =
    let so_far = c.loop-session.invariant in
    let read = shown_read (c.in-Some.session.now, c.in-Some.read.now) in
    let left = shown_reads c.next.new.self in
    let absent : has_session read.session so_far.done ≡ false = absent_before so_far.done read left
    (subst AreOnce (sym so_far.joined ∙ ap (λ (s : Stored). so_far.done ++ shown_reads s) c.in-Some.ensures.steps) c.requires) in
    record {
      done = so_far.done ++ read ∷ [];
      joined = append_assoc so_far.done (read ∷ []) left
          ∙ ap (λ (s : Stored). so_far.done ++ shown_reads s) (sym c.in-Some.ensures.steps) ∙ so_far.joined;
      indexed = indexed-joined c.loop-session.index c.put_read.new.index so_far.done so_far.indexed read absent c.in_ok-put_read.ensures;
    }
