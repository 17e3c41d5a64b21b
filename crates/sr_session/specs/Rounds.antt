-- The rounds of a recovery: in each a verdict is made of the snapshot that the session got last, and is concluded.
-- Source: docs/RECOVERY.md.

use Rattle.std.specs.Prelude.{◌≡◌, ◌==◌, ◌⊎◌, ℕ, zero, suc, Bool, IsTrue, Option, None, Ok, Err}
use Rattle.sr_resp.specs.Reply.{ReplyParts}
use Rattle.sr_policy.specs.{SnapshotState}
use Rattle.sr_plan.specs.{Judged}
use Rattle.sr_book.specs.{BookState}
use Rattle.sr_book.specs.declared.answer.Answer.{Answer}
use Rattle.sr_book.specs.declared.event.Event.TheVariants as events
use Rattle.sr_book.specs.declared.event.Out.{Out}
use Rattle.sr_book.specs.declared.event.Out.TheVariants as outs
use Rattle.sr_session.specs.Desk.{StepsAt}
use Rattle.sr_session.specs.declared.desk.DeskFault.{DeskFault}
use Rattle.sr_session.specs.declared.desk.DeskFault.TheVariants as faults

-- a verdict on this snapshot is concluded, and this is what comes of it
pub record IsRound (may_tell : ℕ → Bool) (session : ℕ) (apply last : Bool) (shown : SnapshotState)
    (old : Option BookState) (out : Out) (new : Option BookState) : Type 0 where
  pub told : ℕ
  pub judged : Judged
  pub answer : Answer
  pub by_clock : IsTrue (may_tell told)
  pub of_snapshot : judged.snapshot ≡ shown
  pub step : StepsAt old told (events.Conclude session judged apply last) (Ok answer) new
  pub comes : answer.out ≡ out

-- one is made, but the desk refuses to conclude it
pub record IsRefusedRound (may_tell : ℕ → Bool) (session : ℕ) (apply last : Bool) (shown : SnapshotState)
    (old : Option BookState) (fault : DeskFault) (new : Option BookState) : Type 0 where
  pub told : ℕ
  pub judged : Judged
  pub by_clock : IsTrue (may_tell told)
  pub of_snapshot : judged.snapshot ≡ shown
  pub step : StepsAt old told (events.Conclude session judged apply last) (Err fault) new

-- the group changed: the fresh snapshot is for the next round, which this is said of
pub record IsStaleRound (may_tell : ℕ → Bool) (session : ℕ) (apply last : Bool) (shown : SnapshotState)
    (old : Option BookState) (Then : SnapshotState → Option BookState → Type 0) : Type 0 where
  pub fresh : SnapshotState
  pub middle : Option BookState
  pub round : IsRound may_tell session apply last shown old (outs.Stale fresh) middle
  pub others : Then fresh middle

-- in at most this many rounds the recovery is replied
abbrev pub RepliesIn : (ℕ → Bool) → ℕ → Bool → ℕ → SnapshotState → Option BookState → ReplyParts → Option BookState
    → Type 0
RepliesIn may_tell session apply zero shown old reply new = ⊥
RepliesIn may_tell session apply (suc rounds) shown old reply new =
    IsRound may_tell session apply (rounds == 0) shown old (outs.Reply reply) new
    ⊎ IsStaleRound may_tell session apply (rounds == 0) shown old
    (λ fresh middle. RepliesIn may_tell session apply rounds fresh middle reply new)

-- in one of at most this many rounds it breaks off: memory is lacking for a verdict, or the desk refuses to conclude
-- one. Of a desk that shows no book nothing is known
abbrev pub BreaksIn : (ℕ → Bool) → ℕ → Bool → ℕ → SnapshotState → Option BookState → DeskFault → Option BookState
    → Type 0
BreaksIn may_tell session apply zero shown old fault new = (old ≡ None) × (new ≡ None)
BreaksIn may_tell session apply (suc rounds) shown old fault new =
    ((old ≡ None) × (new ≡ None))
    ⊎ (((fault ≡ faults.Memory) × (new ≡ old))
    ⊎ (IsRefusedRound may_tell session apply (rounds == 0) shown old fault new
    ⊎ IsStaleRound may_tell session apply (rounds == 0) shown old
    (λ fresh middle. BreaksIn may_tell session apply rounds fresh middle fault new)))
