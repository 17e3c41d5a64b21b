-- One request more is answered, or the session ends at it.
use Rattle.std.proofs.Common.{◌≡◌, ℕ, List, ◌++◌, Bool, Err, sym, subst}
use Rattle.sr_resp.specs.{Words}
use Rattle.sr_session.specs.declared.run.End.{End}
use Rattle.sr_session.specs.declared.run.End.TheVariants as ends
use Rattle.sr_session.specs.steps.Calling.{Fails, IsDeskEnd, held, unread}
use Rattle.sr_session.specs.steps.Gathered.{Moves, Gathers, IsNoted, Stops, silent, waits}

pub Gathers-made : {S : Type 0} (Answers : S → Words → List ℕ → S → Type 0) (old : List ℕ) (sent : ℕ) (before : S) (words : Words) (gets left text new : List ℕ) (between total : ℕ) (after : S)
    → Moves old sent gets left between → total ≡ between → Answers before words text after → new ≡ left ++ text → Gathers Answers old sent before words gets new total after
Gathers-made Answers old sent before words gets left text new between total after moves same answers appended = record {
  left = left;
  text = text;
  moves = subst (Moves old sent gets left) (sym same) moves;
  answers = answers;
  appended = appended;
}

-- an end that a desk brings is none of the writer's
pub IsNoted-desk : (end : End) (old new : Bool) → IsDeskEnd end → new ≡ old → IsNoted (Err end) old new
IsNoted-desk ends.Closed old new is same = absurd is
IsNoted-desk ends.Protocol old new is same = absurd is
IsNoted-desk ends.ReadFault old new is same = absurd is
IsNoted-desk (ends.SendFault sent) old new is same = absurd is
IsNoted-desk ends.Turns old new is same = absurd is
IsNoted-desk ends.Memory old new is same = same
IsNoted-desk ends.Desk old new is same = same

-- no answer is gathered, and the session ends
pub Stops-failed : {S : Type 0} (Answers : S → Words → List ℕ → S → Type 0) (Holds : S → Words → S → Type 0) (gathered : List ℕ) (sent : ℕ) (before : S) (words : Words) (gets left : List ℕ) (total : ℕ) (end : End) (after : S)
    → Moves gathered sent gets left total → Fails Answers Holds before words end after → Stops Answers Holds gathered sent before words gets end after
Stops-failed Answers Holds gathered sent before words gets left total end after moves (unread text answers is) = silent left total text moves answers is
Stops-failed Answers Holds gathered sent before words gets left total end after moves (held waits_there is) = waits left total moves waits_there is
