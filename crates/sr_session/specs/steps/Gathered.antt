-- Cited by private clauses alone: the replies that are gathered for the writer, and how one more request is answered.

use Rattle.std.specs.Prelude.{◌≡◌, ℕ, ◌+◌, ◌<◌, List, [], ◌++◌, length, take, min, Bool, true, Result, Ok, Err}
use Rattle.sr_resp.specs.{Words}
use Rattle.sr_session.specs.declared.run.End.{End}
use Rattle.sr_session.specs.declared.run.End.TheVariants.{Closed, Protocol, ReadFault, SendFault, Turns, Memory, Desk}

-- a count of bytes and then more bytes; a number beyond a word is the greatest one
abbrev pub counted : ℕ → ℕ → ℕ
counted sent more = min (sent + more) 0xffff_ffff_ffff_ffff

-- the gathered replies stay, or all of them go to the writer, which gets these bytes
pub data Moves (gathered : List ℕ) (sent : ℕ) (gets left : List ℕ) (total : ℕ) : Type 0 where
  stay : gets ≡ [] → left ≡ gathered → total ≡ sent → Moves gathered sent gets left total
  go : gets ≡ gathered → left ≡ [] → total ≡ counted sent (length gathered) → Moves gathered sent gets left total

-- the writer fails before it has all of the gathered replies
pub record BreaksOff (gathered : List ℕ) (sent : ℕ) (gets : List ℕ) (end : End) : Type 0 where
  pub count : ℕ
  pub short : count < length gathered
  pub part : gets ≡ take count gathered
  pub told : end ≡ SendFault (counted sent count)

-- a failed write is noted by its writer, and nothing else is
abbrev pub IsNoted : Result (Unit {0}) End → Bool → Bool → Type 0
IsNoted (Ok done) old new = new ≡ old
IsNoted (Err (SendFault sent)) old new = new ≡ true
IsNoted (Err Closed) old new = new ≡ old
IsNoted (Err Protocol) old new = new ≡ old
IsNoted (Err ReadFault) old new = new ≡ old
IsNoted (Err Turns) old new = new ≡ old
IsNoted (Err Memory) old new = new ≡ old
IsNoted (Err Desk) old new = new ≡ old

-- the answer to a request is gathered; the replies before it may have gone to the writer, which got these bytes
pub record Gathers {S : Type 0} (Answers : S → Words → List ℕ → S → Type 0)
    (old : List ℕ) (sent : ℕ) (before : S) (words : Words) (gets new : List ℕ) (total : ℕ) (after : S) : Type 0 where
  pub left : List ℕ
  pub text : List ℕ
  pub moves : Moves old sent gets left total
  pub answers : Answers before words text after
  pub appended : new ≡ left ++ text

-- the session ends at a request: it was carried out, and memory is lacking for its reply; it was not carried out, since
-- the writer failed; or it is held
pub data Stops {S : Type 0} (Answers : S → Words → List ℕ → S → Type 0)
    (Holds : S → Words → S → Type 0) (gathered : List ℕ) (sent : ℕ) (before : S) (words : Words) (gets : List ℕ)
    (end : End) (after : S) : Type 0 where
  silent : (left : List ℕ) (total : ℕ) (text : List ℕ) → Moves gathered sent gets left total
      → Answers before words text after → end ≡ Memory → Stops Answers Holds gathered sent before words gets end after
  breaks : BreaksOff gathered sent gets end → after ≡ before
      → Stops Answers Holds gathered sent before words gets end after
  waits : (left : List ℕ) (total : ℕ) → Moves gathered sent gets left total → Holds before words after → end ≡ Desk
      → Stops Answers Holds gathered sent before words gets end after
