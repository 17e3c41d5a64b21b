-- A whole session: what was written for the bytes that were taken, and how it ended.
--
-- What answers a request is left open: it is any relation from a state and the words of a request to a text and the
-- next state. So is what holds a request: any relation from a state and the words of a request to the next state.
-- Source: RESP2 protocol specification, "Sending commands to a Redis server" and "Multiple commands and pipelining".

use Rattle.std.specs.Prelude.{◌≡◌, ◌≢◌, ℕ, ◌⊎◌, List, [], ◌∷◌, ◌++◌, length, min}
use Rattle.sr_resp.specs.{Words, error_reply, reply_text}
use Rattle.sr_resp.specs.Stream.{Splits, IsPartial, IsFault}
use Rattle.sr_resp.specs.declared.code.ErrCode.TheVariants as errors
use Rattle.sr_session.specs.declared.run.End.{End}
use Rattle.sr_session.specs.declared.run.End.TheVariants.{Closed, Protocol, ReadFault, SendFault, Turns, Memory, Desk}

-- the error that answers bytes that are not requests
abbrev pub protocol_text : List ℕ
protocol_text = reply_text (error_reply errors.Protocol)

module _ {S : Type 0} (Answers : S → Words → List ℕ → S → Type 0) where
  -- the text answers the requests, one after another
  abbrev pub AreAnswered : S → List Words → List ℕ → S → Type 0
  AreAnswered old [] text new = (text ≡ []) × (new ≡ old)
  AreAnswered old (words ∷ requests) text new =
      (first : List ℕ) × (others : List ℕ) × (middle : S) × Answers old words first middle
      × AreAnswered middle requests others new × (text ≡ first ++ others)

  -- every request of the bytes taken is answered, and what is left may become another one
  pub record IsAnswered (found : S) (taken written : List ℕ) (now : S) : Type 0 where
    pub requests : List Words
    pub rest : List ℕ
    pub stream : Splits taken requests rest
    pub partial : IsPartial rest
    pub answered : AreAnswered found requests written now

  -- every request before the fault of the bytes taken is answered, and then the fault is
  pub record IsBroken (found : S) (taken written : List ℕ) (now : S) : Type 0 where
    pub requests : List Words
    pub rest : List ℕ
    pub text : List ℕ
    pub stream : Splits taken requests rest
    pub fault : IsFault rest
    pub answered : AreAnswered found requests text now
    pub last : written ≡ text ++ protocol_text

  -- the first requests of the bytes taken are answered, and the next ones were not carried out
  pub record IsStopped (found : S) (taken written : List ℕ) (now : S) : Type 0 where
    pub requests : List Words
    pub passed_over : List Words
    pub rest : List ℕ
    pub stream : Splits taken (requests ++ passed_over) rest
    pub answered : AreAnswered found requests written now

  -- the requests were carried out, and their answers were not sent
  pub record AreUnsent (before : S) (requests : List Words) (after : S) : Type 0 where
    pub unsent : List ℕ
    pub carried_out : AreAnswered before requests unsent after

  -- the first requests of the bytes taken are answered; the next ones were carried out, but their answers were not
  -- sent; and those after them were not carried out
  pub record IsCutOff (found : S) (taken written : List ℕ) (now : S) : Type 0 where
    pub requests : List Words
    pub silent : List Words
    pub passed_over : List Words
    pub rest : List ℕ
    pub between : S
    pub stream : Splits taken ((requests ++ silent) ++ passed_over) rest
    pub answered : AreAnswered found requests written between
    pub afterwards : AreUnsent between silent now

  -- the writer failed: it got some of the answers to the bytes taken, but not all, and this many bytes
  pub record IsFront (found : S) (taken written : List ℕ) (now : S) (sent : ℕ) : Type 0 where
    pub lacking : List ℕ
    pub some_lack : lacking ≢ []
    pub whole : IsStopped found taken (written ++ lacking) now ⊎ IsBroken found taken (written ++ lacking) now
    pub count : sent ≡ min (length written) 0xffff_ffff_ffff_ffff

module _ {S : Type 0} (Answers : S → Words → List ℕ → S → Type 0) (Holds : S → Words → S → Type 0) where
  -- the first requests of the bytes taken are answered; the next ones were carried out, but their answers were not
  -- sent; the one after them is held; and those after it were not carried out
  pub record IsHeld (found : S) (taken written : List ℕ) (now : S) : Type 0 where
    pub requests : List Words
    pub silent : List Words
    pub words : Words
    pub passed_over : List Words
    pub rest : List ℕ
    pub between : S
    pub behind : S
    pub stream : Splits taken (((requests ++ silent) ++ words ∷ []) ++ passed_over) rest
    pub answered : AreAnswered Answers found requests written between
    pub afterwards : AreUnsent Answers between silent behind
    pub held : Holds behind words now

  -- what is known at each end of a session
  abbrev pub EndsAs : S → List ℕ → List ℕ → S → End → Type 0
  EndsAs found taken written now Closed = IsAnswered Answers found taken written now
  EndsAs found taken written now Protocol = IsBroken Answers found taken written now
  EndsAs found taken written now ReadFault = IsAnswered Answers found taken written now
  EndsAs found taken written now (SendFault sent) = IsFront Answers found taken written now sent
  EndsAs found taken written now Turns = IsAnswered Answers found taken written now
  EndsAs found taken written now Memory = IsCutOff Answers found taken written now
  EndsAs found taken written now Desk = IsHeld found taken written now
