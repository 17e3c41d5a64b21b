-- Cited by private clauses alone: a session between two reads, and between two requests of one read.

use Rattle.std.specs.Prelude.{◌≡◌, ℕ, List, [], ◌++◌, length, min, false}
use Rattle.sr_resp.specs.{Words, Progress}
use Rattle.sr_resp.specs.Stream.{Stands}
use Rattle.sr_session.specs.Session.{AreAnswered}
use Rattle.sr_session.specs.declared.run.End.{End}
use Rattle.sr_session.specs.declared.run.End.TheVariants.{Closed, Protocol, ReadFault, SendFault, Turns, Memory, Desk}

-- an end that comes while a piece is answered
abbrev pub IsPieceEnd : End → Type 0
IsPieceEnd Closed = ⊥
IsPieceEnd Protocol = Unit {0}
IsPieceEnd ReadFault = ⊥
IsPieceEnd (SendFault sent) = Unit {0}
IsPieceEnd Turns = ⊥
IsPieceEnd Memory = Unit {0}
IsPieceEnd Desk = Unit {0}

module _ {S : Type 0} (Answers : S → Words → List ℕ → S → Type 0) where
  -- the requests handed out so far were carried out: the answers to the first of them were written, those to the others
  -- are gathered
  pub record IsAnswering (found : S) (taken written gathered : List ℕ) (sent : ℕ) (progress : Progress)
      (now : S) : Type 0 where
    pub told : List Words
    pub held : List Words
    pub between : S
    pub stands : Stands taken (told ++ held) progress
    pub answered : AreAnswered Answers found told written between
    pub kept : AreAnswered Answers between held gathered now
    pub count : sent ≡ min (length written) 0xffff_ffff_ffff_ffff

  -- every request of the bytes taken is answered, and what is left can become another one
  pub record GoesOn (found : S) (taken written : List ℕ) (sent : ℕ) (progress : Progress) (now : S) : Type 0 where
    pub requests : List Words
    pub stands : Stands taken requests progress
    pub answered : AreAnswered Answers found requests written now
    pub none_wait : progress.waiting ≡ []
    pub sound : progress.failed ≡ false
    pub count : sent ≡ min (length written) 0xffff_ffff_ffff_ffff
