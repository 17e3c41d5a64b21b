-- What a checker says of the text of a reply to RECOVER.PLAN or RECOVER.RUN, for a snapshot.
-- Source: docs/RECOVERY.md.

use Rattle.std.specs.Prelude.{◌≡◌, ◌≢◌, ℕ, List, Bool, false}
use Rattle.sr_policy.specs.{problem_of, SnapshotState}
use Rattle.sr_resp.specs.{reply_text}
use Rattle.sr_transport.specs.Certificate.{IsShortage, places_of}
use Rattle.sr_transport.specs.Solved.{IsBest}
use Rattle.sr_check.specs.PlanAnswer.{PlanAnswer, IsShown, best, short}
use Rattle.sr_check.specs.PlanReply.{verdict_answer}
use Rattle.sr_check.specs.declared.verified.Verified.{Verified}
use Rattle.sr_check.specs.declared.verified.Verified.TheVariants as says

-- the text replies a plan with prices that show it to be cheapest, at this total
pub record IsCheapestReply (shown : SnapshotState) (text : List ℕ) (done : Bool) (total : ℕ) : Type 0 where
  pub assign : List ℕ
  pub prices : List ℕ
  pub shows : IsBest (problem_of shown) assign prices total
  pub spelled : text ≡ reply_text (verdict_answer shown (best assign prices total) done)

-- the text replies a shortage: these are all the places that its entries have
pub record IsShortageReply (shown : SnapshotState) (text : List ℕ) (places : ℕ) : Type 0 where
  pub set : List ℕ
  pub shows : IsShortage (problem_of shown) set
  pub spelled : text ≡ reply_text (verdict_answer shown (short set) false)
  pub count : places ≡ places_of (problem_of shown) set

-- what is said is so; and what is called wrong is the reply of no answer that shows itself right
abbrev pub IsVerified : SnapshotState → List ℕ → Verified → Type 0
IsVerified shown text (says.Cheapest done total) = IsCheapestReply shown text done total
IsVerified shown text (says.Impossible places) = IsShortageReply shown text places
IsVerified shown text (says.Wrong reason) =
    (answer : PlanAnswer) (done : Bool) → IsShown (problem_of shown) answer
    → text ≢ reply_text (verdict_answer shown answer done)
