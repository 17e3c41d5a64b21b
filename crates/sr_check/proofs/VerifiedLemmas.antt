-- What a plan and a shortage that were read are worth.
use Rattle.std.proofs.Common.{◌≡◌, ℕ, ◌^◌, ◌<◌, Bool, List, ◌++◌, codes, length, sym, ap, ◌∙◌, subst}
use Rattle.sr_transport.specs.Certificate.{IsShortage, places_of}
use Rattle.sr_transport.specs.{Tiered}
use Rattle.sr_transport.specs.Solved.{IsBest}
use Rattle.sr_policy.specs.{problem_of, SnapshotState, AreInOrder}
use Rattle.sr_policy.specs.Snapshot.{ComesBefore}
use Rattle.sr_resp.specs.{array_header, bulk_string}
use Rattle.sr_check.specs.PlanReply.{plan_word}
use Rattle.sr_check.specs.Verified.{IsVerified}
use Rattle.sr_check.specs.declared.verified.Reason.{Reason}
use Rattle.sr_check.specs.declared.verified.Verified.TheVariants as says
use Rattle.sr_check.specs.steps.Read.{Begins, IsPlanText, IsShortageText}
use Rattle.sr_check.proofs.PlanLemmas.{one_plan, plan-claimed, plan-spelled}
use Rattle.sr_check.proofs.ShortageLemmas.{shortage-claimed, shortage-spelled}

-- no plan was read
pub plan-unread : (shown : SnapshotState) (reply text : List ℕ) (done : Bool) (reason : Reason)
    → Begins reply (array_header 5 ++ bulk_string (plan_word done)) text → length text < 2 ^ 64
    → ((assign prices : List ℕ) (total : ℕ) → IsPlanText shown text assign prices total → ⊥)
    → IsVerified shown reply (says.Wrong reason)
plan-unread shown reply text done reason word small none answer applied shows e =
    let claimed = plan-claimed shown reply text done answer applied word small shows e in
    none claimed.assign claimed.prices claimed.total claimed.read

-- the plan that was read does not show itself right
pub plan-unshown : (shown : SnapshotState) (p : Tiered) (reply text read costs : List ℕ) (n : ℕ) (done : Bool) (reason : Reason)
    → p ≡ problem_of shown → AreInOrder (λ a b. ComesBefore a.name b.name) shown.live
    → Begins reply (array_header 5 ++ bulk_string (plan_word done)) text → length text < 2 ^ 64
    → IsPlanText shown text read costs n → (IsBest p read costs n → ⊥) → IsVerified shown reply (says.Wrong reason)
plan-unshown shown p reply text read costs n done reason posed ordered word small plan none answer applied shows e =
    let claimed = plan-claimed shown reply text done answer applied word small shows e in
    let same = one_plan shown ordered text read costs claimed.assign claimed.prices n claimed.total plan claimed.read in
    let first = subst (λ q. IsBest q claimed.assign claimed.prices claimed.total) (sym posed) claimed.shows in
    let second = subst (λ xs. IsBest p xs claimed.prices claimed.total) (sym same.0) first in
    let third = subst (λ xs. IsBest p read xs claimed.total) (sym same.1) second in
    none (subst (λ m. IsBest p read costs m) (sym same.2) third)

-- and it does
pub plan-shown : (shown : SnapshotState) (p : Tiered) (reply text read costs : List ℕ) (n : ℕ) (done : Bool)
    → p ≡ problem_of shown → Begins reply (array_header 5 ++ bulk_string (plan_word done)) text
    → IsPlanText shown text read costs n → IsBest p read costs n → IsVerified shown reply (says.Cheapest done n)
plan-shown shown p reply text read costs n done posed word plan shows = record {
  assign = read;
  prices = costs;
  shows = subst (λ q. IsBest q read costs n) posed shows;
  spelled = plan-spelled shown reply text read costs n done word plan;
}

-- no shortage was read
pub shortage-unread : (shown : SnapshotState) (p : Tiered) (reply text : List ℕ) (reason : Reason) → p ≡ problem_of shown
    → Begins reply (array_header 4 ++ bulk_string (codes "none")) text → length text < 2 ^ 64
    → ((set : List ℕ) → IsShortage p set → IsShortageText shown text set → ⊥)
    → IsVerified shown reply (says.Wrong reason)
shortage-unread shown p reply text reason posed word small none answer applied shows e =
    let claimed = shortage-claimed shown reply text answer applied word small shows e in
    none claimed.set (subst (λ q. IsShortage q claimed.set) (sym posed) claimed.shows) claimed.read

-- the set that was read has places enough
pub shortage-unshown : (shown : SnapshotState) (p : Tiered) (reply text read : List ℕ) (reason : Reason) → p ≡ problem_of shown
    → Begins reply (array_header 4 ++ bulk_string (codes "none")) text → length text < 2 ^ 64
    → ((set : List ℕ) → IsShortage p set → IsShortageText shown text set → read ≡ set) → (IsShortage p read → ⊥)
    → IsVerified shown reply (says.Wrong reason)
shortage-unshown shown p reply text read reason posed word small one none =
    shortage-unread shown p reply text reason posed word small
    (λ set shows is. none (subst (IsShortage p) (sym (one set shows is)) shows))

-- and it has not
pub shortage-shown : (shown : SnapshotState) (p : Tiered) (reply text read : List ℕ) (places : ℕ) → p ≡ problem_of shown
    → Begins reply (array_header 4 ++ bulk_string (codes "none")) text
    → IsShortageText shown text read → IsShortage p read → places ≡ places_of p read
    → IsVerified shown reply (says.Impossible places)
shortage-shown shown p reply text read places posed word is shows count = record {
  set = read;
  shows = subst (λ q. IsShortage q read) posed shows;
  spelled = shortage-spelled shown reply text read word is;
  count = count ∙ ap (λ (q : Tiered). places_of q read) posed;
}
