-- Records only grow: what an event at a desk adds for the session that it is of, and what two of them add together.
use Rattle.std.proofs.Common.{◌≡◌, ℕ, List, [], ◌∷◌, ◌++◌, length, drop, Option, Some, None, Result, Ok, Err, IfOk, IfErr, refl, sym, ap, subst, ◌∙◌, append_assoc}
use Rattle.std.proofs.Math.Seq.{drop-append_seam}
use Rattle.std.proofs.lemmas.List.{append-nil}
use Rattle.sr_resp.specs.Reply.{ReplyParts}
use Rattle.sr_policy.specs.{SnapshotState}
use Rattle.sr_book.specs.{BookState, IsStepped, Recorded}
use Rattle.sr_book.specs.Records.{addressed, event_record, to_session}
use Rattle.sr_book.specs.declared.answer.Answer.{Answer}
use Rattle.sr_book.specs.declared.event.Event.{Event}
use Rattle.sr_book.specs.declared.event.Out.TheVariants as outs
use Rattle.sr_book.proofs.HeardLemmas.{Asks}
use Rattle.sr_book.proofs.SessionLaws.{asked-addressed, snapped-silent, stale-silent}
use Rattle.sr_session.specs.Desk.{AreRecorded, StepsAt}
use Rattle.sr_session.specs.steps.Calling.{Adds}

-- what records address, one after another
addressed-append : (session : ℕ) (first second : List Recorded) → addressed session (first ++ second) ≡ addressed session first ++ addressed session second
addressed-append session [] second = refl
addressed-append session (x ∷ first) second =
    ap (λ (l : List ReplyParts). to_session session x.replies ++ l) (addressed-append session first second)
    ∙ sym (append_assoc (to_session session x.replies) (addressed session first) (addressed session second))

-- what is added first, and what is added then
pub Adds-then : (session : ℕ) (old : Option BookState) (first : List ReplyParts) (middle : Option BookState) (second : List ReplyParts) (new : Option BookState)
    → Adds session old first middle → Adds session middle second new → Adds session old (first ++ second) new
Adds-then session None first middle second new one two = subst (λ (m : Option BookState). Adds session m second new) one two
Adds-then session (Some old) first None second new one two = absurd one
Adds-then session (Some old) first (Some middle) second None one two = absurd two
Adds-then session (Some old) first (Some middle) second (Some new) one two = (
  one.0 ++ two.0,
  two.1 ∙ ap (λ (l : List Recorded). l ++ two.0) one.1 ∙ append_assoc old.records one.0 two.0,
  addressed-append session one.0 two.0 ∙ ap (λ (l : List ReplyParts). l ++ addressed session two.0) one.2 ∙ ap (λ (l : List ReplyParts). first ++ l) two.2,
)

-- it is what is recorded
pub Adds-recorded : (session : ℕ) (old : Option BookState) (replies : List ReplyParts) (new : Option BookState) → Adds session old replies new → AreRecorded session old replies new
Adds-recorded session None replies new adds = tt
Adds-recorded session (Some old) replies None adds = absurd adds
Adds-recorded session (Some old) replies (Some new) adds =
    ap (addressed session) (ap (drop (length old.records)) adds.1 ∙ drop-append_seam old.records adds.0) ∙ adds.2

-- nothing is added
pub Adds-same : (session : ℕ) (old new : Option BookState) → new ≡ old → Adds session old [] new
Adds-same session None new same = same
Adds-same session (Some old) new same =
    let none : Adds session (Some old) [] (Some old) = ([], sym (append-nil old.records), refl) in
    subst (Adds session (Some old) []) (sym same) none

-- an accepted event adds its record, and those of the servings
pub Adds-stepped : (session : ℕ) (old : BookState) (told : ℕ) (event : Event) (answer : Answer) (new : BookState) (replies : List ReplyParts) → IsStepped old told event answer new
    → addressed session (drop (length old.records) new.records) ≡ replies → Adds session (Some old) replies (Some new)
Adds-stepped session old told event answer new replies stepped is =
    let own : Recorded = event_record old told event in
    let added : drop (length old.records) new.records ≡ own ∷ stepped.servings =
    ap (drop (length old.records)) stepped.grown ∙ drop-append_seam old.records (own ∷ stepped.servings) in
    (own ∷ stepped.servings, stepped.grown, sym (ap (addressed session) added) ∙ is)

module _ (session told : ℕ) (event : Event) (answer : Answer) (asks : Asks session event) where
  -- a reply
  pub Adds-replied : (old new : Option BookState) (reply : ReplyParts) → StepsAt old told event (Ok answer) new → answer.out ≡ outs.Reply reply → Adds session old (reply ∷ []) new
  Adds-replied None new reply step out = step
  Adds-replied (Some old) None reply step out = absurd step
  Adds-replied (Some old) (Some new) reply step out =
      Adds-stepped session old told event answer new (reply ∷ []) step (asked-addressed old told session event answer new reply asks step out)

  -- with a snapshot there is none
  pub Adds-snapped : (old new : Option BookState) (shown : SnapshotState) → StepsAt old told event (Ok answer) new → answer.out ≡ outs.Snap shown → Adds session old [] new
  Adds-snapped None new shown step out = step
  Adds-snapped (Some old) None shown step out = absurd step
  Adds-snapped (Some old) (Some new) shown step out =
      Adds-stepped session old told event answer new [] step (snapped-silent old told session event answer new shown asks step out)

  pub Adds-stale : (old new : Option BookState) (shown : SnapshotState) → StepsAt old told event (Ok answer) new → answer.out ≡ outs.Stale shown → Adds session old [] new
  Adds-stale None new shown step out = step
  Adds-stale (Some old) None shown step out = absurd step
  Adds-stale (Some old) (Some new) shown step out =
      Adds-stepped session old told event answer new [] step (stale-silent old told session event answer new shown asks step out)

-- ---- two facts of one result

pub if_ok_both : {A E : Type 0} (P Q : A → Type 0) (result : Result A E) → IfOk result P → IfOk result Q → IfOk result (λ a. P a × Q a)
if_ok_both P Q (Ok a) one two = (one, two)
if_ok_both P Q (Err e) one two = tt

pub if_err_both : {A E : Type 0} (P Q : E → Type 0) (result : Result A E) → IfErr result P → IfErr result Q → IfErr result (λ e. P e × Q e)
if_err_both P Q (Ok a) one two = tt
if_err_both P Q (Err e) one two = (one, two)
