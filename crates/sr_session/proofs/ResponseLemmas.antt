-- What answers requests is what they are told, and the replies among it are those that the records address to the session.
use Rattle.std.proofs.Common.{◌≡◌, ◌==◌, inl, inr, ℕ, zero, suc, max, Bool, List, [], ◌∷◌, ◌++◌, length, Option, Some, None, Ok, refl, ap, sym, subst, ◌∙◌}
use Rattle.std.specs.List.{flat_map}
use Rattle.sr_resp.specs.{Words}
use Rattle.sr_resp.specs.Reply.{ReplyParts}
use Rattle.sr_resp.specs.declared.code.ErrCode.TheVariants as errors
use Rattle.sr_args.specs.declared.call.Command.{Command}
use Rattle.sr_policy.specs.{SnapshotState}
use Rattle.sr_book.specs.{BookState}
use Rattle.sr_book.specs.declared.answer.Answer.{Answer}
use Rattle.sr_book.specs.declared.answer.Letter.{Letter}
use Rattle.sr_book.specs.declared.event.Event.{Event}
use Rattle.sr_book.specs.declared.event.Event.TheVariants as events
use Rattle.sr_session.specs.Answered.{Answers, GoesOnToRounds, Replies, at_once, breaks_off, code_of, first_event, in_rounds, is_full, later, refuses, replies, taken_as}
use Rattle.sr_session.specs.Desk.{AwaitsAt, IsRecorded, StepsAt}
use Rattle.sr_session.specs.Rounds.{BreaksIn, RepliesIn}
use Rattle.sr_session.specs.Session.{AreAnswered}
use Rattle.sr_session.specs.Responses.{AreRecordedResponses, Response, replies_in, text_of}
use Rattle.sr_session.specs.Responses as telling
use Rattle.sr_session.specs.declared.desk.DeskFault.{DeskFault}
use Rattle.sr_session.specs.declared.desk.DeskFault.TheVariants as faults
use Rattle.sr_session.specs.steps.Calling.{Adds}
use Rattle.sr_session.proofs.GrowthLemmas.{Adds-recorded, Adds-replied, Adds-same, Adds-snapped, Adds-stale, Adds-stepped, Adds-then}
use Rattle.sr_session.proofs.RoundLemmas.{StepsAt-refused}

-- ---- the rounds of a recovery

-- nothing is added at a desk that shows nothing
hidden-adds : (session : ℕ) (old new : Option BookState) → (old ≡ None) × (new ≡ None) → Adds session old [] new
hidden-adds session old new hidden = Adds-same session old new (hidden.1 ∙ sym hidden.0)

RepliesIn-adds : (may_tell : ℕ → Bool) (session : ℕ) (apply : Bool) (rounds : ℕ) (shown : SnapshotState) (old : Option BookState) (reply : ReplyParts) (new : Option BookState)
    → RepliesIn may_tell session apply rounds shown old reply new → Adds session old (reply ∷ []) new
RepliesIn-adds may_tell session apply zero shown old reply new comes = absurd comes
RepliesIn-adds may_tell session apply (suc rounds) shown old reply new (inl round) =
    Adds-replied session round.told (events.Conclude session round.judged apply (rounds == 0)) round.answer refl old new reply round.step round.comes
RepliesIn-adds may_tell session apply (suc rounds) shown old reply new (inr stale) =
    let round = stale.round in
    let event : Event = events.Conclude session round.judged apply (rounds == 0) in
    Adds-then session old [] stale.middle (reply ∷ []) new
    (Adds-stale session round.told event round.answer refl old stale.middle stale.fresh round.step round.comes)
    (RepliesIn-adds may_tell session apply rounds stale.fresh stale.middle reply new stale.others)

BreaksIn-adds : (may_tell : ℕ → Bool) (session : ℕ) (apply : Bool) (rounds : ℕ) (shown : SnapshotState) (old : Option BookState) (fault : DeskFault) (new : Option BookState)
    → BreaksIn may_tell session apply rounds shown old fault new → Adds session old [] new
BreaksIn-adds may_tell session apply zero shown old fault new hidden = hidden-adds session old new hidden
BreaksIn-adds may_tell session apply (suc rounds) shown old fault new (inl hidden) = hidden-adds session old new hidden
BreaksIn-adds may_tell session apply (suc rounds) shown old fault new (inr (inl lacks)) = Adds-same session old new lacks.1
BreaksIn-adds may_tell session apply (suc rounds) shown old fault new (inr (inr (inl refused))) =
    Adds-same session old new (StepsAt-refused old refused.told (events.Conclude session refused.judged apply (rounds == 0)) fault new refused.step)
BreaksIn-adds may_tell session apply (suc rounds) shown old fault new (inr (inr (inr stale))) =
    let round = stale.round in
    let event : Event = events.Conclude session round.judged apply (rounds == 0) in
    Adds-then session old [] stale.middle [] new
    (Adds-stale session round.told event round.answer refl old stale.middle stale.fresh round.step round.comes)
    (BreaksIn-adds may_tell session apply rounds stale.fresh stale.middle fault new stale.others)

-- ---- one request

-- an event adds what is recorded of it
step-adds : (session told : ℕ) (event : Event) (answer : Answer) (old new : Option BookState) (reply : ReplyParts) → StepsAt old told event (Ok answer) new
    → IsRecorded session old reply new → Adds session old (reply ∷ []) new
step-adds session told event answer None new reply step recorded = step
step-adds session told event answer (Some old) None reply step recorded = absurd step
step-adds session told event answer (Some old) (Some new) reply step recorded = Adds-stepped session old told event answer new (reply ∷ []) step recorded

-- a letter adds nothing
letter-same : (session told : ℕ) (event : Event) (answer : Answer) (old middle new : Option BookState) (letter : Letter) → StepsAt old told event (Ok answer) middle
    → AwaitsAt middle session (Ok letter) new → new ≡ middle
letter-same session told event answer old None new letter step given = given
letter-same session told event answer old (Some middle) new letter step given = given.1

module _ (may_tell : ℕ → Bool) (session : ℕ) (asked : Command) (old : Option BookState) (new : Option BookState) where
  Replies-adds : (reply : ReplyParts) → Replies may_tell session asked old reply new → Adds session old (reply ∷ []) new
  Replies-adds reply (at_once told answer by_clock step out recorded) = step-adds session told (first_event session asked) answer old new reply step recorded
  Replies-adds reply (later told answer middle letter by_clock step out given same recorded) =
      let event : Event = first_event session asked in
      let stays : new ≡ middle = letter-same session told event answer old middle new letter step given in
      step-adds session told event answer old new reply (subst (StepsAt old told event (Ok answer)) (sym stays) step) recorded
  Replies-adds reply (in_rounds goes recorded) =
      let event : Event = events.Snapshot session goes.key goes.group goes.dead in
      Adds-then session old [] goes.middle (reply ∷ []) new
      (Adds-snapped session goes.told event goes.answer refl old goes.middle goes.shown goes.step goes.out)
      (RepliesIn-adds may_tell session goes.apply (max goes.tries 1) goes.shown goes.middle reply new goes.rounds)

  breaks-adds : (fault : DeskFault)
      → GoesOnToRounds may_tell session asked old (λ apply tries shown middle. BreaksIn may_tell session apply tries shown middle fault new) → Adds session old [] new
  breaks-adds fault goes =
      let event : Event = events.Snapshot session goes.key goes.group goes.dead in
      Adds-then session old [] goes.middle [] new
      (Adds-snapped session goes.told event goes.answer refl old goes.middle goes.shown goes.step goes.out)
      (BreaksIn-adds may_tell session goes.apply (max goes.tries 1) goes.shown goes.middle fault new goes.rounds)

-- what a request is told, and that what of it is a reply is added
record IsTold (session : ℕ) (old : Option BookState) (text : List ℕ) (new : Option BookState) : Type 0 where
  pub one : Response
  pub spelled : text ≡ text_of one
  pub adds : Adds session old (replies_in (one ∷ [])) new

module _ (may_tell : ℕ → Bool) (blocking : Bool) (session : ℕ) where
  answers-told : (old : Option BookState) (words : Words) (text : List ℕ) (new : Option BookState) → Answers may_tell blocking session old words text new
      → IsTold session old text new
  answers-told old words text new (refuses fault refused is same) =
      record { one = telling.error (code_of fault); spelled = is; adds = Adds-same session old new same }
  answers-told old words text new (is_full asked told is_asked by_clock step is) =
      let same = StepsAt-refused old told (first_event session (taken_as blocking asked)) faults.Full new step in
      record { one = telling.error errors.Full; spelled = is; adds = Adds-same session old new same }
  answers-told old words text new (replies asked reply is_asked comes is) =
      record { one = telling.reply reply; spelled = is; adds = Replies-adds may_tell session (taken_as blocking asked) old new reply comes }
  answers-told old words text new (breaks_off asked fault code is_asked goes none told is) =
      record { one = telling.error code; spelled = is; adds = breaks-adds may_tell session (taken_as blocking asked) old new fault goes }

-- ---- requests one after another

replies_in-first : (one : Response) (others : List Response) → replies_in (one ∷ []) ++ replies_in others ≡ replies_in (one ∷ others)
replies_in-first (telling.reply parts) others = refl
replies_in-first (telling.error code) others = refl

-- the same at any desk
record AreToldAt (session : ℕ) (old : Option BookState) (requests : List Words) (text : List ℕ) (new : Option BookState) : Type 0 where
  pub told : List Response
  pub each : length told ≡ length requests
  pub spelled : text ≡ flat_map text_of told
  pub adds : Adds session old (replies_in told) new

all-told : (may_tell : ℕ → Bool) (blocking : Bool) (session : ℕ) (old : Option BookState) (requests : List Words) (text : List ℕ) (new : Option BookState)
    → AreAnswered (Answers may_tell blocking session) old requests text new → AreToldAt session old requests text new
all-told may_tell blocking session old [] text new answered =
    record { told = []; each = refl; spelled = answered.0; adds = Adds-same session old new answered.1 }
all-told may_tell blocking session old (words ∷ requests) text new (first, others, middle, answers, rest, is) =
    let here = answers-told may_tell blocking session old words first middle answers in
    let then = all-told may_tell blocking session middle requests others new rest in
    let P : List ReplyParts → Type 0 = λ l. Adds session old l new in
    record {
      told = here.one ∷ then.told;
      each = ap suc then.each;
      spelled = is ∙ ap (λ (l : List ℕ). l ++ others) here.spelled ∙ ap (λ (l : List ℕ). text_of here.one ++ l) then.spelled;
      adds = subst P (replies_in-first here.one then.told)
          (Adds-then session old (replies_in (here.one ∷ [])) middle (replies_in then.told) new here.adds then.adds);
    }

-- at a desk that shows its book, what of it is a reply is what the records that were added address to the session
pub answered-told : (may_tell : ℕ → Bool) (blocking : Bool) (session : ℕ) (old new : BookState) (requests : List Words) (text : List ℕ)
    → AreAnswered (Answers may_tell blocking session) (Some old) requests text (Some new) → AreRecordedResponses session old requests text new
answered-told may_tell blocking session old new requests text answered =
    let all = all-told may_tell blocking session (Some old) requests text (Some new) answered in
    record {
      told = all.told;
      each = all.each;
      spelled = all.spelled;
      recorded = Adds-recorded session (Some old) (replies_in all.told) (Some new) all.adds;
    }
