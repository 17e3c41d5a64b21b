-- What an event at a desk leaves of the session that it is of, and what a call comes to that has no reply.
use Rattle.std.proofs.Common.{◌≡◌, ◌≤◌, ℕ, zero, suc, max, not-suc-le-zero, ◌⊎◌, inl, inr, List, Bool, true, false, cond, not, true≢false, IsTrue, Option, Some, None, IsSome, Result, Ok, Err, IfOk, IfErr, OnOk, refl, sym, subst, ◌∙◌}
use Rattle.std.proofs.Math.Nat.{le-max_right}
use Rattle.std.specs.Option.{option_map}
use Rattle.sr_resp.specs.{Words}
use Rattle.sr_resp.specs.Reply.{ReplyParts, error_reply, reply_text}
use Rattle.sr_resp.specs.declared.code.ErrCode.TheVariants as errors
use Rattle.sr_args.specs.{IsCommand}
use Rattle.sr_args.specs.declared.call.Call.{Call}
use Rattle.sr_args.specs.declared.call.Command.{Command}
use Rattle.sr_args.specs.declared.call.Command.TheVariants as commands
use Rattle.sr_args.specs.declared.fault.CallFault.TheVariants as call_faults
use Rattle.sr_policy.specs.{SnapshotState}
use Rattle.sr_space.specs.{executed}
use Rattle.sr_space.specs.Keys.{Keys}
use Rattle.sr_space.specs.declared.blocking.Outcome.{Outcome}
use Rattle.sr_space.specs.declared.blocking.Outcome.TheVariants as outcomes
use Rattle.sr_waiters.specs.{has_session}
use Rattle.sr_book.specs.{Given, is_open, letter_of, BookState, IsHistory, IsStepped, letter_for, next_index}
use Rattle.sr_book.specs.{next_moment}
use Rattle.sr_book.specs.Server.{Server, called}
use Rattle.sr_book.specs.Records.{Steps, status_by, status_of}
use Rattle.sr_book.specs.declared.answer.Answer.{Answer}
use Rattle.sr_book.specs.declared.answer.Letter.{Letter}
use Rattle.sr_book.specs.declared.answer.Status.{Status}
use Rattle.sr_book.specs.declared.answer.Status.TheVariants as statuses
use Rattle.sr_book.specs.declared.event.BookFault.{BookFault}
use Rattle.sr_book.specs.declared.event.BookFault.TheVariants as book
use Rattle.sr_book.specs.declared.event.Event.{Event}
use Rattle.sr_book.specs.declared.event.Event.TheVariants as events
use Rattle.sr_book.specs.declared.event.Out.{Out}
use Rattle.sr_book.specs.declared.event.Out.TheVariants as outs
use Rattle.sr_book.proofs.BaseLemmas.{history-below}
use Rattle.sr_book.proofs.SessionLaws.{board-replies, called-addressed, called-idle, history-open, joined-idle, snapshot-answers, steps-not-idle, unblocked-replies}
use Rattle.sr_session.specs.Answered.{Answers, GoesOnToRounds, Holds, Replies, at_once, breaks_off, first_event, hidden, is_full, later, refuses, replies, taken_as, waits}
use Rattle.sr_session.specs.Desk.{AwaitsAt, IsIdle, IsRecorded, StepsAt, StepsTo}
use Rattle.sr_session.specs.Rounds.{BreaksIn}
use Rattle.sr_session.specs.Unanswered.{IsUnanswered}
use Rattle.sr_session.specs.Unanswered as unanswered
use Rattle.sr_session.specs.declared.desk.DeskFault.{DeskFault}
use Rattle.sr_session.specs.declared.desk.DeskFault.TheVariants as faults
use Rattle.sr_session.specs.declared.run.End.{End}
use Rattle.sr_session.specs.declared.run.End.TheVariants as ends
use Rattle.sr_session.specs.steps.Calling.{Fails, Loses, fault_of, made_of}
use Rattle.sr_session.specs.steps.Calling as calling
use Rattle.sr_session.proofs.LetterLemmas.{closed-no_letter, history-none, lettered-idle, stepped-none}
use Rattle.sr_session.proofs.LetterLaws.{lettered-recorded}
use Rattle.sr_session.proofs.RoundLemmas.{BreaksIn-hidden, BreaksIn-idle, IsOutside, StepsAt-refused, asked-leaves_idle, refused-hidden, stray-hidden, was_hidden}

-- ---- a book as a desk shows it

-- a refusal of the book is one of the desk
pub StepsTo-fault : (old : BookState) (told : ℕ) (event : Event) (fault : BookFault) (new : BookState) → Steps old told event (Err fault) new
    → StepsTo old told event (Err (fault_of fault)) new
StepsTo-fault old told event book.Memory new step = step
StepsTo-fault old told event book.Busy new step = step
StepsTo-fault old told event book.Full new step = step
StepsTo-fault old told event book.NoSession new step = step

-- a session that joins may call
pub joins-idle : (old : BookState) (told : ℕ) (event : Event) (answer : Answer) (new : BookState) (session : ℕ) → IsHistory old → event ≡ events.Join
    → IsStepped old told event answer new → answer.out ≡ outs.Joined session → IsIdle session (Some new)
joins-idle old told event answer new session history joins step out =
    let stepped = subst (λ (e : Event). IsStepped old told e answer new) joins step in
    let one = joined-idle old told answer new stepped (history-below old history) (history-open old history) in
    let two : outs.Joined (next_index old) ≡ outs.Joined session = sym one.0 ∙ out in
    let same : next_index old ≡ session = cc in
    let P : ℕ → Type 0 = λ n. IsIdle n (Some new) in
    subst P same one.1

-- a session that does not stand as having a letter has none
none-by : (opened blocked : Bool) (given : Option Given) (status : Status) → status ≡ cond (not opened) statuses.Closed (cond blocked statuses.Waiting (status_by given))
    → (opened ≡ false → given ≡ None) → (blocked ≡ true → given ≡ None) → (status ≡ statuses.Letter → ⊥) → given ≡ None
none-by false blocked given status is closed waiting other = closed refl
none-by true true given status is closed waiting other = waiting refl
none-by true false None status is closed waiting other = refl
none-by true false (Some given) status is closed waiting other = absurd (other is)

pub status-none : (session : ℕ) (book : BookState) (status : Status) → IsHistory book → status ≡ status_of session book.server → (status ≡ statuses.Letter → ⊥)
    → letter_for session book.server ≡ None
status-none session book status history is other =
    let none : letter_of session book.server.sessions ≡ None =
    none-by (is_open session book.server.sessions) (has_session session book.server.waiting) (letter_of session book.server.sessions) status is
    (closed-no_letter session book.server.sessions) (history-none session book history) other in
    rw none refl

pub status-other : (status : Status) → (status ≡ statuses.Closed) ⊎ ((status ≡ statuses.Idle) ⊎ (status ≡ statuses.Waiting)) → status ≡ statuses.Letter → ⊥
status-other status (inl closed) is = cc
status-other status (inr (inl idle)) is = cc
status-other status (inr (inr waiting)) is = cc

-- and one that does has one
some-by : (session : ℕ) (opened blocked : Bool) (given : Option Given) → statuses.Letter ≡ cond (not opened) statuses.Closed (cond blocked statuses.Waiting (status_by given))
    → IsSome {T = Letter} (option_map (λ (g : Given). record { index = g.index; session = session; reply = g.reply }) given)
some-by session false blocked given is = absurd (cc)
some-by session true true given is = absurd (cc)
some-by session true false None is = absurd (cc)
some-by session true false (Some given) is = refl

pub status-some : (session : ℕ) (server : Server) → statuses.Letter ≡ status_of session server → IsSome (letter_for session server)
status-some session server is =
    some-by session (is_open session server.sessions) (has_session session server.waiting) (letter_of session server.sessions) is

-- ---- an event at a desk

module _ (session told : ℕ) (call : Call) (answer : Answer) where
  -- a call that is answered at once is recorded, and its session is idle
  pub replied-idle : (old new : Option BookState) (reply : ReplyParts) → StepsAt old told (events.Call session call) (Ok answer) new → answer.out ≡ outs.Reply reply → IsIdle session new
  replied-idle None new reply step out = subst (IsIdle session) (sym step) tt
  replied-idle (Some old) None reply step out = absurd step
  replied-idle (Some old) (Some new) reply step out = called-idle old told session call answer new reply step out

  pub replied-recorded : (old new : Option BookState) (reply : ReplyParts) → StepsAt old told (events.Call session call) (Ok answer) new → answer.out ≡ outs.Reply reply → IsRecorded session old reply new
  replied-recorded None new reply step out = tt
  replied-recorded (Some old) None reply step out = absurd step
  replied-recorded (Some old) (Some new) reply step out = called-addressed old told session call answer new reply step out

  -- a call that waited and was given a letter leaves its session idle
  pub lettered : (old middle new : Option BookState) (letter : Letter) → StepsAt old told (events.Call session call) (Ok answer) middle → AwaitsAt middle session (Ok letter) new → IsIdle session new
  lettered None None new letter step given = subst (IsIdle session) (sym given) tt
  lettered None (Some middle) new letter step given = absurd (cc)
  lettered (Some old) None new letter step given = absurd step
  lettered (Some old) (Some middle) new letter step given =
      subst (IsIdle session) (sym given.1) (lettered-idle session letter middle.server (stepped-none session old told call answer middle step) given.0)

-- a call is answered, or it waits
abbrev pub IsCallOut : Out → Type 0
IsCallOut (outs.Joined number) = ⊥
IsCallOut (outs.Reply reply) = Unit {0}
IsCallOut outs.Blocked = Unit {0}
IsCallOut (outs.Snap shown) = ⊥
IsCallOut (outs.Stale shown) = ⊥
IsCallOut (outs.Expired count) = ⊥
IsCallOut outs.Left = ⊥

called-out : (session moment : ℕ) (server : Server) (keys : Keys) (outcome : Outcome) → IsCallOut (called session moment server keys outcome).out
called-out session moment server keys (outcomes.Reply send keep) = tt
called-out session moment server keys (outcomes.Blocked call deadline) = tt

-- a board is answered
abbrev pub IsBoardOut : Out → Type 0
IsBoardOut (outs.Joined number) = ⊥
IsBoardOut (outs.Reply reply) = Unit {0}
IsBoardOut outs.Blocked = ⊥
IsBoardOut (outs.Snap shown) = ⊥
IsBoardOut (outs.Stale shown) = ⊥
IsBoardOut (outs.Expired count) = ⊥
IsBoardOut outs.Left = ⊥

-- a recovery is answered, or goes on
abbrev pub IsRecoverOut : Out → Type 0
IsRecoverOut (outs.Joined number) = ⊥
IsRecoverOut (outs.Reply reply) = Unit {0}
IsRecoverOut outs.Blocked = ⊥
IsRecoverOut (outs.Snap shown) = Unit {0}
IsRecoverOut (outs.Stale shown) = ⊥
IsRecoverOut (outs.Expired count) = ⊥
IsRecoverOut outs.Left = ⊥

-- the other answers are none
pub stray-call : (out : Out)
    → ((number : ℕ) × (out ≡ outs.Joined number)) ⊎ (((shown : SnapshotState) × (out ≡ outs.Snap shown)) ⊎ (((shown : SnapshotState) × (out ≡ outs.Stale shown)) ⊎ (((count : ℕ) × (out ≡ outs.Expired count)) ⊎ (out ≡ outs.Left))))
    → IsCallOut out → ⊥
stray-call out (inl joined) comes = subst IsCallOut joined.1 comes
stray-call out (inr (inl snap)) comes = subst IsCallOut snap.1 comes
stray-call out (inr (inr (inl stale))) comes = subst IsCallOut stale.1 comes
stray-call out (inr (inr (inr (inl expired)))) comes = subst IsCallOut expired.1 comes
stray-call out (inr (inr (inr (inr left)))) comes = subst IsCallOut left comes

pub stray-board : (out : Out)
    → ((number : ℕ) × (out ≡ outs.Joined number)) ⊎ ((out ≡ outs.Blocked) ⊎ (((shown : SnapshotState) × (out ≡ outs.Snap shown)) ⊎ (((shown : SnapshotState) × (out ≡ outs.Stale shown)) ⊎ (((count : ℕ) × (out ≡ outs.Expired count)) ⊎ (out ≡ outs.Left)))))
    → IsBoardOut out → ⊥
stray-board out (inl joined) comes = subst IsBoardOut joined.1 comes
stray-board out (inr (inl blocked)) comes = subst IsBoardOut blocked comes
stray-board out (inr (inr (inl snap))) comes = subst IsBoardOut snap.1 comes
stray-board out (inr (inr (inr (inl stale)))) comes = subst IsBoardOut stale.1 comes
stray-board out (inr (inr (inr (inr (inl expired))))) comes = subst IsBoardOut expired.1 comes
stray-board out (inr (inr (inr (inr (inr left))))) comes = subst IsBoardOut left comes

pub stray-recovery : (out : Out)
    → ((number : ℕ) × (out ≡ outs.Joined number)) ⊎ ((out ≡ outs.Blocked) ⊎ (((shown : SnapshotState) × (out ≡ outs.Stale shown)) ⊎ (((count : ℕ) × (out ≡ outs.Expired count)) ⊎ (out ≡ outs.Left))))
    → IsRecoverOut out → ⊥
stray-recovery out (inl joined) comes = subst IsRecoverOut joined.1 comes
stray-recovery out (inr (inl blocked)) comes = subst IsRecoverOut blocked comes
stray-recovery out (inr (inr (inl stale))) comes = subst IsRecoverOut stale.1 comes
stray-recovery out (inr (inr (inr (inl expired)))) comes = subst IsRecoverOut expired.1 comes
stray-recovery out (inr (inr (inr (inr left)))) comes = subst IsRecoverOut left comes

-- what a book answers to the event with which a command begins
abbrev pub ComesOf : Command → Out → Type 0
ComesOf (commands.Call call) out = IsCallOut out
ComesOf (commands.Board key group) out = IsBoardOut out
ComesOf (commands.Recover apply tries key group dead) out = IsRecoverOut out

comes-first : (session : ℕ) (asked : Command) (told : ℕ) (answer : Answer) (old new : BookState) → IsStepped old told (first_event session asked) answer new → ComesOf asked answer.out
comes-first session (commands.Call call) told answer old new stepped =
    let done = executed old.server.keys (next_moment old told) call in
    subst IsCallOut (sym stepped.out) (called-out session (next_moment old told) old.server done.keys done.outcome)
comes-first session (commands.Board key group) told answer old new stepped =
    subst IsBoardOut (sym (board-replies old told session key group answer new stepped).1) tt
comes-first session (commands.Recover apply tries key group dead) told answer old new stepped =
    by (snapshot-answers old told session key group dead answer new stepped)
  where
    by : ((reply : ReplyParts) × (answer.out ≡ outs.Reply reply)) ⊎ ((shown : SnapshotState) × (answer.out ≡ outs.Snap shown)) → IsRecoverOut answer.out
    by (inl one) = subst IsRecoverOut (sym one.1) tt
    by (inr one) = subst IsRecoverOut (sym one.1) tt

-- ---- a command without a reply

-- what a desk answers if it is no answer to the command
pub stray-unanswered : (may_tell : ℕ → Bool) (session told : ℕ) (asked : Command) (answer : Answer) (old : Option BookState) (fault : DeskFault) (new : Option BookState)
    → IsTrue (may_tell told) → StepsAt old told (first_event session asked) (Ok answer) new → (ComesOf asked answer.out → ⊥) → IsUnanswered may_tell session asked old fault new
stray-unanswered may_tell session told asked answer old fault new by_clock step stray =
    let both = stray-hidden (ComesOf asked) told (first_event session asked) answer old new (λ before after stepped. comes-first session asked told answer before after stepped) stray step in
    unanswered.hidden told by_clock both.0 both.1

-- a letter that cannot be read
letter-lost : (session : ℕ) (old : BookState) (new : Option BookState) (found : Option Letter) → letter_for session old.server ≡ found → IsSome found → new ≡ Some old
    → Loses session (Some old) faults.Unread new
letter-lost session old new None is some same = absurd (true≢false (sym some))
letter-lost session old new (Some letter) is some same = calling.unread letter refl (is, same)

pub await-memory : (session : ℕ) (old new : Option BookState) → AwaitsAt old session (Err faults.Memory) new → Loses session old faults.Unread new
await-memory session None new given = calling.hidden refl given
await-memory session (Some old) new given = letter-lost session old new (letter_for session old.server) refl given.0 given.1

-- or none that is there
pub await-other : (session : ℕ) (old : Option BookState) (fault : DeskFault) (new : Option BookState) → (fault ≡ faults.Memory → ⊥) → AwaitsAt old session (Err fault) new
    → Loses session old fault new
await-other session None fault new other given = calling.hidden refl given
await-other session (Some old) faults.Memory new other given = absurd (other refl)
await-other session (Some old) faults.Busy new other given = absurd given.0
await-other session (Some old) faults.Full new other given = absurd given.0
await-other session (Some old) faults.NoSession new other given = absurd given.0
await-other session (Some old) (faults.Regress index) new other given = absurd given.0
await-other session (Some old) faults.Idle new other given = calling.idle refl given.1
await-other session (Some old) faults.Unread new other given = absurd given.0

pub lost-unanswered : (may_tell : ℕ → Bool) (session told : ℕ) (call : Call) (answer : Answer) (old middle : Option BookState) (fault : DeskFault) (new : Option BookState)
    → IsTrue (may_tell told) → StepsAt old told (events.Call session call) (Ok answer) middle → answer.out ≡ outs.Blocked → Loses session middle fault new
    → IsUnanswered may_tell session (commands.Call call) old fault new
lost-unanswered may_tell session told call answer old middle fault new by_clock step out (calling.unread letter is given) =
    unanswered.is_unread letter.reply is (later told answer middle letter by_clock step out given refl (lettered-recorded session told call answer old middle new letter letter.reply step out given refl))
lost-unanswered may_tell session told call answer old middle fault new by_clock step out (calling.idle is same) =
    unanswered.waits told answer is by_clock (subst (StepsAt old told (events.Call session call) (Ok answer)) (sym same) step) out
lost-unanswered may_tell session told call answer old middle fault new by_clock step out (calling.hidden before after) =
    unanswered.hidden told by_clock (was_hidden old told (events.Call session call) answer middle step before) after

-- a command that changed nothing leaves its session idle
pub unanswered-idle : (may_tell : ℕ → Bool) (session : ℕ) (asked : Command) (old : Option BookState) (fault : DeskFault) (new : Option BookState)
    → (fault ≡ faults.Unread → ⊥) → (fault ≡ faults.Idle → ⊥) → IsUnanswered may_tell session asked old fault new → IsIdle session old → IsIdle session new
unanswered-idle may_tell session asked old fault new read there (unanswered.is_refused told by_clock step) idle =
    subst (IsIdle session) (sym (StepsAt-refused old told (first_event session asked) fault new step)) idle
unanswered-idle may_tell session asked old fault new read there (unanswered.is_unread reply is done) idle = absurd (read is)
unanswered-idle may_tell session asked old fault new read there (unanswered.waits told answer is by_clock step out) idle = absurd (there is)
unanswered-idle may_tell session asked old fault new read there (unanswered.breaks_off goes none) idle =
    BreaksIn-idle may_tell session goes.apply (max goes.tries 1) goes.shown goes.middle fault new goes.rounds
    (asked-leaves_idle session goes.told (events.Snapshot session goes.key goes.group goes.dead) goes.answer old goes.middle refl goes.step)
unanswered-idle may_tell session asked old fault new read there (unanswered.hidden told by_clock before after) idle = subst (IsIdle session) (sym after) tt

-- ---- what a request comes to

-- the faults that end a session, and are not of memory
abbrev pub IsHeldBy : DeskFault → Type 0
IsHeldBy faults.Memory = ⊥
IsHeldBy faults.Busy = Unit {0}
IsHeldBy faults.Full = ⊥
IsHeldBy faults.NoSession = Unit {0}
IsHeldBy (faults.Regress index) = Unit {0}
IsHeldBy faults.Idle = Unit {0}
IsHeldBy faults.Unread = ⊥

held-outside : (fault : DeskFault) → IsHeldBy fault → IsOutside fault
held-outside faults.Memory holds = absurd holds
held-outside faults.Busy holds = tt
held-outside faults.Full holds = absurd holds
held-outside faults.NoSession holds = tt
held-outside (faults.Regress index) holds = tt
held-outside faults.Idle holds = tt
held-outside faults.Unread holds = absurd holds

-- a session that is idle is not refused for what it is: the desk shows nothing
called-hidden : (session told : ℕ) (call : Call) (fault : DeskFault) (old new : Option BookState) → IsOutside fault → IsIdle session old
    → StepsAt old told (events.Call session call) (Err fault) new → (old ≡ None) × (new ≡ None)
called-hidden session told call fault None new outside idle step = (refl, step)
called-hidden session told call fault (Some old) None outside idle step = absurd step
called-hidden session told call faults.Memory (Some old) (Some new) outside idle step = absurd outside
called-hidden session told call faults.Busy (Some old) (Some new) outside idle step =
    absurd ((steps-not-idle old told session call book.Busy new idle step).1 refl)
called-hidden session told call faults.Full (Some old) (Some new) outside idle step = absurd outside
called-hidden session told call faults.NoSession (Some old) (Some new) outside idle step =
    absurd ((steps-not-idle old told session call book.NoSession new idle step).0 refl)
called-hidden session told call (faults.Regress index) (Some old) (Some new) outside idle step = absurd step
called-hidden session told call faults.Idle (Some old) (Some new) outside idle step = absurd step
called-hidden session told call faults.Unread (Some old) (Some new) outside idle step = absurd step

first-hidden : (session told : ℕ) (asked : Command) (fault : DeskFault) (old new : Option BookState) → IsOutside fault → IsIdle session old
    → StepsAt old told (first_event session asked) (Err fault) new → (old ≡ None) × (new ≡ None)
first-hidden session told (commands.Call call) fault old new outside idle step = called-hidden session told call fault old new outside idle step
first-hidden session told (commands.Board key group) fault old new outside idle step =
    refused-hidden session told (events.Board session key group) fault old new refl outside idle step
first-hidden session told (commands.Recover apply tries key group dead) fault old new outside idle step =
    refused-hidden session told (events.Snapshot session key group dead) fault old new refl outside idle step

-- a command other than a call does not wait
blocked-hidden : (session told : ℕ) (asked : Command) (answer : Answer) (old new : Option BookState) → (ComesOf asked outs.Blocked → ⊥)
    → StepsAt old told (first_event session asked) (Ok answer) new → answer.out ≡ outs.Blocked → (old ≡ None) × (new ≡ None)
blocked-hidden session told asked answer old new never step out =
    stray-hidden (ComesOf asked) told (first_event session asked) answer old new (λ before after stepped. comes-first session asked told answer before after stepped)
    (λ comes. never (subst (ComesOf asked) out comes)) step

-- it waits, which only a call with BLOCK does
waiting-holds : (may_tell : ℕ → Bool) (blocking : Bool) (session : ℕ) (asked : Command) (words : Words) → IsCommand words asked → (taken : Bool) (told : ℕ) (answer : Answer) (old new : Option BookState)
    → taken ≡ blocking → IsTrue (may_tell told) → StepsAt old told (first_event session (taken_as taken asked)) (Ok answer) new → answer.out ≡ outs.Blocked
    → Holds may_tell blocking session old words new
waiting-holds may_tell blocking session (commands.Call call) words is_asked true told answer old new is by_clock step out = waits call told answer is_asked (sym is) by_clock step out
waiting-holds may_tell blocking session (commands.Call call) words is_asked false told answer None new is by_clock step out = hidden refl step
waiting-holds may_tell blocking session (commands.Call call) words is_asked false told answer (Some old) None is by_clock step out = absurd step
waiting-holds may_tell blocking session (commands.Call call) words is_asked false told answer (Some old) (Some new) is by_clock step out =
    let one = unblocked-replies old told session call answer new step in
    let other : outs.Blocked ≡ outs.Reply one.0 = sym out ∙ one.1 in
    absurd (cc)
waiting-holds may_tell blocking session (commands.Board key group) words is_asked true told answer old new is by_clock step out =
    let both = blocked-hidden session told (commands.Board key group) answer old new (λ never. never) step out in
    hidden both.0 both.1
waiting-holds may_tell blocking session (commands.Board key group) words is_asked false told answer old new is by_clock step out =
    let both = blocked-hidden session told (commands.Board key group) answer old new (λ never. never) step out in
    hidden both.0 both.1
waiting-holds may_tell blocking session (commands.Recover apply tries key group dead) words is_asked true told answer old new is by_clock step out =
    let both = blocked-hidden session told (commands.Recover apply tries key group dead) answer old new (λ never. never) step out in
    hidden both.0 both.1
waiting-holds may_tell blocking session (commands.Recover apply tries key group dead) words is_asked false told answer old new is by_clock step out =
    let both = blocked-hidden session told (commands.Recover apply tries key group dead) answer old new (λ never. never) step out in
    hidden both.0 both.1

module _ (may_tell : ℕ → Bool) (blocking : Bool) (session : ℕ) (asked : Command) (words : Words) (is_asked : IsCommand words asked) where
  -- nothing was carried out for want of memory
  pub memory-answers : (old new : Option BookState) (text : List ℕ) → text ≡ reply_text (error_reply errors.Memory)
      → IsUnanswered may_tell session (taken_as blocking asked) old faults.Memory new → Answers may_tell blocking session old words text new
  memory-answers old new text is (unanswered.is_refused told by_clock step) =
      refuses call_faults.Memory (asked, is_asked) is (StepsAt-refused old told (first_event session (taken_as blocking asked)) faults.Memory new step)
  memory-answers old new text is (unanswered.is_unread reply other done) = absurd (cc)
  memory-answers old new text is (unanswered.waits told answer other by_clock step out) = absurd (cc)
  memory-answers old new text is (unanswered.breaks_off goes none) = breaks_off asked faults.Memory errors.Memory is_asked goes none refl is
  memory-answers old new text is (unanswered.hidden told by_clock before after) = refuses call_faults.Memory (asked, is_asked) is (after ∙ sym before)

  -- or of an index
  pub full-answers : (old new : Option BookState) (text : List ℕ) → text ≡ reply_text (error_reply errors.Full)
      → IsUnanswered may_tell session (taken_as blocking asked) old faults.Full new → Answers may_tell blocking session old words text new
  full-answers old new text is (unanswered.is_refused told by_clock step) = is_full asked told is_asked by_clock step is
  full-answers old new text is (unanswered.is_unread reply other done) = absurd (cc)
  full-answers old new text is (unanswered.waits told answer other by_clock step out) = absurd (cc)
  full-answers old new text is (unanswered.breaks_off goes none) = breaks_off asked faults.Full errors.Full is_asked goes none refl is
  full-answers old new text is (unanswered.hidden told by_clock before after) =
      let P : Option BookState → Type 0 = λ o. StepsAt o told (first_event session (taken_as blocking asked)) (Err faults.Full) new in
      is_full asked told is_asked by_clock (subst P (sym before) after) is

  -- at a desk that shows nothing, each command may have any reply
  hidden-answers : (told : ℕ) (old new : Option BookState) → IsTrue (may_tell told) → old ≡ None → new ≡ None
      → Answers may_tell blocking session old words (reply_text (error_reply errors.Memory)) new
  hidden-answers told old new by_clock before after =
      let reply : ReplyParts = error_reply errors.Memory in
      let P : Option BookState → Type 0 = λ o. Replies may_tell session (taken_as blocking asked) o reply new in
      let one : Replies may_tell session (taken_as blocking asked) None reply new =
      at_once told (record { index = 0; out = outs.Reply reply; settled = true }) by_clock after refl tt in
      replies asked reply is_asked (subst P (sym before) one) refl

  -- a recovery breaks off so at such a desk alone
  goes-hidden : (fault : DeskFault) (old new : Option BookState) → IsOutside fault
      → (goes : GoesOnToRounds may_tell session (taken_as blocking asked) old (λ apply tries shown middle. BreaksIn may_tell session apply tries shown middle fault new))
      → (old ≡ None) × (new ≡ None)
  goes-hidden fault old new outside goes = by (max goes.tries 1) (le-max_right goes.tries 1) goes.rounds
    where
      event : Event
      event = events.Snapshot session goes.key goes.group goes.dead

      by : (rounds : ℕ) → 1 ≤ rounds → BreaksIn may_tell session goes.apply rounds goes.shown goes.middle fault new → (old ≡ None) × (new ≡ None)
      by zero some breaks = absurd (not-suc-le-zero some)
      by (suc rounds) some breaks =
          let both = BreaksIn-hidden may_tell session goes.apply rounds goes.shown goes.middle fault new outside breaks
          (asked-leaves_idle session goes.told event goes.answer old goes.middle refl goes.step) in
          (was_hidden old goes.told event goes.answer goes.middle goes.step both.0, both.1)

  -- its reply is lost
  pub unread-answers : (old new : Option BookState) → IsUnanswered may_tell session (taken_as blocking asked) old faults.Unread new
      → (text : List ℕ) × Answers may_tell blocking session old words text new
  unread-answers None new (unanswered.is_refused told by_clock step) = (reply_text (error_reply errors.Memory), hidden-answers told None new by_clock refl step)
  unread-answers (Some old) None (unanswered.is_refused told by_clock step) = absurd step
  unread-answers (Some old) (Some new) (unanswered.is_refused told by_clock step) = absurd step
  unread-answers old new (unanswered.is_unread reply is done) = (reply_text reply, replies asked reply is_asked done refl)
  unread-answers old new (unanswered.waits told answer other by_clock step out) = absurd (cc)
  unread-answers old new (unanswered.breaks_off goes none) =
      let both = goes-hidden faults.Unread old new tt goes in
      (reply_text (error_reply errors.Memory), hidden-answers goes.told old new goes.by_clock both.0 both.1)
  unread-answers old new (unanswered.hidden told by_clock before after) = (reply_text (error_reply errors.Memory), hidden-answers told old new by_clock before after)

  pub unanswered-holds : (fault : DeskFault) (old new : Option BookState) → IsHeldBy fault → IsIdle session old
      → IsUnanswered may_tell session (taken_as blocking asked) old fault new → Holds may_tell blocking session old words new
  unanswered-holds fault old new holds idle (unanswered.is_refused told by_clock step) =
      let both = first-hidden session told (taken_as blocking asked) fault old new (held-outside fault holds) idle step in
      hidden both.0 both.1
  unanswered-holds fault old new holds idle (unanswered.is_unread reply is done) = absurd (subst IsHeldBy is holds)
  unanswered-holds fault old new holds idle (unanswered.waits told answer is by_clock step out) =
      waiting-holds may_tell blocking session asked words is_asked blocking told answer old new refl by_clock step out
  unanswered-holds fault old new holds idle (unanswered.breaks_off goes none) =
      let both = goes-hidden fault old new (held-outside fault holds) goes in
      hidden both.0 both.1
  unanswered-holds fault old new holds idle (unanswered.hidden told by_clock before after) = hidden before after

-- ---- what a session makes of a fault

module _ (may_tell : ℕ → Bool) (blocking : Bool) (session : ℕ) (asked : Command) (old new : Option BookState) (reply : Result ReplyParts End) where
  -- the reply answers the request
  abbrev pub IsRight : Result ReplyParts End → Type 0
  IsRight made = IfOk made (λ r. (words : Words) → IsCommand words asked → Answers may_tell blocking session old words (reply_text r) new)

  pub fault-answers : (fault : DeskFault) → reply ≡ made_of fault → IsUnanswered may_tell session (taken_as blocking asked) old fault new → IsRight reply
  fault-answers faults.Memory is why = subst IsRight (sym is) (λ words is_asked. memory-answers may_tell blocking session asked words is_asked old new _ refl why)
  fault-answers faults.Full is why = subst IsRight (sym is) (λ words is_asked. full-answers may_tell blocking session asked words is_asked old new _ refl why)
  fault-answers faults.Busy is why = subst IsRight (sym is) tt
  fault-answers faults.NoSession is why = subst IsRight (sym is) tt
  fault-answers (faults.Regress index) is why = subst IsRight (sym is) tt
  fault-answers faults.Idle is why = subst IsRight (sym is) tt
  fault-answers faults.Unread is why = subst IsRight (sym is) tt

  abbrev pub LeavesIdle : Result ReplyParts End → Type 0
  LeavesIdle made = OnOk made (IsIdle session new)

  pub fault-idle : (fault : DeskFault) → reply ≡ made_of fault → IsUnanswered may_tell session (taken_as blocking asked) old fault new → IsIdle session old → LeavesIdle reply
  fault-idle faults.Memory is why idle =
      subst LeavesIdle (sym is) (unanswered-idle may_tell session (taken_as blocking asked) old faults.Memory new (λ other. cc) (λ other. cc) why idle)
  fault-idle faults.Full is why idle =
      subst LeavesIdle (sym is) (unanswered-idle may_tell session (taken_as blocking asked) old faults.Full new (λ other. cc) (λ other. cc) why idle)
  fault-idle faults.Busy is why idle = subst LeavesIdle (sym is) tt
  fault-idle faults.NoSession is why idle = subst LeavesIdle (sym is) tt
  fault-idle (faults.Regress index) is why idle = subst LeavesIdle (sym is) tt
  fault-idle faults.Idle is why idle = subst LeavesIdle (sym is) tt
  fault-idle faults.Unread is why idle = subst LeavesIdle (sym is) tt

  -- or the session ends at it
  abbrev pub IsOver : Result ReplyParts End → Type 0
  IsOver made =
      IfErr made (λ end. (words : Words) → IsCommand words asked → Fails (Answers may_tell blocking session) (Holds may_tell blocking session) old words end new)

  is_held : (fault : DeskFault) → IsHeldBy fault → IsUnanswered may_tell session (taken_as blocking asked) old fault new → IsIdle session old → IsOver (Err ends.Desk)
  is_held fault holds why idle = λ words is_asked. calling.held (unanswered-holds may_tell blocking session asked words is_asked fault old new holds idle why) refl

  pub fault-over : (fault : DeskFault) → reply ≡ made_of fault → IsUnanswered may_tell session (taken_as blocking asked) old fault new → IsIdle session old → IsOver reply
  fault-over faults.Memory is why idle = subst IsOver (sym is) tt
  fault-over faults.Full is why idle = subst IsOver (sym is) tt
  fault-over faults.Busy is why idle = subst IsOver (sym is) (is_held faults.Busy tt why idle)
  fault-over faults.NoSession is why idle = subst IsOver (sym is) (is_held faults.NoSession tt why idle)
  fault-over (faults.Regress index) is why idle = subst IsOver (sym is) (is_held (faults.Regress index) tt why idle)
  fault-over faults.Idle is why idle = subst IsOver (sym is) (is_held faults.Idle tt why idle)
  fault-over faults.Unread is why idle =
      subst IsOver (sym is) (λ words is_asked.
      let one = unread-answers may_tell blocking session asked words is_asked old new why in
      calling.unread one.0 one.1 refl)
