-- An event of a session that may call, with the servings after it: what the records say of it, and what comes of it.
use Rattle.std.proofs.Common.{◌≡◌, ◌==◌, ◌⊎◌, inl, inr, ℕ, ◌+◌, ◌^◌, ◌<◌, ◌≤◌, Bool, true, false, cond, not, nat_lt, ◌||◌, List, [], ◌∷◌, ◌++◌, length, drop, Option, Some, None, Err, refl, ap, sym, subst, ◌∙◌, arith}
use Rattle.std.proofs.Math.Seq.{drop-append_seam}
use Rattle.std.proofs.lemmas.Bool.{eq-eqb, ltb-false}
use Rattle.std.proofs.lemmas.List.Folds.{list_any-append}
use Rattle.sr_args.specs.declared.call.Call.{Call}
use Rattle.sr_resp.specs.Reply.{ReplyParts}
use Rattle.sr_policy.specs.{SnapshotState}
use Rattle.sr_plan.specs.{Judged}
use Rattle.sr_space.specs.{executed}
use Rattle.sr_space.specs.Keys.{Keys}
use Rattle.sr_space.specs.declared.blocking.Outcome.{Outcome}
use Rattle.sr_space.specs.declared.blocking.Outcome.TheVariants as outcomes
use Rattle.sr_waiters.specs.{Waiting, has_session}
use Rattle.sr_book.specs.{Given, is_open, letter_of, BookState, IsStepped, Recorded, next_index, next_moment}
use Rattle.sr_book.specs.Server.{Server, called, is_busy, is_closed, moment_after, refusal, speaker}
use Rattle.sr_book.specs.Records.{AreServings, IsCertain, IsEvent, IsRefusal, Leads, Legal, Steps, addressed, event_record, event_server, to_session}
use Rattle.sr_book.specs.declared.answer.Answer.{Answer}
use Rattle.sr_book.specs.declared.event.Act.TheVariants as acts
use Rattle.sr_book.specs.declared.event.BookFault.{BookFault}
use Rattle.sr_book.specs.declared.event.BookFault.TheVariants as faults
use Rattle.sr_book.specs.declared.event.Event.{Event}
use Rattle.sr_book.specs.declared.event.Event.TheVariants as events
use Rattle.sr_book.specs.declared.event.Out.TheVariants as outs
use Rattle.sr_book.proofs.HeardLemmas.{Asks, asks-speaker}
use Rattle.sr_book.proofs.OpenLemmas.{is_open-with_letter}
use Rattle.sr_book.proofs.SessionLaws.{IsIdleIn, accepted-idle, asked-addressed, asked-idle, called-addressed, called-idle, snapped-silent, stale-silent}
use Rattle.sr_hub.specs.OneRequest.{is_by, said_in, spoken}
use Rattle.sr_hub.specs.Line.{IsFree}
use Rattle.sr_hub.specs.Lines.{AreAll}
use Rattle.sr_hub.specs.steps.Moves.{Adds}
use Rattle.sr_hub.proofs.PassLemmas.{Passes}
use Rattle.sr_hub.proofs.SoundLemmas.{IsReachedBy, IsSound, reached-grows, reached-sound}
use Rattle.sr_hub.proofs.FrameLemmas.{all-reached, records-pass, servings-own, servings-say}

-- ---- what is recorded of it

own-said : (session : ℕ) (event : Event) → speaker event ≡ Some session → said_in session (acts.Event event) ≡ event ∷ []
own-said session event is = ap (λ (b : Bool). cond b (event ∷ []) []) (ap (is_by session) is ∙ eq-eqb session session refl)

-- the session says the event, and in the servings after it nothing
pub step-said : (old : BookState) (told session : ℕ) (event : Event) (servings : List Recorded) → speaker event ≡ Some session → AreServings servings
    → spoken session (event_record old told event ∷ servings) ≡ event ∷ []
step-said old told session event servings is all =
    ap (λ (l : List Event). l ++ spoken session servings) (own-said session event is)
    ∙ ap (λ (l : List Event). event ∷ l) (servings-say session servings all)

-- an event of no session is said by none
pub step-silent : (old : BookState) (told session : ℕ) (event : Event) (servings : List Recorded) → speaker event ≡ None → AreServings servings
    → spoken session (event_record old told event ∷ servings) ≡ []
step-silent old told session event servings is all =
    ap (λ (l : List Event). l ++ spoken session servings) (ap (λ (b : Bool). cond b (event ∷ []) []) (ap (is_by session) is)) ∙ servings-say session servings all

in_order : (last told : ℕ) → last < 2 ^ 63 → moment_after last told ≡ moment_after last (moment_after last told)
in_order last told bound = omega (arith, bound)

-- its record leads to the state right after it
pub step-leads : (old : BookState) (told : ℕ) (event : Event) (answer : Answer) (new : BookState) → IsSound old.server → IsCertain event → IsStepped old told event answer new
    → Leads (next_index old) old.server (event_record old told event) (event_server old told event)
step-leads old told event answer new sound certain stepped =
    let is : IsEvent event (next_index old) (next_moment old told) (event_record old told event).replies old.server (event_server old told event) = record {
      accepted = stepped.accepted;
      certain = certain;
      in_time = in_order old.server.last told sound.bound;
      sends = refl;
      leaves = refl;
    } in
    (refl, is)

-- and the servings after it lead legally on
pub step-legal : (old : BookState) (told : ℕ) (event : Event) (answer : Answer) (new : BookState) → IsSound old.server → IsCertain event → (stepped : IsStepped old told event answer new)
    → Legal (next_index old) old.server (event_record old told event ∷ stepped.servings) new.server
step-legal old told event answer new sound certain stepped =
    (event_server old told event, step-leads old told event answer new sound certain stepped, stepped.legal)

pub step-adds : (old : BookState) (told session : ℕ) (event : Event) (answer : Answer) (new : BookState) → IsSound old.server → IsCertain event → speaker event ≡ Some session
    → (stepped : IsStepped old told event answer new) → Adds session old (event_record old told event ∷ stepped.servings) new
step-adds old told session event answer new sound certain is stepped = record {
  same_base = stepped.same_base;
  grown = stepped.grown;
  legal = step-legal old told event answer new sound certain stepped;
  own = (is, servings-own session stepped.servings stepped.served);
}

-- what was added to the records
added : (old : BookState) (told : ℕ) (event : Event) (answer : Answer) (new : BookState) (stepped : IsStepped old told event answer new)
    → drop (length old.records) new.records ≡ event_record old told event ∷ stepped.servings
added old told event answer new stepped =
    ap (drop (length old.records)) stepped.grown ∙ drop-append_seam old.records (event_record old told event ∷ stepped.servings)

-- ---- an event that was answered

-- the session said this one event, these replies were addressed to it, and it may call
pub record IsHeardOut (session : ℕ) (event : Event) (replies : List ReplyParts) (more : List Recorded) (server : Server) : Type 0 where
  pub said : spoken session more ≡ event ∷ []
  pub gets : addressed session more ≡ replies
  pub free : IsFree session server

heard_out : (old : BookState) (told session : ℕ) (event : Event) (answer : Answer) (new : BookState) (replies : List ReplyParts) (stepped : IsStepped old told event answer new)
    → speaker event ≡ Some session → addressed session (drop (length old.records) new.records) ≡ replies → IsIdleIn session new.server
    → IsHeardOut session event replies (event_record old told event ∷ stepped.servings) new.server
heard_out old told session event answer new replies stepped is gets idle = record {
  said = step-said old told session event stepped.servings is stepped.served;
  gets = sym (ap (addressed session) (added old told event answer new stepped)) ∙ gets;
  free = record { opened = idle.0; absent = idle.1 };
}

-- a call with its reply
pub call-replied : (old : BookState) (told session : ℕ) (call : Call) (answer : Answer) (new : BookState) (reply : ReplyParts) (stepped : IsStepped old told (events.Call session call) answer new)
    → answer.out ≡ outs.Reply reply
    → IsHeardOut session (events.Call session call) (reply ∷ []) (event_record old told (events.Call session call) ∷ stepped.servings) new.server
call-replied old told session call answer new reply stepped out =
    heard_out old told session (events.Call session call) answer new (reply ∷ []) stepped refl
    (called-addressed old told session call answer new reply stepped out)
    (called-idle old told session call answer new reply stepped out)

-- a board, a snapshot or a verdict with its reply
pub asked-replied : (old : BookState) (told session : ℕ) (event : Event) (answer : Answer) (new : BookState) (reply : ReplyParts) (stepped : IsStepped old told event answer new)
    → Asks session event → answer.out ≡ outs.Reply reply → IsHeardOut session event (reply ∷ []) (event_record old told event ∷ stepped.servings) new.server
asked-replied old told session event answer new reply stepped asks out =
    heard_out old told session event answer new (reply ∷ []) stepped (asks-speaker session event asks)
    (asked-addressed old told session event answer new reply asks stepped out)
    (asked-idle old told session event answer new asks stepped)

-- a snapshot that was taken
pub asked-taken : (old : BookState) (told session : ℕ) (event : Event) (answer : Answer) (new : BookState) (shown : SnapshotState) (stepped : IsStepped old told event answer new)
    → Asks session event → answer.out ≡ outs.Snap shown → IsHeardOut session event [] (event_record old told event ∷ stepped.servings) new.server
asked-taken old told session event answer new shown stepped asks out =
    heard_out old told session event answer new [] stepped (asks-speaker session event asks)
    (snapped-silent old told session event answer new shown asks stepped out)
    (asked-idle old told session event answer new asks stepped)

-- a verdict that came too late
pub asked-stale : (old : BookState) (told session : ℕ) (event : Event) (answer : Answer) (new : BookState) (shown : SnapshotState) (stepped : IsStepped old told event answer new)
    → Asks session event → answer.out ≡ outs.Stale shown → IsHeardOut session event [] (event_record old told event ∷ stepped.servings) new.server
asked-stale old told session event answer new shown stepped asks out =
    heard_out old told session event answer new [] stepped (asks-speaker session event asks)
    (stale-silent old told session event answer new shown asks stepped out)
    (asked-idle old told session event answer new asks stepped)

pub board-replied : (old : BookState) (told session : ℕ) (key group : List ℕ) (answer : Answer) (new : BookState) (reply : ReplyParts)
    (stepped : IsStepped old told (events.Board session key group) answer new) → answer.out ≡ outs.Reply reply
    → IsHeardOut session (events.Board session key group) (reply ∷ []) (event_record old told (events.Board session key group) ∷ stepped.servings) new.server
board-replied old told session key group answer new reply stepped out =
    asked-replied old told session (events.Board session key group) answer new reply stepped refl out

pub snapshot-replied : (old : BookState) (told session : ℕ) (key group : List ℕ) (dead : List (List ℕ)) (answer : Answer) (new : BookState) (reply : ReplyParts)
    (stepped : IsStepped old told (events.Snapshot session key group dead) answer new) → answer.out ≡ outs.Reply reply
    → IsHeardOut session (events.Snapshot session key group dead) (reply ∷ []) (event_record old told (events.Snapshot session key group dead) ∷ stepped.servings) new.server
snapshot-replied old told session key group dead answer new reply stepped out =
    asked-replied old told session (events.Snapshot session key group dead) answer new reply stepped refl out

pub snapshot-taken : (old : BookState) (told session : ℕ) (key group : List ℕ) (dead : List (List ℕ)) (answer : Answer) (new : BookState) (shown : SnapshotState)
    (stepped : IsStepped old told (events.Snapshot session key group dead) answer new) → answer.out ≡ outs.Snap shown
    → IsHeardOut session (events.Snapshot session key group dead) [] (event_record old told (events.Snapshot session key group dead) ∷ stepped.servings) new.server
snapshot-taken old told session key group dead answer new shown stepped out =
    asked-taken old told session (events.Snapshot session key group dead) answer new shown stepped refl out

pub conclude-replied : (old : BookState) (told session : ℕ) (judged : Judged) (apply last : Bool) (answer : Answer) (new : BookState) (reply : ReplyParts)
    (stepped : IsStepped old told (events.Conclude session judged apply last) answer new) → answer.out ≡ outs.Reply reply
    → IsHeardOut session (events.Conclude session judged apply last) (reply ∷ []) (event_record old told (events.Conclude session judged apply last) ∷ stepped.servings) new.server
conclude-replied old told session judged apply last answer new reply stepped out =
    asked-replied old told session (events.Conclude session judged apply last) answer new reply stepped refl out

pub conclude-stale : (old : BookState) (told session : ℕ) (judged : Judged) (apply last : Bool) (answer : Answer) (new : BookState) (shown : SnapshotState)
    (stepped : IsStepped old told (events.Conclude session judged apply last) answer new) → answer.out ≡ outs.Stale shown
    → IsHeardOut session (events.Conclude session judged apply last) [] (event_record old told (events.Conclude session judged apply last) ∷ stepped.servings) new.server
conclude-stale old told session judged apply last answer new shown stepped out =
    asked-stale old told session (events.Conclude session judged apply last) answer new shown stepped refl out

-- ---- a call that waits

-- the session said this one event; and it waits, and nothing was addressed to it, or it has the one reply that was
pub record IsBlockedBy (session : ℕ) (event : Event) (more : List Recorded) (server : Server) : Type 0 where
  pub said : spoken session more ≡ event ∷ []
  pub opened : is_open session server.sessions ≡ true
  pub stands : ((has_session session server.waiting ≡ true) × (addressed session more ≡ []))
      ⊎ ((given : Given) × (has_session session server.waiting ≡ false)
      × (letter_of session server.sessions ≡ Some given) × (addressed session more ≡ given.reply ∷ []))

module _ (session moment : ℕ) (server : Server) (keys : Keys) where
  blocked-waits : (outcome : Outcome) → (called session moment server keys outcome).out ≡ outs.Blocked → has_session session (called session moment server keys outcome).server.waiting ≡ true
  blocked-waits (outcomes.Reply send keep) out = absurd (cc)
  blocked-waits (outcomes.Blocked call deadline) out =
      list_any-append (λ (x : Waiting). x.session == session) server.waiting (record { session = session; call = call; deadline = deadline } ∷ [])
      ∙ rw (eq-eqb session session refl) (or_true (has_session session server.waiting))
    where
      or_true : (test : Bool) → (test || true) ≡ true
      or_true true = refl
      or_true false = refl

  blocked-silent : (outcome : Outcome) → (called session moment server keys outcome).out ≡ outs.Blocked → (called session moment server keys outcome).sent ≡ []
  blocked-silent (outcomes.Reply send keep) out = absurd (cc)
  blocked-silent (outcomes.Blocked call deadline) out = refl

  called-opened : (outcome : Outcome) → is_open session server.sessions ≡ true → is_open session (called session moment server keys outcome).server.sessions ≡ true
  called-opened (outcomes.Reply send keep) opened = is_open-with_letter session session None server.sessions ∙ opened
  called-opened (outcomes.Blocked call deadline) opened = is_open-with_letter session session None server.sessions ∙ opened

-- after servings, a session that waits
waits-passes : (session : ℕ) (event : Event) (own : Recorded) (servings : List Recorded) (middle new : Server) → spoken session (own ∷ servings) ≡ event ∷ []
    → to_session session own.replies ≡ [] → is_open session middle.sessions ≡ true → has_session session middle.waiting ≡ true
    → Passes session middle (addressed session servings) new → IsBlockedBy session event (own ∷ servings) new
waits-passes session event own servings middle new said silent opened waits (inl kept) = record {
  said = said;
  opened = kept.opened opened;
  stands = inl (kept.waits ∙ waits, ap (λ (l : List ReplyParts). l ++ addressed session servings) silent ∙ kept.silent);
}
waits-passes session event own servings middle new said silent opened waits (inr given) = record {
  said = said;
  opened = given.opened opened;
  stands = inr (given.given, given.absent, given.letter, ap (λ (l : List ReplyParts). l ++ addressed session servings) silent ∙ given.told);
}

pub call-blocked : (records : List Recorded) (old : BookState) (told session : ℕ) (call : Call) (answer : Answer) (new : BookState) → AreAll records old
    → (stepped : IsStepped old told (events.Call session call) answer new) → answer.out ≡ outs.Blocked
    → IsBlockedBy session (events.Call session call) (event_record old told (events.Call session call) ∷ stepped.servings) new.server
call-blocked records old told session call answer new all stepped out =
    let event : Event = events.Call session call in
    let own : Recorded = event_record old told event in
    let middle : Server = event_server old told event in
    let moment : ℕ = next_moment old told in
    let done = executed old.server.keys moment call in
    let before = accepted-idle old.server (next_index old) session call stepped.accepted in
    let blocked : (called session moment old.server done.keys done.outcome).out ≡ outs.Blocked = sym stepped.out ∙ out in
    let reached = all-reached records old all in
    let leads = step-leads old told event answer new (reached-sound records (next_index old) old.server reached) tt stepped in
    let next : IsReachedBy (records ++ own ∷ []) (next_index old + 1) middle =
    reached-grows records (next_index old) old.server (own ∷ []) middle reached (middle, leads, refl) in
    waits-passes session event own stepped.servings middle new.server
    (step-said old told session event stepped.servings refl stepped.served)
    (ap (to_session session) (blocked-silent session moment old.server done.keys done.outcome blocked))
    (called-opened session moment old.server done.keys done.outcome before.0)
    (blocked-waits session moment old.server done.keys done.outcome blocked)
    (records-pass session (records ++ own ∷ []) (next_index old + 1) middle stepped.servings new.server next stepped.legal
    (servings-say session stepped.servings stepped.served))

-- ---- an event that was refused

-- nothing changed: memory was lacking, or no index was left after this many records
pub record IsRefusedAfter (records : ℕ) (old : BookState) (fault : BookFault) (new : BookState) : Type 0 where
  pub same : new ≡ old
  pub reason : (fault ≡ faults.Memory) ⊎ ((fault ≡ faults.Full) × (2 ^ 63 ≤ records + 1))

pub step-refused : (records : List Recorded) (old : BookState) (told session : ℕ) (event : Event) (fault : BookFault) (new : BookState) → AreAll records old → speaker event ≡ Some session
    → is_open session old.server.sessions ≡ true → is_busy event old.server.waiting ≡ false → Steps old told event (Err fault) new → IsRefusedAfter (length records) old fault new
step-refused records old told session event fault new all is opened idle stepped = record {
  same = stepped.1;
  reason = by (nat_lt (next_index old) (2 ^ 63)) refl (subst (λ reason. IsRefusal reason fault) accepted stepped.0);
}
  where
    at : ℕ
    at = next_index old

    counted : next_index old ≡ 1 + length records
    counted = (all-reached records old all).next

    judged : Bool → Bool → Bool → Option BookFault
    judged closed busy fits = cond closed (Some faults.NoSession) (cond busy (Some faults.Busy) (cond fits None (Some faults.Full)))

    there : is_closed (speaker event) old.server.sessions ≡ false
    there = ap (λ (s : Option ℕ). is_closed s old.server.sessions) is ∙ ap not opened

    accepted : refusal old.server (next_index old) event ≡ cond (nat_lt (next_index old) (2 ^ 63)) None (Some faults.Full)
    accepted =
        ap (λ (b : Bool). judged b (is_busy event old.server.waiting) (nat_lt (next_index old) (2 ^ 63))) there
        ∙ ap (λ (b : Bool). judged false b (nat_lt (next_index old) (2 ^ 63))) idle

    by : (fits : Bool) → nat_lt (next_index old) (2 ^ 63) ≡ fits → IsRefusal (cond fits None (Some faults.Full)) fault
        → (fault ≡ faults.Memory) ⊎ ((fault ≡ faults.Full) × (2 ^ 63 ≤ length records + 1))
    by true e refused = inl refused
    by false e refused =
        let past : 2 ^ 63 ≤ next_index old = ltb-false (next_index old) (2 ^ 63) e in
        inr (refused, omega (arith, past, counted))
