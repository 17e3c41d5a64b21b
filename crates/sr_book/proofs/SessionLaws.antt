-- Laws of one session at the book: what each of its events leaves, and that the servings that follow leave it alone.
use Rattle.std.proofs.Common.{◌≡◌, ◌==◌, ◌⊎◌, inl, inr, ℕ, ◌+◌, ◌^◌, Bool, true, false, cond, not, nat_lt, List, [], ◌∷◌, ◌++◌, length, drop, Option, Some, None, Result, Ok, Err, refl, ap, sym, ◌∙◌, subst, true≢false}
use Rattle.std.proofs.Math.Seq.{drop-append_seam}
use Rattle.std.proofs.lemmas.Bool.{eq-eqb, ne_eqb}
use Rattle.std.proofs.lemmas.List.Folds.{list_any-append}
use Rattle.std.proofs.lemmas.Map.Views.{any-filter_same}
use Rattle.sr_args.specs.{block_of, without_block}
use Rattle.sr_args.specs.declared.call.Call.{Call}
use Rattle.sr_args.specs.declared.call.Call.TheVariants as calls
use Rattle.sr_resp.specs.Reply.{ReplyParts, error_reply}
use Rattle.sr_resp.specs.declared.code.ErrCode.TheVariants as errors
use Rattle.sr_check.specs.{verdict_answer}
use Rattle.sr_plan.specs.{Judged}
use Rattle.sr_policy.specs.{same, SnapshotState}
use Rattle.sr_space.specs.{executed, finds_nothing, at_once, group_at, snapped}
use Rattle.sr_space.specs.Blocking.{answered_or_waits, outcome_of}
use Rattle.sr_space.specs.Keys.{Keys}
use Rattle.sr_space.specs.declared.blocking.Outcome.{Outcome}
use Rattle.sr_space.specs.declared.blocking.Outcome.TheVariants as outcomes
use Rattle.sr_space.specs.declared.snap.SnapFault.{SnapFault}
use Rattle.sr_waiters.specs.{Waiting, has_session}
use Rattle.sr_book.specs.Records.{AreServings, BookState, IsHistory, IsRefusal, IsStepped, LeadsBy, Legal, Recorded, Steps, addressed, event_record, event_server, is_serving, next_index, next_moment, to_session}
use Rattle.sr_book.specs.Server.{AreBelow, AreOpen, Server, Serving, Session, acted, board_reply, called, concluded, empty_server, fresh_snapshot, is_busy, is_open, keys_after, outdated, refusal, replied}
use Rattle.sr_book.specs.Server.{serving, snap_code, snapped_for, speaker, without}
use Rattle.sr_book.specs.declared.answer.Answer.{Answer}
use Rattle.sr_book.specs.declared.event.Act.{Act}
use Rattle.sr_book.specs.declared.event.Act.TheVariants as acts
use Rattle.sr_book.specs.declared.event.BookFault.{BookFault}
use Rattle.sr_book.specs.declared.event.BookFault.TheVariants as faults
use Rattle.sr_book.specs.declared.event.Event.{Event}
use Rattle.sr_book.specs.declared.event.Event.TheVariants as events
use Rattle.sr_book.specs.declared.event.Out.{Out}
use Rattle.sr_book.specs.declared.event.Out.TheVariants as outs
use Rattle.sr_book.proofs.ActLemmas.{called_server, not_busy, speaker_is_open}
use Rattle.sr_book.proofs.DueLemmas.{absent-without}
use Rattle.sr_book.proofs.BaseLemmas.{all-legal, all_records}
use Rattle.sr_book.proofs.OpenLemmas.{is_open-with_letter, open-called, open-expired, open-joined, open-left, open-served, open-with_letter}
use Rattle.sr_book.proofs.HeardLemmas.{Asks, SendsAnswer, acted-heard, asks-busy, asks-speaker}
use Rattle.sr_book.proofs.ServeLemmas.{serving-read}
use Rattle.sr_book.proofs.SessionLemmas.{differs-below}

-- the session is open and does not wait
abbrev pub IsIdleIn : ℕ → Server → Type 0
IsIdleIn session server = (is_open session server.sessions ≡ true) × (has_session session server.waiting ≡ false)

-- ---- a read that is served

module _ (session index : ℕ) (server : Server) (given : Serving) (next : serving server index ≡ Some given) where
  serving-open : is_open session given.server.sessions ≡ is_open session server.sessions
  serving-open =
      let its = serving-read server index given next in
      ap (λ (s : Serving). is_open session s.server.sessions) its.result ∙ is_open-with_letter session its.read.session _ server.sessions

  serving-absent : has_session session server.waiting ≡ false → has_session session given.server.waiting ≡ false
  serving-absent absent =
      let its = serving-read server index given next in
      ap (λ (s : Serving). has_session session s.server.waiting) its.result ∙ absent-without session its.read.session server.waiting absent

  serving-other : has_session session server.waiting ≡ false → (given.session == session) ≡ false
  serving-other absent =
      let its = serving-read server index given next in
      let apart : (its.read.session == session) ≡ false = ne_eqb its.read.session session (λ same. true≢false (sym its.waits ∙ rw same absent)) in
      ap (λ (s : Serving). s.session == session) its.result ∙ apart

  serving-waiting_open : AreOpen server.waiting server.sessions → AreOpen given.server.waiting given.server.sessions
  serving-waiting_open all =
      let its = serving-read server index given next in
      let HasOpen : Serving → Type 0 = λ s. AreOpen s.server.waiting s.server.sessions in
      subst HasOpen (sym its.result) (open-served its.read.session _ server.sessions server.waiting all)

-- ---- the servings after an event

module _ (session index moment : ℕ) (replies : List (ℕ × ReplyParts)) (old new : Server) where
  led-open : (act : Act) → is_serving act ≡ true → LeadsBy act index moment replies old new → is_open session new.sessions ≡ is_open session old.sessions
  led-open (acts.Event event) is leads = absurd (cc)
  led-open (acts.Serve other) is leads = serving-open session index old (record { session = other; reply = leads.reply; server = new }) leads.next

  led-absent : (act : Act) → is_serving act ≡ true → LeadsBy act index moment replies old new → has_session session old.waiting ≡ false → has_session session new.waiting ≡ false
  led-absent (acts.Event event) is leads absent = absurd (cc)
  led-absent (acts.Serve other) is leads absent = serving-absent session index old (record { session = other; reply = leads.reply; server = new }) leads.next absent

  led-silent : (act : Act) → is_serving act ≡ true → LeadsBy act index moment replies old new → has_session session old.waiting ≡ false → to_session session replies ≡ []
  led-silent (acts.Event event) is leads absent = absurd (cc)
  led-silent (acts.Serve other) is leads absent =
      let apart : (other == session) ≡ false = serving-other session index old (record { session = other; reply = leads.reply; server = new }) leads.next absent in
      ap (to_session session) leads.sends ∙ rw apart refl

-- sessions stay open, and closed
pub servings-open : (session index : ℕ) (old : Server) (records : List Recorded) (new : Server) → AreServings records → Legal index old records new
    → is_open session new.sessions ≡ is_open session old.sessions
servings-open session index old [] new all legal = ap (λ (s : Server). is_open session s.sessions) legal
servings-open session index old (first ∷ others) new all legal =
    servings-open session (index + 1) legal.0 others new all.1 legal.2
    ∙ led-open session index first.moment first.replies old legal.0 first.act all.0 legal.1.1

-- a session that does not wait goes on not waiting
pub servings-absent : (session index : ℕ) (old : Server) (records : List Recorded) (new : Server) → AreServings records → Legal index old records new
    → has_session session old.waiting ≡ false → has_session session new.waiting ≡ false
servings-absent session index old [] new all legal absent = ap (λ (s : Server). has_session session s.waiting) legal ∙ absent
servings-absent session index old (first ∷ others) new all legal absent =
    servings-absent session (index + 1) legal.0 others new all.1 legal.2
    (led-absent session index first.moment first.replies old legal.0 first.act all.0 legal.1.1 absent)

-- so one that is open and does not wait goes on so
pub servings-idle : (session index : ℕ) (old : Server) (records : List Recorded) (new : Server) → AreServings records → Legal index old records new
    → IsIdleIn session old → IsIdleIn session new
servings-idle session index old records new all legal idle = (
  servings-open session index old records new all legal ∙ idle.0,
  servings-absent session index old records new all legal idle.1,
)

-- and it is sent nothing
pub servings-silent : (session index : ℕ) (old : Server) (records : List Recorded) (new : Server) → AreServings records → Legal index old records new
    → has_session session old.waiting ≡ false → addressed session records ≡ []
servings-silent session index old [] new all legal absent = refl
servings-silent session index old (first ∷ others) new all legal absent =
    let here : to_session session first.replies ≡ [] = led-silent session index first.moment first.replies old legal.0 first.act all.0 legal.1.1 absent in
    let later : has_session session legal.0.waiting ≡ false = led-absent session index first.moment first.replies old legal.0 first.act all.0 legal.1.1 absent in
    rw here (servings-silent session (index + 1) legal.0 others new all.1 legal.2 later)

-- ---- a session opens

is_open-below : (number : ℕ) (sessions : List Session) → AreBelow number sessions → is_open number sessions ≡ false
is_open-below number [] below = refl
is_open-below number (x ∷ xs) below = rw (differs-below x.number number below.0) (is_open-below number xs below.1)

absent-below : (number : ℕ) (sessions : List Session) (waiting : List Waiting) → AreBelow number sessions → AreOpen waiting sessions → has_session number waiting ≡ false
absent-below number sessions waiting below all = by (has_session number waiting) refl
  where
    by : (waits : Bool) → has_session number waiting ≡ waits → waits ≡ false
    by true there = absurd (true≢false (sym (all number there) ∙ is_open-below number sessions below))
    by false absent = refl

is_open-joined : (number : ℕ) (sessions : List Session) → AreBelow number sessions → is_open number (sessions ++ record { number = number; letter = None } ∷ []) ≡ true
is_open-joined number sessions below =
    rw (list_any-append (λ (x : Session). x.number == number) sessions (record { number = number; letter = None } ∷ []), is_open-below number sessions below, eq-eqb number number refl) refl

-- a session that joins gets the number of its record, is open and does not wait
pub joined-idle : (old : BookState) (told : ℕ) (answer : Answer) (new : BookState) → IsStepped old told events.Join answer new
    → AreBelow (next_index old) old.server.sessions → AreOpen old.server.waiting old.server.sessions
    → (answer.out ≡ outs.Joined (next_index old)) × IsIdleIn (next_index old) new.server
joined-idle old told answer new stepped below all = (
  stepped.out,
  servings-idle (next_index old) (next_index old + 1) (event_server old told events.Join) stepped.servings new.server
      stepped.served stepped.legal (
        is_open-joined (next_index old) old.server.sessions below,
        absent-below (next_index old) old.server.sessions old.server.waiting below all,
      ),
)

-- ---- a session calls

-- a call that was answered
module _ (session moment : ℕ) (server : Server) (keys : Keys) (reply : ReplyParts) where
  called-open : (outcome : Outcome) → is_open session (called session moment server keys outcome).server.sessions ≡ is_open session server.sessions
  called-open (outcomes.Reply send keep) = is_open-with_letter session session None server.sessions
  called-open (outcomes.Blocked call deadline) = is_open-with_letter session session None server.sessions

  called-absent : (outcome : Outcome) → (called session moment server keys outcome).out ≡ outs.Reply reply → has_session session server.waiting ≡ false
      → has_session session (called session moment server keys outcome).server.waiting ≡ false
  called-absent (outcomes.Reply send keep) out absent = absent
  called-absent (outcomes.Blocked call deadline) out absent = absurd (cc)

-- the session of an accepted call is open and does not wait
pub accepted-idle : (server : Server) (index session : ℕ) (call : Call) → refusal server index (events.Call session call) ≡ None → IsIdleIn session server
accepted-idle server index session call accepted =
    (speaker_is_open server index session (events.Call session call) accepted refl, not_busy server index (events.Call session call) accepted)

-- right after a call that was answered, before the servings that follow
answered-idle : (old : BookState) (told session : ℕ) (call : Call) (answer : Answer) (new : BookState) (reply : ReplyParts) → IsStepped old told (events.Call session call) answer new
    → answer.out ≡ outs.Reply reply → IsIdleIn session (event_server old told (events.Call session call))
answered-idle old told session call answer new reply stepped out =
    let before = accepted-idle old.server (next_index old) session call stepped.accepted in
    let done = executed old.server.keys (next_moment old told) call in (
      called-open session (next_moment old told) old.server done.keys reply done.outcome ∙ before.0,
      called-absent session (next_moment old told) old.server done.keys reply done.outcome (sym stepped.out ∙ out) before.1,
    )

-- a session whose call is answered is open and does not wait
pub called-idle : (old : BookState) (told session : ℕ) (call : Call) (answer : Answer) (new : BookState) (reply : ReplyParts) → IsStepped old told (events.Call session call) answer new
    → answer.out ≡ outs.Reply reply → IsIdleIn session new.server
called-idle old told session call answer new reply stepped out =
    servings-idle session (next_index old + 1) (event_server old told (events.Call session call)) stepped.servings new.server
    stepped.served stepped.legal (answered-idle old told session call answer new reply stepped out)

-- the reply that is kept is the one that is sent
abbrev AreAlike : Outcome → Type 0
AreAlike (outcomes.Reply send keep) = send ≡ keep
AreAlike (outcomes.Blocked call deadline) = Unit {0}

executed-alike : (keys : Keys) (moment : ℕ) (call : Call) → AreAlike (executed keys moment call).outcome
executed-alike keys moment call = by (block_of call) (finds_nothing keys moment call)
  where
    by : (block : Option ℕ) (nothing : Bool) → AreAlike (answered_or_waits block nothing keys moment call).outcome
    by None nothing = refl
    by (Some wait) false = refl
    by (Some wait) true = tt

to_session-own : (session : ℕ) (keep : ReplyParts) → to_session session ((session, keep) ∷ []) ≡ keep ∷ []
to_session-own session keep = rw (eq-eqb session session refl) refl

called-sends : (session moment : ℕ) (server : Server) (keys : Keys) (reply : ReplyParts) (outcome : Outcome) → AreAlike outcome
    → (called session moment server keys outcome).out ≡ outs.Reply reply → to_session session (called session moment server keys outcome).sent ≡ reply ∷ []
called-sends session moment server keys reply (outcomes.Reply send keep) alike out =
    let told : send ≡ reply = let it : outs.Reply send ≡ outs.Reply reply = out in cc in
    to_session-own session keep ∙ ap (λ (r : ReplyParts). r ∷ []) (sym alike ∙ told)
called-sends session moment server keys reply (outcomes.Blocked call deadline) alike out = absurd (cc)

-- the new records address to a session that is idle right after the event what the event's own record does
added-addressed : (old : BookState) (told session : ℕ) (event : Event) (answer : Answer) (new : BookState) (replies : List ReplyParts) → IsStepped old told event answer new
    → IsIdleIn session (event_server old told event) → to_session session (event_record old told event).replies ≡ replies
    → addressed session (drop (length old.records) new.records) ≡ replies ++ []
added-addressed old told session event answer new replies stepped idle sent =
    let own : Recorded = event_record old told event in
    let added : drop (length old.records) new.records ≡ own ∷ stepped.servings =
    ap (drop (length old.records)) stepped.grown ∙ drop-append_seam old.records (own ∷ stepped.servings) in
    let others : addressed session stepped.servings ≡ [] =
    servings-silent session (next_index old + 1) (event_server old told event) stepped.servings new.server stepped.served stepped.legal idle.1 in
    ap (addressed session) added ∙ ap (λ (l : List ReplyParts). l ++ addressed session stepped.servings) sent ∙ ap (λ (l : List ReplyParts). replies ++ l) others

-- what a call is answered is the one reply that the new records address to the session
pub called-addressed : (old : BookState) (told session : ℕ) (call : Call) (answer : Answer) (new : BookState) (reply : ReplyParts) → IsStepped old told (events.Call session call) answer new
    → answer.out ≡ outs.Reply reply → addressed session (drop (length old.records) new.records) ≡ reply ∷ []
called-addressed old told session call answer new reply stepped out =
    let done = executed old.server.keys (next_moment old told) call in
    added-addressed old told session (events.Call session call) answer new (reply ∷ []) stepped (answered-idle old told session call answer new reply stepped out)
    (called-sends session (next_moment old told) old.server done.keys reply done.outcome (executed-alike old.server.keys (next_moment old told) call) (sym stepped.out ∙ out))

-- ---- a call without BLOCK

block_of-without_block : (call : Call) → block_of (without_block call) ≡ None
block_of-without_block (calls.Xread call) = refl
block_of-without_block (calls.Xreadgroup call) = refl
block_of-without_block call = refl

called-replies : (session moment : ℕ) (server : Server) (keys : Keys) (done : ReplyParts) → (reply : ReplyParts) × ((called session moment server keys (outcome_of done)).out ≡ outs.Reply reply)
called-replies session moment server keys done = (done, refl)

executed-unblocked : (keys : Keys) (moment : ℕ) (call : Call) → block_of call ≡ None → (executed keys moment call).outcome ≡ outcome_of (at_once keys moment call).outcome
executed-unblocked keys moment call none = rw none refl

-- a call without BLOCK is answered
pub unblocked-replies : (old : BookState) (told session : ℕ) (call : Call) (answer : Answer) (new : BookState) → IsStepped old told (events.Call session (without_block call)) answer new
    → (reply : ReplyParts) × (answer.out ≡ outs.Reply reply)
unblocked-replies old told session call answer new stepped =
    let moment : ℕ = next_moment old told in
    let taken : Call = without_block call in
    let keys : Keys = (executed old.server.keys moment taken).keys in
    let at_once_is = executed-unblocked old.server.keys moment taken (block_of-without_block call) in
    let one = called-replies session moment old.server keys (at_once old.server.keys moment taken).outcome in
    (one.0, stepped.out ∙ ap (λ (o : Outcome). (called session moment old.server keys o).out) at_once_is ∙ one.1)

-- ---- a session asks for a board or a snapshot, or concludes a verdict

-- the session is open and does not wait
pub asked-accepted-idle : (server : Server) (index session : ℕ) (event : Event) → Asks session event → refusal server index event ≡ None → IsIdleIn session server
asked-accepted-idle server index session event asks accepted = (
  speaker_is_open server index session event accepted (asks-speaker session event asks),
  sym (asks-busy session event server.waiting asks) ∙ not_busy server index event accepted,
)

-- right after the event, before the servings that follow
heard-idle : (old : BookState) (told session : ℕ) (event : Event) (answer : Answer) (new : BookState) → Asks session event → IsStepped old told event answer new
    → IsIdleIn session (event_server old told event)
heard-idle old told session event answer new asks stepped =
    let before = asked-accepted-idle old.server (next_index old) session event asks stepped.accepted in
    let heard = acted-heard old.server (next_index old) (next_moment old told) session event asks in (
      ap (λ (s : Server). is_open session s.sessions) heard.leaves ∙ is_open-with_letter session session None old.server.sessions ∙ before.0,
      ap (λ (s : Server). has_session session s.waiting) heard.leaves ∙ before.1,
    )

-- it is so still when the event is answered
pub asked-idle : (old : BookState) (told session : ℕ) (event : Event) (answer : Answer) (new : BookState) → Asks session event → IsStepped old told event answer new
    → IsIdleIn session new.server
asked-idle old told session event answer new asks stepped =
    servings-idle session (next_index old + 1) (event_server old told event) stepped.servings new.server
    stepped.served stepped.legal (heard-idle old told session event answer new asks stepped)

-- what the event sends, by what it is answered
heard-sends : (old : BookState) (told session : ℕ) (event : Event) (answer : Answer) (new : BookState) (out : Out) → Asks session event → IsStepped old told event answer new
    → answer.out ≡ out → SendsAnswer session out (event_record old told event).replies
heard-sends old told session event answer new out asks stepped is =
    let heard = acted-heard old.server (next_index old) (next_moment old told) session event asks in
    let Sends : Out → Type 0 = λ o. SendsAnswer session o (event_record old told event).replies in
    subst Sends (sym stepped.out ∙ is) heard.sends

-- a reply is the one that the new records address to the session
pub asked-addressed : (old : BookState) (told session : ℕ) (event : Event) (answer : Answer) (new : BookState) (reply : ReplyParts) → Asks session event
    → IsStepped old told event answer new → answer.out ≡ outs.Reply reply → addressed session (drop (length old.records) new.records) ≡ reply ∷ []
asked-addressed old told session event answer new reply asks stepped out =
    let sent = heard-sends old told session event answer new (outs.Reply reply) asks stepped out in
    added-addressed old told session event answer new (reply ∷ []) stepped (heard-idle old told session event answer new asks stepped)
    (ap (to_session session) sent ∙ to_session-own session reply)

-- with a snapshot they address nothing to it
pub snapped-silent : (old : BookState) (told session : ℕ) (event : Event) (answer : Answer) (new : BookState) (shown : SnapshotState) → Asks session event
    → IsStepped old told event answer new → answer.out ≡ outs.Snap shown → addressed session (drop (length old.records) new.records) ≡ []
snapped-silent old told session event answer new shown asks stepped out =
    let sent = heard-sends old told session event answer new (outs.Snap shown) asks stepped out in
    added-addressed old told session event answer new [] stepped (heard-idle old told session event answer new asks stepped) (ap (to_session session) sent)

pub stale-silent : (old : BookState) (told session : ℕ) (event : Event) (answer : Answer) (new : BookState) (shown : SnapshotState) → Asks session event
    → IsStepped old told event answer new → answer.out ≡ outs.Stale shown → addressed session (drop (length old.records) new.records) ≡ []
stale-silent old told session event answer new shown asks stepped out =
    let sent = heard-sends old told session event answer new (outs.Stale shown) asks stepped out in
    added-addressed old told session event answer new [] stepped (heard-idle old told session event answer new asks stepped) (ap (to_session session) sent)

-- a board is replied
pub board-replies : (old : BookState) (told session : ℕ) (key group : List ℕ) (answer : Answer) (new : BookState) → IsStepped old told (events.Board session key group) answer new
    → (reply : ReplyParts) × (answer.out ≡ outs.Reply reply)
board-replies old told session key group answer new stepped =
    (board_reply old.server.rules (next_moment old told) (group_at old.server.keys key group), stepped.out)

-- for a snapshot the answer is a reply, or the snapshot
pub snapshot-answers : (old : BookState) (told session : ℕ) (key group : List ℕ) (dead : List (List ℕ)) (answer : Answer) (new : BookState)
    → IsStepped old told (events.Snapshot session key group dead) answer new
    → ((reply : ReplyParts) × (answer.out ≡ outs.Reply reply)) ⊎ ((shown : SnapshotState) × (answer.out ≡ outs.Snap shown))
snapshot-answers old told session key group dead answer new stepped = by (snapped old.server.rules old.server.keys key group dead) stepped.out
  where
    by : (result : Result SnapshotState SnapFault) → answer.out ≡ (snapped_for session (next_moment old told) old.server result).out
        → ((reply : ReplyParts) × (answer.out ≡ outs.Reply reply)) ⊎ ((shown : SnapshotState) × (answer.out ≡ outs.Snap shown))
    by (Ok shown) out = inr (shown, out)
    by (Err fault) out = inl (error_reply (snap_code fault), out)

-- for a verdict it is a reply, or, but in the last round, a fresh snapshot
pub conclude-answers : (old : BookState) (told session : ℕ) (judged : Judged) (apply last : Bool) (answer : Answer) (new : BookState)
    → IsStepped old told (events.Conclude session judged apply last) answer new
    → ((reply : ReplyParts) × (answer.out ≡ outs.Reply reply)) ⊎ ((shown : SnapshotState) × (answer.out ≡ outs.Stale shown) × (last ≡ false))
conclude-answers old told session judged apply last answer new stepped = by (fresh_snapshot old.server judged.snapshot) stepped.out
  where
    Answers : Type 0
    Answers = ((reply : ReplyParts) × (answer.out ≡ outs.Reply reply)) ⊎ ((shown : SnapshotState) × (answer.out ≡ outs.Stale shown) × (last ≡ false))

    moment : ℕ
    moment = next_moment old told

    outdated_by : (final : Bool) (shown : SnapshotState) → last ≡ final → answer.out ≡ (outdated session moment final old.server shown).out → Answers
    outdated_by true shown is out = inl (error_reply errors.Stale, out)
    outdated_by false shown is out = inr (shown, out, is)

    compared : (equal : Bool) (keys : Keys) (reply : ReplyParts) (shown : SnapshotState)
        → answer.out ≡ (cond equal (replied session moment old.server keys reply) (outdated session moment last old.server shown)).out → Answers
    compared true keys reply shown out = inl (reply, out)
    compared false keys reply shown out = outdated_by last shown refl out

    by : (result : Result SnapshotState SnapFault) → answer.out ≡ (concluded session moment apply last judged old.server result).out → Answers
    by (Ok shown) out = compared (same shown judged.snapshot) (keys_after apply moment judged old.server.keys) (verdict_answer judged.snapshot judged.answer apply) shown out
    by (Err fault) out = inl (error_reply (snap_code fault), out)

-- so in the last round it is a reply
pub conclude-last : (old : BookState) (told session : ℕ) (judged : Judged) (apply last : Bool) (answer : Answer) (new : BookState)
    → IsStepped old told (events.Conclude session judged apply last) answer new → last ≡ true → (reply : ReplyParts) × (answer.out ≡ outs.Reply reply)
conclude-last old told session judged apply last answer new stepped final = by (conclude-answers old told session judged apply last answer new stepped)
  where
    by : ((reply : ReplyParts) × (answer.out ≡ outs.Reply reply)) ⊎ ((shown : SnapshotState) × (answer.out ≡ outs.Stale shown) × (last ≡ false)) → (reply : ReplyParts) × (answer.out ≡ outs.Reply reply)
    by (inl one) = one
    by (inr stale) = absurd (true≢false (sym final ∙ stale.2))

-- ---- a session leaves

is_open-without : (number : ℕ) (sessions : List Session) → is_open number (without number sessions) ≡ false
is_open-without number sessions =
    any-filter_same (λ (x : Session). x.number == number) (λ (x : Session). not (x.number == number)) false (λ x same. ap not same) sessions

-- a session that leaves is closed
pub left-closed : (old : BookState) (told session : ℕ) (answer : Answer) (new : BookState) → IsStepped old told (events.Leave session) answer new
    → (answer.out ≡ outs.Left) × (is_open session new.server.sessions ≡ false)
left-closed old told session answer new stepped = (
  stepped.out,
  servings-open session (next_index old + 1) (event_server old told (events.Leave session)) stepped.servings new.server stepped.served stepped.legal
      ∙ is_open-without session old.server.sessions,
)

-- ---- refusals

-- an event of a session that is open and does not wait is refused only if no index is left
not-refused : (server : Server) (index session : ℕ) (event : Event) → speaker event ≡ Some session → is_busy event server.waiting ≡ false → is_open session server.sessions ≡ true
    → (refusal server index event ≡ Some faults.NoSession → ⊥) × (refusal server index event ≡ Some faults.Busy → ⊥)
not-refused server index session event of absent there = (
  (λ is. by_closed (nat_lt index (2 ^ 63)) (rw (of, there, absent) at is)),
  (λ is. by_busy (nat_lt index (2 ^ 63)) (rw (of, there, absent) at is)),
)
  where
    by_closed : (fits : Bool) → cond fits None (Some faults.Full) ≡ Some faults.NoSession → ⊥
    by_closed true is = cc
    by_closed false is = cc

    by_busy : (fits : Bool) → cond fits None (Some faults.Full) ≡ Some faults.Busy → ⊥
    by_busy true is = cc
    by_busy false is = cc

pub refused-not-idle : (server : Server) (index session : ℕ) (call : Call) → IsIdleIn session server
    → (refusal server index (events.Call session call) ≡ Some faults.NoSession → ⊥) × (refusal server index (events.Call session call) ≡ Some faults.Busy → ⊥)
refused-not-idle server index session call idle = not-refused server index session (events.Call session call) refl idle.1 idle.0

pub refused-asked-not-idle : (server : Server) (index session : ℕ) (event : Event) → Asks session event → IsIdleIn session server
    → (refusal server index event ≡ Some faults.NoSession → ⊥) × (refusal server index event ≡ Some faults.Busy → ⊥)
refused-asked-not-idle server index session event asks idle =
    not-refused server index session event (asks-speaker session event asks) (asks-busy session event server.waiting asks ∙ idle.1) idle.0

-- so no book answers it with NoSession or Busy
answers-neither : (reason : Option BookFault) (fault : BookFault) → (reason ≡ Some faults.NoSession → ⊥) × (reason ≡ Some faults.Busy → ⊥) → IsRefusal reason fault
    → (fault ≡ faults.NoSession → ⊥) × (fault ≡ faults.Busy → ⊥)
answers-neither reason fault neither stepped = by reason neither.0 neither.1 stepped
  where
    by : (reason : Option BookFault) → (reason ≡ Some faults.NoSession → ⊥) → (reason ≡ Some faults.Busy → ⊥) → IsRefusal reason fault
        → (fault ≡ faults.NoSession → ⊥) × (fault ≡ faults.Busy → ⊥)
    by None not_closed not_busy is = ((λ closed. cc), (λ busy. cc))
    by (Some reason) not_closed not_busy is = ((λ closed. not_closed (ap Some (sym is ∙ closed))), (λ busy. not_busy (ap Some (sym is ∙ busy))))

pub steps-not-idle : (old : BookState) (told session : ℕ) (call : Call) (fault : BookFault) (new : BookState) → IsIdleIn session old.server
    → Steps old told (events.Call session call) (Err fault) new → (fault ≡ faults.NoSession → ⊥) × (fault ≡ faults.Busy → ⊥)
steps-not-idle old told session call fault new idle stepped =
    answers-neither (refusal old.server (next_index old) (events.Call session call)) fault (refused-not-idle old.server (next_index old) session call idle) stepped.0

pub steps-asked-not-idle : (old : BookState) (told session : ℕ) (event : Event) (fault : BookFault) (new : BookState) → Asks session event → IsIdleIn session old.server
    → Steps old told event (Err fault) new → (fault ≡ faults.NoSession → ⊥) × (fault ≡ faults.Busy → ⊥)
steps-asked-not-idle old told session event fault new asks idle stepped =
    answers-neither (refusal old.server (next_index old) event) fault (refused-asked-not-idle old.server (next_index old) session event asks idle) stepped.0

-- ---- every state that a history leads to

heard-open : (server : Server) (index moment session : ℕ) (event : Event) → Asks session event → AreOpen server.waiting server.sessions
    → AreOpen (acted server index moment event).server.waiting (acted server index moment event).server.sessions
heard-open server index moment session event asks all =
    let HasOpen : Server → Type 0 = λ s. AreOpen s.waiting s.sessions in
    subst HasOpen (sym (acted-heard server index moment session event asks).leaves) (open-with_letter session None server.sessions server.waiting all)

acted-open : (server : Server) (index moment : ℕ) (event : Event) → refusal server index event ≡ None → AreOpen server.waiting server.sessions
    → AreOpen (acted server index moment event).server.waiting (acted server index moment event).server.sessions
acted-open server index moment events.Join accepted all = open-joined server.sessions (record { number = index; letter = None }) server.waiting all
acted-open server index moment (events.Call session call) accepted all =
    let done = executed server.keys moment call in
    let HasOpen : Server → Type 0 = λ s. AreOpen s.waiting s.sessions in
    let before = accepted-idle server index session call accepted in
    subst HasOpen (sym (called_server session moment server done.keys done.outcome)) (open-called session done.outcome server.sessions server.waiting before.0 all)
acted-open server index moment (events.Board session key group) accepted all = heard-open server index moment session (events.Board session key group) refl all
acted-open server index moment (events.Snapshot session key group dead) accepted all = heard-open server index moment session (events.Snapshot session key group dead) refl all
acted-open server index moment (events.Conclude session judged apply last) accepted all = heard-open server index moment session (events.Conclude session judged apply last) refl all
acted-open server index moment events.Expire accepted all = open-expired index moment server.sessions server.waiting all
acted-open server index moment (events.Leave session) accepted all = open-left session server.sessions server.waiting all

led-waiting_open : (index moment : ℕ) (replies : List (ℕ × ReplyParts)) (old new : Server) (act : Act) → LeadsBy act index moment replies old new
    → AreOpen old.waiting old.sessions → AreOpen new.waiting new.sessions
led-waiting_open index moment replies old new (acts.Event event) leads all =
    let HasOpen : Server → Type 0 = λ s. AreOpen s.waiting s.sessions in
    subst HasOpen (sym leads.leaves) (acted-open old index moment event leads.accepted all)
led-waiting_open index moment replies old new (acts.Serve session) leads all =
    serving-waiting_open session index old (record { session = session; reply = leads.reply; server = new }) leads.next all

-- each session that waits is open
pub legal-open : (index : ℕ) (old : Server) (records : List Recorded) (new : Server) → Legal index old records new → AreOpen old.waiting old.sessions → AreOpen new.waiting new.sessions
legal-open index old [] new legal all =
    let HasOpen : Server → Type 0 = λ s. AreOpen s.waiting s.sessions in
    subst HasOpen (sym legal) all
legal-open index old (first ∷ others) new legal all =
    legal-open (index + 1) legal.0 others new legal.2 (led-waiting_open index first.moment first.replies old legal.0 first.act legal.1.1 all)

pub history-open : (book : BookState) → IsHistory book → AreOpen book.server.waiting book.server.sessions
history-open book history =
    legal-open 1 (empty_server book.server.rules) (all_records book history) book.server (all-legal book history)
    (λ session waits. absurd (true≢false (sym waits)))
