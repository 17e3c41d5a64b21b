-- A session that waits has no letter: in every state that a history leads to, and after a call that blocked.
use Rattle.std.proofs.Common.{◌≡◌, ◌==◌, ℕ, ◌+◌, Bool, true, false, cond, not, ◌||◌, List, [], ◌∷◌, ◌++◌, filter, Option, Some, None, refl, ap, sym, subst, ◌∙◌, true≢false}
use Rattle.std.proofs.lemmas.Bool.{eq-eqb, eqb-true, ne_eqb}
use Rattle.std.proofs.lemmas.List.Folds.{list_any-append}
use Rattle.std.proofs.lemmas.Map.Views.{any-filter_same}
use Rattle.std.specs.Option.{option_map}
use Rattle.sr_args.specs.declared.call.Call.{Call}
use Rattle.sr_resp.specs.Reply.{ReplyParts, null_array}
use Rattle.sr_space.specs.{executed, finds_nothing, at_once}
use Rattle.sr_space.specs.Keys.{Keys}
use Rattle.sr_space.specs.declared.blocking.Outcome.{Outcome}
use Rattle.sr_space.specs.declared.blocking.Outcome.TheVariants as outcomes
use Rattle.sr_waiters.specs.{AreOnce, Waiting, due_at, first_that, has_session, is_due, not_due_at, without_session}
use Rattle.sr_book.proofs.BaseLemmas.{all-legal, all_records}
use Rattle.sr_book.specs.Server.{Given, Server, Serving, Session, acted, called, empty_server, is_open, letter_of, refusal, served as served_as, serving, with_letter, with_nothing, without}
use Rattle.sr_book.specs.{BookState, IsHistory, IsStepped, Recorded, letter_for, next_index, next_moment}
use Rattle.sr_book.specs.Records.{AreServings, LeadsBy, Legal, event_server, is_serving}
use Rattle.sr_book.specs.declared.answer.Answer.{Answer}
use Rattle.sr_book.specs.declared.answer.Letter.{Letter}
use Rattle.sr_book.specs.declared.event.Act.{Act}
use Rattle.sr_book.specs.declared.event.Act.TheVariants as acts
use Rattle.sr_book.specs.declared.event.Event.{Event}
use Rattle.sr_book.specs.declared.event.Event.TheVariants as events
use Rattle.sr_book.proofs.HeardLemmas.{Asks, acted-heard}
use Rattle.sr_book.proofs.OpenLemmas.{has_session-filter}
use Rattle.sr_book.proofs.SessionLaws.{IsIdleIn, accepted-idle}

-- ---- the letter of a session

-- one with a letter is open
pub letter-open : (session : ℕ) (given : Given) (xs : List Session) → letter_of session xs ≡ Some given → is_open session xs ≡ true
letter-open session given [] is = absurd (cc)
letter-open session given (x ∷ xs) is = by (letter-open session given xs) (x.number == session) refl
  where
    by : (letter_of session xs ≡ Some given → is_open session xs ≡ true) → (test : Bool) → (x.number == session) ≡ test → is_open session (x ∷ xs) ≡ true
    by rest true e = rw e refl
    by rest false e = rw e (rest (rw e at is))

-- one that is closed has none
pub closed-no_letter : (session : ℕ) (xs : List Session) → is_open session xs ≡ false → letter_of session xs ≡ None
closed-no_letter session [] closed = refl
closed-no_letter session (x ∷ xs) closed = by (closed-no_letter session xs) (x.number == session) refl
  where
    by : (is_open session xs ≡ false → letter_of session xs ≡ None) → (test : Bool) → (x.number == session) ≡ test → letter_of session (x ∷ xs) ≡ None
    by rest true e = absurd (true≢false (rw e at closed))
    by rest false e = rw e (rest (rw e at closed))

-- a session whose letter is emptied has none
pub letter_of-emptied : (session : ℕ) (xs : List Session) → letter_of session (with_letter session None xs) ≡ None
letter_of-emptied session [] = refl
letter_of-emptied session (x ∷ xs) = by (letter_of-emptied session xs) (x.number == session) refl
  where
    by : letter_of session (with_letter session None xs) ≡ None → (test : Bool) → (x.number == session) ≡ test → letter_of session (with_letter session None (x ∷ xs)) ≡ None
    by rest true e = rw (e, eq-eqb session session refl) refl
    by rest false e = rw (e, e) rest

-- another session keeps its own
pub letter_of-other : (session number : ℕ) (letter : Option Given) (xs : List Session) → (number == session) ≡ false
    → letter_of session (with_letter number letter xs) ≡ letter_of session xs
letter_of-other session number letter [] apart = refl
letter_of-other session number letter (x ∷ xs) apart = by (letter_of-other session number letter xs apart) (x.number == number) refl
  where
    by : letter_of session (with_letter number letter xs) ≡ letter_of session xs → (test : Bool) → (x.number == number) ≡ test
        → letter_of session (with_letter number letter (x ∷ xs)) ≡ letter_of session (x ∷ xs)
    by rest true e =
        let same : x.number ≡ number = eqb-true x.number number e in
        let other : (x.number == session) ≡ false = rw same apart in
        rw (e, apart, other) rest
    by rest false e = rw e (ap (λ (l : Option Given). cond (x.number == session) x.letter l) rest)

letter_of-with_nothing : (session index : ℕ) (due : List Waiting) (xs : List Session) → has_session session due ≡ false
    → letter_of session (with_nothing index due xs) ≡ letter_of session xs
letter_of-with_nothing session index [] xs absent = refl
letter_of-with_nothing session index (read ∷ due) xs absent =
    by (letter_of-with_nothing session index due (with_letter read.session (Some (record { index = index; reply = null_array })) xs)) (read.session == session) refl
  where
    by : (has_session session due ≡ false → letter_of session (with_nothing index (read ∷ due) xs) ≡ letter_of session (with_letter read.session (Some (record { index = index; reply = null_array })) xs))
        → (test : Bool) → (read.session == session) ≡ test → letter_of session (with_nothing index (read ∷ due) xs) ≡ letter_of session xs
    by rest true e = absurd (true≢false (rw e at absent))
    by rest false e = rest (rw e at absent) ∙ letter_of-other session read.session _ xs e

either_none : (test : Bool) (letter : Option Given) → cond test letter letter ≡ letter
either_none true letter = refl
either_none false letter = refl

letter_of-joined : (session index : ℕ) (xs : List Session) → letter_of session (xs ++ record { number = index; letter = None } ∷ []) ≡ letter_of session xs
letter_of-joined session index [] = either_none (index == session) None
letter_of-joined session index (x ∷ xs) = ap (λ (l : Option Given). cond (x.number == session) x.letter l) (letter_of-joined session index xs)

letter_of-without : (session number : ℕ) (xs : List Session) → letter_of session xs ≡ None → letter_of session (without number xs) ≡ None
letter_of-without session number [] none = refl
letter_of-without session number (x ∷ xs) none = by (letter_of-without session number xs) (x.number == number) refl (x.number == session) refl
  where
    by : (letter_of session xs ≡ None → letter_of session (without number xs) ≡ None) → (gone : Bool) → (x.number == number) ≡ gone → (is_it : Bool)
        → (x.number == session) ≡ is_it → letter_of session (without number (x ∷ xs)) ≡ None
    by rest false e true is = rw (e, is) (rw is at none)
    by rest false e false is = rw (e, is) (rest (rw is at none))
    by rest true e false is = rw e (rest (rw is at none))
    by rest true e true is =
        let same : x.number ≡ number = eqb-true x.number number e in
        let one : x.number ≡ session = eqb-true x.number session is in
        let both : session ≡ number = sym one ∙ same in
        let P : ℕ → Type 0 = λ n. letter_of session (without n xs) ≡ None in
        rw e (subst P both (closed-no_letter session (without session xs) (any-filter_same (λ (y : Session). y.number == session) (λ (y : Session). not (y.number == session)) false (λ y it. ap not it) xs)))

-- ---- sessions that wait once

-- fewer wait
AreOnce-filter : (keeps : Waiting → Bool) (xs : List Waiting) → AreOnce xs → AreOnce (filter keeps xs)
AreOnce-filter keeps [] once = tt
AreOnce-filter keeps (x ∷ xs) once = by (AreOnce-filter keeps xs once.1) (keeps x) refl (has_session x.session (filter keeps xs)) refl
  where
    by : AreOnce (filter keeps xs) → (kept : Bool) → keeps x ≡ kept → (there : Bool) → has_session x.session (filter keeps xs) ≡ there → AreOnce (filter keeps (x ∷ xs))
    by rest false e there is = rw e rest
    by rest true e true is = absurd (true≢false (sym (has_session-filter x.session keeps xs is) ∙ once.0))
    by rest true e false is = rw e (is, rest)

-- one more waits
AreOnce-push : (xs : List Waiting) (read : Waiting) → AreOnce xs → has_session read.session xs ≡ false → AreOnce (xs ++ read ∷ [])
AreOnce-push [] read once absent = (refl, tt)
AreOnce-push (x ∷ xs) read once absent = by (AreOnce-push xs read once.1) (x.session == read.session) refl
  where
    by : (has_session read.session xs ≡ false → AreOnce (xs ++ read ∷ [])) → (test : Bool) → (x.session == read.session) ≡ test → AreOnce ((x ∷ xs) ++ read ∷ [])
    by rest true e = absurd (true≢false (rw e at absent))
    by rest false e =
        let back : (read.session == x.session) ≡ false =
        ne_eqb read.session x.session (λ same. true≢false (sym (eq-eqb x.session read.session (sym same)) ∙ e)) in
        let apart : has_session x.session (xs ++ read ∷ []) ≡ false =
        list_any-append (λ (y : Waiting). y.session == x.session) xs (read ∷ []) ∙ rw (once.0, back) refl in
        (apart, rest (rw e at absent))

-- a session that does not wait is not among those that are left
absent-filter : (session : ℕ) (keeps : Waiting → Bool) (xs : List Waiting) → has_session session xs ≡ false → has_session session (filter keeps xs) ≡ false
absent-filter session keeps xs none = by (has_session session (filter keeps xs)) refl
  where
    by : (test : Bool) → has_session session (filter keeps xs) ≡ test → test ≡ false
    by true is = absurd (true≢false (sym (has_session-filter session keeps xs is) ∙ none))
    by false is = refl

-- the read of a session is due or it is not
not_due-apart : (session moment : ℕ) (xs : List Waiting) → AreOnce xs → has_session session (not_due_at moment xs) ≡ true
    → has_session session (due_at moment xs) ≡ false
not_due-apart session moment [] once there = refl
not_due-apart session moment (x ∷ xs) once there = by (not_due-apart session moment xs once.1) (is_due moment x) refl (x.session == session) refl
  where
    alone : (x.session == session) ≡ true → has_session session xs ≡ false
    alone is = let one : x.session ≡ session = eqb-true x.session session is in rw one at once.0

    by : (has_session session (not_due_at moment xs) ≡ true → has_session session (due_at moment xs) ≡ false)
        → (due : Bool) → is_due moment x ≡ due → (is_it : Bool) → (x.session == session) ≡ is_it → has_session session (due_at moment (x ∷ xs)) ≡ false
    by rest true e true is =
        absurd (true≢false (sym (has_session-filter session (λ read. not (is_due moment read)) xs (rw e at there)) ∙ alone is))
    by rest true e false is = rw (e, is) (rest (rw e at there))
    by rest false e true is = rw e (absent-filter session (is_due moment) xs (alone is))
    by rest false e false is = rw e (rest (rw (e, is) at there))

-- ---- each record

-- each session waits once at most, and has no letter then
pub record IsQuiet (server : Server) : Type 0 where
  pub once : AreOnce server.waiting
  pub none : (session : ℕ) → has_session session server.waiting ≡ true → letter_of session server.sessions ≡ None

-- a session has no letter if it waits
abbrev pub HasNone : ℕ → Server → Type 0
HasNone session server = has_session session server.waiting ≡ true → letter_of session server.sessions ≡ None

-- its read is taken away
gone : (session : ℕ) (xs : List Waiting) → has_session session (without_session session xs) ≡ false
gone session xs = any-filter_same (λ (x : Waiting). x.session == session) (λ (x : Waiting). not (x.session == session)) false (λ x it. ap not it) xs

-- a read is taken away, and its session gets a letter
taken-none : (session number : ℕ) (given : Given) (sessions : List Session) (waiting : List Waiting)
    → (has_session session waiting ≡ true → letter_of session sessions ≡ None)
    → has_session session (without_session number waiting) ≡ true → letter_of session (with_letter number (Some given) sessions) ≡ None
taken-none session number given sessions waiting none there = by (number == session) refl
  where
    by : (test : Bool) → (number == session) ≡ test → letter_of session (with_letter number (Some given) sessions) ≡ None
    by true e =
        let same : number ≡ session = eqb-true number session e in
        absurd (true≢false (sym (rw same at there) ∙ gone session waiting))
    by false e =
        letter_of-other session number (Some given) sessions e
        ∙ none (has_session-filter session (λ read. not (read.session == number)) waiting there)

-- what a serving gave
record IsServedRead (server : Server) (index : ℕ) (given : Serving) : Type 0 where
  pub read : Waiting
  pub result : given ≡ served_as index server read (at_once server.keys server.last read.call)

serving-read : (server : Server) (index : ℕ) (given : Serving) → serving server index ≡ Some given → IsServedRead server index given
serving-read server index given is = by (first_that (λ (call : Call). not (finds_nothing server.keys server.last call)) server.waiting) refl
  where
    by : (found : Option Waiting) → first_that (λ (call : Call). not (finds_nothing server.keys server.last call)) server.waiting ≡ found → IsServedRead server index given
    by None e = absurd (let none = rw e at is in cc)
    by (Some read) e =
        let given_is = rw e at is in
        let one : Some (served_as index server read (at_once server.keys server.last read.call)) ≡ Some given = given_is in
        record { read = read; result = cc }

served-none : (session index : ℕ) (server : Server) (given : Serving) → serving server index ≡ Some given → HasNone session server → HasNone session given.server
served-none session index server given next none =
    let its = serving-read server index given next in
    let P : Serving → Type 0 = λ g. HasNone session g.server in
    subst P (sym its.result) (taken-none session its.read.session _ server.sessions server.waiting none)

served-once : (index : ℕ) (server : Server) (given : Serving) → serving server index ≡ Some given → AreOnce server.waiting → AreOnce given.server.waiting
served-once index server given next once =
    let its = serving-read server index given next in
    let P : Serving → Type 0 = λ g. AreOnce g.server.waiting in
    subst P (sym its.result) (AreOnce-filter (λ read. not (read.session == its.read.session)) server.waiting once)

-- a call leaves its session without a letter
called-none : (session moment : ℕ) (server : Server) (keys : Keys) (outcome : Outcome) → letter_of session (called session moment server keys outcome).server.sessions ≡ None
called-none session moment server keys (outcomes.Reply send keep) = letter_of-emptied session server.sessions
called-none session moment server keys (outcomes.Blocked call deadline) = letter_of-emptied session server.sessions

emptied-none : (session other : ℕ) (sessions : List Session) → ((session == other) ≡ false → letter_of other sessions ≡ None)
    → letter_of other (with_letter session None sessions) ≡ None
emptied-none session other sessions none = by (session == other) refl
  where
    by : (test : Bool) → (session == other) ≡ test → letter_of other (with_letter session None sessions) ≡ None
    by true e = let same : session ≡ other = eqb-true session other e in rw same (letter_of-emptied other sessions)
    by false e = letter_of-other other session None sessions e ∙ none e

waited-before : (session other : ℕ) (read : Waiting) (waiting : List Waiting) → read.session ≡ session → (session == other) ≡ false
    → has_session other (waiting ++ read ∷ []) ≡ true → has_session other waiting ≡ true
waited-before session other read waiting is apart there =
    let both = sym (list_any-append (λ (x : Waiting). x.session == other) waiting (read ∷ [])) ∙ there in
    by (has_session other waiting) (rw (is, apart) at both)
  where
    by : (test : Bool) → (test || (false || false)) ≡ true → test ≡ true
    by true is = refl
    by false is = is

called-quiet : (session moment : ℕ) (server : Server) (keys : Keys) (outcome : Outcome) → has_session session server.waiting ≡ false → IsQuiet server
    → IsQuiet (called session moment server keys outcome).server
called-quiet session moment server keys (outcomes.Reply send keep) absent quiet = record {
  once = quiet.once;
  none = λ other there. emptied-none session other server.sessions (λ apart. quiet.none other there);
}
called-quiet session moment server keys (outcomes.Blocked call deadline) absent quiet =
    let read : Waiting = record { session = session; call = call; deadline = deadline } in
    record {
      once = AreOnce-push server.waiting read quiet.once absent;
      none = λ other there. emptied-none session other server.sessions (λ apart. quiet.none other (waited-before session other read server.waiting refl apart there));
    }

-- so does a board, a snapshot or a verdict
heard-quiet : (server : Server) (index moment session : ℕ) (event : Event) → Asks session event → IsQuiet server → IsQuiet (acted server index moment event).server
heard-quiet server index moment session event asks quiet =
    subst IsQuiet (sym (acted-heard server index moment session event asks).leaves) (record {
      once = quiet.once;
      none = λ other there. emptied-none session other server.sessions (λ apart. quiet.none other there);
    })

acted-quiet : (server : Server) (index moment : ℕ) (event : Event) → refusal server index event ≡ None → IsQuiet server → IsQuiet (acted server index moment event).server
acted-quiet server index moment events.Join accepted quiet = record {
  once = quiet.once;
  none = λ other there. letter_of-joined other index server.sessions ∙ quiet.none other there;
}
acted-quiet server index moment (events.Call session call) accepted quiet =
    let done = executed server.keys moment call in
    called-quiet session moment server done.keys done.outcome (accepted-idle server index session call accepted).1 quiet
acted-quiet server index moment (events.Board session key group) accepted quiet =
    heard-quiet server index moment session (events.Board session key group) refl quiet
acted-quiet server index moment (events.Snapshot session key group dead) accepted quiet =
    heard-quiet server index moment session (events.Snapshot session key group dead) refl quiet
acted-quiet server index moment (events.Conclude session judged apply last) accepted quiet =
    heard-quiet server index moment session (events.Conclude session judged apply last) refl quiet
acted-quiet server index moment events.Expire accepted quiet = record {
  once = AreOnce-filter (λ read. not (is_due moment read)) server.waiting quiet.once;
  none = λ other there.
      letter_of-with_nothing other index (due_at moment server.waiting) server.sessions (not_due-apart other moment server.waiting quiet.once there)
      ∙ quiet.none other (has_session-filter other (λ read. not (is_due moment read)) server.waiting there);
}
acted-quiet server index moment (events.Leave session) accepted quiet = record {
  once = AreOnce-filter (λ read. not (read.session == session)) server.waiting quiet.once;
  none = λ other there.
      letter_of-without other session server.sessions
      (quiet.none other (has_session-filter other (λ read. not (read.session == session)) server.waiting there));
}

-- ---- records one after another

led-quiet : (index moment : ℕ) (replies : List (ℕ × ReplyParts)) (old new : Server) (act : Act) → LeadsBy act index moment replies old new → IsQuiet old → IsQuiet new
led-quiet index moment replies old new (acts.Event event) leads quiet =
    subst IsQuiet (sym leads.leaves) (acted-quiet old index moment event leads.accepted quiet)
led-quiet index moment replies old new (acts.Serve session) leads quiet = record {
  once = served-once index old _ leads.next quiet.once;
  none = λ other. served-none other index old _ leads.next (quiet.none other);
}

legal-quiet : (index : ℕ) (old : Server) (records : List Recorded) (new : Server) → Legal index old records new → IsQuiet old → IsQuiet new
legal-quiet index old [] new legal quiet = subst IsQuiet (sym legal) quiet
legal-quiet index old (first ∷ others) new legal quiet =
    legal-quiet (index + 1) legal.0 others new legal.2 (led-quiet index first.moment first.replies old legal.0 first.act legal.1.1 quiet)

-- in every state of a book, a session that waits has no letter
pub history-none : (session : ℕ) (book : BookState) → IsHistory book → HasNone session book.server
history-none session book history =
    (legal-quiet 1 (empty_server book.server.rules) (all_records book history) book.server (all-legal book history) (record { once = tt; none = λ other there. refl })).none session

led-none : (session index moment : ℕ) (replies : List (ℕ × ReplyParts)) (old new : Server) (act : Act) → is_serving act ≡ true
    → LeadsBy act index moment replies old new → HasNone session old → HasNone session new
led-none session index moment replies old new (acts.Event event) is leads none = absurd (cc)
led-none session index moment replies old new (acts.Serve other) is leads none = served-none session index old _ leads.next none

servings-none : (session index : ℕ) (old : Server) (records : List Recorded) (new : Server) → AreServings records → Legal index old records new
    → HasNone session old → HasNone session new
servings-none session index old [] new all legal none =
    let P : Server → Type 0 = HasNone session in
    subst P (sym legal) none
servings-none session index old (first ∷ others) new all legal none =
    servings-none session (index + 1) legal.0 others new all.1 legal.2
    (led-none session index first.moment first.replies old legal.0 first.act all.0 legal.1.1 none)

-- after a call, with the servings that follow it
pub stepped-none : (session : ℕ) (old : BookState) (told : ℕ) (call : Call) (answer : Answer) (new : BookState)
    → IsStepped old told (events.Call session call) answer new → HasNone session new.server
stepped-none session old told call answer new stepped =
    let done = executed old.server.keys (next_moment old told) call in
    servings-none session (next_index old + 1) (event_server old told (events.Call session call)) stepped.servings new.server stepped.served stepped.legal
    (λ there. called-none session (next_moment old told) old.server done.keys done.outcome)

-- so a session that was given a letter is open and does not wait
pub lettered-idle : (session : ℕ) (letter : Letter) (server : Server) → HasNone session server → letter_for session server ≡ Some letter → IsIdleIn session server
lettered-idle session letter server none is = (
  by (letter_of session server.sessions) refl is,
  in_case (has_session session server.waiting) refl,
)
  where
    by : (given : Option Given) → letter_of session server.sessions ≡ given
        → option_map (λ (g : Given). record { index = g.index; session = session; reply = g.reply }) given ≡ Some letter → is_open session server.sessions ≡ true
    by None e none_is = absurd (cc)
    by (Some given) e some = letter-open session given server.sessions e

    in_case : (test : Bool) → has_session session server.waiting ≡ test → test ≡ false
    in_case false there = refl
    in_case true there = absurd (let none_is = rw (none there) at is in cc)
