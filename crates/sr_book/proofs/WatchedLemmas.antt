-- If no waiting read had an answer, none has one after a read and after an event that leaves the streams, and after a call on
-- one key, or a plan, those that have one have it from their streams at this key. What is served changes neither.
use Rattle.std.proofs.Common.{◌≡◌, ℕ, Bool, true, false, cond, ◌&&◌, ◌||◌, not, List, [], ◌∷◌, ◌++◌, filter, Option, Some, None, refl, ap, sym, subst, ◌∙◌, true≢false}
use Rattle.std.specs.Prelude.{Result, Ok, Err, IfNone, IfSome, IfOk, OnErr, is_none, ◌==◌}
use Rattle.std.specs.List.{AllByRecursion}
use Rattle.std.specs.declared.alloc.AllocError.{AllocError}
use Rattle.sr_args.specs.declared.call.Call.{Call}
use Rattle.sr_args.specs.declared.call.Call.TheVariants as calls
use Rattle.sr_check.specs.{verdict_answer}
use Rattle.sr_plan.specs.{BatchState, batches_in, calls_for, claim_call, Judged}
use Rattle.sr_policy.specs.{Text, same, SnapshotState}
use Rattle.sr_space.specs.{executed, finds_nothing, after_calls, at_once, read_at, snapped}
use Rattle.sr_space.specs.Keys.{Key, Keys}
use Rattle.sr_space.specs.Effect.{key_of}
use Rattle.sr_space.specs.Readers.{is_read, read_beside}
use Rattle.sr_space.specs.declared.blocking.Outcome.{Outcome}
use Rattle.sr_space.specs.declared.blocking.Outcome.TheVariants as outcomes
use Rattle.sr_space.specs.declared.snap.SnapFault.{SnapFault}
use Rattle.sr_space.proofs.ApartLaws.{finds-apart, finds-beside, unasked-nothing}
use Rattle.sr_space.proofs.QuietLaws.{read-finds}
use Rattle.sr_space.proofs.ReaderLaws.{finds-moment, finds-still}
use Rattle.sr_space.proofs.WaitingLaws.{waiting-nothing}
use Rattle.sr_waiters.specs.{Waiting, asks, first_that, is_due, session_of}
use Rattle.sr_book.specs.declared.effect.Served.{Served}
use Rattle.sr_book.specs.declared.event.Event.{Event}
use Rattle.sr_book.specs.declared.event.Event.TheVariants as events
use Rattle.sr_book.specs.declared.watched.Ready.{Ready}
use Rattle.sr_book.specs.declared.watched.Ready.TheVariants.{Nobody, At, Unknown}
use Rattle.sr_book.specs.Records.{IsSettled}
use Rattle.sr_book.specs.Server.{Server, Serving, acted, called, concluded, fresh_snapshot, keys_after, outdated, replied, served, serving, snapped_for}
use Rattle.sr_book.specs.Watched.{AreQuietBeside, IsBound, IsKnown, IsQuietAt, wakes_nobody, woken_at}

-- ---- no read passes a test

abbrev NonePass : (Call → Bool) → List Waiting → Type 0
NonePass test waiting = first_that test waiting ≡ None

none-head : (test : Bool) (read : Waiting) (rest : Option Waiting) → cond test (Some read) rest ≡ None → (test ≡ false) × (rest ≡ None)
none-head true read rest none = cc
none-head false read rest none = (refl, none)

none-cons : (test : Call → Bool) (read : Waiting) (waiting : List Waiting) → test read.call ≡ false → NonePass test waiting → NonePass test (read ∷ waiting)
none-cons test read waiting fails none = rw fails none

none-filter : (test : Call → Bool) (kept : Waiting → Bool) (waiting : List Waiting) → NonePass test waiting → NonePass test (filter kept waiting)
none-filter test kept [] none = refl
none-filter test kept (read ∷ waiting) none =
    let parts = none-head (test read.call) read (first_that test waiting) none in
    by (none-filter test kept waiting parts.1) parts.0 (kept read) refl
  where
    by : NonePass test (filter kept waiting) → test read.call ≡ false → (keeps : Bool) → kept read ≡ keeps → NonePass test (filter kept (read ∷ waiting))
    by rest fails true is = rw is (none-cons test read (filter kept waiting) fails rest)
    by rest fails false is = rw is rest

none-append : (test : Call → Bool) (waiting : List Waiting) (last : Waiting) → NonePass test waiting → test last.call ≡ false → NonePass test (waiting ++ last ∷ [])
none-append test [] last none fails = none-cons test last [] fails refl
none-append test (read ∷ waiting) last none fails =
    let parts = none-head (test read.call) read (first_that test waiting) none in
    none-cons test read (waiting ++ last ∷ []) parts.0 (none-append test waiting last parts.1 fails)

none-front : (test : Call → Bool) (waiting behind : List Waiting) → NonePass test (waiting ++ behind) → NonePass test waiting
none-front test [] behind none = refl
none-front test (read ∷ waiting) behind none =
    let parts = none-head (test read.call) read (first_that test (waiting ++ behind)) none in
    none-cons test read waiting parts.0 (none-front test waiting behind parts.1)

-- ---- no read has an answer

abbrev ready : Keys → ℕ → Call → Bool
ready keys moment call = not (finds_nothing keys moment call)

abbrev NoneReady : Keys → ℕ → List Waiting → Type 0
NoneReady keys moment waiting = NonePass (ready keys moment) waiting

none-later : (keys : Keys) (moment later : ℕ) (waiting : List Waiting) → NoneReady keys moment waiting → NoneReady keys later waiting
none-later keys moment later [] none = refl
none-later keys moment later (read ∷ waiting) none =
    let parts = none-head (ready keys moment read.call) read (first_that (ready keys moment) waiting) none in
    none-cons (ready keys later) read waiting (ap not (finds-moment keys moment later read.call) ∙ parts.0) (none-later keys moment later waiting parts.1)

-- ---- a read and its streams at a key and beside it

both : (a b : Bool) → (a && b) ≡ true → (a ≡ true) × (b ≡ true)
both true b e = (refl, e)
both false b e = cc

not-false : (b : Bool) → not b ≡ false → b ≡ true
not-false true e = refl
not-false false e = cc

and-true : (a b : Bool) → b ≡ true → (a && b) ≡ a
and-true true b e = e
and-true false b e = refl

-- the read asks the stream at the key and has an answer from it; and it has none from its other streams
abbrev ready_at : Key → Keys → ℕ → Call → Bool
ready_at key keys moment call = asks key call && not (finds_nothing keys moment (read_at key call))

abbrev IsBeside : Key → Keys → ℕ → Waiting → Type 0
IsBeside key keys moment read = finds_nothing keys moment (read_beside key read.call) ≡ true

abbrev AreBeside : Key → Keys → ℕ → List Waiting → Type 0
AreBeside key keys moment waiting = AllByRecursion (IsBeside key keys moment) waiting

one-beside : (key : Key) (keys : Keys) (moment : ℕ) (call : Call) → finds_nothing keys moment call ≡ true → finds_nothing keys moment (read_beside key call) ≡ true
one-beside key keys moment call none =
    (both (finds_nothing keys moment (read_at key call)) (finds_nothing keys moment (read_beside key call)) (sym (finds-apart keys moment key call) ∙ none)).1

-- a read that does not ask the stream at the key then has no answer
unasked : (key : Key) (keys : Keys) (moment : ℕ) (call : Call) → asks key call ≡ false → finds_nothing keys moment (read_beside key call) ≡ true → finds_nothing keys moment (read_at key call) ≡ true
unasked key keys moment (calls.Xread read) apart beside = unasked-nothing keys moment key (calls.Xread read) apart
unasked key keys moment (calls.Xreadgroup read) apart beside = unasked-nothing keys moment key (calls.Xreadgroup read) apart
unasked key keys moment call apart beside = beside

only-asked : (a b : Bool) → (a ≡ false → b ≡ true) → not b ≡ (a && not b)
only-asked true b nothing = refl
only-asked false b nothing = ap not (nothing refl)

-- so the reads that have an answer are those that ask the stream at the key and have one there
first-beside : (key : Key) (keys : Keys) (moment : ℕ) (waiting : List Waiting) → AreBeside key keys moment waiting → first_that (ready keys moment) waiting ≡ first_that (ready_at key keys moment) waiting
first-beside key keys moment [] beside = refl
first-beside key keys moment (read ∷ waiting) beside =
    let at = finds_nothing keys moment (read_at key read.call) in
    let same : ready keys moment read.call ≡ ready_at key keys moment read.call =
    ap not (finds-apart keys moment key read.call ∙ and-true at (finds_nothing keys moment (read_beside key read.call)) beside.0)
    ∙ only-asked (asks key read.call) at (λ apart. unasked key keys moment read.call apart beside.0) in
    ap (λ (b : Bool). cond b (Some read) (first_that (ready keys moment) waiting)) same
    ∙ ap (cond (ready_at key keys moment read.call) (Some read)) (first-beside key keys moment waiting beside.1)

-- ---- lists of reads

module _ (P : Waiting → Type 0) where
  all-append : (waiting : List Waiting) (last : Waiting) → AllByRecursion P waiting → P last → AllByRecursion P (waiting ++ last ∷ [])
  all-append [] last all is = (is, tt)
  all-append (read ∷ waiting) last all is = (all.0, all-append waiting last all.1 is)

  all-filter : (kept : Waiting → Bool) (waiting : List Waiting) → AllByRecursion P waiting → AllByRecursion P (filter kept waiting)
  all-filter kept [] all = tt
  all-filter kept (read ∷ waiting) all = by (kept read) all.0 (all-filter kept waiting all.1)
    where
      by : (keeps : Bool) → P read → AllByRecursion P (filter kept waiting) → AllByRecursion P (cond keeps (read ∷ filter kept waiting) (filter kept waiting))
      by true is rest = (is, rest)
      by false is rest = rest

  all-first : (test : Call → Bool) (waiting : List Waiting) (read : Waiting) → AllByRecursion P waiting → first_that test waiting ≡ Some read → P read
  all-first test [] read all found = cc
  all-first test (first ∷ waiting) read all found = by (test first.call) found (all-first test waiting read all.1)
    where
      by : (passes : Bool) → cond passes (Some first) (first_that test waiting) ≡ Some read → (first_that test waiting ≡ Some read → P read) → P read
      by true found rest = let same : first ≡ read = cc in subst P same all.0
      by false found rest = rest found

-- ---- a call

module _ (keys : Keys) (moment before later : ℕ) (call : Call) where
  abbrev after : Keys
  after = (executed keys moment call).keys

  -- a read leaves no answer
  quiet-after : (waiting : List Waiting) → is_read call ≡ true → NoneReady keys before waiting → NoneReady after later waiting
  quiet-after [] is was = refl
  quiet-after (read ∷ waiting) is was =
      let parts = none-head (ready keys before read.call) read (first_that (ready keys before) waiting) was in
      none-cons (ready after later) read waiting (ap not (finds-still keys moment before later call read.call is (not-false (finds_nothing keys before read.call) parts.0))) (quiet-after waiting is parts.1)

  -- and a call on one key leaves none beside it
  beside-after : (key : Key) (waiting : List Waiting) → key_of call ≡ Some key → NoneReady keys before waiting → AreBeside key after later waiting
  beside-after key [] is was = tt
  beside-after key (read ∷ waiting) is was =
      let parts = none-head (ready keys before read.call) read (first_that (ready keys before) waiting) was in
      (finds-beside keys moment before later call read.call key is ∙ one-beside key keys before read.call (not-false (finds_nothing keys before read.call) parts.0), beside-after key waiting is parts.1)

-- ---- the claims of a plan

module _ (key : Key) (keys : Keys) (moment : ℕ) where
  -- what finds nothing finds nothing beside a key
  beside-still : (waiting : List Waiting) → NoneReady keys moment waiting → AreBeside key keys moment waiting
  beside-still [] was = tt
  beside-still (read ∷ waiting) was =
      let parts = none-head (ready keys moment read.call) read (first_that (ready keys moment) waiting) was in
      (one-beside key keys moment read.call (not-false (finds_nothing keys moment read.call) parts.0), beside-still waiting parts.1)

  -- and a claim at the key changes nothing beside it
  beside-claim : (name : Text) (batch : BatchState) (waiting : List Waiting) → AreBeside key keys moment waiting
      → AreBeside key (at_once keys moment (claim_call key name batch)).keys moment waiting
  beside-claim name batch [] is = tt
  beside-claim name batch (read ∷ waiting) is =
      (finds-beside keys moment moment moment (claim_call key name batch) read.call key refl ∙ is.0, beside-claim name batch waiting is.1)

beside-claims : (key : Key) (moment : ℕ) (name : Text) (batches : List BatchState) (keys : Keys) (waiting : List Waiting) → AreBeside key keys moment waiting
    → AreBeside key (after_calls moment (calls_for key name batches) keys) moment waiting
beside-claims key moment name [] keys waiting is = is
beside-claims key moment name (batch ∷ batches) keys waiting is =
    beside-claims key moment name batches (at_once keys moment (claim_call key name batch)).keys waiting (beside-claim key keys moment name batch waiting is)

-- ---- events

module _ (old : Server) (moment : ℕ) (settled : IsSettled old) where
  -- the keys stay
  stays : NoneReady old.keys moment old.waiting
  stays = none-later old.keys old.last moment old.waiting settled

  settled-snapped : (session : ℕ) (found : Result SnapshotState SnapFault) → IsSettled (snapped_for session moment old found).server
  settled-snapped session (Ok shown) = stays
  settled-snapped session (Err fault) = stays

  abbrev done : Call → Keys
  done call = (executed old.keys moment call).keys

  settled-read : (session : ℕ) (call : Call) → is_read call ≡ true → (outcome : Outcome) → (executed old.keys moment call).outcome ≡ outcome
      → IsSettled (called session moment old (done call) outcome).server
  settled-read session call is (outcomes.Reply send keep) e = quiet-after old.keys moment old.last moment call old.waiting is settled
  settled-read session call is (outcomes.Blocked again deadline) e =
      let read : Waiting = record { session = session; call = again; deadline = deadline } in
      none-append (ready (done call) moment) old.waiting read (quiet-after old.keys moment old.last moment call old.waiting is settled)
      (ap not (waiting-nothing old.keys moment moment call again deadline e))

  settled-call : (session : ℕ) (call : Call) (reads : Bool) → is_read call ≡ reads → (key : Option Key) → key_of call ≡ key → (reads || is_none key) ≡ true
      → IsSettled (called session moment old (done call) (executed old.keys moment call).outcome).server
  settled-call session call true is key at quiet = settled-read session call is (executed old.keys moment call).outcome refl
  settled-call session call false is (Some key) at quiet = cc
  settled-call session (calls.Ping call) false is None at quiet = stays
  settled-call session call false is None at quiet = cc

  -- a plan that is not to be carried out
  settled-concluded : (session : ℕ) (judged : Judged) (last : Bool) (found : Result SnapshotState SnapFault)
      → IsSettled (concluded session moment false last judged old found).server
  settled-concluded session judged last (Err fault) = stays
  settled-concluded session judged last (Ok shown) = by (same shown judged.snapshot) last
    where
      by : (holds final : Bool) → IsSettled
          (cond holds (replied session moment old old.keys (verdict_answer judged.snapshot judged.answer false)) (outdated session moment final old shown)).server
      by true final = stays
      by false true = stays
      by false false = stays

  settled-unless : (session : ℕ) (judged : Judged) (apply last : Bool) → not apply ≡ true
      → IsSettled (concluded session moment apply last judged old (fresh_snapshot old judged.snapshot)).server
  settled-unless session judged true last quiet = cc
  settled-unless session judged false last quiet = settled-concluded session judged last (fresh_snapshot old judged.snapshot)

  pub settled-stays : (index : ℕ) (event : Event) → wakes_nobody event ≡ true → IsSettled (acted old index moment event).server
  settled-stays index events.Join quiet = stays
  settled-stays index (events.Call session call) quiet = settled-call session call (is_read call) refl (key_of call) refl quiet
  settled-stays index (events.Board session key group) quiet = stays
  settled-stays index (events.Snapshot session key group dead) quiet = settled-snapped session (snapped old.rules old.keys key group dead)
  settled-stays index (events.Conclude session judged apply last) quiet = settled-unless session judged apply last quiet
  settled-stays index events.Expire quiet = none-filter (ready old.keys moment) (λ read. not (is_due moment read)) old.waiting stays
  settled-stays index (events.Leave session) quiet = none-filter (ready old.keys moment) (λ read. not (read.session == session)) old.waiting stays

  beside-called : (session : ℕ) (call : Call) (key : Key) → key_of call ≡ Some key → (outcome : Outcome) → (executed old.keys moment call).outcome ≡ outcome
      → AreQuietBeside key (called session moment old (done call) outcome).server
  beside-called session call key is (outcomes.Reply send keep) e = beside-after old.keys moment old.last moment call key old.waiting is settled
  beside-called session call key is (outcomes.Blocked again deadline) e =
      let read : Waiting = record { session = session; call = again; deadline = deadline } in
      all-append (IsBeside key (done call) moment) old.waiting read (beside-after old.keys moment old.last moment call key old.waiting is settled)
      (one-beside key (done call) moment again (waiting-nothing old.keys moment moment call again deadline e))

  beside-concluded : (session : ℕ) (judged : Judged) (apply last : Bool) (found : Result SnapshotState SnapFault)
      → AreQuietBeside judged.snapshot.key (concluded session moment apply last judged old found).server
  beside-concluded session judged apply last (Err fault) = beside-still judged.snapshot.key old.keys moment old.waiting stays
  beside-concluded session judged apply last (Ok shown) = by (same shown judged.snapshot) apply last
    where
      key : Key
      key = judged.snapshot.key

      still : AreBeside key old.keys moment old.waiting
      still = beside-still key old.keys moment old.waiting stays

      by : (holds carried final : Bool) → AreQuietBeside key
          (cond holds (replied session moment old (keys_after carried moment judged old.keys) (verdict_answer judged.snapshot judged.answer carried)) (outdated session moment final old shown)).server
      by true true final = beside-claims key moment judged.snapshot.group (batches_in judged.snapshot judged.answer) old.keys old.waiting still
      by true false final = still
      by false carried true = still
      by false carried false = still

  pub beside-acted : (index : ℕ) (event : Event) (key : Key) → woken_at event ≡ Some key → AreQuietBeside key (acted old index moment event).server
  beside-acted index (events.Call session call) key is = beside-called session call key is (executed old.keys moment call).outcome refl
  beside-acted index (events.Conclude session judged apply last) key is =
      let same-key : judged.snapshot.key ≡ key = cc in
      subst (λ (k : Key). AreQuietBeside k (concluded session moment apply last judged old (fresh_snapshot old judged.snapshot)).server) same-key
      (beside-concluded session judged apply last (fresh_snapshot old judged.snapshot))
  beside-acted index event key is = cc

-- ---- what is known

module _ (server : Server) where
  pub known-nobody : IsSettled server → IsKnown Nobody server
  known-nobody settled = record { bound = settled; nobody = (λ _. settled, λ _. refl) }

  pub known-unknown : (IsSettled server → ⊥) → IsKnown Unknown server
  known-unknown some = record { bound = tt; nobody = (λ is. absurd (true≢false (sym is)), λ settled. absurd (some settled)) }

  module _ (key : Key) (beside : AreQuietBeside key server) where
    pub quiet-settled : IsQuietAt key server → IsSettled server
    quiet-settled quiet = first-beside key server.keys server.last server.waiting beside ∙ quiet

    pub settled-quiet : IsSettled server → IsQuietAt key server
    settled-quiet settled = sym (first-beside key server.keys server.last server.waiting beside) ∙ settled

    pub known-at : (copy : Key) → copy ≡ key → (IsQuietAt key server → ⊥) → IsKnown (At copy) server
    known-at copy same some = record {
      bound = subst (λ (k : Key). AreQuietBeside k server) (sym same) beside;
      nobody = (λ is. absurd (true≢false (sym is)), λ settled. absurd (some (settled-quiet settled)));
    }

    -- the first read that has an answer is the first that has one at the key
    pub first-at : first_that (ready server.keys server.last) server.waiting ≡ first_that (ready_at key server.keys server.last) server.waiting
    first-at = first-beside key server.keys server.last server.waiting beside

-- ---- a serving

-- the session of the first read that has an answer at the key is that of the first that has one
module _ (key : Key) (server : Server) (found : Option ℕ) (beside : AreQuietBeside key server) (is : found ≡ session_of (first_that (ready_at key server.keys server.last) server.waiting)) where
  found-ready : found ≡ session_of (first_that (ready server.keys server.last) server.waiting)
  found-ready = is ∙ ap session_of (sym (first-at server key beside))

  pub serves-first : (session : ℕ) → found ≡ Some session → Some session ≡ session_of (first_that (ready server.keys server.last) server.waiting)
  serves-first session one = sym one ∙ found-ready

  pub serves-none : (index : ℕ) → found ≡ None → serving server index ≡ None
  serves-none index none = by (first_that (ready server.keys server.last) server.waiting) refl (sym none ∙ found-ready)
    where
      by : (first : Option Waiting) → first_that (ready server.keys server.last) server.waiting ≡ first → None ≡ session_of first → serving server index ≡ None
      by None e same = rw e refl
      by (Some read) e same = absurd (cc)

-- a waiting read that finds nothing beside a key is a read
waits-reading : (key : Key) (keys : Keys) (moment : ℕ) (call : Call) → finds_nothing keys moment (read_beside key call) ≡ true → is_read call ≡ true
waits-reading key keys moment (calls.Xread read) beside = refl
waits-reading key keys moment (calls.Xreadgroup read) beside = refl
waits-reading key keys moment call beside = cc

beside-read : (key : Key) (keys : Keys) (moment : ℕ) (call : Call) (waiting : List Waiting) → is_read call ≡ true → AreBeside key keys moment waiting → AreBeside key (at_once keys moment call).keys moment waiting
beside-read key keys moment call [] is beside = tt
beside-read key keys moment call (read ∷ waiting) is beside =
    (read-finds keys moment moment moment call (read_beside key read.call) is beside.0, beside-read key keys moment call waiting is beside.1)

beside-served : (key : Key) (server : Server) (index : ℕ) (given : Serving) → AreQuietBeside key server → serving server index ≡ Some given → AreQuietBeside key given.server
beside-served key server index given beside is = by (first_that (ready server.keys server.last) server.waiting) refl
  where
    by : (found : Option Waiting) → first_that (ready server.keys server.last) server.waiting ≡ found → AreQuietBeside key given.server
    by None e = absurd (let none = rw e at is in cc)
    by (Some read) e =
        let found : Some (served index server read (at_once server.keys server.last read.call)) ≡ Some given = rw e at is in
        let same : served index server read (at_once server.keys server.last read.call) ≡ given = cc in
        let reads = waits-reading key server.keys server.last read.call (all-first (IsBeside key server.keys server.last) (ready server.keys server.last) server.waiting read beside e) in
        let left = all-filter (IsBeside key (at_once server.keys server.last read.call).keys server.last) (λ other. not (other.session == read.session)) server.waiting
        (beside-read key server.keys server.last read.call server.waiting reads beside) in
        subst (λ (s : Serving). AreQuietBeside key s.server) same left

pub bound-served : (ready : Ready) (server : Server) (index : ℕ) (given : Serving) → IsBound ready server → serving server index ≡ Some given → IsBound ready given.server
bound-served Nobody server index given bound is = absurd (let none = rw bound at is in cc)
bound-served (At key) server index given bound is = beside-served key server index given bound is
bound-served Unknown server index given bound is = tt

-- whatever is answered
pub bound-after : (ready : Ready) (old new : Server) (index : ℕ) (result : Result (Option Served) AllocError) → IsBound ready old
    → IfOk result (λ served. IfSome served (λ s. serving old index ≡ Some (record { session = s.session; reply = s.reply; server = new })))
    → IfOk result (λ served. IfNone served (new ≡ old)) → OnErr result (new ≡ old) → IsBound ready new
bound-after ready old new index (Ok (Some s)) bound some none err = bound-served ready old index (record { session = s.session; reply = s.reply; server = new }) bound some
bound-after ready old new index (Ok None) bound some none err = subst (IsBound ready) (sym none) bound
bound-after ready old new index (Err fault) bound some none err = subst (IsBound ready) (sym err) bound
