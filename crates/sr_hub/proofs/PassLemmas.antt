-- One record in which a session says nothing: it goes on as it stands and is sent nothing; or it waits, is sent one reply, which is its letter, and waits no longer.
use Rattle.std.proofs.Common.{◌≡◌, ◌==◌, ◌⊎◌, inl, inr, ℕ, Bool, true, false, cond, not, ◌||◌, List, [], ◌∷◌, ◌++◌, filter, Option, Some, None, refl, ap, sym, subst, ◌∙◌, true≢false}
use Rattle.std.proofs.lemmas.Bool.{eq-eqb, eqb-true}
use Rattle.std.proofs.lemmas.List.Folds.{list_any-append}
use Rattle.std.proofs.lemmas.Map.Views.{any-filter_same}
use Rattle.sr_args.specs.declared.call.Call.{Call}
use Rattle.sr_resp.specs.Reply.{ReplyParts, null_array}
use Rattle.sr_space.specs.{executed}
use Rattle.sr_space.specs.Keys.{Keys}
use Rattle.sr_space.specs.declared.blocking.Outcome.{Outcome}
use Rattle.sr_space.specs.declared.blocking.Outcome.TheVariants as outcomes
use Rattle.sr_waiters.specs.{AreOnce, Waiting, due_at, has_session, is_due, not_due_at, without_session}
use Rattle.sr_book.specs.Taken.{nothing_for}
use Rattle.sr_book.specs.{Given, is_open, letter_of}
use Rattle.sr_book.specs.Server.{Server, Serving, Session, acted, called, expired, joined, left, serving, speaker, with_letter, with_nothing, without}
use Rattle.sr_book.specs.Records.{LeadsBy, to_session}
use Rattle.sr_book.specs.declared.event.Act.{Act}
use Rattle.sr_book.specs.declared.event.Act.TheVariants as acts
use Rattle.sr_book.specs.declared.event.Event.{Event}
use Rattle.sr_book.specs.declared.event.Event.TheVariants as events
use Rattle.sr_book.specs.declared.event.Out.{Out}
use Rattle.sr_book.specs.declared.event.Out.TheVariants as outs
use Rattle.sr_book.proofs.HeardLemmas.{Asks, SendsAnswer, acted-heard}
use Rattle.sr_book.proofs.OpenLemmas.{has_session-filter, is_open-with_letter, is_open-with_nothing}
use Rattle.sr_book.proofs.ServeLemmas.{serving-read}
use Rattle.sr_session.proofs.LetterLemmas.{letter_of-other}
use Rattle.sr_hub.specs.OneRequest.{is_by, said_in}
use Rattle.sr_hub.proofs.SoundLemmas.{IsSound, once-filter}

-- ---- how a session goes on

-- it is sent nothing, and goes on as it stood
pub record IsKept (session : ℕ) (old : Server) (sent : List ReplyParts) (new : Server) : Type 0 where
  pub opened : is_open session old.sessions ≡ true → is_open session new.sessions ≡ true
  pub waits : has_session session new.waiting ≡ has_session session old.waiting
  pub letter : letter_of session new.sessions ≡ letter_of session old.sessions
  pub silent : sent ≡ []

-- it waited, and it is sent its letter
pub record IsGiven (session : ℕ) (old : Server) (sent : List ReplyParts) (new : Server) : Type 0 where
  pub waited : has_session session old.waiting ≡ true
  pub given : Given
  pub opened : is_open session old.sessions ≡ true → is_open session new.sessions ≡ true
  pub absent : has_session session new.waiting ≡ false
  pub letter : letter_of session new.sessions ≡ Some given
  pub told : sent ≡ given.reply ∷ []

abbrev pub Passes : ℕ → Server → List ReplyParts → Server → Type 0
Passes session old sent new = IsKept session old sent new ⊎ IsGiven session old sent new

-- ---- what is sent to a session

sent-other : (session other : ℕ) (reply : ReplyParts) → (other == session) ≡ false → to_session session ((other, reply) ∷ []) ≡ []
sent-other session other reply apart = rw apart refl

sent-own : (session : ℕ) (reply : ReplyParts) → to_session session ((session, reply) ∷ []) ≡ reply ∷ []
sent-own session reply = rw (eq-eqb session session refl) refl

-- ---- letters

letter_of-own : (session : ℕ) (given : Given) (xs : List Session) → is_open session xs ≡ true → letter_of session (with_letter session (Some given) xs) ≡ Some given
letter_of-own session given [] opened = absurd (true≢false (sym opened))
letter_of-own session given (x ∷ xs) opened = by (letter_of-own session given xs) (x.number == session) refl
  where
    by : (is_open session xs ≡ true → letter_of session (with_letter session (Some given) xs) ≡ Some given) → (test : Bool) → (x.number == session) ≡ test
        → letter_of session (with_letter session (Some given) (x ∷ xs)) ≡ Some given
    by rest true e = rw (e, eq-eqb session session refl) refl
    by rest false e = rw (e, e) (rest (rw e at opened))

either_none : (test : Bool) (letter : Option Given) → cond test letter letter ≡ letter
either_none true letter = refl
either_none false letter = refl

letter_of-joined : (session index : ℕ) (xs : List Session) → letter_of session (xs ++ record { number = index; letter = None } ∷ []) ≡ letter_of session xs
letter_of-joined session index [] = either_none (index == session) None
letter_of-joined session index (x ∷ xs) = ap (λ (l : Option Given). cond (x.number == session) x.letter l) (letter_of-joined session index xs)

is_open-joined : (session : ℕ) (xs : List Session) (x : Session) → is_open session xs ≡ true → is_open session (xs ++ x ∷ []) ≡ true
is_open-joined session xs x opened = list_any-append (λ (y : Session). y.number == session) xs (x ∷ []) ∙ rw opened refl

-- another session leaves
is_open-without : (session other : ℕ) (xs : List Session) → (other == session) ≡ false → is_open session xs ≡ true → is_open session (without other xs) ≡ true
is_open-without session other xs apart opened =
    any-filter_same (λ (x : Session). x.number == session) (λ (x : Session). not (x.number == other)) true (λ x it. stays x it) xs ∙ opened
  where
    stays : (x : Session) → (x.number == session) ≡ true → not (x.number == other) ≡ true
    stays x it = by (x.number == other) refl
      where
        by : (test : Bool) → (x.number == other) ≡ test → not test ≡ true
        by false e = refl
        by true e =
            let one : x.number ≡ session = eqb-true x.number session it in
            let two : x.number ≡ other = eqb-true x.number other e in
            absurd (true≢false (sym (eq-eqb other session (sym two ∙ one)) ∙ apart))

letter_of-without : (session other : ℕ) (xs : List Session) → (other == session) ≡ false → letter_of session (without other xs) ≡ letter_of session xs
letter_of-without session other [] apart = refl
letter_of-without session other (x ∷ xs) apart = by (letter_of-without session other xs apart) (x.number == other) refl
  where
    by : letter_of session (without other xs) ≡ letter_of session xs → (gone : Bool) → (x.number == other) ≡ gone
        → letter_of session (without other (x ∷ xs)) ≡ letter_of session (x ∷ xs)
    by rest true e =
        let same : x.number ≡ other = eqb-true x.number other e in
        let not_it : (x.number == session) ≡ false = rw same apart in
        rw (e, not_it) rest
    by rest false e = rw e (ap (λ (l : Option Given). cond (x.number == session) x.letter l) rest)

-- ---- reads that wait

has_session-pushed : (session other : ℕ) (call : Call) (deadline : Option ℕ) (xs : List Waiting) → (other == session) ≡ false
    → has_session session (xs ++ record { session = other; call = call; deadline = deadline } ∷ []) ≡ has_session session xs
has_session-pushed session other call deadline xs apart =
    list_any-append (λ (y : Waiting). y.session == session) xs (record { session = other; call = call; deadline = deadline } ∷ []) ∙ rw apart (or_false (has_session session xs))
  where
    or_false : (test : Bool) → (test || false) ≡ test
    or_false true = refl
    or_false false = refl

has_session-without : (session other : ℕ) (xs : List Waiting) → (other == session) ≡ false → has_session session (without_session other xs) ≡ has_session session xs
has_session-without session other [] apart = refl
has_session-without session other (x ∷ xs) apart = by (has_session-without session other xs apart) (x.session == other) refl
  where
    by : has_session session (without_session other xs) ≡ has_session session xs → (gone : Bool) → (x.session == other) ≡ gone
        → has_session session (without_session other (x ∷ xs)) ≡ has_session session (x ∷ xs)
    by rest true e =
        let same : x.session ≡ other = eqb-true x.session other e in
        let not_it : (x.session == session) ≡ false = rw same apart in
        rw (e, not_it) rest
    by rest false e = rw e (ap (λ (b : Bool). (x.session == session) || b) rest)

gone : (session : ℕ) (xs : List Waiting) → has_session session (without_session session xs) ≡ false
gone session xs = any-filter_same (λ (x : Waiting). x.session == session) (λ (x : Waiting). not (x.session == session)) false (λ x it. ap not it) xs

-- ---- reads that are due

-- a session that does not wait is not among those that are left
absent-filter : (session : ℕ) (keeps : Waiting → Bool) (xs : List Waiting) → has_session session xs ≡ false → has_session session (filter keeps xs) ≡ false
absent-filter session keeps xs none = by (has_session session (filter keeps xs)) refl
  where
    by : (test : Bool) → has_session session (filter keeps xs) ≡ test → test ≡ false
    by true is = absurd (true≢false (sym (has_session-filter session keeps xs is) ∙ none))
    by false is = refl

-- a read that is due does not go on waiting
due-alone : (session moment : ℕ) (xs : List Waiting) → AreOnce xs → has_session session (due_at moment xs) ≡ true → has_session session (not_due_at moment xs) ≡ false
due-alone session moment [] once there = refl
due-alone session moment (x ∷ xs) once there = by (due-alone session moment xs once.1) (is_due moment x) refl (x.session == session) refl
  where
    alone : (x.session == session) ≡ true → has_session session xs ≡ false
    alone is = let one : x.session ≡ session = eqb-true x.session session is in rw one at once.0

    by : (has_session session (due_at moment xs) ≡ true → has_session session (not_due_at moment xs) ≡ false)
        → (due : Bool) → is_due moment x ≡ due → (is_it : Bool) → (x.session == session) ≡ is_it → has_session session (not_due_at moment (x ∷ xs)) ≡ false
    by rest true e true is = rw e (absent-filter session (λ read. not (is_due moment read)) xs (alone is))
    by rest true e false is = rw e (rest (rw (e, is) at there))
    by rest false e true is = absurd (true≢false (sym (has_session-filter session (is_due moment) xs (rw e at there)) ∙ alone is))
    by rest false e false is = rw (e, is) (rest (rw e at there))

-- one that is not due does
not_due-there : (session moment : ℕ) (xs : List Waiting) → has_session session xs ≡ true → has_session session (due_at moment xs) ≡ false → has_session session (not_due_at moment xs) ≡ true
not_due-there session moment [] there absent = absurd (true≢false (sym there))
not_due-there session moment (x ∷ xs) there absent = by (not_due-there session moment xs) (is_due moment x) refl (x.session == session) refl
  where
    by : (has_session session xs ≡ true → has_session session (due_at moment xs) ≡ false → has_session session (not_due_at moment xs) ≡ true)
        → (due : Bool) → is_due moment x ≡ due → (is_it : Bool) → (x.session == session) ≡ is_it → has_session session (not_due_at moment (x ∷ xs)) ≡ true
    by rest true e true is = absurd (true≢false (rw (e, is) at absent))
    by rest true e false is = rw e (rest (rw is at there) (rw (e, is) at absent))
    by rest false e true is = rw (e, is) refl
    by rest false e false is = rw (e, is) (rest (rw is at there) (rw e at absent))

not_due-same : (session moment : ℕ) (xs : List Waiting) → has_session session (due_at moment xs) ≡ false → has_session session (not_due_at moment xs) ≡ has_session session xs
not_due-same session moment xs absent = by (has_session session xs) refl
  where
    by : (test : Bool) → has_session session xs ≡ test → has_session session (not_due_at moment xs) ≡ test
    by true is = not_due-there session moment xs is absent
    by false is = absent-filter session (λ read. not (is_due moment read)) xs is

letter_of-not_due : (session index : ℕ) (due : List Waiting) (xs : List Session) → has_session session due ≡ false
    → letter_of session (with_nothing index due xs) ≡ letter_of session xs
letter_of-not_due session index [] xs absent = refl
letter_of-not_due session index (read ∷ due) xs absent =
    by (letter_of-not_due session index due (with_letter read.session (Some (record { index = index; reply = null_array })) xs)) (read.session == session) refl
  where
    by : (has_session session due ≡ false → letter_of session (with_nothing index (read ∷ due) xs) ≡ letter_of session (with_letter read.session (Some (record { index = index; reply = null_array })) xs))
        → (test : Bool) → (read.session == session) ≡ test → letter_of session (with_nothing index (read ∷ due) xs) ≡ letter_of session xs
    by rest true e = absurd (true≢false (rw e at absent))
    by rest false e = rest (rw e at absent) ∙ letter_of-other session read.session _ xs e

-- the letter of one that is due says that there is nothing
letter_of-due : (session index : ℕ) (due : List Waiting) (xs : List Session) → has_session session due ≡ true → is_open session xs ≡ true
    → letter_of session (with_nothing index due xs) ≡ Some (record { index = index; reply = null_array })
letter_of-due session index [] xs there opened = absurd (true≢false (sym there))
letter_of-due session index (read ∷ due) xs there opened =
    by (letter_of-due session index due after) (read.session == session) refl (has_session session due) refl
  where
    its : Given
    its = record { index = index; reply = null_array }

    after : List Session
    after = with_letter read.session (Some its) xs

    by : (has_session session due ≡ true → is_open session after ≡ true → letter_of session (with_nothing index due after) ≡ Some its)
        → (own : Bool) → (read.session == session) ≡ own → (later : Bool) → has_session session due ≡ later → letter_of session (with_nothing index (read ∷ due) xs) ≡ Some its
    by rest own e true is = rest is (is_open-with_letter session read.session (Some its) xs ∙ opened)
    by rest true e false is =
        let same : read.session ≡ session = eqb-true read.session session e in
        let P : ℕ → Type 0 = λ n. letter_of session (with_letter n (Some its) xs) ≡ Some its in
        letter_of-not_due session index due after is ∙ subst P (sym same) (letter_of-own session its xs opened)
    by rest false e false is = absurd (true≢false (sym (rw (e, is) at there)))

nothing-other : (session : ℕ) (due : List Waiting) → has_session session due ≡ false → to_session session (nothing_for due) ≡ []
nothing-other session [] absent = refl
nothing-other session (x ∷ due) absent = by (nothing-other session due) (x.session == session) refl
  where
    by : (has_session session due ≡ false → to_session session (nothing_for due) ≡ []) → (test : Bool) → (x.session == session) ≡ test
        → to_session session (nothing_for (x ∷ due)) ≡ []
    by rest true e = absurd (true≢false (rw e at absent))
    by rest false e = rw e (rest (rw e at absent))

nothing-own : (session : ℕ) (due : List Waiting) → AreOnce due → has_session session due ≡ true → to_session session (nothing_for due) ≡ null_array ∷ []
nothing-own session [] once there = absurd (true≢false (sym there))
nothing-own session (x ∷ due) once there = by (nothing-own session due once.1) (x.session == session) refl
  where
    by : (has_session session due ≡ true → to_session session (nothing_for due) ≡ null_array ∷ []) → (test : Bool) → (x.session == session) ≡ test
        → to_session session (nothing_for (x ∷ due)) ≡ null_array ∷ []
    by rest true e =
        let one : x.session ≡ session = eqb-true x.session session e in
        let absent : has_session session due ≡ false = rw one at once.0 in
        rw e (ap (λ (l : List ReplyParts). null_array ∷ l) (nothing-other session due absent))
    by rest false e = rw e (rest (rw e at there))

-- ---- each event of another session

module _ (session : ℕ) (server : Server) where
  joined-passes : (index moment : ℕ) → IsKept session server (to_session session (joined index moment server).sent) (joined index moment server).server
  joined-passes index moment = record {
    opened = is_open-joined session server.sessions (record { number = index; letter = None });
    waits = refl;
    letter = letter_of-joined session index server.sessions;
    silent = refl;
  }

  called-passes : (other moment : ℕ) (keys : Keys) (outcome : Outcome) → (other == session) ≡ false
      → IsKept session server (to_session session (called other moment server keys outcome).sent) (called other moment server keys outcome).server
  called-passes other moment keys (outcomes.Reply send keep) apart = record {
    opened = λ opened. is_open-with_letter session other None server.sessions ∙ opened;
    waits = refl;
    letter = letter_of-other session other None server.sessions apart;
    silent = sent-other session other keep apart;
  }
  called-passes other moment keys (outcomes.Blocked call deadline) apart = record {
    opened = λ opened. is_open-with_letter session other None server.sessions ∙ opened;
    waits = has_session-pushed session other call deadline server.waiting apart;
    letter = letter_of-other session other None server.sessions apart;
    silent = refl;
  }

  sent-heard : (other : ℕ) (out : Out) (sent : List (ℕ × ReplyParts)) → (other == session) ≡ false → SendsAnswer other out sent → to_session session sent ≡ []
  sent-heard other (outs.Joined opened) sent apart is = absurd is
  sent-heard other (outs.Reply reply) sent apart is = ap (to_session session) is ∙ sent-other session other reply apart
  sent-heard other outs.Blocked sent apart is = absurd is
  sent-heard other (outs.Snap shown) sent apart is = ap (to_session session) is
  sent-heard other (outs.Stale shown) sent apart is = ap (to_session session) is
  sent-heard other (outs.Expired count) sent apart is = absurd is
  sent-heard other outs.Left sent apart is = absurd is

  heard-passes : (other index moment : ℕ) (event : Event) → Asks other event → (other == session) ≡ false
      → IsKept session server (to_session session (acted server index moment event).sent) (acted server index moment event).server
  heard-passes other index moment event asks apart =
      let effect = acted server index moment event in
      let heard = acted-heard server index moment other event asks in
      let P : Server → Type 0 = λ s. IsKept session server (to_session session effect.sent) s in
      subst P (sym heard.leaves) (record {
        opened = λ opened. is_open-with_letter session other None server.sessions ∙ opened;
        waits = refl;
        letter = letter_of-other session other None server.sessions apart;
        silent = sent-heard other effect.out effect.sent apart heard.sends;
      })

  left-passes : (other moment : ℕ) → (other == session) ≡ false → IsKept session server (to_session session (left other moment server).sent) (left other moment server).server
  left-passes other moment apart = record {
    opened = is_open-without session other server.sessions apart;
    waits = has_session-without session other server.waiting apart;
    letter = letter_of-without session other server.sessions apart;
    silent = refl;
  }

  expired-passes : (index moment : ℕ) → IsSound server → Passes session server (to_session session (expired index moment server).sent) (expired index moment server).server
  expired-passes index moment sound = by (has_session session due) refl
    where
      due : List Waiting
      due = due_at moment server.waiting

      goes_on : is_open session server.sessions ≡ true → is_open session (with_nothing index due server.sessions) ≡ true
      goes_on opened = is_open-with_nothing session index due server.sessions ∙ opened

      by : (there : Bool) → has_session session due ≡ there → Passes session server (to_session session (expired index moment server).sent) (expired index moment server).server
      by false absent = inl (record {
        opened = goes_on;
        waits = not_due-same session moment server.waiting absent;
        letter = letter_of-not_due session index due server.sessions absent;
        silent = nothing-other session due absent;
      })
      by true there =
          let waited : has_session session server.waiting ≡ true = has_session-filter session (is_due moment) server.waiting there in
          inr (record {
            waited = waited;
            given = record { index = index; reply = null_array };
            opened = goes_on;
            absent = due-alone session moment server.waiting sound.once there;
            letter = letter_of-due session index due server.sessions there (sound.opened session waited);
            told = nothing-own session due (once-filter (is_due moment) server.waiting sound.once) there;
          })

  acted-passes : (index moment : ℕ) (event : Event) → IsSound server → is_by session (speaker event) ≡ false
      → Passes session server (to_session session (acted server index moment event).sent) (acted server index moment event).server
  acted-passes index moment events.Join sound apart = inl (joined-passes index moment)
  acted-passes index moment (events.Call other call) sound apart =
      let done = executed server.keys moment call in
      inl (called-passes other moment done.keys done.outcome apart)
  acted-passes index moment (events.Board other key group) sound apart = inl (heard-passes other index moment (events.Board other key group) refl apart)
  acted-passes index moment (events.Snapshot other key group dead) sound apart = inl (heard-passes other index moment (events.Snapshot other key group dead) refl apart)
  acted-passes index moment (events.Conclude other judged apply last) sound apart = inl (heard-passes other index moment (events.Conclude other judged apply last) refl apart)
  acted-passes index moment events.Expire sound apart = expired-passes index moment sound
  acted-passes index moment (events.Leave other) sound apart = inl (left-passes other moment apart)

-- ---- a serving

module _ (index : ℕ) (server : Server) (given : Serving) (next : serving server index ≡ Some given) where
  serving-sessions : given.server.sessions ≡ with_letter given.session (Some (record { index = index; reply = given.reply })) server.sessions
  serving-sessions =
      let its = serving-read server index given next in
      let P : Serving → Type 0 = λ s. s.server.sessions ≡ with_letter s.session (Some (record { index = index; reply = s.reply })) server.sessions in
      subst P (sym its.result) refl

  serving-waiting : given.server.waiting ≡ without_session given.session server.waiting
  serving-waiting =
      let its = serving-read server index given next in
      let P : Serving → Type 0 = λ s. s.server.waiting ≡ without_session s.session server.waiting in
      subst P (sym its.result) refl

  serving-waits : has_session given.session server.waiting ≡ true
  serving-waits =
      let its = serving-read server index given next in
      let P : Serving → Type 0 = λ s. has_session s.session server.waiting ≡ true in
      subst P (sym its.result) its.waits

-- a session gets a letter, and its read waits no longer
served-passes : (session other : ℕ) (given : Given) (old new : Server) → IsSound old → has_session other old.waiting ≡ true
    → new.sessions ≡ with_letter other (Some given) old.sessions → new.waiting ≡ without_session other old.waiting
    → Passes session old (to_session session ((other, given.reply) ∷ [])) new
served-passes session other given old new sound there sessions waiting = by (other == session) refl
  where
    goes_on : is_open session old.sessions ≡ true → is_open session new.sessions ≡ true
    goes_on opened = ap (is_open session) sessions ∙ is_open-with_letter session other (Some given) old.sessions ∙ opened

    by : (test : Bool) → (other == session) ≡ test → Passes session old (to_session session ((other, given.reply) ∷ [])) new
    by false e = inl (record {
      opened = goes_on;
      waits = ap (has_session session) waiting ∙ has_session-without session other old.waiting e;
      letter = ap (letter_of session) sessions ∙ letter_of-other session other (Some given) old.sessions e;
      silent = sent-other session other given.reply e;
    })
    by true e =
        let same : other ≡ session = eqb-true other session e in
        let waited : has_session session old.waiting ≡ true = subst (λ (n : ℕ). has_session n old.waiting ≡ true) same there in
        let its : new.sessions ≡ with_letter session (Some given) old.sessions = subst (λ (n : ℕ). new.sessions ≡ with_letter n (Some given) old.sessions) same sessions in
        let others : new.waiting ≡ without_session session old.waiting = subst (λ (n : ℕ). new.waiting ≡ without_session n old.waiting) same waiting in
        inr (record {
          waited = waited;
          given = given;
          opened = goes_on;
          absent = ap (has_session session) others ∙ gone session old.waiting;
          letter = ap (letter_of session) its ∙ letter_of-own session given old.sessions (sound.opened session waited);
          told = ap (λ (n : ℕ). to_session session ((n, given.reply) ∷ [])) same ∙ sent-own session given.reply;
        })

-- ---- each record

said_nothing : (session : ℕ) (event : Event) → said_in session (acts.Event event) ≡ [] → is_by session (speaker event) ≡ false
said_nothing session event says = by (is_by session (speaker event)) says
  where
    by : (own : Bool) → cond own (event ∷ []) [] ≡ [] → own ≡ false
    by true says = absurd (cc)
    by false says = refl

pub led-passes : (session index moment : ℕ) (replies : List (ℕ × ReplyParts)) (old new : Server) (act : Act) → IsSound old → LeadsBy act index moment replies old new
    → said_in session act ≡ [] → Passes session old (to_session session replies) new
led-passes session index moment replies old new (acts.Event event) sound leads says =
    let effect = acted old index moment event in
    let passes : Passes session old (to_session session effect.sent) effect.server =
    acted-passes session old index moment event sound (said_nothing session event says) in
    let P : Server → Type 0 = λ s. Passes session old (to_session session effect.sent) s in
    let Q : List (ℕ × ReplyParts) → Type 0 = λ l. Passes session old (to_session session l) new in
    subst Q (sym leads.sends) (subst P (sym leads.leaves) passes)
led-passes session index moment replies old new (acts.Serve other) sound leads says =
    let given : Serving = record { session = other; reply = leads.reply; server = new } in
    let its : Given = record { index = index; reply = leads.reply } in
    let passes : Passes session old (to_session session ((other, leads.reply) ∷ [])) new =
    served-passes session other its old new sound (serving-waits index old given leads.next) (serving-sessions index old given leads.next) (serving-waiting index old given leads.next) in
    let Q : List (ℕ × ReplyParts) → Type 0 = λ l. Passes session old (to_session session l) new in
    subst Q (sym leads.sends) passes
