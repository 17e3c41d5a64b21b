-- A reply that came by a letter is the one reply that the records of its call and of the servings after it address to the session.
use Rattle.std.proofs.Common.{◌≡◌, ◌==◌, ◌⊎◌, inl, inr, ℕ, ◌+◌, Bool, true, false, not, List, [], ◌∷◌, ◌++◌, length, drop, Option, Some, None, Ok, refl, ap, sym, subst, ◌∙◌, true≢false}
use Rattle.std.proofs.Math.Seq.{drop-append_seam}
use Rattle.std.proofs.lemmas.Bool.{eq-eqb, eqb-true, ne_eqb}
use Rattle.std.proofs.lemmas.Map.Views.{any-filter_same}
use Rattle.std.specs.Option.{option_map}
use Rattle.sr_args.specs.declared.call.Call.{Call}
use Rattle.sr_resp.specs.Reply.{ReplyParts}
use Rattle.sr_space.specs.{executed}
use Rattle.sr_space.specs.Keys.{Keys}
use Rattle.sr_space.specs.declared.blocking.Outcome.{Outcome}
use Rattle.sr_space.specs.declared.blocking.Outcome.TheVariants as outcomes
use Rattle.sr_waiters.specs.{Waiting, has_session, without_session}
use Rattle.sr_book.specs.{Given, letter_of, BookState, IsStepped, Recorded, letter_for, next_index, next_moment}
use Rattle.sr_book.specs.Server.{Server, Serving, Session, called, serving, with_letter}
use Rattle.sr_book.specs.Records.{AreServings, LeadsBy, Legal, addressed, event_record, event_server, is_serving, to_session}
use Rattle.sr_book.specs.declared.answer.Answer.{Answer}
use Rattle.sr_book.specs.declared.answer.Letter.{Letter}
use Rattle.sr_book.specs.declared.event.Act.{Act}
use Rattle.sr_book.specs.declared.event.Act.TheVariants as acts
use Rattle.sr_book.specs.declared.event.Event.TheVariants as events
use Rattle.sr_book.specs.declared.event.Out.TheVariants as outs
use Rattle.sr_book.proofs.DueLemmas.{absent-without}
use Rattle.sr_book.proofs.ServeLemmas.{serving-read}
use Rattle.sr_book.proofs.SessionLaws.{servings-silent}
use Rattle.sr_session.specs.Desk.{AwaitsAt, IsRecorded, StepsAt}
use Rattle.sr_session.proofs.LetterLemmas.{letter_of-emptied, letter_of-other}

-- ---- letters

-- a session that was given a letter has no other one
letter_of-given : (session : ℕ) (given other : Given) (xs : List Session) → letter_of session (with_letter session (Some given) xs) ≡ Some other → other ≡ given
letter_of-given session given other [] is = absurd (cc)
letter_of-given session given other (x ∷ xs) is = by (letter_of-given session given other xs) (x.number == session) refl
  where
    by : (letter_of session (with_letter session (Some given) xs) ≡ Some other → other ≡ given) → (test : Bool) → (x.number == session) ≡ test → other ≡ given
    by rest true e =
        let one : Some given ≡ Some other = rw (e, eq-eqb session session refl) at is in
        cc
    by rest false e = rest (rw (e, e) at is)

-- what a letter says was given
record IsGivenFor (session : ℕ) (server : Server) (letter : Letter) : Type 0 where
  pub given : Given
  pub there : letter_of session server.sessions ≡ Some given
  pub same : letter.reply ≡ given.reply

letter-given : (session : ℕ) (server : Server) (letter : Letter) → letter_for session server ≡ Some letter → IsGivenFor session server letter
letter-given session server letter is = by (letter_of session server.sessions) refl is
  where
    by : (found : Option Given) → letter_of session server.sessions ≡ found
        → option_map (λ (g : Given). record { index = g.index; session = session; reply = g.reply }) found ≡ Some letter → IsGivenFor session server letter
    by None e none_is = absurd (cc)
    by (Some given) e some =
        let built : Letter = record { index = given.index; session = session; reply = given.reply } in
        let one : Some built ≡ Some letter = some in
        let two : built ≡ letter = cc in
        record { given = given; there = e; same = sym (ap (λ (l : Letter). l.reply) two) }

-- ---- one serving

module _ (index : ℕ) (server : Server) (given : Serving) (next : serving server index ≡ Some given) where
  serving-sessions : given.server.sessions ≡ with_letter given.session (Some (record { index = index; reply = given.reply })) server.sessions
  serving-sessions =
      let its = serving-read server index given next in
      let P : Serving → Type 0 = λ s. s.server.sessions ≡ with_letter s.session (Some (record { index = index; reply = s.reply })) server.sessions in
      subst P (sym its.result) refl

  serving-waiting : given.server.waiting ≡ without_session given.session server.waiting
  serving-waiting =
      let its = serving-read server index given next in
      let P : Serving → Type 0 = λ s. s.server.waiting ≡ without_session s.session server.waiting in
      subst P (sym its.result) refl

  serving-waits : has_session given.session server.waiting ≡ true
  serving-waits =
      let its = serving-read server index given next in
      let P : Serving → Type 0 = λ s. has_session s.session server.waiting ≡ true in
      subst P (sym its.result) its.waits

gone : (session : ℕ) (xs : List Waiting) → has_session session (without_session session xs) ≡ false
gone session xs = any-filter_same (λ (x : Waiting). x.session == session) (λ (x : Waiting). not (x.session == session)) false (λ x it. ap not it) xs

-- it leaves the letter of a session that does not wait, and that it does not wait
led-kept : (session index moment : ℕ) (replies : List (ℕ × ReplyParts)) (old new : Server) (act : Act) → is_serving act ≡ true → LeadsBy act index moment replies old new
    → has_session session old.waiting ≡ false → (letter_of session new.sessions ≡ letter_of session old.sessions) × (has_session session new.waiting ≡ false)
led-kept session index moment replies old new (acts.Event event) is leads absent = absurd (cc)
led-kept session index moment replies old new (acts.Serve other) is leads absent =
    let given : Serving = record { session = other; reply = leads.reply; server = new } in
    let apart : (other == session) ≡ false = ne_eqb other session (λ same. true≢false (sym (serving-waits index old given leads.next) ∙ rw same absent)) in (
      ap (letter_of session) (serving-sessions index old given leads.next) ∙ letter_of-other session other _ old.sessions apart,
      ap (has_session session) (serving-waiting index old given leads.next) ∙ absent-without session other old.waiting absent,
    )

-- to a session without a letter it sends nothing, and leaves it without one; or it sends it its letter, and it waits no longer
abbrev pub IsLed : ℕ → List (ℕ × ReplyParts) → Server → Type 0
IsLed session replies new =
    ((to_session session replies ≡ []) × (letter_of session new.sessions ≡ None))
    ⊎ ((reply : ReplyParts) × (to_session session replies ≡ reply ∷ []) × (has_session session new.waiting ≡ false)
    × ((given : Given) → letter_of session new.sessions ≡ Some given → given.reply ≡ reply))

led-given : (session index moment : ℕ) (replies : List (ℕ × ReplyParts)) (old new : Server) (act : Act) → is_serving act ≡ true → LeadsBy act index moment replies old new
    → letter_of session old.sessions ≡ None → IsLed session replies new
led-given session index moment replies old new (acts.Event event) is leads none = absurd (cc)
led-given session index moment replies old new (acts.Serve other) is leads none = by (other == session) refl
  where
    served : Serving
    served = record { session = other; reply = leads.reply; server = new }

    by : (test : Bool) → (other == session) ≡ test → IsLed session replies new
    by false e = inl (
      ap (to_session session) leads.sends ∙ rw e refl,
      ap (letter_of session) (serving-sessions index old served leads.next) ∙ letter_of-other session other _ old.sessions e ∙ none,
    )
    by true e =
        let same : other ≡ session = eqb-true other session e in
        let its : Given = record { index = index; reply = leads.reply } in
        let Sessions : ℕ → Type 0 = λ n. new.sessions ≡ with_letter n (Some its) old.sessions in
        let Reads : ℕ → Type 0 = λ n. new.waiting ≡ without_session n old.waiting in
        let sessions : new.sessions ≡ with_letter session (Some its) old.sessions = subst Sessions same (serving-sessions index old served leads.next) in
        let waiting : new.waiting ≡ without_session session old.waiting = subst Reads same (serving-waiting index old served leads.next) in
        inr (
          leads.reply,
          ap (to_session session) leads.sends ∙ rw e refl,
          ap (has_session session) waiting ∙ gone session old.waiting,
          λ given there. ap (λ (g : Given). g.reply) (letter_of-given session its given old.sessions (sym (ap (letter_of session) sessions) ∙ there)),
        )

-- ---- the servings after a call

-- they leave the letter of a session that does not wait
servings-kept : (session index : ℕ) (old : Server) (records : List Recorded) (new : Server) → AreServings records → Legal index old records new
    → has_session session old.waiting ≡ false → letter_of session new.sessions ≡ letter_of session old.sessions
servings-kept session index old [] new all legal absent = ap (λ (s : Server). letter_of session s.sessions) legal
servings-kept session index old (first ∷ others) new all legal absent =
    let one = led-kept session index first.moment first.replies old legal.0 first.act all.0 legal.1.1 absent in
    servings-kept session (index + 1) legal.0 others new all.1 legal.2 one.1 ∙ one.0

-- the letter of a session that had none is the one reply that they address to it
servings-given : (session index : ℕ) (old : Server) (records : List Recorded) (new : Server) (given : Given) → AreServings records → Legal index old records new
    → letter_of session old.sessions ≡ None → letter_of session new.sessions ≡ Some given → addressed session records ≡ given.reply ∷ []
servings-given session index old [] new given all legal none some =
    absurd (let it : Some given ≡ None = sym some ∙ ap (λ (s : Server). letter_of session s.sessions) legal ∙ none in cc)
servings-given session index old (first ∷ others) new given all legal none some =
    by (servings-given session (index + 1) legal.0 others new given all.1 legal.2)
    (led-given session index first.moment first.replies old legal.0 first.act all.0 legal.1.1 none)
  where
    by : (letter_of session legal.0.sessions ≡ None → letter_of session new.sessions ≡ Some given → addressed session others ≡ given.reply ∷ [])
        → IsLed session first.replies legal.0 → addressed session (first ∷ others) ≡ given.reply ∷ []
    by rest (inl silent) = ap (λ (l : List ReplyParts). l ++ addressed session others) silent.0 ∙ rest silent.1 some
    by rest (inr told) =
        let kept = servings-kept session (index + 1) legal.0 others new all.1 legal.2 told.2 in
        let same : given.reply ≡ told.0 = told.3 given (sym kept ∙ some) in
        let silent : addressed session others ≡ [] = servings-silent session (index + 1) legal.0 others new all.1 legal.2 told.2 in
        ap (λ (l : List ReplyParts). l ++ addressed session others) told.1
        ∙ ap (λ (l : List ReplyParts). told.0 ∷ l) silent
        ∙ ap (λ (r : ReplyParts). r ∷ []) (sym same)

-- ---- a call that waited

blocked-silent : (session moment : ℕ) (server : Server) (keys : Keys) (outcome : Outcome) → (called session moment server keys outcome).out ≡ outs.Blocked
    → (called session moment server keys outcome).sent ≡ []
blocked-silent session moment server keys (outcomes.Reply send keep) out = absurd (cc)
blocked-silent session moment server keys (outcomes.Blocked call deadline) out = refl

called-none : (session moment : ℕ) (server : Server) (keys : Keys) (outcome : Outcome) → letter_of session (called session moment server keys outcome).server.sessions ≡ None
called-none session moment server keys (outcomes.Reply send keep) = letter_of-emptied session server.sessions
called-none session moment server keys (outcomes.Blocked call deadline) = letter_of-emptied session server.sessions

-- its letter is the one reply that the new records address to the session
pub blocked-addressed : (old : BookState) (told session : ℕ) (call : Call) (answer : Answer) (new : BookState) (letter : Letter) → IsStepped old told (events.Call session call) answer new
    → answer.out ≡ outs.Blocked → letter_for session new.server ≡ Some letter → addressed session (drop (length old.records) new.records) ≡ letter.reply ∷ []
blocked-addressed old told session call answer new letter stepped out is =
    let moment : ℕ = next_moment old told in
    let done = executed old.server.keys moment call in
    let own : Recorded = event_record old told (events.Call session call) in
    let added : drop (length old.records) new.records ≡ own ∷ stepped.servings =
    ap (drop (length old.records)) stepped.grown ∙ drop-append_seam old.records (own ∷ stepped.servings) in
    let silent : to_session session own.replies ≡ [] =
    ap (to_session session) (blocked-silent session moment old.server done.keys done.outcome (sym stepped.out ∙ out)) in
    let one = letter-given session new.server letter is in
    let none = called-none session moment old.server done.keys done.outcome in
    let later : addressed session stepped.servings ≡ one.given.reply ∷ [] =
    servings-given session (next_index old + 1) (event_server old told (events.Call session call)) stepped.servings new.server one.given stepped.served stepped.legal none one.there in
    ap (addressed session) added ∙ ap (λ (l : List ReplyParts). l ++ addressed session stepped.servings) silent
    ∙ later ∙ ap (λ (r : ReplyParts). r ∷ []) (sym one.same)

-- so it is at a desk
pub lettered-recorded : (session told : ℕ) (call : Call) (answer : Answer) (old middle new : Option BookState) (letter : Letter) (reply : ReplyParts)
    → StepsAt old told (events.Call session call) (Ok answer) middle → answer.out ≡ outs.Blocked → AwaitsAt middle session (Ok letter) new → letter.reply ≡ reply
    → IsRecorded session old reply new
lettered-recorded session told call answer None middle new letter reply step out given same = tt
lettered-recorded session told call answer (Some old) None new letter reply step out given same = absurd step
lettered-recorded session told call answer (Some old) (Some middle) new letter reply step out given same =
    subst (IsRecorded session (Some old) reply) (sym given.1)
    (blocked-addressed old told session call answer middle letter step out given.0 ∙ ap (λ (r : ReplyParts). r ∷ []) same)
