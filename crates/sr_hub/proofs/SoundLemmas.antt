-- Every state that records lead to: a session that waits is open, waits once and has no letter, and the last moment has
-- 63 bits.
use Rattle.std.proofs.Common.{◌≡◌, ◌==◌, ℕ, ◌+◌, ◌^◌, ◌<◌, Bool, true, false, not, List, [], ◌∷◌, ◌++◌, filter, length, length-append, None, refl, ap, sym, subst, ◌∙◌, arith, true≢false}
use Rattle.std.proofs.lemmas.Bool.{eq-eqb, ne_eqb}
use Rattle.std.proofs.lemmas.List.Folds.{list_any-append}
use Rattle.sr_resp.specs.Reply.{ReplyParts}
use Rattle.sr_policy.specs.Rules.{Rules}
use Rattle.sr_space.specs.{executed}
use Rattle.sr_space.specs.Keys.{Keys}
use Rattle.sr_space.specs.declared.blocking.Outcome.{Outcome}
use Rattle.sr_space.specs.declared.blocking.Outcome.TheVariants as outcomes
use Rattle.sr_waiters.specs.{AreOnce, Waiting, has_session, is_due}
use Rattle.sr_book.specs.{letter_of, BookState, IsHistory, Recorded}
use Rattle.sr_book.specs.Server.{AreOpen, Server, Serving, acted, called, empty_server, refusal}
use Rattle.sr_book.specs.Records.{LeadsBy, Legal}
use Rattle.sr_book.specs.declared.event.Act.{Act}
use Rattle.sr_book.specs.declared.event.Act.TheVariants as acts
use Rattle.sr_book.specs.declared.event.Event.{Event}
use Rattle.sr_book.specs.declared.event.Event.TheVariants as events
use Rattle.sr_book.proofs.ActLemmas.{called_server}
use Rattle.sr_book.proofs.HeardLemmas.{Asks, acted-heard}
use Rattle.sr_book.proofs.LegalLemmas.{Legal-append}
use Rattle.sr_book.proofs.OpenLemmas.{has_session-filter}
use Rattle.sr_book.proofs.RulesLemmas.{rules-led}
use Rattle.sr_book.proofs.ServeLemmas.{serving-read}
use Rattle.sr_book.proofs.SessionLaws.{accepted-idle, history-open}
use Rattle.sr_session.proofs.LetterLemmas.{history-none}

-- these records lead to the server from one without sessions and keys, and the next one has this index
pub record IsReachedBy (before : List Recorded) (index : ℕ) (server : Server) : Type 0 where
  pub legal : Legal 1 (empty_server server.rules) before server
  pub next : index ≡ 1 + length before

-- a session that waits is open, waits once and has no letter, and the last moment has 63 bits
pub record IsSound (server : Server) : Type 0 where
  pub once : AreOnce server.waiting
  pub none : (session : ℕ) → has_session session server.waiting ≡ true → letter_of session server.sessions ≡ None
  pub opened : AreOpen server.waiting server.sessions
  pub bound : server.last < 2 ^ 63

-- ---- records after records

pub legal-rules : (index : ℕ) (old : Server) (records : List Recorded) (new : Server) → Legal index old records new → new.rules ≡ old.rules
legal-rules index old [] new legal = ap (λ (s : Server). s.rules) legal
legal-rules index old (first ∷ others) new legal =
    legal-rules (index + 1) legal.0 others new legal.2 ∙ rules-led first.act index first.moment first.replies old legal.0 legal.1.1

pub reached-grows : (before : List Recorded) (index : ℕ) (old : Server) (more : List Recorded) (new : Server) → IsReachedBy before index old → Legal index old more new
    → IsReachedBy (before ++ more) (index + length more) new
reached-grows before index old more new reached legal =
    let all : Legal 1 (empty_server old.rules) (before ++ more) new =
    Legal-append 1 (empty_server old.rules) before old more new index reached.next reached.legal legal in
    record {
      legal = subst (λ (r : Rules). Legal 1 (empty_server r) (before ++ more) new) (sym (legal-rules index old more new legal)) all;
      next = omega (arith, reached.next, length-append before more);
    }

-- ---- sessions that wait once

-- fewer wait
pub once-filter : (keeps : Waiting → Bool) (xs : List Waiting) → AreOnce xs → AreOnce (filter keeps xs)
once-filter keeps [] once = tt
once-filter keeps (x ∷ xs) once = by (once-filter keeps xs once.1) (keeps x) refl (has_session x.session (filter keeps xs)) refl
  where
    by : AreOnce (filter keeps xs) → (kept : Bool) → keeps x ≡ kept → (there : Bool) → has_session x.session (filter keeps xs) ≡ there → AreOnce (filter keeps (x ∷ xs))
    by rest false e there is = rw e rest
    by rest true e true is = absurd (true≢false (sym (has_session-filter x.session keeps xs is) ∙ once.0))
    by rest true e false is = rw e (is, rest)

-- one more waits
once-push : (xs : List Waiting) (read : Waiting) → AreOnce xs → has_session read.session xs ≡ false → AreOnce (xs ++ read ∷ [])
once-push [] read once absent = (refl, tt)
once-push (x ∷ xs) read once absent = by (once-push xs read once.1) (x.session == read.session) refl
  where
    by : (has_session read.session xs ≡ false → AreOnce (xs ++ read ∷ [])) → (test : Bool) → (x.session == read.session) ≡ test → AreOnce ((x ∷ xs) ++ read ∷ [])
    by rest true e = absurd (true≢false (rw e at absent))
    by rest false e =
        let back : (read.session == x.session) ≡ false =
        ne_eqb read.session x.session (λ same. true≢false (sym (eq-eqb x.session read.session (sym same)) ∙ e)) in
        let apart : has_session x.session (xs ++ read ∷ []) ≡ false =
        list_any-append (λ (y : Waiting). y.session == x.session) xs (read ∷ []) ∙ rw (once.0, back) refl in
        (apart, rest (rw e at absent))

called-once : (session moment : ℕ) (server : Server) (keys : Keys) (outcome : Outcome) → has_session session server.waiting ≡ false → AreOnce server.waiting
    → AreOnce (called session moment server keys outcome).server.waiting
called-once session moment server keys (outcomes.Reply send keep) absent once = once
called-once session moment server keys (outcomes.Blocked call deadline) absent once =
    once-push server.waiting (record { session = session; call = call; deadline = deadline }) once absent

heard-once : (server : Server) (index moment session : ℕ) (event : Event) → Asks session event → AreOnce server.waiting → AreOnce (acted server index moment event).server.waiting
heard-once server index moment session event asks once =
    let P : Server → Type 0 = λ s. AreOnce s.waiting in
    subst P (sym (acted-heard server index moment session event asks).leaves) once

acted-once : (server : Server) (index moment : ℕ) (event : Event) → refusal server index event ≡ None → AreOnce server.waiting
    → AreOnce (acted server index moment event).server.waiting
acted-once server index moment events.Join accepted once = once
acted-once server index moment (events.Call session call) accepted once =
    let done = executed server.keys moment call in
    called-once session moment server done.keys done.outcome (accepted-idle server index session call accepted).1 once
acted-once server index moment (events.Board session key group) accepted once = heard-once server index moment session (events.Board session key group) refl once
acted-once server index moment (events.Snapshot session key group dead) accepted once = heard-once server index moment session (events.Snapshot session key group dead) refl once
acted-once server index moment (events.Conclude session judged apply last) accepted once =
    heard-once server index moment session (events.Conclude session judged apply last) refl once
acted-once server index moment events.Expire accepted once = once-filter (λ read. not (is_due moment read)) server.waiting once
acted-once server index moment (events.Leave session) accepted once = once-filter (λ read. not (read.session == session)) server.waiting once

led-once : (index moment : ℕ) (replies : List (ℕ × ReplyParts)) (old new : Server) (act : Act) → LeadsBy act index moment replies old new → AreOnce old.waiting → AreOnce new.waiting
led-once index moment replies old new (acts.Event event) leads once =
    let P : Server → Type 0 = λ s. AreOnce s.waiting in
    subst P (sym leads.leaves) (acted-once old index moment event leads.accepted once)
led-once index moment replies old new (acts.Serve session) leads once =
    let its = serving-read old index (record { session = session; reply = leads.reply; server = new }) leads.next in
    let P : Serving → Type 0 = λ s. AreOnce s.server.waiting in
    subst P (sym its.result) (once-filter (λ read. not (read.session == its.read.session)) old.waiting once)

legal-once : (index : ℕ) (old : Server) (records : List Recorded) (new : Server) → Legal index old records new → AreOnce old.waiting → AreOnce new.waiting
legal-once index old [] new legal once =
    let P : Server → Type 0 = λ s. AreOnce s.waiting in
    subst P (sym legal) once
legal-once index old (first ∷ others) new legal once =
    legal-once (index + 1) legal.0 others new legal.2 (led-once index first.moment first.replies old legal.0 first.act legal.1.1 once)

-- ---- the moment of the last record

last-heard : (server : Server) (index moment session : ℕ) (event : Event) → Asks session event → (acted server index moment event).server.last ≡ moment
last-heard server index moment session event asks =
    ap (λ (s : Server). s.last) (acted-heard server index moment session event asks).leaves

last-acted : (server : Server) (index moment : ℕ) (event : Event) → (acted server index moment event).server.last ≡ moment
last-acted server index moment events.Join = refl
last-acted server index moment (events.Call session call) =
    let done = executed server.keys moment call in
    ap (λ (s : Server). s.last) (called_server session moment server done.keys done.outcome)
last-acted server index moment (events.Board session key group) = last-heard server index moment session (events.Board session key group) refl
last-acted server index moment (events.Snapshot session key group dead) = last-heard server index moment session (events.Snapshot session key group dead) refl
last-acted server index moment (events.Conclude session judged apply last) = last-heard server index moment session (events.Conclude session judged apply last) refl
last-acted server index moment events.Expire = refl
last-acted server index moment (events.Leave session) = refl

led-bound : (index moment : ℕ) (replies : List (ℕ × ReplyParts)) (old new : Server) (act : Act) → LeadsBy act index moment replies old new → old.last < 2 ^ 63 → new.last < 2 ^ 63
led-bound index moment replies old new (acts.Event event) leads bound =
    let is : new.last ≡ moment = ap (λ (s : Server). s.last) leads.leaves ∙ last-acted old index moment event in
    omega (arith, is, leads.in_time, bound)
led-bound index moment replies old new (acts.Serve session) leads bound =
    let its = serving-read old index (record { session = session; reply = leads.reply; server = new }) leads.next in
    let is : new.last ≡ old.last = ap (λ (s : Serving). s.server.last) its.result in
    omega (arith, is, bound)

legal-bound : (index : ℕ) (old : Server) (records : List Recorded) (new : Server) → Legal index old records new → old.last < 2 ^ 63 → new.last < 2 ^ 63
legal-bound index old [] new legal bound =
    let is : new.last ≡ old.last = ap (λ (s : Server). s.last) legal in
    omega (arith, is, bound)
legal-bound index old (first ∷ others) new legal bound =
    legal-bound (index + 1) legal.0 others new legal.2 (led-bound index first.moment first.replies old legal.0 first.act legal.1.1 bound)

-- ---- every state

-- a book that kept every record
abbrev book_of : (before : List Recorded) (server : Server) → BookState
book_of before server = record { server = server; base = record { index = 0; events = 0 }; records = before }

book_of-history : (before : List Recorded) (index : ℕ) (server : Server) → IsReachedBy before index server → IsHistory (book_of before server)
book_of-history before index server reached = record {
  start = empty_server server.rules;
  reached = record { dropped = []; legal = refl; index = refl; events = refl };
  legal = reached.legal;
}

pub reached-sound : (before : List Recorded) (index : ℕ) (server : Server) → IsReachedBy before index server → IsSound server
reached-sound before index server reached =
    let history = book_of-history before index server reached in
    record {
      once = legal-once 1 (empty_server server.rules) before server reached.legal tt;
      none = λ session. history-none session (book_of before server) history;
      opened = history-open (book_of before server) history;
      bound = legal-bound 1 (empty_server server.rules) before server reached.legal (omega arith);
    }
