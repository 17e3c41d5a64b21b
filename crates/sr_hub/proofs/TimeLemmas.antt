-- The moments of the records that an event adds.
use Rattle.std.proofs.Common.{◌≡◌, ℕ, ◌+◌, max, Bool, true, false, cond, not, List, [], ◌∷◌, ◌++◌, append_assoc, Option, Some, None, Result, Ok, Err, refl, ap, sym, subst, ◌∙◌, arith}
use Rattle.std.proofs.lemmas.List.{append-nil}
use Rattle.std.specs.List.{AllByRecursion}
use Rattle.sr_resp.specs.Reply.{ReplyParts}
use Rattle.sr_policy.specs.{same, SnapshotState}
use Rattle.sr_check.specs.{verdict_answer}
use Rattle.sr_plan.specs.{Judged}
use Rattle.sr_resp.specs.declared.code.ErrCode.{ErrCode}
use Rattle.sr_space.specs.{executed, finds_nothing, at_once, snapped}
use Rattle.sr_space.specs.Keys.{Keys}
use Rattle.sr_space.specs.declared.blocking.Outcome.{Outcome}
use Rattle.sr_space.specs.declared.blocking.Outcome.TheVariants as outcomes
use Rattle.sr_space.specs.declared.snap.SnapFault.{SnapFault}
use Rattle.sr_waiters.specs.{Waiting, first_that}
use Rattle.sr_book.specs.Server.{Server, Serving, acted, called, concluded, fresh_snapshot, keys_after, moment_after, outdated, replied, served, serving, snapped_for}
use Rattle.sr_book.specs.{BookState, IsStepped, Recorded, next_index, next_moment}
use Rattle.sr_book.specs.Records.{AreServings, LeadsBy, Legal, event_record, event_server, is_serving}
use Rattle.sr_book.specs.declared.answer.Answer.{Answer}
use Rattle.sr_book.specs.declared.event.Act.{Act}
use Rattle.sr_book.specs.declared.event.Act.TheVariants as acts
use Rattle.sr_book.specs.declared.event.Event.{Event}
use Rattle.sr_book.specs.declared.event.Event.TheVariants as events
use Rattle.sr_book.specs.declared.event.Out.{Out}
use Rattle.sr_hub.specs.Said.{IsTimed, last_of}
use Rattle.sr_hub.specs.steps.Telling.{Comes, IsRefusedBy}

-- ---- the moment of the state after an event, and after a serving

called-last : (session moment : ℕ) (server : Server) (keys : Keys) (outcome : Outcome) → (called session moment server keys outcome).server.last ≡ moment
called-last session moment server keys (outcomes.Reply send keep) = refl
called-last session moment server keys (outcomes.Blocked call deadline) = refl

snapped-last : (session moment : ℕ) (server : Server) (found : Result SnapshotState SnapFault) → (snapped_for session moment server found).server.last ≡ moment
snapped-last session moment server (Ok shown) = refl
snapped-last session moment server (Err fault) = refl

concluded-last : (session moment : ℕ) (apply last : Bool) (judged : Judged) (server : Server) (found : Result SnapshotState SnapFault)
    → (concluded session moment apply last judged server found).server.last ≡ moment
concluded-last session moment apply last judged server (Err fault) = refl
concluded-last session moment apply last judged server (Ok shown) = by (same shown judged.snapshot) last
  where
    by : (holds final : Bool)
        → (cond holds (replied session moment server (keys_after apply moment judged server.keys) (verdict_answer judged.snapshot judged.answer apply)) (outdated session moment final server shown)).server.last ≡ moment
    by true final = refl
    by false true = refl
    by false false = refl

acted-last : (server : Server) (index moment : ℕ) (event : Event) → (acted server index moment event).server.last ≡ moment
acted-last server index moment events.Join = refl
acted-last server index moment (events.Call session call) = called-last session moment server (executed server.keys moment call).keys (executed server.keys moment call).outcome
acted-last server index moment (events.Board session key group) = refl
acted-last server index moment (events.Snapshot session key group dead) = snapped-last session moment server (snapped server.rules server.keys key group dead)
acted-last server index moment (events.Conclude session judged apply last) = concluded-last session moment apply last judged server (fresh_snapshot server judged.snapshot)
acted-last server index moment events.Expire = refl
acted-last server index moment (events.Leave session) = refl

serving-last : (server : Server) (index : ℕ) (given : Serving) → serving server index ≡ Some given → given.server.last ≡ server.last
serving-last server index given is = by (first_that (λ call. not (finds_nothing server.keys server.last call)) server.waiting) refl
  where
    by : (found : Option Waiting) → first_that (λ call. not (finds_nothing server.keys server.last call)) server.waiting ≡ found → given.server.last ≡ server.last
    by None e = absurd (let none = rw e at is in cc)
    by (Some read) e =
        let found : Some (served index server read (at_once server.keys server.last read.call)) ≡ Some given = rw e at is in
        let one : served index server read (at_once server.keys server.last read.call) ≡ given = cc in
        ap (λ (s : Serving). s.server.last) (sym one)

serve-last : (act : Act) (index moment : ℕ) (replies : List (ℕ × ReplyParts)) (old new : Server) → is_serving act ≡ true → LeadsBy act index moment replies old new
    → (moment ≡ old.last) × (new.last ≡ old.last)
serve-last (acts.Event event) index moment replies old new serves leads = cc
serve-last (acts.Serve session) index moment replies old new serves leads =
    (leads.same_moment, serving-last old index (record { session = session; reply = leads.reply; server = new }) leads.next)

servings-timed : (index m : ℕ) (old : Server) (servings : List Recorded) (new : Server) → AreServings servings → Legal index old servings new → old.last ≡ m
    → AllByRecursion (λ recorded. recorded.moment ≡ m) servings × (new.last ≡ m)
servings-timed index m old [] new all legal is = (tt, ap (λ (s : Server). s.last) legal ∙ is)
servings-timed index m old (first ∷ servings) new all legal is =
    let here = serve-last first.act index first.moment first.replies old legal.0 all.0 legal.1.1 in
    let rest = servings-timed (index + 1) m legal.0 servings new all.1 legal.2 (here.1 ∙ is) in
    ((here.0 ∙ is, rest.0), rest.1)

pub max-twice : (a b : ℕ) → max (max a b) b ≡ max a b
max-twice a b = omega arith

-- ---- the last moment

-- of records at one moment
last-all : (m : ℕ) (records : List Recorded) → AllByRecursion (λ recorded. recorded.moment ≡ m) records → last_of m records ≡ m
last-all m [] all = refl
last-all m (x ∷ records) all = subst (λ (n : ℕ). last_of n records ≡ m) (sym all.0) (last-all m records all.1)

pub last-append : (last : ℕ) (a b : List Recorded) → last_of last (a ++ b) ≡ last_of (last_of last a) b
last-append last [] b = refl
last-append last (x ∷ a) b = last-append x.moment a b

-- the next record would be at the same moment
stays : (moment : ℕ) (old new : BookState) (added : List Recorded) → AllByRecursion (λ recorded. recorded.moment ≡ next_moment old moment) added
    → new.server.last ≡ last_of old.server.last added → next_moment new moment ≡ next_moment old moment
stays moment old new [] all last = ap (λ (l : ℕ). moment_after l moment) last
stays moment old new (x ∷ added) all last =
    let one : last_of x.moment added ≡ next_moment old moment =
    subst (λ (n : ℕ). last_of n added ≡ next_moment old moment) (sym all.0) (last-all (next_moment old moment) added all.1) in
    ap (λ (l : ℕ). moment_after l moment) (last ∙ one) ∙ max-twice old.server.last _

-- ---- an event

pub step-timed : (old : BookState) (told : ℕ) (event : Event) (answer : Answer) (new : BookState) → IsStepped old told event answer new → IsTimed told old new
step-timed old told event answer new stepped =
    let m = next_moment old told in
    let all = servings-timed (next_index old + 1) m (event_server old told event) stepped.servings new.server stepped.served stepped.legal (acted-last old.server (next_index old) m event) in
    record {
      added = event_record old told event ∷ stepped.servings;
      grown = stepped.grown;
      at = (refl, all.0);
      last = all.1 ∙ sym (last-all m stepped.servings all.0);
    }

pub timed_none : (moment : ℕ) (book : BookState) → IsTimed moment book book
timed_none moment book = record { added = []; grown = sym (append-nil book.records); at = tt; last = refl }

pub timed_same : (moment : ℕ) (old new : BookState) → new ≡ old → IsTimed moment old new
timed_same moment old new same = subst (IsTimed moment old) (sym same) (timed_none moment old)

pub comes_timed : (old : BookState) (moment : ℕ) (event : Event) (out : Out) (new : BookState) → Comes old moment event out new → IsTimed moment old new
comes_timed old moment event out new comes = step-timed old moment event comes.answer new comes.stepped

pub refused_timed : (old : BookState) (moment : ℕ) (event : Event) (code : ErrCode) (new : BookState) → IsRefusedBy old moment event code new → IsTimed moment old new
refused_timed old moment event code new refused = timed_same moment old new refused.refused.1

-- ---- one after another

timed-append : (m : ℕ) (a b : List Recorded) → AllByRecursion (λ recorded. recorded.moment ≡ m) a → AllByRecursion (λ recorded. recorded.moment ≡ m) b
    → AllByRecursion (λ recorded. recorded.moment ≡ m) (a ++ b)
timed-append m [] b first second = second
timed-append m (x ∷ a) b first second = (first.0, timed-append m a b first.1 second)

pub timed_then : (moment : ℕ) (old middle new : BookState) → IsTimed moment old middle → IsTimed moment middle new → IsTimed moment old new
timed_then moment old middle new one two = record {
  added = one.added ++ two.added;
  grown = two.grown ∙ ap (λ (l : List Recorded). l ++ two.added) one.grown ∙ append_assoc old.records one.added two.added;
  at = timed-append (next_moment old moment) one.added two.added one.at
      (subst (λ (m : ℕ). AllByRecursion (λ recorded. recorded.moment ≡ m) two.added) (stays moment old middle one.added one.at one.last) two.at);
  last = two.last ∙ ap (λ (l : ℕ). last_of l two.added) one.last ∙ sym (last-append old.server.last one.added two.added);
}

pub ruleset timed = (timed_none, timed_same, comes_timed, refused_timed)
