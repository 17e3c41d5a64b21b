-- A session that joins: its connection is a line of which nothing was taken yet.
use Rattle.std.proofs.Common.{◌≡◌, ℕ, ◌+◌, Bool, true, false, List, [], ◌∷◌, ◌++◌, append_assoc, refl, ap, sym, subst, ◌∙◌, true≢false}
use Rattle.sr_resp.specs.Stream.{Stands}
use Rattle.sr_waiters.specs.{Waiting, has_session}
use Rattle.sr_book.specs.{is_open, BookState, IsStepped, Recorded, next_index}
use Rattle.sr_book.specs.Server.{AreBelow, AreOpen, Session, empty_server}
use Rattle.sr_book.specs.Records.{event_record, event_server}
use Rattle.sr_book.specs.declared.answer.Answer.{Answer}
use Rattle.sr_book.specs.declared.event.Event.TheVariants as events
use Rattle.sr_book.proofs.LegalLemmas.{Legal-below}
use Rattle.sr_book.proofs.SessionLaws.{joined-idle, servings-silent}
use Rattle.sr_book.proofs.SessionLemmas.{differs-below}
use Rattle.sr_hub.specs.declared.stage.Stage.TheVariants as stages
use Rattle.sr_hub.specs.Line.{ConnectionState, IsFree, IsLine, IsResting, Stays, last_text}
use Rattle.sr_hub.specs.Lines.{AreAll}
use Rattle.sr_hub.proofs.FrameLemmas.{all-reached, servings-say}
use Rattle.sr_hub.proofs.SoundLemmas.{reached-sound}

-- a number above all open ones is not of an open session
pub closed-below : (number : ℕ) (sessions : List Session) → AreBelow number sessions → is_open number sessions ≡ false
closed-below number [] below = refl
closed-below number (x ∷ xs) below = rw (differs-below x.number number below.0) (closed-below number xs below.1)

absent-closed : (number : ℕ) (sessions : List Session) (waiting : List Waiting) → is_open number sessions ≡ false → AreOpen waiting sessions → has_session number waiting ≡ false
absent-closed number sessions waiting closed all = by (has_session number waiting) refl
  where
    by : (waits : Bool) → has_session number waiting ≡ waits → waits ≡ false
    by true there = absurd (true≢false (sym (all number there) ∙ closed))
    by false absent = refl

-- no session has the next index yet
pub all-below : (records : List Recorded) (old : BookState) → AreAll records old → AreBelow (next_index old) old.server.sessions
all-below records old all =
    let reached = all-reached records old all in
    subst (λ (n : ℕ). AreBelow n old.server.sessions) (sym reached.next) (Legal-below 1 (empty_server old.server.rules) records old.server reached.legal tt)

pub joined-line : (records : List Recorded) (old : BookState) (told : ℕ) (answer : Answer) (new : BookState) (line : ConnectionState) → AreAll records old
    → (stepped : IsStepped old told events.Join answer new) → line.session ≡ next_index old → Stands [] [] line.requests → line.unsent ≡ [] → line.stage ≡ stages.Idle
    → IsLine (records ++ event_record old told events.Join ∷ stepped.servings) new.server [] [] line
joined-line records old told answer new line all stepped number stands unsent idle = record {
  found = records ++ own ∷ [];
  told = records ++ own ∷ [];
  more = stepped.servings;
  answered = [];
  held = [];
  text = [];
  looked_at = [];
  passed_over = [];
  bytes = refl;
  none_passed = λ goes. refl;
  joined = record { before = records; join = own; ends = refl; is = refl; number = sym number };
  stands = stands;
  tells = (refl, refl);
  spelled = unsent ∙ sym (ap last_text idle);
  whole = sym (append_assoc records (own ∷ []) stepped.servings);
  stays = subst (Stays line.session new.server stepped.servings [] line.requests) (sym idle) rests;
}
  where
    own : Recorded
    own = event_record old told events.Join

    opened : AreOpen old.server.waiting old.server.sessions
    opened = (reached-sound records (next_index old) old.server (all-reached records old all)).opened

    below : AreBelow (next_index old) old.server.sessions
    below = all-below records old all

    absent : has_session line.session old.server.waiting ≡ false
    absent = ap (λ (n : ℕ). has_session n old.server.waiting) number
        ∙ absent-closed (next_index old) old.server.sessions old.server.waiting (closed-below (next_index old) old.server.sessions below) opened

    free : IsFree line.session new.server
    free =
        let both = (joined-idle old told answer new stepped below opened).1 in
        subst (λ (n : ℕ). IsFree n new.server) (sym number) (record { opened = both.0; absent = both.1 })

    rests : IsResting line.session new.server stepped.servings []
    rests = record {
      none = refl;
      silent = record {
        says_nothing = servings-say line.session stepped.servings stepped.served;
        gets_nothing = servings-silent line.session (next_index old + 1) (event_server old told events.Join) stepped.servings new.server stepped.served stepped.legal absent;
      };
      free = free;
    }
