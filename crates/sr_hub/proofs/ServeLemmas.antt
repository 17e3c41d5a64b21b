-- An event loop goes on, one step after another.
use Rattle.std.proofs.Common.{◌≡◌, ◌≢◌, ◌==◌, ◌≤◌, ◌<◌, ◌⊎◌, inl, inr, ℕ, zero, max, Bool, true, false, cond, true≢false, ◌||◌, List, [], ◌∷◌, ◌++◌, append_assoc, length, drop, Option, Some, None, option_map, IfSome, IsSome, IsSomeAnd, IsTrue, Result, Ok, Err, OnOk, OnErr, IfOk, take, refl, ap, sym, subst, ◌∙◌, arith}
use Rattle.std.proofs.Math.Seq.{drop-append_seam}
use Rattle.std.proofs.lemmas.Bool.{eq-eqb, eqb-true, ne_eqb}
use Rattle.std.proofs.lemmas.List.{append-nil, append_cancel_left}
use Rattle.std.specs.List.{AllByRecursion, list_any}
use Rattle.sr_book.specs.{BookState, IsStepped, Recorded, next_index, next_moment}
use Rattle.sr_book.specs.Records.{AreServings, event_record, is_serving, rebased}
use Rattle.sr_book.specs.Server.{moment_after}
use Rattle.sr_book.specs.declared.answer.Answer.{Answer}
use Rattle.sr_book.specs.declared.event.Act.{Act}
use Rattle.sr_book.specs.declared.event.Act.TheVariants as acts
use Rattle.sr_book.specs.declared.event.BookFault.{BookFault}
use Rattle.sr_book.specs.declared.event.Event.{Event}
use Rattle.sr_book.specs.declared.event.Event.TheVariants as events
use Rattle.sr_hub.specs.Heard.{AreTold, GoOnAs}
use Rattle.sr_hub.specs.Line.{ConnectionState, IsLine}
use Rattle.sr_hub.specs.Lines.{AreAll, AreLines, GoOn, HubState, session_at, with_more, with_none}
use Rattle.sr_hub.specs.Said.{IsOwn, IsTimed, LeavesOf, Occurs, SaysOf, last_of}
use Rattle.sr_hub.specs.Traffic.{AreServed, Closed, HasJoined, IsAmong, Traffic, WasLine, WereLines, begins, closes, gives, names, takes, with_answer}
use Rattle.sr_hub.specs.steps.Serving.{GoesOn, KeeperState, Keeps, Loop, Releases, Serves, TakesOn}
use Rattle.sr_hub.proofs.HubLemmas.{none-added, same-lines}
use Rattle.sr_hub.proofs.TimeLemmas.{last-append, max-twice, step-timed, timed_same}

-- ---- moments

-- one after another
told-append : (may_tell : ℕ → Bool) (last : ℕ) (a b : List Recorded) → AreTold may_tell last a → AreTold may_tell (last_of last a) b → AreTold may_tell last (a ++ b)
told-append may_tell last [] b first second = second
told-append may_tell last (x ∷ a) b first second = (first.0, told-append may_tell x.moment a b first.1 second)

-- all at the moment of a record for one that the clock may tell
told-all : (may_tell : ℕ → Bool) (last moment : ℕ) (records : List Recorded) → IsTrue (may_tell moment)
    → AllByRecursion (λ recorded. recorded.moment ≡ moment_after last moment) records → AreTold may_tell last records
told-all may_tell last moment [] told all = tt
told-all may_tell last moment (x ∷ records) told all =
    let same : moment_after last moment ≡ moment_after x.moment moment =
    sym (ap (λ (l : ℕ). moment_after l moment) all.0 ∙ max-twice last _) in (
      (moment, told, all.0),
      told-all may_tell x.moment moment records told (subst (λ (m : ℕ). AllByRecursion (λ recorded. recorded.moment ≡ m) records) same all.1),
    )

-- ---- the records that were added are those that the book says

cancelled : (a b x y : List Recorded) → length a ≡ length b → a ++ x ≡ b ++ y → x ≡ y
cancelled a b x y same is =
    sym (drop-append_seam a x) ∙ ap (λ (l : List Recorded). drop (length a) l) is ∙ ap (λ (n : ℕ). drop n (b ++ y)) same ∙ drop-append_seam b y

added-same : (old new : BookState) (records added more : List Recorded) → AreAll records old → AreAll (records ++ added) new → new.base ≡ old.base → new.records ≡ old.records ++ more
    → added ≡ more
added-same old new records added more all after base grown =
    let length_same : length all.dropped ≡ length after.dropped = all.counted ∙ ap (λ (b : _). b.index) (sym base) ∙ sym after.counted in
    let left : records ++ added ≡ all.dropped ++ (old.records ++ added) = ap (λ (r : List Recorded). r ++ added) all.kept ∙ append_assoc all.dropped old.records added in
    let right : records ++ added ≡ after.dropped ++ (old.records ++ more) = after.kept ∙ ap (λ (r : List Recorded). after.dropped ++ r) grown in
    append_cancel_left old.records added more (cancelled all.dropped after.dropped (old.records ++ added) (old.records ++ more) length_same (sym left ∙ right))

times-at : (may_tell : ℕ → Bool) (moment : ℕ) (old new : BookState) (added : List Recorded) → IsTrue (may_tell moment) → (timed : IsTimed moment old new) → added ≡ timed.added
    → AreTold may_tell old.server.last added × (new.server.last ≡ last_of old.server.last added)
times-at may_tell moment old new added told timed same = (
  subst (AreTold may_tell old.server.last) (sym same) (told-all may_tell old.server.last moment timed.added told timed.at),
  timed.last ∙ ap (λ (l : List Recorded). last_of old.server.last l) (sym same),
)

-- ---- with which records sessions join

joined-append : (session : ℕ) (a b : List Recorded) → HasJoined session (a ++ b) → HasJoined session a ⊎ HasJoined session b
joined-append session [] b has = inr has
joined-append session (x ∷ a) b (inl here) = inl (inl here)
joined-append session (x ∷ a) b (inr rest) = by (joined-append session a b rest)
  where
    by : HasJoined session a ⊎ HasJoined session b → HasJoined session (x ∷ a) ⊎ HasJoined session b
    by (inl first) = inl (inr first)
    by (inr second) = inr second

not-own : (session : ℕ) (act : Act) → IsOwn session act → act ≡ acts.Event events.Join → ⊥
not-own session act own is = let none : None ≡ Some session = subst (IsOwn session) is own in cc

own-silent : (session n : ℕ) (records : List Recorded) → AllByRecursion (λ recorded. IsOwn session recorded.act) records → HasJoined n records → ⊥
own-silent session n [] all has = has
own-silent session n (x ∷ records) all (inl here) = not-own session x.act all.0 here.0
own-silent session n (x ∷ records) all (inr rest) = own-silent session n records all.1 rest

servings-silent : (n : ℕ) (records : List Recorded) → AreServings records → HasJoined n records → ⊥
servings-silent n [] all has = has
servings-silent n (x ∷ records) all (inl here) =
    true≢false (sym (subst (λ (a : Act). is_serving a ≡ true) here.0 all.0))
servings-silent n (x ∷ records) all (inr rest) = servings-silent n records all.1 rest

-- records were added, with none of which a session joined
pub record Quiet (old new : BookState) : Type 0 where
  pub base : new.base ≡ old.base
  pub added : List Recorded
  pub grown : new.records ≡ old.records ++ added
  pub silent : (session : ℕ) → HasJoined session added → ⊥

-- those that a connection has the book record
pub quiet-says : (at : Option ConnectionState) (old new : BookState) → SaysOf at old new → Quiet old new
quiet-says None old new same = record {
  base = ap (λ (b : BookState). b.base) same;
  added = [];
  grown = ap (λ (b : BookState). b.records) same ∙ sym (append-nil old.records);
  silent = λ session has. has;
}
quiet-says (Some line) old new says = record {
  base = says.same_base;
  added = says.added;
  grown = says.grown;
  silent = λ session has. own-silent line.session session says.added says.own has;
}

quiet-step : (old : BookState) (moment : ℕ) (event : Event) (answer : Answer) (new : BookState) → IsStepped old moment event answer new → (event ≡ events.Join → ⊥) → Quiet old new
quiet-step old moment event answer new stepped other = record {
  base = stepped.same_base;
  added = event_record old moment event ∷ stepped.servings;
  grown = stepped.grown;
  silent = λ session has. by session has;
}
  where
    by : (session : ℕ) → HasJoined session (event_record old moment event ∷ stepped.servings) → ⊥
    by session (inl here) = let same : acts.Event event ≡ acts.Event events.Join = here.0 in other (cc)
    by session (inr rest) = servings-silent session stepped.servings stepped.served rest

quiet-leaves : (at : Option ConnectionState) (moment : ℕ) (old new : BookState) → LeavesOf at old moment new → Quiet old new
quiet-leaves None moment old new same = quiet-says None old new same
quiet-leaves (Some line) moment old new occurs =
    quiet-step old moment (events.Leave line.session) occurs.answer new occurs.stepped (λ same. cc)

goes-at : (may_tell : ℕ → Bool) (moment : ℕ) (old new : HubState) (records : List Recorded) (taken given : ℕ → List ℕ) → IsTrue (may_tell moment) → IsTimed moment old.book new.book
    → Quiet old.book new.book → AreAll records old.book → GoOn records taken given new → GoesOn may_tell old.book.server.last records taken given new
goes-at may_tell moment old new records taken given told timed quiet all goes =
    let same : goes.added ≡ timed.added = added-same old.book new.book records goes.added timed.added all goes.lines.0 quiet.base timed.grown in
    let own : goes.added ≡ quiet.added = added-same old.book new.book records goes.added quiet.added all goes.lines.0 quiet.base quiet.grown in
    let times = times-at may_tell moment old.book new.book goes.added told timed same in
    record {
      added = goes.added;
      told = times.0;
      lasts = times.1;
      silent = λ session has. quiet.silent session (subst (HasJoined session) own has);
      lines = goes.lines;
    }

goes-same : (may_tell : ℕ → Bool) (new : HubState) (last : ℕ) (records : List Recorded) (taken given : ℕ → List ℕ) → new.book.server.last ≡ last → AreLines records taken given new
    → GoesOn may_tell last records taken given new
goes-same may_tell new last records taken given same lines =
    record { added = []; told = tt; lasts = same; silent = λ session has. has; lines = subst (λ (r : List Recorded). AreLines r taken given new) (sym (append-nil records)) lines }

-- ---- the hub alone

session-same : (token : ℕ) (old new : HubState) → new.at token ≡ old.at token → session_at new token ≡ session_at old token
session-same token old new same = ap (λ (o : Option ConnectionState). option_map (λ (line : ConnectionState). line.session) o) same

pub keeps-none : (may_tell : ℕ → Bool) (hub : HubState) → Keeps may_tell hub may_tell hub
keeps-none may_tell hub = record {
  same = refl;
  goes_on = λ records taken given lines. goes-same may_tell hub hub.book.server.last records taken given refl lines;
  at = λ token. refl;
}

pub keeps-same : (may_tell then_tell : ℕ → Bool) (old new : HubState) → then_tell ≡ may_tell → new ≡ old → Keeps may_tell old then_tell new
keeps-same may_tell then_tell old new bound same =
    subst (λ (t : ℕ → Bool). Keeps may_tell old t new) (sym bound) (subst (λ (h : HubState). Keeps may_tell old may_tell h) (sym same) (keeps-none may_tell old))

-- no record was added
pub keeps-lines : (may_tell : ℕ → Bool) (old new : HubState) → new.book.server.last ≡ old.book.server.last → ((token : ℕ) → new.at token ≡ old.at token)
    → ((records : List Recorded) (taken given : ℕ → List ℕ) → AreLines records taken given old → AreLines records taken given new) → Keeps may_tell old may_tell new
keeps-lines may_tell old new last at lines = record {
  same = refl;
  goes_on = λ records taken given was. goes-same may_tell new old.book.server.last records taken given last (lines records taken given was);
  at = λ token. session-same token old new (at token);
}

-- some were, at this moment
pub keeps-at : (may_tell : ℕ → Bool) (moment : ℕ) (old new : HubState) → IsTrue (may_tell moment) → IsTimed moment old.book new.book → Quiet old.book new.book
    → ((token : ℕ) → session_at new token ≡ session_at old token)
    → ((records : List Recorded) (taken given : ℕ → List ℕ) → AreLines records taken given old → GoOn records taken given new) → Keeps may_tell old may_tell new
keeps-at may_tell moment old new told timed quiet at lines = record {
  same = refl;
  goes_on = λ records taken given was. goes-at may_tell moment old new records taken given told timed quiet was.0 (lines records taken given was);
  at = at;
}

goes-then : (may_tell : ℕ → Bool) (last : ℕ) (b c : HubState) (records : List Recorded) (taken given : ℕ → List ℕ) → GoesOn may_tell last records taken given b
    → ((records : List Recorded) → AreLines records taken given b → GoesOn may_tell b.book.server.last records taken given c)
    → GoesOn may_tell last records taken given c
goes-then may_tell last b c records taken given one second =
    let two = second (records ++ one.added) one.lines in
    record {
      added = one.added ++ two.added;
      told = told-append may_tell last one.added two.added one.told (subst (λ (l : ℕ). AreTold may_tell l two.added) one.lasts two.told);
      lasts = two.lasts ∙ ap (λ (l : ℕ). last_of l two.added) one.lasts ∙ sym (last-append last one.added two.added);
      silent = λ session has. by session two (joined-append session one.added two.added has);
      lines = subst (λ (r : List Recorded). AreLines r taken given c) (append_assoc records one.added two.added) two.lines;
    }
  where
    by : (session : ℕ) (two : GoesOn may_tell b.book.server.last (records ++ one.added) taken given c) → HasJoined session one.added ⊎ HasJoined session two.added → ⊥
    by session two (inl has) = one.silent session has
    by session two (inr has) = two.silent session has

pub keeps-then : (ta tb tc : ℕ → Bool) (a b c : HubState) → Keeps ta a tb b → Keeps tb b tc c → Keeps ta a tc c
keeps-then ta tb tc a b c first second = by tb first.same second
  where
    by : (t : ℕ → Bool) → t ≡ ta → Keeps t b tc c → Keeps ta a tc c
    by t is second =
        let next : Keeps ta b tc c = subst (λ (x : ℕ → Bool). Keeps x b tc c) is second in
        record {
          same = next.same;
          goes_on = λ records taken given lines.
              goes-then ta a.book.server.last b c records taken given (first.goes_on records taken given lines) (λ more then. next.goes_on more taken given then);
          at = λ token. next.at token ∙ first.at token;
        }

-- ---- a connection leaves or comes

pub releases-same : (token : ℕ) (may_tell then_tell : ℕ → Bool) (old new : HubState) → then_tell ≡ may_tell → new ≡ old → Releases token may_tell old then_tell new
releases-same token may_tell then_tell old new bound same =
    let keeps = keeps-same may_tell then_tell old new bound same in
    record { same = bound; goes_on = keeps.goes_on; at = λ session is. sym (keeps.at token) ∙ is; others = λ other away. keeps.at other }

leaves-timed : (at : Option ConnectionState) (moment : ℕ) (old new : BookState) → LeavesOf at old moment new → IsTimed moment old new
leaves-timed None moment old new same = timed_same moment old new same
leaves-timed (Some line) moment old new occurs = step-timed old moment (events.Leave line.session) occurs.answer new occurs.stepped

-- the session of a connection leaves
pub releases-leave : (token : ℕ) (may_tell : ℕ → Bool) (moment : ℕ) (old new : HubState) → IsTrue (may_tell moment) → LeavesOf (old.at token) old.book moment new.book → new.at token ≡ None
    → ((other : ℕ) → other ≢ token → new.at other ≡ old.at other)
    → ((records : List Recorded) (taken given : ℕ → List ℕ) → AreLines records taken given old → GoOn records taken given new) → Releases token may_tell old may_tell new
releases-leave token may_tell moment old new told leaves none others lines =
    let timed = leaves-timed (old.at token) moment old.book new.book leaves in
    let quiet = quiet-leaves (old.at token) moment old.book new.book leaves in
    record {
      same = refl;
      goes_on = λ records taken given was. goes-at may_tell moment old new records taken given told timed quiet was.0 (lines records taken given was);
      at = λ session is. absurd (let no : None ≡ Some session = sym (ap (λ (o : Option ConnectionState). option_map (λ (line : ConnectionState). line.session) o) none) ∙ is in cc);
      others = λ other away. session-same other old new (others other away);
    }

-- bytes of a connection are taken
pub takes-at : (token : ℕ) (piece : List ℕ) (may_tell : ℕ → Bool) (moment : ℕ) (old new : HubState) → IsTrue (may_tell moment) → IsTimed moment old.book new.book → Quiet old.book new.book
    → ((other : ℕ) → session_at new other ≡ session_at old other)
    → ((records : List Recorded) (taken given : ℕ → List ℕ) → AreLines records taken given old → GoOn records (with_more token piece taken) given new)
    → TakesOn token piece may_tell old may_tell new
takes-at token piece may_tell moment old new told timed quiet at lines = record {
  same = refl;
  goes_on = λ records taken given was. goes-at may_tell moment old new records (with_more token piece taken) given told timed quiet was.0 (lines records taken given was);
  at = at;
}

-- each token has the session that it had, since this one has and the others did not change
pub at-by : (token : ℕ) (old new : HubState) → session_at new token ≡ session_at old token → ((other : ℕ) → other ≢ token → new.at other ≡ old.at other)
    → (other : ℕ) → session_at new other ≡ session_at old other
at-by token old new here others other = by (other == token) refl
  where
    by : (test : Bool) → (other == token) ≡ test → session_at new other ≡ session_at old other
    by true e = subst (λ (t : ℕ). session_at new t ≡ session_at old t) (sym (eqb-true other token e)) here
    by false e = session-same other old new (others other (λ same. true≢false (sym (eq-eqb other token same) ∙ e)))

-- one is there if it was, since it has the same session
there-at : (token : ℕ) (old new : HubState) → session_at new token ≡ session_at old token → IsSome (old.at token) → IsSome (new.at token)
there-at token old new same is = by (old.at token) (new.at token) same is
  where
    of : Option ConnectionState → Option ℕ
    of o = option_map (λ (line : ConnectionState). line.session) o

    by : (was at : Option ConnectionState) → of at ≡ of was → IsSome was → IsSome at
    by None at e some = absurd (true≢false (sym some))
    by (Some line) (Some after) e some = refl
    by (Some line) None e some = absurd (let no : None ≡ Some line.session = e in cc)

-- who is there has a session
session-there : (token : ℕ) (hub : HubState) → IsSome (hub.at token) → (session : ℕ) × (session_at hub token ≡ Some session)
session-there token hub is = by (hub.at token) is
  where
    by : (at : Option ConnectionState) → IsSome at → (session : ℕ) × (option_map (λ (line : ConnectionState). line.session) at ≡ Some session)
    by None some = absurd (true≢false (sym some))
    by (Some line) some = (line.session, refl)

-- ---- what passed through the sockets

was-then : (records added : List Recorded) (session : ℕ) (connection : Closed) → WasLine records session connection → WasLine (records ++ added) session connection
was-then records added session connection was = record {
  before = was.before;
  after = was.after ++ added;
  server = was.server;
  line = was.line;
  whole = ap (λ (r : List Recorded). r ++ added) was.whole ∙ append_assoc was.before was.after added;
  legal = was.legal;
  was = was.was;
  own = was.own;
}

were-then : (records added : List Recorded) (gone : List ℕ) (closed : List Closed) → WereLines records gone closed → WereLines (records ++ added) gone closed
were-then records added [] [] all = tt
were-then records added (session ∷ gone) (one ∷ closed) all = (was-then records added session one all.0, were-then records added gone closed all.1)
were-then records added [] (one ∷ closed) all = all
were-then records added (session ∷ gone) [] all = all

-- one that is closed was a line
closing : (records : List Recorded) (taken given : ℕ → List ℕ) (token session : ℕ) (hub : HubState) → AreLines records taken given hub → session_at hub token ≡ Some session
    → WasLine records session (record { taken = taken token; given = given token })
closing records taken given token session hub lines is = by (hub.at token) refl is
  where
    by : (at : Option ConnectionState) → hub.at token ≡ at → option_map (λ (line : ConnectionState). line.session) at ≡ Some session
        → WasLine records session (record { taken = taken token; given = given token })
    by None e some = absurd (cc)
    by (Some line) e some = record {
      before = records;
      after = [];
      server = hub.book.server;
      line = line;
      whole = sym (append-nil records);
      legal = lines.0.legal;
      was = lines.1 token line e;
      own = let same : Some line.session ≡ Some session = some in cc;
    }

-- ---- sessions of connections that were closed

or-right : (a b : Bool) → b ≡ true → (a || b) ≡ true
or-right true b is = refl
or-right false b is = is

among-first : (session : ℕ) (gone : List ℕ) → IsAmong session (session ∷ gone)
among-first session gone = ap (λ (b : Bool). b || list_any (λ other. other == session) gone) (eq-eqb session session refl)

among-more : (session first : ℕ) (gone : List ℕ) → IsAmong session gone → IsAmong session (first ∷ gone)
among-more session first gone is = or-right (first == session) (list_any (λ other. other == session) gone) is

-- no session joined, and each token has the session that it had
still-served : (records added : List Recorded) (traffic after : Traffic) (old new : HubState) → AreServed records traffic old → ((session : ℕ) → HasJoined session added → ⊥)
    → ((token : ℕ) → session_at new token ≡ session_at old token) → ((token : ℕ) → after.opened token ≡ traffic.opened token) → after.closed ≡ traffic.closed
    → AreLines (records ++ added) after.taken after.given new → AreServed (records ++ added) after new
still-served records added traffic after old new served silent at opening closed lines = record {
  gone = served.gone;
  opened = λ token is. there-at token old new (at token) (served.opened token (sym (opening token) ∙ is));
  lines = lines;
  closed = subst (WereLines (records ++ added) served.gone) (sym closed) (were-then records added served.gone traffic.closed served.closed);
  left = λ token session is. leaving token session (served.left token session (sym (at token) ∙ is));
  joined = λ session has. coming session (joined-append session records added has);
}
  where
    leaving : (token session : ℕ) → (traffic.opened token ≡ true) ⊎ IsAmong session served.gone → (after.opened token ≡ true) ⊎ IsAmong session served.gone
    leaving token session (inl is) = inl (opening token ∙ is)
    leaving token session (inr is) = inr is

    there : (session : ℕ) → IsAmong session served.gone ⊎ ((token : ℕ) × (session_at old token ≡ Some session))
        → IsAmong session served.gone ⊎ ((token : ℕ) × (session_at new token ≡ Some session))
    there session (inl is) = inl is
    there session (inr is) = inr (is.0, at is.0 ∙ is.1)

    coming : (session : ℕ) → HasJoined session records ⊎ HasJoined session added → IsAmong session served.gone ⊎ ((token : ℕ) × (session_at new token ≡ Some session))
    coming session (inl has) = there session (served.joined session has)
    coming session (inr has) = absurd (silent session has)

-- ---- the hub and its sockets

pub serves-none : (loop : Loop) → Serves loop loop
serves-none loop = record {
  same = refl;
  goes_on = λ records traffic may served. record {
    added = [];
    traffic = traffic;
    told = tt;
    lasts = refl;
    may = may;
    served = subst (λ (r : List Recorded). AreServed r traffic loop.hub) (sym (append-nil records)) served;
  };
}

pub serves-then : (a b c : Loop) → Serves a b → Serves b c → Serves a c
serves-then a b c first second = record {
  same = second.same ∙ first.same;
  goes_on = λ records traffic may served.
      let one : GoOnAs a.may_tell a.hub.book.server.last records b.may_have b.hub = first.goes_on records traffic may served in
      let two : GoOnAs b.may_tell b.hub.book.server.last (records ++ one.added) c.may_have c.hub = second.goes_on (records ++ one.added) one.traffic one.may one.served in
      let bound : AreTold a.may_tell b.hub.book.server.last two.added = subst (λ (t : ℕ → Bool). AreTold t b.hub.book.server.last two.added) first.same two.told in
      record {
        added = one.added ++ two.added;
        traffic = two.traffic;
        told = told-append a.may_tell a.hub.book.server.last one.added two.added one.told (subst (λ (l : ℕ). AreTold a.may_tell l two.added) one.lasts bound);
        lasts = two.lasts ∙ ap (λ (l : ℕ). last_of l two.added) one.lasts ∙ sym (last-append a.hub.book.server.last one.added two.added);
        may = two.may;
        served = subst (λ (r : List Recorded). AreServed r two.traffic c.hub) (append_assoc records one.added two.added) two.served;
      };
}

module _ (old new : HubState) (may then_may : Traffic → Type 0) (may_tell then_tell : ℕ → Bool) where
  abbrev from : Loop
  from = record { hub = old; may_have = may; may_tell = may_tell }

  abbrev to : Loop
  to = record { hub = new; may_have = then_may; may_tell = then_tell }

  -- nothing passed through the sockets
  pub serves-both : ((traffic : Traffic) → may traffic → then_may traffic) → Keeps may_tell old then_tell new → Serves from to
  serves-both sockets keeps = record {
    same = keeps.same;
    goes_on = λ records traffic may served.
        let goes = keeps.goes_on records traffic.taken traffic.given served.lines in
        record {
          added = goes.added;
          traffic = traffic;
          told = goes.told;
          lasts = goes.lasts;
          may = sockets traffic may;
          served = still-served records goes.added traffic traffic old new served goes.silent keeps.at (λ token. refl) refl goes.lines;
        };
  }

  -- bytes of a connection were taken
  pub serves-takes : (token : ℕ) (piece : List ℕ) → ((traffic : Traffic) → may traffic → then_may (takes token piece traffic)) → TakesOn token piece may_tell old then_tell new → Serves from to
  serves-takes token piece sockets hub = record {
    same = hub.same;
    goes_on = λ records traffic may served.
        let goes = hub.goes_on records traffic.taken traffic.given served.lines in
        record {
          added = goes.added;
          traffic = takes token piece traffic;
          told = goes.told;
          lasts = goes.lasts;
          may = sockets traffic may;
          served = still-served records goes.added traffic (takes token piece traffic) old new served goes.silent hub.at (λ other. refl) refl goes.lines;
        };
  }

  -- some of what is to be sent to a connection was written
  pub serves-write : (token count : ℕ) (bytes : List ℕ) → then_tell ≡ may_tell → new.book ≡ old.book
      → Some bytes ≡ option_map (λ (line : ConnectionState). line.unsent) (old.at token)
      → IfSome (old.at token) (λ line. (records : List Recorded) (taken given : ℕ → List ℕ)
      → AreLines records taken given old → AreLines records taken (with_more token (take count line.unsent) given) new)
      → session_at new token ≡ session_at old token → ((other : ℕ) → other ≢ token → new.at other ≡ old.at other)
      → ((traffic : Traffic) → may traffic → then_may (gives token (take count bytes) traffic))
      → Serves from to
  serves-write token count bytes bound book shown sent here others wrote = record {
    same = bound;
    goes_on = λ records traffic is served.
        let lines = by (old.at token) shown sent records traffic.taken traffic.given served.lines in
        record {
          added = [];
          traffic = gives token (take count bytes) traffic;
          told = tt;
          lasts = ap (λ (b : BookState). b.server.last) book;
          may = wrote traffic is;
          served = still-served records [] traffic (gives token (take count bytes) traffic) old new served (λ session has. has) (λ other. at-by token old new here others other)
              (λ other. refl) refl (subst (λ (r : List Recorded). AreLines r traffic.taken (with_more token (take count bytes) traffic.given) new) (sym (append-nil records)) lines);
        };
  }
    where
      Sent : List ℕ → Type 0
      Sent unsent = (records : List Recorded) (taken given : ℕ → List ℕ)
          → AreLines records taken given old → AreLines records taken (with_more token (take count unsent) given) new

      by : (at : Option ConnectionState) → Some bytes ≡ option_map (λ (line : ConnectionState). line.unsent) at → IfSome at (λ line. Sent line.unsent) → Sent bytes
      by None is sends = absurd (cc)
      by (Some line) is sends = let same : bytes ≡ line.unsent = cc in subst Sent (sym same) sends

  -- a connection is closed, and its session leaves
  pub serves-close : (token : ℕ) → ((traffic : Traffic) → may traffic → then_may (closes token traffic)) → Releases token may_tell old then_tell new → Serves from to
  serves-close token sockets hub = record {
    same = hub.same;
    goes_on = λ records traffic is served.
        let goes = hub.goes_on records traffic.taken traffic.given served.lines in
        record {
          added = goes.added;
          traffic = closes token traffic;
          told = goes.told;
          lasts = goes.lasts;
          may = sockets traffic is;
          served = after records goes.added traffic served goes.lines goes.silent (traffic.opened token) refl;
        };
  }
    where
      apart : (other : ℕ) → (other == token) ≡ false → other ≢ token
      apart other e same = true≢false (sym (eq-eqb other token same) ∙ e)

      -- one that is open there is closed
      shut : (records added : List Recorded) (traffic : Traffic) → AreServed records traffic old → AreLines (records ++ added) traffic.taken traffic.given new
          → ((session : ℕ) → HasJoined session added → ⊥) → (session : ℕ) → session_at old token ≡ Some session → AreServed (records ++ added) (record {
            opened = with_answer token false traffic.opened;
            taken = traffic.taken;
            given = traffic.given;
            closed = record { taken = traffic.taken token; given = traffic.given token } ∷ traffic.closed;
          }) new
      shut records added traffic served lines silent own is_own = record {
        gone = own ∷ served.gone;
        opened = λ other is. opening other is (other == token) refl;
        lines = lines;
        closed = (
          was-then records added own (record { taken = traffic.taken token; given = traffic.given token }) (closing records traffic.taken traffic.given token own old served.lines is_own),
          were-then records added served.gone traffic.closed served.closed,
        );
        left = λ other session is. leaving other session is (other == token) refl;
        joined = λ session has. coming session (joined-append session records added has);
      }
        where
          this : (session : ℕ) → session_at old token ≡ Some session → IsAmong session (own ∷ served.gone)
          this session is =
              let same : own ≡ session = let both : Some own ≡ Some session = sym is_own ∙ is in cc in
              subst (λ (s : ℕ). IsAmong session (s ∷ served.gone)) (sym same) (among-first session served.gone)

          opening : (other : ℕ) → with_answer token false traffic.opened other ≡ true → (test : Bool) → (other == token) ≡ test → IsSome (new.at other)
          opening other is true e = absurd (true≢false (sym (sym (ap (λ (b : Bool). cond b false (traffic.opened other)) e) ∙ is)))
          opening other is false e =
              there-at other old new (hub.others other (apart other e)) (served.opened other (sym (ap (λ (b : Bool). cond b false (traffic.opened other)) e) ∙ is))

          still : (other session : ℕ) → (other == token) ≡ false → (traffic.opened other ≡ true) ⊎ IsAmong session served.gone
              → (with_answer token false traffic.opened other ≡ true) ⊎ IsAmong session (own ∷ served.gone)
          still other session e (inl is) = inl (ap (λ (b : Bool). cond b false (traffic.opened other)) e ∙ is)
          still other session e (inr is) = inr (among-more session own served.gone is)

          leaving : (other session : ℕ) → session_at new other ≡ Some session → (test : Bool) → (other == token) ≡ test
              → (with_answer token false traffic.opened other ≡ true) ⊎ IsAmong session (own ∷ served.gone)
          leaving other session is true e =
              inr (this session (hub.at session (subst (λ (t : ℕ). session_at new t ≡ Some session) (eqb-true other token e) is)))
          leaving other session is false e = still other session e (served.left other session (sym (hub.others other (apart other e)) ∙ is))

          held : (session other : ℕ) → session_at old other ≡ Some session → (test : Bool) → (other == token) ≡ test
              → IsAmong session (own ∷ served.gone) ⊎ ((at : ℕ) × (session_at new at ≡ Some session))
          held session other is true e = inl (this session (subst (λ (t : ℕ). session_at old t ≡ Some session) (eqb-true other token e) is))
          held session other is false e = inr (other, hub.others other (apart other e) ∙ is)

          there : (session : ℕ) → IsAmong session served.gone ⊎ ((at : ℕ) × (session_at old at ≡ Some session))
              → IsAmong session (own ∷ served.gone) ⊎ ((at : ℕ) × (session_at new at ≡ Some session))
          there session (inl is) = inl (among-more session own served.gone is)
          there session (inr is) = held session is.0 is.1 (is.0 == token) refl

          coming : (session : ℕ) → HasJoined session records ⊎ HasJoined session added → IsAmong session (own ∷ served.gone) ⊎ ((at : ℕ) × (session_at new at ≡ Some session))
          coming session (inl has) = there session (served.joined session has)
          coming session (inr has) = absurd (silent session has)

      -- none is open there: one whose session could not leave before
      over : (records added : List Recorded) (traffic : Traffic) → AreServed records traffic old → AreLines (records ++ added) traffic.taken traffic.given new
          → ((session : ℕ) → HasJoined session added → ⊥) → traffic.opened token ≡ false → AreServed (records ++ added) traffic new
      over records added traffic served lines silent none = record {
        gone = served.gone;
        opened = λ other is. opening other is (other == token) refl;
        lines = lines;
        closed = were-then records added served.gone traffic.closed served.closed;
        left = λ other session is. leaving other session is (other == token) refl;
        joined = λ session has. coming session (joined-append session records added has);
      }
        where
          opening : (other : ℕ) → traffic.opened other ≡ true → (test : Bool) → (other == token) ≡ test → IsSome (new.at other)
          opening other is true e = absurd (true≢false (sym is ∙ ap traffic.opened (eqb-true other token e) ∙ none))
          opening other is false e = there-at other old new (hub.others other (apart other e)) (served.opened other is)

          this : (session : ℕ) → (traffic.opened token ≡ true) ⊎ IsAmong session served.gone → IsAmong session served.gone
          this session (inl is) = absurd (true≢false (sym is ∙ none))
          this session (inr is) = is

          leaving : (other session : ℕ) → session_at new other ≡ Some session → (test : Bool) → (other == token) ≡ test
              → (traffic.opened other ≡ true) ⊎ IsAmong session served.gone
          leaving other session is true e =
              inr (this session (served.left token session (hub.at session (subst (λ (t : ℕ). session_at new t ≡ Some session) (eqb-true other token e) is))))
          leaving other session is false e = served.left other session (sym (hub.others other (apart other e)) ∙ is)

          held : (session other : ℕ) → session_at old other ≡ Some session → (test : Bool) → (other == token) ≡ test
              → IsAmong session served.gone ⊎ ((at : ℕ) × (session_at new at ≡ Some session))
          held session other is true e = inl (this session (served.left token session (subst (λ (t : ℕ). session_at old t ≡ Some session) (eqb-true other token e) is)))
          held session other is false e = inr (other, hub.others other (apart other e) ∙ is)

          there : (session : ℕ) → IsAmong session served.gone ⊎ ((at : ℕ) × (session_at old at ≡ Some session))
              → IsAmong session served.gone ⊎ ((at : ℕ) × (session_at new at ≡ Some session))
          there session (inl is) = inl is
          there session (inr is) = held session is.0 is.1 (is.0 == token) refl

          coming : (session : ℕ) → HasJoined session records ⊎ HasJoined session added → IsAmong session served.gone ⊎ ((at : ℕ) × (session_at new at ≡ Some session))
          coming session (inl has) = there session (served.joined session has)
          coming session (inr has) = absurd (silent session has)

      after : (records added : List Recorded) (traffic : Traffic) → AreServed records traffic old → AreLines (records ++ added) traffic.taken traffic.given new
          → ((session : ℕ) → HasJoined session added → ⊥)
          → (test : Bool) → traffic.opened token ≡ test → AreServed (records ++ added) (cond test (record {
            opened = with_answer token false traffic.opened;
            taken = traffic.taken;
            given = traffic.given;
            closed = record { taken = traffic.taken token; given = traffic.given token } ∷ traffic.closed;
          }) traffic) new
      after records added traffic served lines silent true e =
          let own = session-there token old (served.opened token e) in
          shut records added traffic served lines silent own.0 own.1
      after records added traffic served lines silent false e = over records added traffic served lines silent e

  -- a connection comes, and its session joins
  pub serves-name : (token moment : ℕ) → then_tell ≡ may_tell → IsTrue (may_tell moment) → old.at token ≡ None → session_at new token ≡ Some (next_index old.book)
      → ((other : ℕ) → other ≢ token → new.at other ≡ old.at other) → Occurs old.book moment events.Join new.book
      → ((records : List Recorded) (taken given : ℕ → List ℕ) → AreLines records taken given old → GoOn records (with_none token taken) (with_none token given) new)
      → ((traffic : Traffic) → may traffic → then_may (names token traffic))
      → Serves from to
  serves-name token moment bound told free here others occurs lines sockets = record {
    same = bound;
    goes_on = λ records traffic is served.
        let goes = lines records traffic.taken traffic.given served.lines in
        let own = added-same old.book new.book records goes.added coming served.lines.0 goes.lines.0 occurs.stepped.same_base occurs.stepped.grown in
        let same = added-same old.book new.book records goes.added timed.added served.lines.0 goes.lines.0 occurs.stepped.same_base timed.grown in
        let times = times-at may_tell moment old.book new.book goes.added told timed same in
        record {
          added = goes.added;
          traffic = names token traffic;
          told = times.0;
          lasts = times.1;
          may = sockets traffic is;
          served = after records goes.added traffic served goes.lines own (traffic.opened token) refl;
        };
  }
    where
      coming : List Recorded
      coming = event_record old.book moment events.Join ∷ occurs.stepped.servings

      timed : IsTimed moment old.book new.book
      timed = step-timed old.book moment events.Join occurs.answer new.book occurs.stepped

      none : IsSome (old.at token) → ⊥
      none is = true≢false (sym (subst (λ (o : Option ConnectionState). IsSome o) free is))

      no_session : (session : ℕ) → session_at old token ≡ Some session → ⊥
      no_session session is =
          let no : None ≡ Some session = sym (ap (λ (o : Option ConnectionState). option_map (λ (line : ConnectionState). line.session) o) free) ∙ is in cc

      apart : (other : ℕ) → (other == token) ≡ false → other ≢ token
      apart other e same = true≢false (sym (eq-eqb other token same) ∙ e)

      some-here : IsSome (new.at token)
      some-here = by (new.at token) here
        where
          by : (at : Option ConnectionState) → option_map (λ (line : ConnectionState). line.session) at ≡ Some (next_index old.book) → IsSome at
          by None is = absurd (cc)
          by (Some line) is = refl

      begun : (records added : List Recorded) (traffic : Traffic) → AreServed records traffic old
          → AreLines (records ++ added) (with_none token traffic.taken) (with_none token traffic.given) new → added ≡ coming → AreServed (records ++ added) (begins token traffic) new
      begun records added traffic served lines own = record {
        gone = served.gone;
        opened = λ other is. opening other (other == token) refl is;
        lines = lines;
        closed = were-then records added served.gone traffic.closed served.closed;
        left = λ other session is. leaving other session (other == token) refl is;
        joined = λ session has. joins session (joined-append session records added has);
      }
        where
          opening : (other : ℕ) (test : Bool) → (other == token) ≡ test → cond test true (traffic.opened other) ≡ true → IsSome (new.at other)
          opening other true e is = subst (λ (t : ℕ). IsSome (new.at t)) (sym (eqb-true other token e)) some-here
          opening other false e is = subst (λ (o : Option ConnectionState). IsSome o) (sym (others other (apart other e))) (served.opened other is)

          leaving : (other session : ℕ) (test : Bool) → (other == token) ≡ test → session_at new other ≡ Some session
              → (cond test true (traffic.opened other) ≡ true) ⊎ IsAmong session served.gone
          leaving other session true e is = inl refl
          leaving other session false e is = served.left other session (sym (session-same other old new (others other (apart other e))) ∙ is)

          held : (session other : ℕ) → session_at old other ≡ Some session → (test : Bool) → (other == token) ≡ test → (at : ℕ) × (session_at new at ≡ Some session)
          held session other is true e = absurd (no_session session (subst (λ (t : ℕ). session_at old t ≡ Some session) (eqb-true other token e) is))
          held session other is false e = (other, session-same other old new (others other (apart other e)) ∙ is)

          there : (session : ℕ) → IsAmong session served.gone ⊎ ((at : ℕ) × (session_at old at ≡ Some session))
              → IsAmong session served.gone ⊎ ((at : ℕ) × (session_at new at ≡ Some session))
          there session (inl is) = inl is
          there session (inr is) = inr (held session is.0 is.1 (is.0 == token) refl)

          this : (session : ℕ) → HasJoined session coming → (at : ℕ) × (session_at new at ≡ Some session)
          this session (inl is) = (token, here ∙ ap (λ (n : ℕ). Some n) is.1)
          this session (inr has) = absurd (servings-silent session occurs.stepped.servings occurs.stepped.served has)

          joins : (session : ℕ) → HasJoined session records ⊎ HasJoined session added → IsAmong session served.gone ⊎ ((at : ℕ) × (session_at new at ≡ Some session))
          joins session (inl has) = there session (served.joined session has)
          joins session (inr has) = inr (this session (subst (HasJoined session) own has))

      after : (records added : List Recorded) (traffic : Traffic) → AreServed records traffic old
          → AreLines (records ++ added) (with_none token traffic.taken) (with_none token traffic.given) new → added ≡ coming
          → (test : Bool) → traffic.opened token ≡ test → AreServed (records ++ added) (begins token (cond test (record {
            opened = with_answer token false traffic.opened;
            taken = traffic.taken;
            given = traffic.given;
            closed = record { taken = traffic.taken token; given = traffic.given token } ∷ traffic.closed;
          }) traffic)) new
      after records added traffic served lines own true e = absurd (none (served.opened token e))
      after records added traffic served lines own false e = begun records added traffic served lines own

-- the sockets alone
pub serves-same : (hub : HubState) (may then_may : Traffic → Type 0) (may_tell then_tell : ℕ → Bool) → then_tell ≡ may_tell → ((traffic : Traffic) → may traffic → then_may traffic)
    → Serves (record { hub = hub; may_have = may; may_tell = may_tell }) (record { hub = hub; may_have = then_may; may_tell = then_tell })
serves-same hub may then_may may_tell then_tell bound sockets = serves-both hub hub may then_may may_tell then_tell sockets (keeps-same may_tell then_tell hub hub bound refl)

-- the hub alone
pub serves-keeps : (old new : HubState) (may : Traffic → Type 0) (may_tell then_tell : ℕ → Bool) → Keeps may_tell old then_tell new
    → Serves (record { hub = old; may_have = may; may_tell = may_tell }) (record { hub = new; may_have = may; may_tell = then_tell })
serves-keeps old new may may_tell then_tell keeps = serves-both old new may may may_tell then_tell (λ traffic is. is) keeps

-- the keeper alone
pub serves-bound : (hub : HubState) (may : Traffic → Type 0) (may_tell then_tell : ℕ → Bool) → then_tell ≡ may_tell
    → Serves (record { hub = hub; may_have = may; may_tell = may_tell }) (record { hub = hub; may_have = may; may_tell = then_tell })
serves-bound hub may may_tell then_tell bound = serves-same hub may may may_tell then_tell bound (λ traffic is. is)

-- it ends bound to the same
pub serves-to : (loop : Loop) (hub : HubState) (may : Traffic → Type 0) (may_tell then_tell : ℕ → Bool) → then_tell ≡ may_tell
    → Serves loop (record { hub = hub; may_have = may; may_tell = may_tell }) → Serves loop (record { hub = hub; may_have = may; may_tell = then_tell })
serves-to loop hub may may_tell then_tell bound serves =
    serves-then loop (record { hub = hub; may_have = may; may_tell = may_tell }) (record { hub = hub; may_have = may; may_tell = then_tell }) serves (serves-bound hub may may_tell then_tell bound)

-- it begins bound to the same
pub serves-from : (hub : HubState) (may : Traffic → Type 0) (may_tell then_tell : ℕ → Bool) (loop : Loop) → then_tell ≡ may_tell
    → Serves (record { hub = hub; may_have = may; may_tell = then_tell }) loop → Serves (record { hub = hub; may_have = may; may_tell = may_tell }) loop
serves-from hub may may_tell then_tell loop bound serves =
    serves-then (record { hub = hub; may_have = may; may_tell = may_tell }) (record { hub = hub; may_have = may; may_tell = then_tell }) loop (serves-bound hub may may_tell then_tell bound) serves

-- a keeper that did not change has the same clock
pub tells-same : {C : Type 0} (may_tell : C → ℕ → Bool) (old new : KeeperState C) → new ≡ old → may_tell new.clock ≡ may_tell old.clock
tells-same may_tell old new same = ap (λ (k : KeeperState _). may_tell k.clock) same

pub clock-same : {C : Type 0} (may_tell : C → ℕ → Bool) (old new : C) → new ≡ old → may_tell new ≡ may_tell old
clock-same may_tell old new same = ap may_tell same

-- ---- what a call of the hub leaves there

-- the one that came has this session
pub session-is : (at : Option ConnectionState) (session : ℕ) → IsSomeAnd at (λ line. line.session ≡ session) → option_map (λ (line : ConnectionState). line.session) at ≡ Some session
session-is None session is = absurd (is)
session-is (Some line) session is = ap (λ (n : ℕ). Some n) is

-- the one of which bytes were sent has its session still
pub session-sent : (token count : ℕ) (old new : HubState) → new.at token ≡ option_map (λ (line : ConnectionState). record line { unsent = drop count line.unsent }) (old.at token)
    → session_at new token ≡ session_at old token
session-sent token count old new at = ap of at ∙ mapped (old.at token)
  where
    of : Option ConnectionState → Option ℕ
    of o = option_map (λ (line : ConnectionState). line.session) o

    mapped : (o : Option ConnectionState) → of (option_map (λ (line : ConnectionState). record line { unsent = drop count line.unsent }) o) ≡ of o
    mapped None = refl
    mapped (Some line) = refl

pub keeps-to : (may_tell then_tell : ℕ → Bool) (old new : HubState) → then_tell ≡ may_tell → Keeps may_tell old may_tell new → Keeps may_tell old then_tell new
keeps-to may_tell then_tell old new bound keeps = subst (λ (t : ℕ → Bool). Keeps may_tell old t new) (sym bound) keeps

-- deadlines are looked at
pub keeps-tick : (may_tell : ℕ → Bool) (moment : ℕ) (old new : HubState) (result : Result Bool BookFault) → IsTrue (may_tell moment)
    → IfOk result (λ done. IsTrue done → Occurs old.book moment events.Expire new.book) → IfOk result (λ done. done ≡ false → new ≡ old) → OnErr result (new ≡ old)
    → ((token : ℕ) → new.at token ≡ old.at token)
    → ((records : List Recorded) (taken given : ℕ → List ℕ) → AreLines records taken given old → GoOn records taken given new)
    → Keeps may_tell old may_tell new
keeps-tick may_tell moment old new (Ok true) told event none err same lines =
    let occurs = event refl in
    keeps-at may_tell moment old new told (step-timed old.book moment events.Expire occurs.answer new.book occurs.stepped)
    (quiet-step old.book moment events.Expire occurs.answer new.book occurs.stepped (λ join. cc)) (λ token. session-same token old new (same token)) lines
keeps-tick may_tell moment old new (Ok false) told event none err same lines = keeps-same may_tell may_tell old new refl (none refl)
keeps-tick may_tell moment old new (Err fault) told event none err same lines = keeps-same may_tell may_tell old new refl err

-- a session leaves, or that is refused
pub releases-close : (token : ℕ) (may_tell then_tell : ℕ → Bool) (moment : ℕ) (old new : HubState) (result : Result (Unit {0}) BookFault) → then_tell ≡ may_tell → IsTrue (may_tell moment)
    → OnOk result (LeavesOf (old.at token) old.book moment new.book) → OnOk result (new.at token ≡ None) → ((other : ℕ) → other ≢ token → new.at other ≡ old.at other)
    → OnOk result ((records : List Recorded) (taken given : ℕ → List ℕ) → AreLines records taken given old → GoOn records taken given new)
    → OnErr result (new ≡ old) → Releases token may_tell old then_tell new
releases-close token may_tell then_tell moment old new (Ok done) bound told leaves none others lines err =
    subst (λ (t : ℕ → Bool). Releases token may_tell old t new) (sym bound) (releases-leave token may_tell moment old new told leaves none others lines)
releases-close token may_tell then_tell moment old new (Err fault) bound told leaves none others lines err = releases-same token may_tell then_tell old new bound err

pub takes-to : (token : ℕ) (piece : List ℕ) (may_tell then_tell : ℕ → Bool) (old new : HubState) → then_tell ≡ may_tell → TakesOn token piece may_tell old may_tell new
    → TakesOn token piece may_tell old then_tell new
takes-to token piece may_tell then_tell old new bound takes = subst (λ (t : ℕ → Bool). TakesOn token piece may_tell old t new) (sym bound) takes

-- a checkpoint is made, or none
pub keeps-cut : (may_tell : ℕ → Bool) (old new : HubState) (result : Bool) → (IsTrue result → new.book ≡ rebased old.book) → (result ≡ false → new ≡ old)
    → ((token : ℕ) → new.at token ≡ old.at token)
    → ((records : List Recorded) (taken given : ℕ → List ℕ) → AreLines records taken given old → AreLines records taken given new) → Keeps may_tell old may_tell new
keeps-cut may_tell old new true book none same lines = keeps-lines may_tell old new (ap (λ (b : BookState). b.server.last) (book refl)) same lines
keeps-cut may_tell old new false book none same lines = keeps-same may_tell may_tell old new refl (none refl)

-- they are passed over
pub takes-same : (token : ℕ) (piece : List ℕ) (may_tell : ℕ → Bool) (old new : HubState) → new.book ≡ old.book → ((other : ℕ) → session_at new other ≡ session_at old other)
    → ((records : List Recorded) (taken given : ℕ → List ℕ) → AreLines records taken given old → GoOn records (with_more token piece taken) given new)
    → TakesOn token piece may_tell old may_tell new
takes-same token piece may_tell old new book at lines = record {
  same = refl;
  goes_on = λ records taken given was.
      let goes = lines records taken given was in
      let none : goes.added ≡ [] = added-same old.book new.book records goes.added [] was.0 goes.lines.0 (ap (λ (b : BookState). b.base) book)
      (ap (λ (b : BookState). b.records) book ∙ sym (append-nil old.book.records)) in
      record {
        added = goes.added;
        told = subst (AreTold may_tell old.book.server.last) (sym none) tt;
        lasts = ap (λ (b : BookState). b.server.last) book ∙ ap (λ (l : List Recorded). last_of old.book.server.last l) (sym none);
        silent = λ session has. subst (HasJoined session) none has;
        lines = goes.lines;
      };
  at = at;
}
