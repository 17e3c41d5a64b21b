-- Records in which a session says nothing leave the line of its connection a line; and all records stay all records.
use Rattle.std.proofs.Common.{◌≡◌, ◌==◌, ◌⊎◌, inl, inr, ℕ, ◌+◌, true, false, List, [], ◌∷◌, ◌++◌, append_assoc, length, length-append, Option, Some, refl, ap, sym, subst, ◌∙◌, arith, true≢false}
use Rattle.std.proofs.lemmas.List.{append-nil}
use Rattle.std.specs.List.{AllByRecursion}
use Rattle.sr_resp.specs.{Words, Progress}
use Rattle.sr_resp.specs.Reply.{ReplyParts}
use Rattle.sr_waiters.specs.{has_session}
use Rattle.sr_book.specs.{Given, is_open, letter_of, BookState, IsHistory, Recorded, next_index}
use Rattle.sr_book.specs.Server.{Server, speaker}
use Rattle.sr_book.specs.Records.{AreServings, Legal, addressed, is_serving, rebased, to_session}
use Rattle.sr_book.specs.declared.event.Act.{Act}
use Rattle.sr_book.specs.declared.event.Act.TheVariants as acts
use Rattle.sr_book.specs.declared.event.Event.{Event}
use Rattle.sr_book.proofs.BaseLemmas.{all-legal, all_records}
use Rattle.sr_hub.specs.declared.stage.Judging.{Judging}
use Rattle.sr_hub.specs.declared.stage.Recovery.{Recovery}
use Rattle.sr_hub.specs.declared.stage.Stage.{Stage}
use Rattle.sr_hub.specs.declared.stage.Stage.TheVariants as stages
use Rattle.sr_hub.specs.OneRequest.{AreOf, is_by, said_in, spoken}
use Rattle.sr_hub.specs.Line.{ConnectionState, IsAskingFor, IsFree, IsJudging, IsLine, IsLost, IsResting, IsWaitingFor, Stays, said_nothing, was_begun}
use Rattle.sr_hub.specs.Lines.{AreAll}
use Rattle.sr_hub.specs.Said.{IsOwn}
use Rattle.sr_hub.proofs.PassLemmas.{Passes, led-passes}
use Rattle.sr_hub.proofs.SoundLemmas.{IsReachedBy, reached-grows, reached-sound}

-- ---- records after records

pub spoken-append : (session : ℕ) (first second : List Recorded) → spoken session (first ++ second) ≡ spoken session first ++ spoken session second
spoken-append session [] second = refl
spoken-append session (x ∷ first) second =
    ap (λ (l : List Event). said_in session x.act ++ l) (spoken-append session first second)
    ∙ sym (append_assoc (said_in session x.act) (spoken session first) (spoken session second))

pub addressed-append : (session : ℕ) (first second : List Recorded) → addressed session (first ++ second) ≡ addressed session first ++ addressed session second
addressed-append session [] second = refl
addressed-append session (x ∷ first) second =
    ap (λ (l : List ReplyParts). to_session session x.replies ++ l) (addressed-append session first second)
    ∙ sym (append_assoc (to_session session x.replies) (addressed session first) (addressed session second))

-- more records in which it says nothing
pub spoken-same : (session : ℕ) (first second : List Recorded) → spoken session second ≡ [] → spoken session (first ++ second) ≡ spoken session first
spoken-same session first second says =
    spoken-append session first second ∙ ap (λ (l : List Event). spoken session first ++ l) says ∙ append-nil (spoken session first)

-- more records that address nothing to it
pub addressed-same : (session : ℕ) (first second : List Recorded) → addressed session second ≡ [] → addressed session (first ++ second) ≡ addressed session first
addressed-same session first second silent =
    addressed-append session first second ∙ ap (λ (l : List ReplyParts). addressed session first ++ l) silent ∙ append-nil (addressed session first)

empty-both : (xs ys : List Event) → xs ++ ys ≡ [] → (xs ≡ []) × (ys ≡ [])
empty-both [] ys is = (refl, is)
empty-both (x ∷ xs) ys is = absurd (cc)

-- ---- a session in records in which it says nothing

passes-then : (session : ℕ) (old : Server) (first : List ReplyParts) (middle : Server) (second : List ReplyParts) (new : Server)
    → Passes session old first middle → Passes session middle second new → Passes session old (first ++ second) new
passes-then session old first middle second new (inl one) (inl two) = inl (record {
  opened = λ opened. two.opened (one.opened opened);
  waits = two.waits ∙ one.waits;
  letter = two.letter ∙ one.letter;
  silent = ap (λ (l : List ReplyParts). l ++ second) one.silent ∙ two.silent;
})
passes-then session old first middle second new (inl one) (inr two) = inr (record {
  waited = sym one.waits ∙ two.waited;
  given = two.given;
  opened = λ opened. two.opened (one.opened opened);
  absent = two.absent;
  letter = two.letter;
  told = ap (λ (l : List ReplyParts). l ++ second) one.silent ∙ two.told;
})
passes-then session old first middle second new (inr one) (inl two) = inr (record {
  waited = one.waited;
  given = one.given;
  opened = λ opened. two.opened (one.opened opened);
  absent = two.waits ∙ one.absent;
  letter = two.letter ∙ one.letter;
  told = ap (λ (l : List ReplyParts). l ++ second) one.told ∙ ap (λ (l : List ReplyParts). one.given.reply ∷ l) two.silent;
})
passes-then session old first middle second new (inr one) (inr two) = absurd (true≢false (sym two.waited ∙ one.absent))

pub records-pass : (session : ℕ) (before : List Recorded) (index : ℕ) (old : Server) (more : List Recorded) (new : Server) → IsReachedBy before index old → Legal index old more new
    → spoken session more ≡ [] → Passes session old (addressed session more) new
records-pass session before index old [] new reached legal says =
    let P : Server → Type 0 = λ s. Passes session old [] s in
    subst P (sym legal) (inl (record { opened = λ opened. opened; waits = refl; letter = refl; silent = refl }))
records-pass session before index old (first ∷ others) new reached legal says =
    let both = empty-both (said_in session first.act) (spoken session others) says in
    let here : Passes session old (to_session session first.replies) legal.0 =
    led-passes session index first.moment first.replies old legal.0 first.act (reached-sound before index old reached) legal.1.1 both.0 in
    let next : IsReachedBy (before ++ first ∷ []) (index + 1) legal.0 =
    reached-grows before index old (first ∷ []) legal.0 reached (legal.0, legal.1, refl) in
    passes-then session old (to_session session first.replies) legal.0 (addressed session others) new here
    (records-pass session (before ++ first ∷ []) (index + 1) legal.0 others new next legal.2 both.1)

-- ---- where its connection stands

module _ (session : ℕ) (old new : Server) (records more : List Recorded) (says : spoken session more ≡ []) where
  -- one that may call is sent nothing, and may call
  pub free-passes : IsFree session old → Passes session old (addressed session more) new → IsFree session new × (addressed session more ≡ [])
  free-passes free (inl kept) = (record { opened = kept.opened free.opened; absent = kept.waits ∙ free.absent }, kept.silent)
  free-passes free (inr given) = absurd (true≢false (sym given.waited ∙ free.absent))

  resting-passes : (held : List Words) → Passes session old (addressed session more) new → IsResting session old records held → IsResting session new (records ++ more) held
  resting-passes held passes rests =
      let both = free-passes rests.free passes in
      record {
        none = rests.none;
        silent = record {
          says_nothing = spoken-same session records more says ∙ rests.silent.says_nothing;
          gets_nothing = addressed-same session records more both.1 ∙ rests.silent.gets_nothing;
        };
        free = both.0;
      }

  asking-passes : (held : List Words) (asked : Recovery) → Passes session old (addressed session more) new → IsAskingFor session old records held asked
      → IsAskingFor session new (records ++ more) held asked
  asking-passes held asked passes asks =
      let both = free-passes asks.free passes in
      record {
        words = asks.words;
        one = asks.one;
        is = asks.is;
        silent = record {
          says_nothing = spoken-same session records more says ∙ asks.silent.says_nothing;
          gets_nothing = addressed-same session records more both.1 ∙ asks.silent.gets_nothing;
        };
        free = both.0;
      }

  judging-passes : (held : List Words) (judging : Judging) → Passes session old (addressed session more) new → IsJudging session old records held judging
      → IsJudging session new (records ++ more) held judging
  judging-passes held judging passes judges =
      let both = free-passes judges.free passes in
      record {
        words = judges.words;
        tries = judges.tries;
        key = judges.key;
        group = judges.group;
        dead = judges.dead;
        verdicts = judges.verdicts;
        one = judges.one;
        is = judges.is;
        said = spoken-same session records more says ∙ judges.said;
        rounds = judges.rounds;
        left = judges.left;
        of_key = judges.of_key;
        of_group = judges.of_group;
        of_dead = judges.of_dead;
        silent = addressed-same session records more both.1 ∙ judges.silent;
        free = both.0;
      }

  -- it waits, and nothing was addressed to it, or it has the one reply that was
  abbrev StandsIn : Server → List Recorded → Type 0
  StandsIn server all =
      ((has_session session server.waiting ≡ true) × (addressed session all ≡ []))
      ⊎ ((given : Given) × (has_session session server.waiting ≡ false)
      × (letter_of session server.sessions ≡ Some given) × (addressed session all ≡ given.reply ∷ []))

  stands-passes : Passes session old (addressed session more) new → StandsIn old records → StandsIn new (records ++ more)
  stands-passes (inl kept) (inl waits) = inl (kept.waits ∙ waits.0, addressed-same session records more kept.silent ∙ waits.1)
  stands-passes (inr given) (inl waits) = inr (
    given.given,
    given.absent,
    given.letter,
    addressed-append session records more ∙ ap (λ (l : List ReplyParts). l ++ addressed session more) waits.1 ∙ given.told,
  )
  stands-passes (inl kept) (inr told) = inr (
    told.0,
    kept.waits ∙ told.1,
    kept.letter ∙ told.2,
    addressed-same session records more kept.silent ∙ told.3,
  )
  stands-passes (inr given) (inr told) = absurd (true≢false (sym given.waited ∙ told.1))

  -- it stays open
  pub opened-passes : is_open session old.sessions ≡ true → Passes session old (addressed session more) new → is_open session new.sessions ≡ true
  opened-passes opened (inl kept) = kept.opened opened
  opened-passes opened (inr given) = given.opened opened

  waiting-passes : (held : List Words) → Passes session old (addressed session more) new → IsWaitingFor session old records held → IsWaitingFor session new (records ++ more) held
  waiting-passes held passes waits = record {
    words = waits.words;
    call = waits.call;
    one = waits.one;
    is = waits.is;
    said = spoken-same session records more says ∙ waits.said;
    opened = opened-passes waits.opened passes;
    stands = stands-passes passes waits.stands;
  }

  lost-passes : (held : List Words) → IsLost session records held → IsLost session (records ++ more) held
  lost-passes held (said_nothing few none) = said_nothing few (spoken-same session records more says ∙ none)
  lost-passes held (was_begun words asked one is of) = was_begun words asked one is (subst (AreOf session asked) (sym (spoken-same session records more says)) of)

  stays-passes : (held : List Words) (requests : Progress) (stage : Stage) → Passes session old (addressed session more) new
      → Stays session old records held requests stage → Stays session new (records ++ more) held requests stage
  stays-passes held requests stages.Idle passes stays = resting-passes held passes stays
  stays-passes held requests stages.Waiting passes stays = waiting-passes held passes stays
  stays-passes held requests (stages.Asks asked) passes stays = asking-passes held asked.value passes stays
  stays-passes held requests (stages.Judges judging) passes stays = judging-passes held judging passes stays
  stays-passes held requests stages.Broken passes stays = (resting-passes held passes stays.0, stays.1, stays.2)
  stays-passes held requests stages.CutOff passes stays = lost-passes held stays

-- ---- a line

line-goes_on : (records more : List Recorded) (index : ℕ) (old new : Server) (taken given : List ℕ) (line : ConnectionState) → IsReachedBy records index old → Legal index old more new
    → spoken line.session more ≡ [] → IsLine records old taken given line → IsLine (records ++ more) new taken given line
line-goes_on records more index old new taken given line reached legal says is =
    let passes = records-pass line.session records index old more new reached legal says in
    record {
      found = is.found;
      told = is.told;
      more = is.more ++ more;
      answered = is.answered;
      held = is.held;
      text = is.text;
      looked_at = is.looked_at;
      passed_over = is.passed_over;
      joined = is.joined;
      bytes = is.bytes;
      none_passed = is.none_passed;
      stands = is.stands;
      tells = is.tells;
      spelled = is.spelled;
      whole = ap (λ (l : List Recorded). l ++ more) is.whole ∙ append_assoc is.told is.more more;
      stays = stays-passes line.session old new is.more more says is.held line.requests line.stage passes is.stays;
    }

-- ---- all records of a book

pub all-reached : (records : List Recorded) (book : BookState) → AreAll records book → IsReachedBy records (next_index book) book.server
all-reached records book all = record {
  legal = all.legal;
  next = omega (arith, ap (λ (l : List Recorded). length l) all.kept, length-append all.dropped book.records, all.counted);
}

-- records of other sessions leave a line a line
pub line-passes : (records more : List Recorded) (old : BookState) (new : Server) (taken given : List ℕ) (line : ConnectionState) → AreAll records old
    → Legal (next_index old) old.server more new → spoken line.session more ≡ [] → IsLine records old.server taken given line → IsLine (records ++ more) new taken given line
line-passes records more old new taken given line all legal says is =
    line-goes_on records more (next_index old) old.server new taken given line (all-reached records old all) legal says is

pub all-grows : (records more : List Recorded) (old new : BookState) → AreAll records old → new.base ≡ old.base → new.records ≡ old.records ++ more
    → Legal (next_index old) old.server more new.server → AreAll (records ++ more) new
all-grows records more old new all base grown legal =
    let reached = reached-grows records (next_index old) old.server more new.server (all-reached records old all) legal in
    record {
      dropped = all.dropped;
      kept = ap (λ (l : List Recorded). l ++ more) all.kept ∙ append_assoc all.dropped old.records more ∙ ap (λ (l : List Recorded). all.dropped ++ l) (sym grown);
      counted = all.counted ∙ ap (λ b. b.index) (sym base);
      legal = reached.legal;
    }

pub all-rebased : (records : List Recorded) (old : BookState) → AreAll records old → AreAll records (rebased old)
all-rebased records old all = record {
  dropped = records;
  kept = sym (append-nil records);
  counted = omega (arith, ap (λ (l : List Recorded). length l) all.kept, length-append all.dropped old.records, all.counted);
  legal = all.legal;
}

-- a book has all its records
pub all-history : (book : BookState) (history : IsHistory book) → AreAll (all_records book history) book
all-history book history = record {
  dropped = history.reached.dropped;
  kept = refl;
  counted = history.reached.index;
  legal = all-legal book history;
}

-- ---- who says nothing

by-other : (session other : ℕ) (speaks : Option ℕ) → speaks ≡ Some other → (other == session) ≡ false → is_by session speaks ≡ false
by-other session other speaks is apart = ap (is_by session) is ∙ apart

own-silent : (session other : ℕ) (act : Act) → (other == session) ≡ false → IsOwn other act → said_in session act ≡ []
own-silent session other (acts.Event event) apart own = rw (by-other session other (speaker event) own apart) refl
own-silent session other (acts.Serve read) apart own = refl

-- events of another session, and servings
pub others-say : (session other : ℕ) (records : List Recorded) → (other == session) ≡ false → AllByRecursion (λ recorded. IsOwn other recorded.act) records → spoken session records ≡ []
others-say session other [] apart all = refl
others-say session other (first ∷ records) apart all =
    rw (own-silent session other first.act apart all.0) (others-say session other records apart all.1)

serving-says : (session : ℕ) (act : Act) → is_serving act ≡ true → said_in session act ≡ []
serving-says session (acts.Event event) is = absurd (cc)
serving-says session (acts.Serve read) is = refl

pub servings-say : (session : ℕ) (records : List Recorded) → AreServings records → spoken session records ≡ []
servings-say session [] all = refl
servings-say session (first ∷ records) all = rw (serving-says session first.act all.0) (servings-say session records all.1)

serving-own : (session : ℕ) (act : Act) → is_serving act ≡ true → IsOwn session act
serving-own session (acts.Event event) is = absurd (cc)
serving-own session (acts.Serve read) is = tt

pub servings-own : (session : ℕ) (records : List Recorded) → AreServings records → AllByRecursion (λ recorded. IsOwn session recorded.act) records
servings-own session [] all = tt
servings-own session (first ∷ records) all = (serving-own session first.act all.0, servings-own session records all.1)
