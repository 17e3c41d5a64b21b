-- A connection comes or goes, or waiting reads expire: each connection goes on as a line, and no two have one session.
use Rattle.std.proofs.Common.{◌≡◌, ◌≢◌, ◌==◌, ◌⊎◌, inl, inr, ℕ, Bool, true, false, cond, List, [], ◌∷◌, ◌++◌, Option, Some, None, refl, ap, sym, subst, ◌∙◌, true≢false}
use Rattle.std.proofs.lemmas.Bool.{eq-eqb, eqb-true, ne_eqb}
use Rattle.sr_resp.specs.Stream.{Stands}
use Rattle.sr_book.specs.{is_open, BookState, IsHistory, IsStepped, Recorded, next_index}
use Rattle.sr_book.specs.Server.{speaker}
use Rattle.sr_book.specs.Records.{IsCertain, event_record}
use Rattle.sr_book.specs.declared.answer.Answer.{Answer}
use Rattle.sr_book.specs.declared.event.Event.{Event}
use Rattle.sr_book.specs.declared.event.Event.TheVariants as events
use Rattle.sr_book.proofs.BaseLemmas.{all_records, history-below}
use Rattle.sr_book.proofs.SessionLaws.{history-open, joined-idle}
use Rattle.sr_hub.specs.declared.stage.Stage.TheVariants as stages
use Rattle.sr_hub.specs.OneRequest.{spoken}
use Rattle.sr_hub.specs.Line.{ConnectionState, IsLine}
use Rattle.sr_hub.specs.Lines.{AreAll, AreApart, AreLines, GoOn, HubState, with_none}
use Rattle.sr_hub.proofs.FrameLemmas.{all-grows, all-history, all-reached, line-passes, opened-passes, others-say, records-pass}
use Rattle.sr_hub.proofs.JoinLemmas.{closed-below, joined-line}
use Rattle.sr_hub.proofs.OwnLemmas.{step-adds, step-legal, step-silent}
use Rattle.sr_hub.proofs.SoundLemmas.{IsSound, reached-sound}

same_or_not : (a b : ℕ) → (a ≡ b) ⊎ (a ≢ b)
same_or_not a b = by (a == b) refl
  where
    by : (test : Bool) → (a == b) ≡ test → (a ≡ b) ⊎ (a ≢ b)
    by true e = inl (eqb-true a b e)
    by false e = inr (λ same. true≢false (sym (eq-eqb a b same) ∙ e))

some-same : (x y : ConnectionState) → Some x ≡ Some y → x ≡ y
some-same x y e = cc

none-some : (x : ConnectionState) (found : Option ConnectionState) → found ≡ None → found ≡ Some x → ⊥
none-some x found none some = let it : None ≡ Some x = sym none ∙ some in cc

-- ---- an event and the servings after it

all-sound : (records : List Recorded) (book : BookState) → AreAll records book → IsSound book.server
all-sound records book all = reached-sound records (next_index book) book.server (all-reached records book all)

module _ (records : List Recorded) (old : BookState) (told : ℕ) (event : Event) (answer : Answer) (new : BookState) (all : AreAll records old) (certain : IsCertain event)
    (stepped : IsStepped old told event answer new) where
  step-grows : AreAll (records ++ event_record old told event ∷ stepped.servings) new
  step-grows =
      all-grows records (event_record old told event ∷ stepped.servings) old new all stepped.same_base stepped.grown
      (step-legal old told event answer new (all-sound records old all) certain stepped)

  -- a session that says nothing goes on as a line
  step-line : (taken given : List ℕ) (line : ConnectionState) → spoken line.session (event_record old told event ∷ stepped.servings) ≡ [] → IsLine records old.server taken given line
      → IsLine (records ++ event_record old told event ∷ stepped.servings) new.server taken given line
  step-line taken given line says is =
      line-passes records (event_record old told event ∷ stepped.servings) old new.server taken given line all
      (step-legal old told event answer new (all-sound records old all) certain stepped) says is

  -- and stays open
  step-opened : (session : ℕ) → spoken session (event_record old told event ∷ stepped.servings) ≡ [] → is_open session old.server.sessions ≡ true → is_open session new.server.sessions ≡ true
  step-opened session says opened =
      let more : List Recorded = event_record old told event ∷ stepped.servings in
      opened-passes session old.server new.server records more says opened
      (records-pass session records (next_index old) old.server more new.server (all-reached records old all)
      (step-legal old told event answer new (all-sound records old all) certain stepped) says)

  -- one that is another's is not said by this one
  step-other : (session other : ℕ) → speaker event ≡ Some other → (other == session) ≡ false → spoken session (event_record old told event ∷ stepped.servings) ≡ []
  step-other session other is apart =
      others-say session other (event_record old told event ∷ stepped.servings) apart
      (step-adds old told other event answer new (all-sound records old all) certain is stepped).own

-- ---- reads that expire

module _ (old new : HubState) (told : ℕ) (answer : Answer) (stepped : IsStepped old.book told events.Expire answer new.book) (same : (token : ℕ) → new.at token ≡ old.at token) where
  pub expired-lines : (records : List Recorded) (taken given : ℕ → List ℕ) → AreLines records taken given old → GoOn records taken given new
  expired-lines records taken given lines = record {
    added = event_record old.book told events.Expire ∷ stepped.servings;
    lines = (
      step-grows records old.book told events.Expire answer new.book lines.0 tt stepped,
      λ at line is.
          step-line records old.book told events.Expire answer new.book lines.0 tt stepped (taken at) (given at) line
          (step-silent old.book told line.session events.Expire stepped.servings refl stepped.served)
          (lines.1 at line (sym (same at) ∙ is)),
    );
  }

  pub expired-apart : IsHistory old.book → AreApart old → AreApart new
  expired-apart history apart = record {
    own = λ a b first second at_a at_b one. apart.own a b first second (sym (same a) ∙ at_a) (sym (same b) ∙ at_b) one;
    opened = λ at line is.
        step-opened (all_records old.book history) old.book told events.Expire answer new.book (all-history old.book history) tt stepped line.session
        (step-silent old.book told line.session events.Expire stepped.servings refl stepped.served)
        (apart.opened at line (sym (same at) ∙ is));
  }

-- ---- a connection that goes

module _ (token : ℕ) (old new : HubState) (gone : ConnectionState) (told : ℕ) (answer : Answer) (was : old.at token ≡ Some gone)
    (stepped : IsStepped old.book told (events.Leave gone.session) answer new.book) (none : new.at token ≡ None)
    (others : (other : ℕ) → other ≢ token → new.at other ≡ old.at other) (apart : AreApart old) where
  -- a connection that is there after it was there before, with another session
  stayed : (at : ℕ) (line : ConnectionState) → new.at at ≡ Some line → (old.at at ≡ Some line) × ((gone.session == line.session) ≡ false)
  stayed at line is = by (same_or_not at token)
    where
      by : (at ≡ token) ⊎ (at ≢ token) → (old.at at ≡ Some line) × ((gone.session == line.session) ≡ false)
      by (inl here) = absurd (none-some line (new.at token) none (sym (ap new.at here) ∙ is))
      by (inr away) =
          let it : old.at at ≡ Some line = sym (others at away) ∙ is in
          (it, ne_eqb gone.session line.session (λ one. away (apart.own at token line gone it was (sym one))))

  pub left-lines : (records : List Recorded) (taken given : ℕ → List ℕ) → AreLines records taken given old → GoOn records taken given new
  left-lines records taken given lines = record {
    added = event_record old.book told (events.Leave gone.session) ∷ stepped.servings;
    lines = (
      step-grows records old.book told (events.Leave gone.session) answer new.book lines.0 tt stepped,
      λ at line is.
          let before = stayed at line is in
          step-line records old.book told (events.Leave gone.session) answer new.book lines.0 tt stepped (taken at) (given at) line
          (step-other records old.book told (events.Leave gone.session) answer new.book lines.0 tt stepped line.session gone.session refl before.1)
          (lines.1 at line before.0),
    );
  }

  pub left-apart : IsHistory old.book → AreApart new
  left-apart history = record {
    own = λ a b first second at_a at_b one. apart.own a b first second (stayed a first at_a).0 (stayed b second at_b).0 one;
    opened = λ at line is.
        let before = stayed at line is in
        let all = all-history old.book history in
        step-opened (all_records old.book history) old.book told (events.Leave gone.session) answer new.book all tt stepped line.session
        (step-other (all_records old.book history) old.book told (events.Leave gone.session) answer new.book all tt stepped line.session gone.session refl before.1)
        (apart.opened at line before.0);
  }

-- ---- a connection that comes

none-at : (token : ℕ) (all : ℕ → List ℕ) → with_none token all token ≡ []
none-at token all = ap (λ (b : Bool). cond b [] (all token)) (eq-eqb token token refl)

none-other : (token : ℕ) (all : ℕ → List ℕ) (other : ℕ) → other ≢ token → with_none token all other ≡ all other
none-other token all other away = ap (λ (b : Bool). cond b [] (all other)) (ne_eqb other token away)

module _ (token : ℕ) (old new : HubState) (fresh : ConnectionState) (told : ℕ) (answer : Answer) (stepped : IsStepped old.book told events.Join answer new.book)
    (there : new.at token ≡ Some fresh) (others : (other : ℕ) → other ≢ token → new.at other ≡ old.at other) (number : fresh.session ≡ next_index old.book) where
  -- it is the one that came, or another that was there before
  came : (at : ℕ) (line : ConnectionState) → new.at at ≡ Some line → ((at ≡ token) × (line ≡ fresh)) ⊎ ((at ≢ token) × (old.at at ≡ Some line))
  came at line is = by (same_or_not at token)
    where
      by : (at ≡ token) ⊎ (at ≢ token) → ((at ≡ token) × (line ≡ fresh)) ⊎ ((at ≢ token) × (old.at at ≡ Some line))
      by (inl here) = inl (here, some-same line fresh (sym is ∙ ap new.at here ∙ there))
      by (inr away) = inr (away, sym (others at away) ∙ is)

  pub joined-lines : (records : List Recorded) (taken given : ℕ → List ℕ) → Stands [] [] fresh.requests → fresh.unsent ≡ [] → fresh.stage ≡ stages.Idle
      → AreLines records taken given old → GoOn records (with_none token taken) (with_none token given) new
  joined-lines records taken given stands unsent idle lines = record {
    added = event_record old.book told events.Join ∷ stepped.servings;
    lines = (step-grows records old.book told events.Join answer new.book lines.0 tt stepped, λ at line is. by at line (came at line is));
  }
    where
      by : (at : ℕ) (line : ConnectionState) → ((at ≡ token) × (line ≡ fresh)) ⊎ ((at ≢ token) × (old.at at ≡ Some line))
          → IsLine (records ++ event_record old.book told events.Join ∷ stepped.servings) new.book.server (with_none token taken at) (with_none token given at) line
      by at line (inl own) =
          let first : IsLine (records ++ event_record old.book told events.Join ∷ stepped.servings) new.book.server [] [] fresh =
          joined-line records old.book told answer new.book fresh lines.0 stepped number stands unsent idle in
          let took : with_none token taken at ≡ [] = ap (with_none token taken) own.0 ∙ none-at token taken in
          let gave : with_none token given at ≡ [] = ap (with_none token given) own.0 ∙ none-at token given in
          let P : ConnectionState → Type 0 = λ c. IsLine (records ++ event_record old.book told events.Join ∷ stepped.servings) new.book.server [] [] c in
          let Q : List ℕ → Type 0 = λ l. IsLine (records ++ event_record old.book told events.Join ∷ stepped.servings) new.book.server l [] line in
          let R : List ℕ → Type 0 = λ l. IsLine (records ++ event_record old.book told events.Join ∷ stepped.servings) new.book.server (with_none token taken at) l line in
          subst R (sym gave) (subst Q (sym took) (subst P (sym own.1) first))
      by at line (inr before) =
          let goes =
          step-line records old.book told events.Join answer new.book lines.0 tt stepped (taken at) (given at) line
          (step-silent old.book told line.session events.Join stepped.servings refl stepped.served)
          (lines.1 at line before.1) in
          let Q : List ℕ → Type 0 = λ l. IsLine (records ++ event_record old.book told events.Join ∷ stepped.servings) new.book.server l (given at) line in
          let R : List ℕ → Type 0 = λ l. IsLine (records ++ event_record old.book told events.Join ∷ stepped.servings) new.book.server (with_none token taken at) l line in
          subst R (sym (none-other token given at before.0)) (subst Q (sym (none-other token taken at before.0)) goes)

  pub joined-apart : IsHistory old.book → AreApart old → AreApart new
  joined-apart history apart = record {
    own = λ a b first second at_a at_b one. distinct a b first second one (came a first at_a) (came b second at_b);
    opened = λ at line is. opened at line (came at line is);
  }
    where
      -- no session had its number before
      newer : (at : ℕ) (line : ConnectionState) → old.at at ≡ Some line → line.session ≡ fresh.session → ⊥
      newer at line is one =
          let closed : is_open (next_index old.book) old.book.server.sessions ≡ false = closed-below (next_index old.book) old.book.server.sessions (history-below old.book history) in
          true≢false (sym (apart.opened at line is) ∙ ap (λ (n : ℕ). is_open n old.book.server.sessions) (one ∙ number) ∙ closed)

      distinct : (a b : ℕ) (first second : ConnectionState) → first.session ≡ second.session → ((a ≡ token) × (first ≡ fresh)) ⊎ ((a ≢ token) × (old.at a ≡ Some first))
          → ((b ≡ token) × (second ≡ fresh)) ⊎ ((b ≢ token) × (old.at b ≡ Some second)) → a ≡ b
      distinct a b first second one (inl x) (inl y) = x.0 ∙ sym y.0
      distinct a b first second one (inl x) (inr y) = absurd (newer b second y.1 (sym one ∙ ap (λ (c : ConnectionState). c.session) x.1))
      distinct a b first second one (inr x) (inl y) = absurd (newer a first x.1 (one ∙ ap (λ (c : ConnectionState). c.session) y.1))
      distinct a b first second one (inr x) (inr y) = apart.own a b first second x.1 y.1 one

      opened : (at : ℕ) (line : ConnectionState) → ((at ≡ token) × (line ≡ fresh)) ⊎ ((at ≢ token) × (old.at at ≡ Some line)) → is_open line.session new.book.server.sessions ≡ true
      opened at line (inl own) =
          let idle = (joined-idle old.book told answer new.book stepped (history-below old.book history) (history-open old.book history)).1 in
          ap (λ (n : ℕ). is_open n new.book.server.sessions) (ap (λ (c : ConnectionState). c.session) own.1 ∙ number) ∙ idle.0
      opened at line (inr before) =
          step-opened (all_records old.book history) old.book told events.Join answer new.book (all-history old.book history) tt stepped line.session
          (step-silent old.book told line.session events.Join stepped.servings refl stepped.served)
          (apart.opened at line before.1)
