-- What a round makes of its calls, and what the rounds come to.
use Rattle.std.proofs.Common.{◌≡◌, ℕ, ◌+◌, ◌<◌, List, [], ◌∷◌, ◌++◌, IfErr, IfOk, Option, Some, None}
use Rattle.std.proofs.Common.{Result, add-one, append_assoc, ap, inl, inr, refl, subst, sym, ◌∙◌}
use Rattle.std.proofs.lemmas.Result.{IfErr-weaker, IfOk-weaker, err_from_is_err_and}
use Rattle.std.specs.Result.{IsErrAnd}
use Rattle.sr_check.specs.PlanAnswer.{PlanAnswer, best, short}
use Rattle.sr_policy.specs.declared.live.Live.{Live}
use Rattle.sr_policy.specs.{Text, SnapshotState}
use Rattle.sr_policy.specs.Rules.{Rules}
use Rattle.sr_peer.specs.{Part}
use Rattle.sr_live.specs.declared.conclusion.Concluded.{Concluded}
use Rattle.sr_live.specs.declared.conclusion.Concluded.TheVariants as concluded
use Rattle.sr_live.specs.declared.fault.LiveFault.{LiveFault}
use Rattle.sr_live.specs.declared.fault.LiveFault.TheVariants.{Changed, Memory, Unfit}
use Rattle.sr_live.specs.declared.looked.Asked.{Asked}
use Rattle.sr_live.specs.declared.looked.Claimable.{Claimable}
use Rattle.sr_live.specs.declared.looked.Row.{Row}
use Rattle.sr_live.specs.declared.rounds.Planned.{Planned}
use Rattle.sr_live.specs.declared.rounds.Ran.{Ran}
use Rattle.sr_live.specs.declared.rounds.Ran.TheVariants.{Done, Stale}
use Rattle.sr_live.specs.declared.rounds.Terms.{Terms}
use Rattle.sr_live.specs.Conclusion.{HasNoConclusion, IsCalled, SaysConcluded}
use Rattle.sr_live.specs.Looking.{Exchange, Talks}
use Rattle.sr_live.specs.Reading.{BreaksOff, HasOnlyRead}
use Rattle.sr_live.specs.Rounds.{ArePassed, BreaksAtScript, EndsAll, EndsChanged, FitsPlan, HasBroken, HasChanged}
use Rattle.sr_live.specs.Rounds.{HasFailed, HasMade, HasRun, IsConcluded, IsPassed, IsPlanned, IsReady, within_of}
use Rattle.sr_live.specs.Words.{last_word, words_for}
use Rattle.sr_live.proofs.TalkLemmas.{Talks-none, Talks-trans}

-- there are no words only for a shortage
pub short-from-none : (group : Text) (within : ℕ) (last : Text) (claimable : Claimable) (removed : ℕ) (rows : List Row)
    (live : List Live) (shown : SnapshotState) (answer : PlanAnswer)
    → words_for group within last claimable removed rows live shown answer ≡ None → (set : List ℕ) × (answer ≡ short set)
short-from-none group within last claimable removed rows live shown (best assign prices total) is = absurd cc
short-from-none group within last claimable removed rows live shown (short set) is = (set, refl)

module _ (rules : Rules) (asked : Asked) (terms : Terms) where
  abbrev AreWords : Planned → List Text → Type 0
  AreWords planned words =
      words_for planned.verdict.snapshot.group (within_of terms planned) (last_word planned.looked.last) asked.claimable
      planned.looked.removed planned.looked.rows.items planned.live.items planned.verdict.snapshot
      planned.verdict.answer ≡ Some words

  ready-from : (planned : Planned) (look before : List Exchange) (words call : List Text)
      → IsPlanned rules asked terms.at_most look planned → AreWords planned words → IsCalled asked.key words before call
      → IsReady rules asked terms (look ++ before) planned call
  ready-from planned look before words call planned_so are_words called = record {
    look = look;
    before = before;
    words = words;
    planned_so = planned_so;
    are_words = are_words;
    called = called;
    spelled = refl;
  }

  module _ (sent got sent_then got_then sent_last got_last : Option (List ℕ)) where
    -- the group was looked up, and then the script was called
    pub concluded-from : (planned : Planned) (told : Concluded) (look : List Exchange) (words : List Text)
        → Talks sent got sent_then got_then look → IsPlanned rules asked terms.at_most look planned
        → AreWords planned words
        → (before : List Exchange) × (call : List Text) × (parts : List Part) × IsCalled asked.key words before call
        × Talks sent_then got_then sent_last got_last (before ++ (call, parts) ∷ []) × SaysConcluded parts told
        → (talk : List Exchange) × Talks sent got sent_last got_last talk
        × IsConcluded rules asked terms talk planned told
    concluded-from planned told look words one planned_so are_words (before, call, parts, called, two, says) =
        let last : List Exchange = (call, parts) ∷ [] in (
          (look ++ before) ++ last,
          subst (Talks sent got sent_last got_last) (sym (append_assoc look before last))
              (Talks-trans sent got sent_then got_then sent_last got_last look (before ++ last) one two),
          record {
            first = look ++ before;
            call = call;
            parts = parts;
            ready = ready-from planned look before words call planned_so are_words called;
            says = says;
            spelled = refl;
          },
        )

    -- or it brought no conclusion
    pub breaks-from : (planned : Planned) (fault : LiveFault) (look : List Exchange) (words : List Text)
        → Talks sent got sent_then got_then look → IsPlanned rules asked terms.at_most look planned
        → AreWords planned words → HasNoConclusion asked.key words sent_then got_then sent_last got_last fault
        → BreaksAtScript rules asked terms sent got sent_last got_last fault
    breaks-from planned fault look words one planned_so are_words none = record {
      sent_by_then = none.sent_by_then;
      got_by_then = none.got_by_then;
      talk = look ++ none.before;
      planned = planned;
      call = none.call;
      ready = ready-from planned look none.before words none.call planned_so are_words none.called;
      talks = Talks-trans sent got sent_then got_then none.sent_by_then none.got_by_then look none.before one none.talks;
      unanswered = none.unanswered;
    }

    -- looking the group up broke off
    pub broken-off : {T : Type 0} (result : Result T LiveFault) (fault : LiveFault)
        → IsErrAnd result (λ passed. passed ≡ fault) → BreaksOff sent got sent_last got_last fault
        → IfErr result (HasBroken rules asked terms sent got sent_last got_last)
    broken-off {T} result fault is broken =
        let told = err_from_is_err_and result is in
        let Broken : LiveFault → Type 0 = HasBroken rules asked terms sent got sent_last got_last in
        subst (λ (r : Result T LiveFault). IfErr r Broken) (sym told.1) (subst Broken (sym told.2) (inl broken))

    -- memory was refused before the script was called
    pub broken-memory : {T : Type 0} (result : Result T LiveFault) → IsErrAnd result (λ fault. fault ≡ Memory)
        → HasOnlyRead sent sent_last → IfErr result (HasBroken rules asked terms sent got sent_last got_last)
    broken-memory result is read = broken-off result Memory is (record { looking = tt; read = read; told = tt })

    -- the script brought no conclusion
    pub broken-at-script : {T : Type 0} (result : Result T LiveFault) (fault : LiveFault) (planned : Planned)
        (look : List Exchange) (words : List Text) → IsErrAnd result (λ passed. passed ≡ fault)
        → Talks sent got sent_then got_then look → IsPlanned rules asked terms.at_most look planned
        → AreWords planned words → HasNoConclusion asked.key words sent_then got_then sent_last got_last fault
        → IfErr result (HasBroken rules asked terms sent got sent_last got_last)
    broken-at-script {T} result fault planned look words is one planned_so are_words none =
        let told = err_from_is_err_and result is in
        let Broken : LiveFault → Type 0 = HasBroken rules asked terms sent got sent_last got_last in
        subst (λ (r : Result T LiveFault). IfErr r Broken) (sym told.1)
        (subst Broken (sym told.2) (inr (inl (breaks-from planned fault look words one planned_so are_words none))))

    -- it says `done`, of the plan or of something else
    pub done-made : (result : Result (Option Ran) LiveFault) (planned : Planned) (claimed gap : ℕ)
        → IfOk result (λ ran. (ran ≡ Some (Done planned claimed gap)) × FitsPlan terms planned claimed gap)
        → (talk : List Exchange) × Talks sent got sent_last got_last talk
        × IsConcluded rules asked terms talk planned (concluded.Done claimed gap)
        → IfOk result (λ ran. (talk : List Exchange) × Talks sent got sent_last got_last talk
        × HasMade rules asked terms talk ran)
    done-made result planned claimed gap ok (talk, talks, so) =
        IfOk-weaker result _ _ (λ ran (is, fits). (
          talk,
          talks,
          subst (HasMade rules asked terms talk) (sym is) (record { concluded = so; fits = fits }),
        ))
        ok

    pub done-unfit : (result : Result (Option Ran) LiveFault) (planned : Planned) (claimed gap : ℕ)
        → IfErr result (λ fault. (fault ≡ Unfit) × (FitsPlan terms planned claimed gap → ⊥))
        → (talk : List Exchange) × Talks sent got sent_last got_last talk
        × IsConcluded rules asked terms talk planned (concluded.Done claimed gap)
        → IfErr result (HasBroken rules asked terms sent got sent_last got_last)
    done-unfit result planned claimed gap err (talk, talks, so) =
        IfErr-weaker result _ _ (λ fault (is, unfit). inr (inr (record {
          talk = talk;
          planned = planned;
          claimed = claimed;
          gap = gap;
          concluded = so;
          unfit = unfit;
          talks = talks;
          told = is;
        })))
        err

  -- ---- rounds

  -- the rounds so far, in which nothing was carried out
  abbrev pub SoFar : Option (List ℕ) → Option (List ℕ) → Option (List ℕ) → Option (List ℕ) → ℕ → Type 0
  SoFar sent got sent_then got_then tried =
      (earlier : List Exchange) × ArePassed rules asked terms tried earlier × Talks sent got sent_then got_then earlier

  -- what the last of them came to, if there are any
  pub record IsStaleAt (sent got sent_then got_then : Option (List ℕ)) (tried : ℕ) (ran : Ran) : Type 0 where
    pub before : ℕ
    pub one_more : before + 1 ≡ tried
    pub earlier : List Exchange
    pub last : List Exchange
    pub what : Text
    pub of : Text
    pub stale : ran ≡ Stale what of
    pub passed : ArePassed rules asked terms before earlier
    pub made : HasMade rules asked terms last (Some ran)
    pub talks : Talks sent got sent_then got_then (earlier ++ last)

  -- what was looked up in the last of them is of no one moment, if there are any
  pub record IsChangedAt (sent got sent_then got_then : Option (List ℕ)) (tried : ℕ) (fault : LiveFault) : Type 0 where
    pub is : fault ≡ Changed
    pub earlier : List Exchange
    pub passed : ArePassed rules asked terms tried earlier
    pub talks : Talks sent got sent_then got_then earlier
    pub ends : EndsChanged rules asked terms tried earlier

  -- what a round made, taken apart
  pub made-at : (talk : List Exchange) (told : Option Ran) (one ran : Ran) → told ≡ Some one → one ≡ ran
      → HasMade rules asked terms talk told → HasMade rules asked terms talk (Some ran)
  made-at talk told one ran is same made =
      subst (HasMade rules asked terms talk) (is ∙ ap (λ (r : Ran). Some r) same) made

  pub so-far-none : (sent got : Option (List ℕ)) → SoFar sent got sent got 0
  so-far-none sent got = ([], refl, Talks-none sent got)

  pub changed-none : (sent got : Option (List ℕ)) → IsChangedAt sent got sent got 0 Changed
  changed-none sent got = record { is = refl; earlier = []; passed = refl; talks = Talks-none sent got; ends = tt }

  module _ (sent got sent_then got_then sent_last got_last : Option (List ℕ)) (tried : ℕ) where
    -- one more round in which nothing was carried out
    pub so-far-next : (talk : List Exchange) → SoFar sent got sent_then got_then tried
        → Talks sent_then got_then sent_last got_last talk → IsPassed rules asked terms talk
        → SoFar sent got sent_last got_last (tried + 1)
    so-far-next talk (earlier, passed, one) two is = (
      earlier ++ talk,
      subst (λ (n : ℕ). ArePassed rules asked terms n (earlier ++ talk)) (sym (add-one tried))
          (earlier, talk, passed, is, refl),
      Talks-trans sent got sent_then got_then sent_last got_last earlier talk one two,
    )

    pub stale-next : (what of : Text) (talk : List Exchange) → SoFar sent got sent_then got_then tried
        → Talks sent_then got_then sent_last got_last talk → HasMade rules asked terms talk (Some (Stale what of))
        → IsStaleAt sent got sent_last got_last (tried + 1) (Stale what of)
    stale-next what of talk (earlier, passed, one) two made = record {
      before = tried;
      one_more = refl;
      earlier = earlier;
      last = talk;
      what = what;
      of = of;
      stale = refl;
      passed = passed;
      made = made;
      talks = Talks-trans sent got sent_then got_then sent_last got_last earlier talk one two;
    }

    pub changed-next : (talk : List Exchange) → SoFar sent got sent_then got_then tried
        → Talks sent_then got_then sent_last got_last talk → HasChanged rules asked terms.at_most talk
        → IsChangedAt sent got sent_last got_last (tried + 1) Changed
    changed-next talk (earlier, passed, one) two changed = record {
      is = refl;
      earlier = earlier ++ talk;
      passed = subst (λ (n : ℕ). ArePassed rules asked terms n (earlier ++ talk)) (sym (add-one tried))
          (earlier, talk, passed, inl changed, refl);
      talks = Talks-trans sent got sent_then got_then sent_last got_last earlier talk one two;
      ends = subst (λ (n : ℕ). EndsChanged rules asked terms n (earlier ++ talk)) (sym (add-one tried))
          (earlier, talk, changed, refl);
    }

    -- a round that made something
    pub run-made : (ran : Ran) (talk : List Exchange) → SoFar sent got sent_then got_then tried
        → Talks sent_then got_then sent_last got_last talk → HasMade rules asked terms talk (Some ran)
        → EndsAll ran (tried + 1) terms.tries → HasRun rules asked terms sent got sent_last got_last ran
    run-made ran talk (earlier, passed, one) two made rounds = record {
      tried = tried;
      earlier = earlier;
      last = talk;
      passed = passed;
      made = made;
      rounds = rounds;
      talks = Talks-trans sent got sent_then got_then sent_last got_last earlier talk one two;
    }

    -- one that failed
    pub run-failed : {T : Type 0} (result : Result T LiveFault) (fault : LiveFault)
        → IsErrAnd result (λ passed. passed ≡ fault) → tried < terms.tries → SoFar sent got sent_then got_then tried
        → HasBroken rules asked terms sent_then got_then sent_last got_last fault
        → IfErr result (HasFailed rules asked terms sent got sent_last got_last)
    run-failed {T} result fault is few (earlier, passed, one) broken =
        let told = err_from_is_err_and result is in
        let Failed : LiveFault → Type 0 = HasFailed rules asked terms sent got sent_last got_last in
        subst (λ (r : Result T LiveFault). IfErr r Failed) (sym told.1)
        (subst Failed (sym told.2) (record {
          tried = tried;
          earlier = earlier;
          sent_by_then = sent_then;
          got_by_then = got_then;
          passed = passed;
          talks = one;
          so = inl (few, broken);
        }))

  -- all rounds were made
  module _ (sent got sent_then got_then : Option (List ℕ)) (tried : ℕ) (all : tried ≡ terms.tries) where
    pub run-stale : (ran : Ran) → IsStaleAt sent got sent_then got_then tried ran
        → HasRun rules asked terms sent got sent_then got_then ran
    run-stale ran at = record {
      tried = at.before;
      earlier = at.earlier;
      last = at.last;
      passed = at.passed;
      made = at.made;
      rounds = subst (λ (one : Ran). EndsAll one (at.before + 1) terms.tries) (sym at.stale) (at.one_more ∙ all);
      talks = at.talks;
    }

    pub run-changed : (fault : LiveFault) → IsChangedAt sent got sent_then got_then tried fault
        → HasFailed rules asked terms sent got sent_then got_then fault
    run-changed fault at = record {
      tried = tried;
      earlier = at.earlier;
      sent_by_then = sent_then;
      got_by_then = got_then;
      passed = at.passed;
      talks = at.talks;
      so = inr (all, at.is, at.ends, refl, refl);
    }
