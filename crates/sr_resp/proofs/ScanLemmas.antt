-- Items in some bytes: step by step, item by item, and piece by piece.
use Rattle.std.proofs.Common.{◌≡◌, ℕ, ◌≤◌, List, [], ◌∷◌, ◌++◌, length, take, drop, Option, Some, None, Result, Ok, Err, refl, sym, ap, subst, ◌∙◌, arith}
use Rattle.std.specs.Prelude.{All}
use Rattle.std.specs.List.{slice_range}
use Rattle.std.proofs.lemmas.List.{append_assoc, append-nil, map-append, drop_all}
use Rattle.std.proofs.lemmas.List.Elements.{All-append}
use Rattle.std.proofs.lemmas.List.Folds.{drop_split}
use Rattle.std.proofs.Math.Seq.{take-append_seam}
use Rattle.sr_resp.specs.declared.stage.WordBounds.{WordBounds}
use Rattle.sr_resp.specs.declared.stage.Stage.{Stage}
use Rattle.sr_resp.specs.declared.stage.Step.{Step}
use Rattle.sr_resp.specs.declared.stage.Step.TheVariants as steps
use Rattle.sr_resp.specs.declared.scan.Found.{Found}
use Rattle.sr_resp.specs.declared.scan.Found.TheVariants as founds
use Rattle.sr_resp.specs.Request.{Words}
use Rattle.sr_resp.specs.Reading.{Halt}
use Rattle.sr_resp.specs.Stages.{word_in, words_in, after_words, behind, goes_on, leads_to, IsStageAt, IsBefore, StepsTo}
use Rattle.sr_resp.specs.Scanning.{found_at, IsFoundIn, Scanning, Scans}

-- ---- words in front

after-nil : (item : Option Words) → after_words [] item ≡ item
after-nil None = refl
after-nil (Some words) = refl

pub behind-nil : (read : Result (Option Words × List ℕ) Halt) → behind [] read ≡ read
behind-nil (Ok x) = ap (λ (i : Option Words). Ok (i, x.1)) (after-nil x.0)
behind-nil (Err e) = refl

after-append : (a b : Words) (item : Option Words) → after_words a (after_words b item) ≡ after_words (a ++ b) item
after-append a b None = refl
after-append a b (Some words) = ap (λ (ws : Words). Some ws) (sym (append_assoc a b words))

pub behind-append : (a b : Words) (read : Result (Option Words × List ℕ) Halt) → behind a (behind b read) ≡ behind (a ++ b) read
behind-append a b (Ok x) = ap (λ (i : Option Words). Ok (i, x.1)) (after-append a b x.0)
behind-append a b (Err e) = refl

-- ---- places

pub before_more : (at next : ℕ) (places : List WordBounds) → at ≤ next → All (IsBefore at) places → All (IsBefore next) places
before_more at next places le all = λ k d lt. let b = all k d lt in record { order = b.order; within = omega (arith, b.within, le) }

before_one : (at : ℕ) (place : WordBounds) → IsBefore at place → All (IsBefore at) (place ∷ [])
before_one at place b = λ k d lt. let first : k ≡ 0 = omega (arith, lt) in rw first b

-- ---- one step

pub Scanning-nothing : (item : List ℕ) (from : ℕ) (entered : Stage) (old : List WordBounds) → from ≤ length item → IsStageAt from entered → Scanning item from entered old old from entered
Scanning-nothing item from entered old within sound = record {
  added = [];
  whole = sym (append-nil old);
  before = λ k d lt. absurd (omega arith);
  within = within;
  sound = sound;
  reads = λ more. sym (behind-nil (goes_on item from entered (drop from item ++ more)));
}

-- what is read from a place on goes on at the next
onwards : (item : List ℕ) (at next : ℕ) (stage : Stage) (step : Step) (more : List ℕ) → StepsTo item at stage next step
    → goes_on item at stage (drop at item ++ more) ≡ leads_to item next step (drop next item ++ more)
onwards item at next stage step more s =
    let le : at ≤ next = omega (arith, s.forward) in
    let split : drop at item ++ more ≡ slice_range item at next ++ (drop next item ++ more) =
    ap (λ (t : List ℕ). t ++ more) (drop_split item at next le) ∙ append_assoc (slice_range item at next) (drop next item) more in
    ap (goes_on item at stage) split ∙ s.reads (drop next item ++ more)

pub Scanning-on : (item : List ℕ) (from : ℕ) (entered : Stage) (old new : List WordBounds) (at next : ℕ) (stage following : Stage) (step : Step) → Scanning item from entered old new at stage
    → StepsTo item at stage next step → step ≡ steps.On following → Scanning item from entered old new next following
unfolding leads_to
Scanning-on item from entered old new at next stage following step s one is =
    let go : StepsTo item at stage next (steps.On following) = subst (λ (st : Step). StepsTo item at stage next st) is one in
    record {
      added = s.added;
      whole = s.whole;
      before = before_more at next s.added (omega (arith, go.forward)) s.before;
      within = go.within;
      sound = go.sound;
      reads = λ more. s.reads more ∙ ap (behind (words_in item s.added)) (onwards item at next stage (steps.On following) more go);
    }

pub Scanning-word : (item : List ℕ) (from : ℕ) (entered : Stage) (old new newer : List WordBounds) (at next : ℕ) (stage following : Stage) (place : WordBounds) (step : Step) → Scanning item from entered old new at stage
    → StepsTo item at stage next step → step ≡ steps.Word place following → newer ≡ new ++ place ∷ [] → Scanning item from entered old newer next following
unfolding leads_to
Scanning-word item from entered old new newer at next stage following place step s one is pushed =
    let go : StepsTo item at stage next (steps.Word place following) = subst (λ (st : Step). StepsTo item at stage next st) is one in
    let sound : IsBefore next place × IsStageAt next following = go.sound in
    record {
      added = s.added ++ place ∷ [];
      whole = pushed ∙ ap (λ (ps : List WordBounds). ps ++ place ∷ []) s.whole ∙ append_assoc old s.added (place ∷ []);
      before = All-append (IsBefore next) s.added (place ∷ []) (before_more at next s.added (omega (arith, go.forward)) s.before) (before_one next place sound.0);
      within = go.within;
      sound = sound.1;
      reads = λ more.
          s.reads more
          ∙ ap (behind (words_in item s.added)) (onwards item at next stage (steps.Word place following) more go)
          ∙ behind-append (words_in item s.added) (word_in item place ∷ []) (goes_on item next following (drop next item ++ more))
          ∙ ap (λ (ws : Words). behind ws (goes_on item next following (drop next item ++ more))) (sym (map-append (word_in item) s.added (place ∷ [])));
    }

-- ---- the end

ends : (item : List ℕ) (from : ℕ) (entered : Stage) (old new : List WordBounds) (at next : ℕ) (stage : Stage) (step : Step) (found : Found) → Scanning item from entered old new at stage
    → StepsTo item at stage next step → ((more : List ℕ) → leads_to item next step (drop next item ++ more) ≡ found_at item found more) → IsFoundIn item found
    → Scans item from entered old new found
ends item from entered old new at next stage step found s one same sound = record {
  added = s.added;
  whole = s.whole;
  before = before_more at (length item) s.added s.within s.before;
  sound = sound;
  reads = λ more. s.reads more ∙ ap (behind (words_in item s.added)) (onwards item at next stage step more one ∙ same more);
}

pub Scans-request : (item : List ℕ) (from : ℕ) (entered : Stage) (old new : List WordBounds) (at next : ℕ) (stage : Stage) (step : Step) → Scanning item from entered old new at stage
    → StepsTo item at stage next step → step ≡ steps.Whole → Scans item from entered old new (founds.Request next)
unfolding leads_to
Scans-request item from entered old new at next stage step s one is =
    let go : StepsTo item at stage next steps.Whole = subst (λ (st : Step). StepsTo item at stage next st) is one in
    ends item from entered old new at next stage steps.Whole (founds.Request next) s go (λ more. refl) (omega (arith, go.forward), go.within)

pub Scans-empty : (item : List ℕ) (from : ℕ) (entered : Stage) (old new : List WordBounds) (at next : ℕ) (stage : Stage) (step : Step) → Scanning item from entered old new at stage
    → StepsTo item at stage next step → step ≡ steps.Empty → Scans item from entered old new (founds.Empty next)
unfolding leads_to
Scans-empty item from entered old new at next stage step s one is =
    let go : StepsTo item at stage next steps.Empty = subst (λ (st : Step). StepsTo item at stage next st) is one in
    ends item from entered old new at next stage steps.Empty (founds.Empty next) s go (λ more. refl) (omega (arith, go.forward), go.within)

pub Scans-fault : (item : List ℕ) (from : ℕ) (entered : Stage) (old new : List WordBounds) (at next : ℕ) (stage : Stage) (step : Step) → Scanning item from entered old new at stage
    → StepsTo item at stage next step → step ≡ steps.Bad → Scans item from entered old new founds.Fault
unfolding leads_to
Scans-fault item from entered old new at next stage step s one is =
    let go : StepsTo item at stage next steps.Bad = subst (λ (st : Step). StepsTo item at stage next st) is one in
    ends item from entered old new at next stage steps.Bad founds.Fault s go (λ more. refl) tt

pub Scans-part : (item : List ℕ) (from : ℕ) (entered : Stage) (old new : List WordBounds) (at : ℕ) (stage : Stage) → Scanning item from entered old new at stage
    → length item ≤ at → Scans item from entered old new (founds.Part stage)
Scans-part item from entered old new at stage s over =
    let same : at ≡ length item = omega (arith, s.within, over) in
    let end : Scanning item from entered old new (length item) stage = subst (λ (n : ℕ). Scanning item from entered old new n stage) same s in
    let none : drop (length item) item ≡ [] = drop_all (length item) item (omega arith) in
    record {
      added = end.added;
      whole = end.whole;
      before = end.before;
      sound = end.sound;
      reads = λ more. end.reads more ∙ ap (λ (t : List ℕ). behind (words_in item end.added) (goes_on item (length item) stage (t ++ more))) none;
    }

-- old places stay
pub kept : (old new added : List WordBounds) → new ≡ old ++ added → take (length old) new ≡ old
kept old new added whole = ap (take (length old)) whole ∙ take-append_seam old added
