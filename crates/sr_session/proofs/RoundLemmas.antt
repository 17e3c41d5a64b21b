-- The rounds of a recovery, one after another, and what they leave of their session.
use Rattle.std.proofs.Common.{◌≡◌, ◌==◌, ◌-◌, ◌<◌, ℕ, zero, suc, max, ◌⊎◌, inl, inr, Bool, true, false, arith, List, [], ◌∷◌, Option, Some, None, Result, Ok, Err, IfOk, IfErr, refl, sym, ap, subst, ◌∙◌}
use Rattle.std.specs.Prelude.{IsTrue}
use Rattle.std.proofs.lemmas.Bool.{ne_eqb}
use Rattle.std.proofs.lemmas.Result.{IfErr-weaker, IfOk-weaker}
use Rattle.sr_resp.specs.Reply.{ReplyParts}
use Rattle.sr_policy.specs.{SnapshotState}
use Rattle.sr_plan.specs.{Judged}
use Rattle.sr_args.specs.declared.call.Command.TheVariants as commands
use Rattle.sr_book.specs.{BookState, IsStepped}
use Rattle.sr_book.specs.declared.answer.Answer.{Answer}
use Rattle.sr_book.specs.declared.event.BookFault.TheVariants as book
use Rattle.sr_book.specs.declared.event.Event.{Event}
use Rattle.sr_book.specs.declared.event.Event.TheVariants as events
use Rattle.sr_book.specs.declared.event.Out.{Out}
use Rattle.sr_book.specs.declared.event.Out.TheVariants as outs
use Rattle.sr_book.proofs.HeardLemmas.{Asks}
use Rattle.sr_book.proofs.SessionLaws.{asked-idle, conclude-answers, conclude-last, steps-asked-not-idle}
use Rattle.sr_session.specs.Desk.{IsIdle, StepsAt, StepsTo}
use Rattle.sr_session.specs.Answered.{Replies, in_rounds}
use Rattle.sr_session.specs.Unanswered.{IsUnanswered, breaks_off}
use Rattle.sr_session.specs.Rounds.{BreaksIn, IsRefusedRound, IsRound, RepliesIn}
use Rattle.sr_session.specs.steps.Calling.{Adds}
use Rattle.sr_session.specs.declared.desk.DeskFault.{DeskFault}
use Rattle.sr_session.specs.declared.desk.DeskFault.TheVariants as faults
use Rattle.sr_session.proofs.GrowthLemmas.{Adds-recorded, Adds-replied, Adds-snapped, Adds-stale, Adds-then, if_err_both, if_ok_both}

-- ---- an event at a desk

-- a desk that refuses an event shows what it showed
StepsTo-refused : (old : BookState) (told : ℕ) (event : Event) (fault : DeskFault) (new : BookState) → StepsTo old told event (Err fault) new → new ≡ old
StepsTo-refused old told event faults.Memory new step = step.1
StepsTo-refused old told event faults.Busy new step = step.1
StepsTo-refused old told event faults.Full new step = step.1
StepsTo-refused old told event faults.NoSession new step = step.1
StepsTo-refused old told event (faults.Regress index) new step = absurd step
StepsTo-refused old told event faults.Idle new step = absurd step
StepsTo-refused old told event faults.Unread new step = absurd step

pub StepsAt-refused : (old : Option BookState) (told : ℕ) (event : Event) (fault : DeskFault) (new : Option BookState) → StepsAt old told event (Err fault) new → new ≡ old
StepsAt-refused None told event fault new step = step
StepsAt-refused (Some old) told event fault None step = absurd step
StepsAt-refused (Some old) told event fault (Some new) step = ap Some (StepsTo-refused old told event fault new step)

-- one that shows nothing after an event showed nothing before it
pub was_hidden : (old : Option BookState) (told : ℕ) (event : Event) (answer : Answer) (middle : Option BookState) → StepsAt old told event (Ok answer) middle → middle ≡ None → old ≡ None
was_hidden None told event answer middle step none = refl
was_hidden (Some old) told event answer middle step none = absurd (subst (StepsAt (Some old) told event (Ok answer)) none step)

-- a session that is answered a board, a snapshot or a verdict may call
pub asked-leaves_idle : (session told : ℕ) (event : Event) (answer : Answer) (old new : Option BookState) → Asks session event → StepsAt old told event (Ok answer) new → IsIdle session new
asked-leaves_idle session told event answer None new asks step = subst (IsIdle session) (sym step) tt
asked-leaves_idle session told event answer (Some old) None asks step = absurd step
asked-leaves_idle session told event answer (Some old) (Some new) asks step = asked-idle old told session event answer new asks step

-- an answer that no book gives to an event comes of a desk that shows none
pub stray-hidden : (Comes : Out → Type 0) (told : ℕ) (event : Event) (answer : Answer) (old new : Option BookState)
    → ((before after : BookState) → IsStepped before told event answer after → Comes answer.out) → (Comes answer.out → ⊥)
    → StepsAt old told event (Ok answer) new → (old ≡ None) × (new ≡ None)
stray-hidden Comes told event answer None new law stray step = (refl, step)
stray-hidden Comes told event answer (Some old) None law stray step = absurd step
stray-hidden Comes told event answer (Some old) (Some new) law stray step = absurd (stray (law old new step))

-- ---- what comes of a verdict

abbrev pub IsConcludeOut : Out → Type 0
IsConcludeOut (outs.Joined number) = ⊥
IsConcludeOut (outs.Reply reply) = Unit {0}
IsConcludeOut outs.Blocked = ⊥
IsConcludeOut (outs.Snap shown) = ⊥
IsConcludeOut (outs.Stale shown) = Unit {0}
IsConcludeOut (outs.Expired count) = ⊥
IsConcludeOut outs.Left = ⊥

concluded-out : (old : BookState) (told session : ℕ) (judged : Judged) (apply last : Bool) (answer : Answer) (new : BookState)
    → IsStepped old told (events.Conclude session judged apply last) answer new → IsConcludeOut answer.out
concluded-out old told session judged apply last answer new stepped = by (conclude-answers old told session judged apply last answer new stepped)
  where
    by : ((reply : ReplyParts) × (answer.out ≡ outs.Reply reply)) ⊎ ((shown : SnapshotState) × (answer.out ≡ outs.Stale shown) × (last ≡ false)) → IsConcludeOut answer.out
    by (inl one) = subst IsConcludeOut (sym one.1) tt
    by (inr stale) = subst IsConcludeOut (sym stale.1) tt

pub stray-conclude : (old new : Option BookState) (told session : ℕ) (judged : Judged) (apply last : Bool) (answer : Answer)
    → StepsAt old told (events.Conclude session judged apply last) (Ok answer) new → (IsConcludeOut answer.out → ⊥) → (old ≡ None) × (new ≡ None)
stray-conclude old new told session judged apply last answer step stray =
    stray-hidden IsConcludeOut told (events.Conclude session judged apply last) answer old new
    (λ before after stepped. concluded-out before told session judged apply last answer after stepped) stray step

-- the other answers are none
pub stray-verdict : (out : Out)
    → ((number : ℕ) × (out ≡ outs.Joined number)) ⊎ ((out ≡ outs.Blocked) ⊎ (((shown : SnapshotState) × (out ≡ outs.Snap shown)) ⊎ (((count : ℕ) × (out ≡ outs.Expired count)) ⊎ (out ≡ outs.Left))))
    → IsConcludeOut out → ⊥
stray-verdict out (inl joined) comes = subst IsConcludeOut joined.1 comes
stray-verdict out (inr (inl blocked)) comes = subst IsConcludeOut blocked comes
stray-verdict out (inr (inr (inl snap))) comes = subst IsConcludeOut snap.1 comes
stray-verdict out (inr (inr (inr (inl expired)))) comes = subst IsConcludeOut expired.1 comes
stray-verdict out (inr (inr (inr (inr left)))) comes = subst IsConcludeOut left comes

-- ---- one round more

-- it is the last one if it is one of one
is_last : (rounds : ℕ) → (suc rounds == 1) ≡ (rounds == 0)
is_last zero = refl
is_last (suc rounds) = ne_eqb (suc (suc rounds)) 1 (λ is. cc) ∙ sym (ne_eqb (suc rounds) 0 (λ is. cc))

one_less : (rounds : ℕ) → suc rounds - 1 ≡ rounds
one_less rounds = omega arith

-- fewer are left after one
pub fewer_left : (rounds most : ℕ) → (rounds ≡ 0 → ⊥) → rounds ≡ most → rounds - 1 < most
fewer_left zero most some all = absurd (some refl)
fewer_left (suc rounds) most some all = omega (arith, all)

-- the last round is not stale
last-hidden : (told session : ℕ) (judged : Judged) (apply : Bool) (answer : Answer) (shown : SnapshotState) (old new : Option BookState)
    → StepsAt old told (events.Conclude session judged apply true) (Ok answer) new → answer.out ≡ outs.Stale shown → old ≡ None
last-hidden told session judged apply answer shown None new step out = refl
last-hidden told session judged apply answer shown (Some old) None step out = absurd step
last-hidden told session judged apply answer shown (Some old) (Some new) step out =
    let one = conclude-last old told session judged apply true answer new step refl in
    let other : outs.Stale shown ≡ outs.Reply one.0 = sym out ∙ one.1 in
    absurd (cc)

-- so none is left after one that is stale, but at a desk that shows nothing
pub stale-left : (told session : ℕ) (judged : Judged) (apply : Bool) (rounds : ℕ) (answer : Answer) (shown : SnapshotState) (old middle : Option BookState) → (rounds ≡ 0 → ⊥)
    → StepsAt old told (events.Conclude session judged apply (rounds == 1)) (Ok answer) middle → answer.out ≡ outs.Stale shown → rounds - 1 ≡ 0 → middle ≡ None
stale-left told session judged apply zero answer shown old middle some step out none_left = absurd (some refl)
stale-left told session judged apply (suc zero) answer shown old middle some step out none_left =
    let P : Option BookState → Type 0 = λ o. StepsAt o told (events.Conclude session judged apply true) (Ok answer) middle in
    subst P (last-hidden told session judged apply answer shown old middle step out) step
stale-left told session judged apply (suc (suc rounds)) answer shown old middle some step out none_left =
    let left : suc rounds ≡ 0 = sym (one_less (suc rounds)) ∙ none_left in
    absurd (cc)

-- where no round may be made, nothing is shown
pub none-breaks : (may_tell : ℕ → Bool) (session : ℕ) (apply : Bool) (rounds : ℕ) (shown : SnapshotState) (old : Option BookState) (fault : DeskFault) → rounds ≡ 0 → (rounds ≡ 0 → old ≡ None)
    → BreaksIn may_tell session apply rounds shown old fault old
none-breaks may_tell session apply zero shown old fault none hidden = (hidden refl, hidden refl)
none-breaks may_tell session apply (suc rounds) shown old fault none hidden = inl (hidden none, hidden none)

module _ (may_tell : ℕ → Bool) (session : ℕ) (apply : Bool) (shown : SnapshotState) (old : Option BookState) where
  pub round-replies : (rounds : ℕ) (reply : ReplyParts) (new : Option BookState) → (rounds ≡ 0 → ⊥)
      → IsRound may_tell session apply (rounds == 1) shown old (outs.Reply reply) new → RepliesIn may_tell session apply rounds shown old reply new
  round-replies zero reply new some round = absurd (some refl)
  round-replies (suc rounds) reply new some round =
      let P : Bool → Type 0 = λ last. IsRound may_tell session apply last shown old (outs.Reply reply) new in
      inl (subst P (is_last rounds) round)

  pub stale-replies : (rounds : ℕ) (fresh : SnapshotState) (middle : Option BookState) (reply : ReplyParts) (new : Option BookState) → (rounds ≡ 0 → ⊥)
      → IsRound may_tell session apply (rounds == 1) shown old (outs.Stale fresh) middle → RepliesIn may_tell session apply (rounds - 1) fresh middle reply new
      → RepliesIn may_tell session apply rounds shown old reply new
  stale-replies zero fresh middle reply new some round others = absurd (some refl)
  stale-replies (suc rounds) fresh middle reply new some round others =
      let P : Bool → Type 0 = λ last. IsRound may_tell session apply last shown old (outs.Stale fresh) middle in
      let Q : ℕ → Type 0 = λ left. RepliesIn may_tell session apply left fresh middle reply new in
      inr (record { fresh = fresh; middle = middle; round = subst P (is_last rounds) round; others = subst Q (one_less rounds) others })

  pub stale-breaks : (rounds : ℕ) (fresh : SnapshotState) (middle : Option BookState) (fault : DeskFault) (new : Option BookState) → (rounds ≡ 0 → ⊥)
      → IsRound may_tell session apply (rounds == 1) shown old (outs.Stale fresh) middle → BreaksIn may_tell session apply (rounds - 1) fresh middle fault new
      → BreaksIn may_tell session apply rounds shown old fault new
  stale-breaks zero fresh middle fault new some round others = absurd (some refl)
  stale-breaks (suc rounds) fresh middle fault new some round others =
      let P : Bool → Type 0 = λ last. IsRound may_tell session apply last shown old (outs.Stale fresh) middle in
      let Q : ℕ → Type 0 = λ left. BreaksIn may_tell session apply left fresh middle fault new in
      inr (inr (inr (record { fresh = fresh; middle = middle; round = subst P (is_last rounds) round; others = subst Q (one_less rounds) others })))

  pub refused-breaks : (rounds : ℕ) (fault : DeskFault) (new : Option BookState) → (rounds ≡ 0 → ⊥)
      → IsRefusedRound may_tell session apply (rounds == 1) shown old fault new → BreaksIn may_tell session apply rounds shown old fault new
  refused-breaks zero fault new some round = absurd (some refl)
  refused-breaks (suc rounds) fault new some round =
      let P : Bool → Type 0 = λ last. IsRefusedRound may_tell session apply last shown old fault new in
      inr (inr (inl (subst P (is_last rounds) round)))

  pub lacks-breaks : (rounds : ℕ) (new : Option BookState) → (rounds ≡ 0 → ⊥) → new ≡ old → BreaksIn may_tell session apply rounds shown old faults.Memory new
  lacks-breaks zero new some same = absurd (some refl)
  lacks-breaks (suc rounds) new some same = inr (inl (refl, same))

  pub hidden-breaks : (rounds : ℕ) (fault : DeskFault) (new : Option BookState) → (rounds ≡ 0 → ⊥)
      → (old ≡ None) × (new ≡ None) → BreaksIn may_tell session apply rounds shown old fault new
  hidden-breaks zero fault new some hidden = absurd (some refl)
  hidden-breaks (suc rounds) fault new some hidden = inl hidden

-- ---- one round, by its steps

-- of a desk that shows after a pause what it showed before
pub made-round : (may_tell : ℕ → Bool) (session : ℕ) (apply last : Bool) (shown : SnapshotState) (old paused : Option BookState) (told : ℕ) (judged : Judged) (answer : Answer) (out : Out) (new : Option BookState)
    → paused ≡ old → IsTrue (may_tell told) → judged.snapshot ≡ shown → StepsAt paused told (events.Conclude session judged apply last) (Ok answer) new → answer.out ≡ out
    → IsRound may_tell session apply last shown old out new
made-round may_tell session apply last shown old paused told judged answer out new same by_clock of_snapshot step comes =
    let P : Option BookState → Type 0 = λ o. StepsAt o told (events.Conclude session judged apply last) (Ok answer) new in
    record { told = told; judged = judged; answer = answer; by_clock = by_clock; of_snapshot = of_snapshot; step = subst P same step; comes = comes }

-- a round that is replied
module _ (may_tell : ℕ → Bool) (session : ℕ) (apply : Bool) (shown : SnapshotState) (old : Option BookState) (rounds : ℕ) (passed reply : ReplyParts) (new : Option BookState) where
  pub reply-ok : (rounds ≡ 0 → ⊥) → passed ≡ reply → IsRound may_tell session apply (rounds == 1) shown old (outs.Reply reply) new → RepliesIn may_tell session apply rounds shown old passed new
  reply-ok some same round =
      let P : ReplyParts → Type 0 = λ it. RepliesIn may_tell session apply rounds shown old it new in
      subst P (sym same) (round-replies may_tell session apply shown old rounds reply new some round)

  pub reply-recorded : passed ≡ reply → IsRound may_tell session apply (rounds == 1) shown old (outs.Reply reply) new → Adds session old (passed ∷ []) new
  reply-recorded same round =
      let P : ReplyParts → Type 0 = λ it. Adds session old (it ∷ []) new in
      let event : Event = events.Conclude session round.judged apply (rounds == 1) in
      subst P (sym same) (Adds-replied session round.told event round.answer refl old new reply round.step round.comes)

-- what comes of the rounds after one that is stale comes of all of them
module _ (may_tell : ℕ → Bool) (session : ℕ) (apply : Bool) (shown : SnapshotState) (old : Option BookState) (rounds : ℕ) (fresh : SnapshotState) (middle new : Option BookState) (r : Result ReplyParts DeskFault)
    (round : IsRound may_tell session apply (rounds == 1) shown old (outs.Stale fresh) middle) where
  pub stale-ok : (passed : SnapshotState) → (rounds ≡ 0 → ⊥) → passed ≡ fresh → IfOk r (λ reply. RepliesIn may_tell session apply (rounds - 1) passed middle reply new)
      → IfOk r (λ reply. RepliesIn may_tell session apply rounds shown old reply new)
  stale-ok passed some same others =
      let P : SnapshotState → Type 0 = λ s. IfOk r (λ reply. RepliesIn may_tell session apply (rounds - 1) s middle reply new) in
      IfOk-weaker r _ _ (λ reply later. stale-replies may_tell session apply shown old rounds fresh middle reply new some round later) (subst P same others)

  pub stale-err : (passed : SnapshotState) → (rounds ≡ 0 → ⊥) → passed ≡ fresh → IfErr r (λ fault. BreaksIn may_tell session apply (rounds - 1) passed middle fault new)
      → IfErr r (λ fault. BreaksIn may_tell session apply rounds shown old fault new)
  stale-err passed some same others =
      let P : SnapshotState → Type 0 = λ s. IfErr r (λ fault. BreaksIn may_tell session apply (rounds - 1) s middle fault new) in
      IfErr-weaker r _ _ (λ fault later. stale-breaks may_tell session apply shown old rounds fresh middle fault new some round later) (subst P same others)

  pub stale-recorded : IfOk r (λ reply. Adds session middle (reply ∷ []) new) → IfOk r (λ reply. Adds session old (reply ∷ []) new)
  stale-recorded later =
      let event : Event = events.Conclude session round.judged apply (rounds == 1) in
      IfOk-weaker r _ _ (λ reply more. Adds-then session old [] middle (reply ∷ []) new (Adds-stale session round.told event round.answer refl old middle fresh round.step round.comes) more) later

  pub stale-unrecorded : IfErr r (λ fault. Adds session middle [] new) → IfErr r (λ fault. Adds session old [] new)
  stale-unrecorded later =
      let event : Event = events.Conclude session round.judged apply (rounds == 1) in
      IfErr-weaker r _ _ (λ fault more. Adds-then session old [] middle [] new (Adds-stale session round.told event round.answer refl old middle fresh round.step round.comes) more) later

-- the rounds after a snapshot are those of its recovery
module _ (may_tell : ℕ → Bool) (session : ℕ) (apply : Bool) (tries : ℕ) (key group : List ℕ) (dead : List (List ℕ)) (told : ℕ) (answer : Answer) (shown : SnapshotState) (old middle new : Option BookState)
    (r : Result ReplyParts DeskFault) (by_clock : IsTrue (may_tell told)) (step : StepsAt old told (events.Snapshot session key group dead) (Ok answer) middle) (out : answer.out ≡ outs.Snap shown)
    (rounds : ℕ) (all : rounds ≡ max tries 1) (passed : SnapshotState) (same : passed ≡ shown) where
  pub rounds-ok : IfOk r (λ reply. RepliesIn may_tell session apply rounds passed middle reply new) → IfOk r (λ reply. Adds session middle (reply ∷ []) new)
      → IfOk r (λ reply. Replies may_tell session (commands.Recover apply tries key group dead) old reply new)
  rounds-ok replied recorded =
      let adds = Adds-snapped session told (events.Snapshot session key group dead) answer refl old middle shown step out in
      IfOk-weaker r _ _ (λ reply both. in_rounds (record {
        apply = apply;
        tries = tries;
        key = key;
        group = group;
        dead = dead;
        told = told;
        answer = answer;
        shown = shown;
        middle = middle;
        is = refl;
        by_clock = by_clock;
        step = step;
        out = out;
        rounds = rw (same, all) at both.0;
      }) (Adds-recorded session old (reply ∷ []) new (Adds-then session old [] middle (reply ∷ []) new adds both.1))) (if_ok_both _ _ r replied recorded)

  pub rounds-err : IfErr r (λ fault. BreaksIn may_tell session apply rounds passed middle fault new) → IfErr r (λ fault. Adds session middle [] new)
      → IfErr r (λ fault. IsUnanswered may_tell session (commands.Recover apply tries key group dead) old fault new)
  rounds-err broke unrecorded =
      let adds = Adds-snapped session told (events.Snapshot session key group dead) answer refl old middle shown step out in
      IfErr-weaker r _ _ (λ fault both. breaks_off (record {
        apply = apply;
        tries = tries;
        key = key;
        group = group;
        dead = dead;
        told = told;
        answer = answer;
        shown = shown;
        middle = middle;
        is = refl;
        by_clock = by_clock;
        step = step;
        out = out;
        rounds = rw (same, all) at both.0;
      }) (Adds-recorded session old [] new (Adds-then session old [] middle [] new adds both.1))) (if_err_both _ _ r broke unrecorded)

-- ---- a recovery that broke off

-- leaves its session as it was
pub BreaksIn-idle : (may_tell : ℕ → Bool) (session : ℕ) (apply : Bool) (rounds : ℕ) (shown : SnapshotState) (old : Option BookState) (fault : DeskFault) (new : Option BookState)
    → BreaksIn may_tell session apply rounds shown old fault new → IsIdle session old → IsIdle session new
BreaksIn-idle may_tell session apply zero shown old fault new hidden idle = subst (IsIdle session) (sym hidden.1) tt
BreaksIn-idle may_tell session apply (suc rounds) shown old fault new (inl hidden) idle = subst (IsIdle session) (sym hidden.1) tt
BreaksIn-idle may_tell session apply (suc rounds) shown old fault new (inr (inl lacks)) idle = subst (IsIdle session) (sym lacks.1) idle
BreaksIn-idle may_tell session apply (suc rounds) shown old fault new (inr (inr (inl refused))) idle =
    subst (IsIdle session) (sym (StepsAt-refused old refused.told (events.Conclude session refused.judged apply (rounds == 0)) fault new refused.step)) idle
BreaksIn-idle may_tell session apply (suc rounds) shown old fault new (inr (inr (inr stale))) idle =
    let round = stale.round in
    BreaksIn-idle may_tell session apply rounds stale.fresh stale.middle fault new stale.others
    (asked-leaves_idle session round.told (events.Conclude session round.judged apply (rounds == 0)) round.answer old stale.middle refl round.step)

-- the faults for which a recovery that is shown does not break off
abbrev pub IsOutside : DeskFault → Type 0
IsOutside faults.Memory = ⊥
IsOutside faults.Busy = Unit {0}
IsOutside faults.Full = ⊥
IsOutside faults.NoSession = Unit {0}
IsOutside (faults.Regress index) = Unit {0}
IsOutside faults.Idle = Unit {0}
IsOutside faults.Unread = Unit {0}

-- a desk that shows its book does not refuse so what an idle session asks for
pub refused-hidden : (session told : ℕ) (event : Event) (fault : DeskFault) (old new : Option BookState) → Asks session event → IsOutside fault → IsIdle session old
    → StepsAt old told event (Err fault) new → (old ≡ None) × (new ≡ None)
refused-hidden session told event fault None new asks outside idle step = (refl, step)
refused-hidden session told event fault (Some old) None asks outside idle step = absurd step
refused-hidden session told event faults.Memory (Some old) (Some new) asks outside idle step = absurd outside
refused-hidden session told event faults.Busy (Some old) (Some new) asks outside idle step =
    absurd ((steps-asked-not-idle old told session event book.Busy new asks idle step).1 refl)
refused-hidden session told event faults.Full (Some old) (Some new) asks outside idle step = absurd outside
refused-hidden session told event faults.NoSession (Some old) (Some new) asks outside idle step =
    absurd ((steps-asked-not-idle old told session event book.NoSession new asks idle step).0 refl)
refused-hidden session told event (faults.Regress index) (Some old) (Some new) asks outside idle step = absurd step
refused-hidden session told event faults.Idle (Some old) (Some new) asks outside idle step = absurd step
refused-hidden session told event faults.Unread (Some old) (Some new) asks outside idle step = absurd step

pub BreaksIn-hidden : (may_tell : ℕ → Bool) (session : ℕ) (apply : Bool) (rounds : ℕ) (shown : SnapshotState) (old : Option BookState) (fault : DeskFault) (new : Option BookState)
    → IsOutside fault → BreaksIn may_tell session apply (suc rounds) shown old fault new → IsIdle session old → (old ≡ None) × (new ≡ None)
BreaksIn-hidden may_tell session apply rounds shown old fault new outside (inl hidden) idle = hidden
BreaksIn-hidden may_tell session apply rounds shown old fault new outside (inr (inl lacks)) idle = absurd (subst IsOutside lacks.0 outside)
BreaksIn-hidden may_tell session apply rounds shown old fault new outside (inr (inr (inl refused))) idle =
    refused-hidden session refused.told (events.Conclude session refused.judged apply (rounds == 0)) fault old new refl outside idle refused.step
BreaksIn-hidden may_tell session apply zero shown old fault new outside (inr (inr (inr stale))) idle =
    let round = stale.round in
    let none = last-hidden round.told session round.judged apply round.answer stale.fresh old stale.middle round.step round.comes in
    (none, stale.others.1)
BreaksIn-hidden may_tell session apply (suc rounds) shown old fault new outside (inr (inr (inr stale))) idle =
    let round = stale.round in
    let event : Event = events.Conclude session round.judged apply (suc rounds == 0) in
    let both = BreaksIn-hidden may_tell session apply rounds stale.fresh stale.middle fault new outside stale.others
    (asked-leaves_idle session round.told event round.answer old stale.middle refl round.step) in
    (was_hidden old round.told event round.answer stale.middle round.step both.0, both.1)
