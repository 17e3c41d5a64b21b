use Rattle.std.proofs.Common.{rules, ◌≡◌, ℕ, List, [], ◌∷◌, ◌++◌, refl, sym, ◌∙◌, subst}
use Rattle.std.proofs.KnownBytes.{Appends-nil, Appends-trans}
use Rattle.std.specs.Vec.Iter.{into_iter_items}
use Rattle.sr_resp.specs.{Words, Progress}
use Rattle.sr_session.specs.Desk.{IsIdle}
use Rattle.sr_session.specs.steps.Asked.{AreAsked}
use Rattle.sr_session.specs.steps.Underway.{IsAnswering}
use Rattle.sr_session.proofs.AskedLemmas.{AreAsked-first, AreAsked-none, IsAnswering-all, Stands-next, with_waiting}
use Rattle.sr_session.proofs.RunLemmas.{IsNoted-err, err_as, on_ok_none}
use Rattle.sr_session.proofs.UnderwayLemmas.{IsAnswering-start, IsAnswering-more, EndsAs-more}
use Rattle.sr_session.proofs.run.answer_all.Goals as goal

-- what was shown is shown still
still : {S : Type 0} (A : S → Words → List ℕ → S → Type 0) (found : S) (taken written gathered : List ℕ) (sent : ℕ) (progress : Progress) (now later : S) → now ≡ later
    → IsAnswering A found taken written gathered sent progress now → IsAnswering A found taken written gathered sent progress later
still A found taken written gathered sent progress now later same is = subst (IsAnswering A found taken written gathered sent progress) same is

pub loop-one-init : goal.loop-one-init
loop-one-init g c = record {
  so_far = ([], Appends-nil _, λ progress asks found taken written start. (progress.waiting, subst (AreAsked progress.waiting) (sym c.into_iter-one-iterator.ensures.into_iter_gives.0) asks, IsAnswering-start _ found taken written _ _ _ _ start));
  idle = c.requires.idle;
  noted = refl;
  same = refl;
  counted = search rules;
}

pub loop-one-preserved : goal.loop-one-preserved
loop-one-preserved g c =
    let i = c.loop-one.invariant in
    let left = into_iter_items c.next.new.self in
    let items : into_iter_items c.loop-one.one-iterator ≡ c.in-Some.one ∷ left = c.in-Some.ensures.steps.0 in
    let one = c.in_ok-answer_asked.ensures.ok in
    let kept = c.let_others_in-shared.ensures in
    record {
      so_far = (
        i.so_far.0 ++ one.0,
        Appends-trans _ _ _ i.so_far.0 one.0 i.so_far.1 one.1,
        λ progress asks found taken written start.
            let before = i.so_far.2 progress asks found taken written start in
            let split = AreAsked-first before.0 c.in-Some.one left (subst (AreAsked before.0) items before.1) in
            (split.others, split.rest, still _ found taken _ _ _ _ _ _ (sym kept.shows) (IsAnswering-more _ found taken written i.so_far.0 _ one.0 _ _ _ (with_waiting before.0 progress) (with_waiting split.others progress) _ _ split.words (Stands-next (with_waiting before.0 progress) split.words split.others split.is) (one.2 split.words split.asks) before.2)),
      );
      idle = subst (IsIdle c.args.session) (sym kept.shows) c.in_ok-answer_asked.ensures.idle;
      noted = c.in_ok-answer_asked.ensures.noted ∙ i.noted;
      same = kept.same ∙ c.answer_asked.ensures.same ∙ i.same;
      counted = search rules;
    }

pub returns-in_err-answer_asked : goal.returns-in_err-answer_asked
returns-in_err-answer_asked g c =
    let i = c.loop-one.invariant in
    let left = into_iter_items c.next.new.self in
    let items : into_iter_items c.loop-one.one-iterator ≡ c.in-Some.one ∷ left = c.in-Some.ensures.steps.0 in
    let one = c.in_err-answer_asked.ensures.err in
    let failed = c.from_residual.ensures.0 in
    let is = c.from_residual.ensures.1 in
    record {
      ok = on_ok_none _ _ failed;
      idle = on_ok_none _ _ failed;
      err = err_as _ _ _ is (
        i.so_far.0 ++ one.0,
        Appends-trans _ _ _ i.so_far.0 one.0 i.so_far.1 one.1,
        λ progress asks found taken written start.
            let before = i.so_far.2 progress asks found taken written start in
            let split = AreAsked-first before.0 c.in-Some.one left (subst (AreAsked before.0) items before.1) in
            EndsAs-more _ _ found taken written i.so_far.0 _ one.0 _ (with_waiting before.0 progress) (with_waiting split.others progress) _ _ split.words _ (Stands-next (with_waiting before.0 progress) split.words split.others split.is) (one.2 split.words split.asks) before.2,
      );
      end = err_as _ _ _ is c.in_err-answer_asked.ensures.end;
      noted = IsNoted-err _ _ _ _ _ is i.noted c.in_err-answer_asked.ensures.noted;
      same = c.answer_asked.ensures.same ∙ i.same;
    }

pub returns : goal.returns
returns g c =
    let i = c.loop-one.invariant in
    record {
      ok = (
        i.so_far.0,
        i.so_far.1,
        λ progress asks found taken written start.
            let before = i.so_far.2 progress asks found taken written start in
            let none = AreAsked-none before.0 (into_iter_items c.loop-one.one-iterator) before.1 (sym i.counted ∙ c.in-None.ensures.steps.0) in
            IsAnswering-all _ found taken (written ++ i.so_far.0) _ _ before.0 progress _ none before.2,
      );
      idle = i.idle;
      err = tt;
      end = tt;
      noted = i.noted;
      same = i.same;
    }
