use Rattle.std.proofs.Common.{◌≡◌, ℕ, List, Option, None, Some, IfErr, OnErr, Result, Err, Ok, inl, inr, refl, subst, sym}
use Rattle.std.proofs.lemmas.Result.{err_from_is_err_and}
use Rattle.std.specs.Prelude.{ok_or}
use Rattle.std.specs.Result.{IsErrAnd}
use Rattle.sr_policy.specs.Rules.{Rules}
use Rattle.sr_live.specs.declared.fault.LiveFault.{LiveFault}
use Rattle.sr_live.specs.declared.fault.LiveFault.TheVariants.{Changed}
use Rattle.sr_live.specs.declared.looked.Asked.{Asked}
use Rattle.sr_live.specs.declared.rounds.Planned.{Planned}
use Rattle.sr_live.specs.Looking.{Exchange, Talks}
use Rattle.sr_live.specs.Reading.{BreaksOff}
use Rattle.sr_live.specs.Rounds.{HasNoPlan, IsJudged}
use Rattle.sr_live.proofs.ReadingLemmas.{AreReading, IsLooked-reads, reads-whole}
use Rattle.sr_live.proofs.rounds.plan.Goals as goal

-- whatever came of it, nothing was called but what reads
judged-reads : (rules : Rules) (asked : Asked) (at_most : Option ℕ) (talk : List Exchange) (judged : Option Planned)
    → IsJudged rules asked at_most talk judged → AreReading talk
judged-reads rules asked at_most talk None changed =
    IsLooked-reads asked at_most talk changed.idles changed.numbers changed.rows changed.last changed.removed
    changed.looked
judged-reads rules asked at_most talk (Some planned) is =
    IsLooked-reads asked at_most talk planned.looked.idles.items planned.looked.numbers.items planned.looked.rows.items
    planned.looked.last planned.looked.removed is.looked

on_err-any : {T E X : Type 0} (r : Result T E) → X → OnErr r X
on_err-any (Ok value) x = tt
on_err-any (Err fault) x = x

module _ (rules : Rules) (asked : Asked) (at_most : Option ℕ) (sent got sent_then got_then : Option (List ℕ)) where
  -- why there is none
  abbrev IsNone : Result Planned LiveFault → Type 0
  IsNone result = IfErr result (HasNoPlan rules asked at_most sent got sent_then got_then)

  none-passed : (result : Result Planned LiveFault) (fault : LiveFault) → IsErrAnd result (λ passed. passed ≡ fault)
      → BreaksOff sent got sent_then got_then fault → IsNone result
  none-passed result fault is broken =
      let told = err_from_is_err_and result is in
      subst IsNone (sym told.1) (inl (subst (BreaksOff sent got sent_then got_then) (sym told.2) broken))

  none-judged : (talk : List Exchange) (judged : Option Planned) (result : Result Planned LiveFault)
      → result ≡ ok_or judged Changed → Talks sent got sent_then got_then talk
      → IsJudged rules asked at_most talk judged → IsNone result
  none-judged talk None result is talks changed = subst IsNone (sym is) (inr (refl, (talk, talks, changed)))
  none-judged talk (Some planned) result is talks so = subst IsNone (sym is) tt

pub returns-in_err-judged-clause-fault : goal.returns-in_err-judged-clause-fault
returns-in_err-judged-clause-fault g c =
    none-passed c.args.policy.now c.args.asked.now c.args.at_most (g.P.Peer.sent c.args.peer.now)
    (g.P.Peer.got c.args.peer.now) _ _ c.from_residual.result _ c.from_residual.ensures.1 c.in_err-judged.ensures.err

pub returns-clause-fault : goal.returns-clause-fault
returns-clause-fault g c =
    let seen = c.in_ok-judged.ensures.ok in
    none-judged c.args.policy.now c.args.asked.now c.args.at_most _ _ _ _ seen.0 c.in_ok-judged.field-0
    c.ok_or.result c.ok_or.ensures.value seen.1 seen.2

pub returns-clause-err : goal.returns-clause-err
returns-clause-err g c =
    let seen = c.in_ok-judged.ensures.ok in
    on_err-any c.ok_or.result
    (reads-whole _ _ _ _ seen.0 seen.1
    (judged-reads c.args.policy.now c.args.asked.now c.args.at_most seen.0 c.in_ok-judged.field-0 seen.2))
