use Rattle.std.proofs.Common.{rules, ◌≡◌, None, Some, subst}
use Rattle.sr_live.specs.declared.conclusion.Concluded.TheVariants as concluded
use Rattle.sr_live.specs.Rounds.{IsJudged, IsPlanned, within_of}
use Rattle.sr_live.specs.Conclusion.{SaysConcluded}
use Rattle.sr_live.specs.Words.{last_word, words_for}
use Rattle.sr_live.proofs.ReadingLemmas.{IsLooked-reads, reads-whole}
use Rattle.sr_live.proofs.RoundsLemmas.{broken-at-script, broken-memory, broken-off, concluded-from, done-made}
use Rattle.sr_live.proofs.RoundsLemmas.{done-unfit, short-from-none}
use Rattle.sr_live.proofs.rounds.round.Goals as goal

pub returns-in_err-planned-clause-err : goal.returns-in_err-planned-clause-err
returns-in_err-planned-clause-err g c =
    broken-off c.args.policy.now c.args.asked.now c.args.terms _ _
    (g.P.Peer.sent c.args.peer.now) (g.P.Peer.got c.args.peer.now) _ _ c.from_residual.result _
    c.from_residual.ensures.1 c.in_err-planned.ensures.err

pub returns-in_err-words-clause-err : goal.returns-in_err-words-clause-err
returns-in_err-words-clause-err g c =
    let seen = c.in_ok-planned.ensures.ok in
    let is : IsPlanned c.args.policy.now c.args.asked.now c.args.terms.at_most seen.0 c.in-Some.planned =
    subst (IsJudged c.args.policy.now c.args.asked.now c.args.terms.at_most seen.0) c.in-Some.is seen.2 in
    broken-memory c.args.policy.now c.args.asked.now c.args.terms _ _
    (g.P.Peer.sent c.args.peer.now) (g.P.Peer.got c.args.peer.now) _ _ c.from_residual-in_err-words.result
    c.from_residual-in_err-words.ensures.1
    (reads-whole _ _ _ _ seen.0 seen.1 (IsLooked-reads c.args.asked.now _ _ _ _ _ _ _ is.looked))

-- there is no plan
pub returns-in_default-2-clause-ok : goal.returns-in_default-2-clause-ok
returns-in_default-2-clause-ok g c =
    let seen = c.in_ok-planned.ensures.ok in
    let planned = c.in-Some.planned in
    let is : IsPlanned c.args.policy.now c.args.asked.now c.args.terms.at_most seen.0 planned =
    subst (IsJudged c.args.policy.now c.args.asked.now c.args.terms.at_most seen.0) c.in-Some.is seen.2 in
    let none : words_for planned.verdict.snapshot.group (within_of c.args.terms planned) (last_word planned.looked.last)
    c.args.asked.now.claimable planned.looked.removed planned.looked.rows.items planned.live.items planned.verdict.snapshot planned.verdict.answer ≡ None =
    search rules in
    let shortage = short-from-none planned.verdict.snapshot.group (within_of c.args.terms planned) (last_word planned.looked.last)
    c.args.asked.now.claimable planned.looked.removed planned.looked.rows.items planned.live.items planned.verdict.snapshot planned.verdict.answer none in
    (seen.0, seen.1, record { planned_so = is; set = shortage.0; shortage = shortage.1 })

pub returns-in_err-claimed-clause-err : goal.returns-in_err-claimed-clause-err
returns-in_err-claimed-clause-err g c =
    let seen = c.in_ok-planned.ensures.ok in
    let planned = c.in-Some.planned in
    let is : IsPlanned c.args.policy.now c.args.asked.now c.args.terms.at_most seen.0 planned =
    subst (IsJudged c.args.policy.now c.args.asked.now c.args.terms.at_most seen.0) c.in-Some.is seen.2 in
    let are_words : words_for planned.verdict.snapshot.group (within_of c.args.terms planned) (last_word planned.looked.last)
    c.args.asked.now.claimable planned.looked.removed planned.looked.rows.items planned.live.items planned.verdict.snapshot planned.verdict.answer
    ≡ Some c.as_slice.result.now = search rules in
    broken-at-script c.args.policy.now c.args.asked.now c.args.terms _ _ _ _ _ _ c.from_residual-in_err-claimed.result _ planned
    seen.0 c.as_slice.result.now c.from_residual-in_err-claimed.ensures.1 seen.1 is are_words c.in_err-claimed.ensures.err

pub returns-in-Stale-clause-ok : goal.returns-in-Stale-clause-ok
returns-in-Stale-clause-ok g c =
    let seen = c.in_ok-planned.ensures.ok in
    let told = c.in_ok-claimed.ensures.ok in
    let planned = c.in-Some.planned in
    let is : IsPlanned c.args.policy.now c.args.asked.now c.args.terms.at_most seen.0 planned =
    subst (IsJudged c.args.policy.now c.args.asked.now c.args.terms.at_most seen.0) c.in-Some.is seen.2 in
    let are_words : words_for planned.verdict.snapshot.group (within_of c.args.terms planned) (last_word planned.looked.last)
    c.args.asked.now.claimable planned.looked.removed planned.looked.rows.items planned.live.items planned.verdict.snapshot planned.verdict.answer
    ≡ Some c.as_slice.result.now = search rules in
    let so = concluded-from c.args.policy.now c.args.asked.now c.args.terms _ _ _ _ _ _ planned
    (concluded.Stale c.in-Stale.what c.in-Stale.of) seen.0 c.as_slice.result.now seen.1 is are_words
    (told.0, told.1, told.2, told.3, told.4, subst (SaysConcluded told.2) c.in-Stale.is told.5) in
    (so.0, so.1, record { planned = planned; concluded = so.2 })

pub returns-in-Done-clause-ok : goal.returns-in-Done-clause-ok
returns-in-Done-clause-ok g c =
    let seen = c.in_ok-planned.ensures.ok in
    let told = c.in_ok-claimed.ensures.ok in
    let planned = c.in-Some.planned in
    let is : IsPlanned c.args.policy.now c.args.asked.now c.args.terms.at_most seen.0 planned =
    subst (IsJudged c.args.policy.now c.args.asked.now c.args.terms.at_most seen.0) c.in-Some.is seen.2 in
    let are_words : words_for planned.verdict.snapshot.group (within_of c.args.terms planned) (last_word planned.looked.last)
    c.args.asked.now.claimable planned.looked.removed planned.looked.rows.items planned.live.items planned.verdict.snapshot planned.verdict.answer
    ≡ Some c.as_slice.result.now = search rules in
    done-made c.args.policy.now c.args.asked.now c.args.terms _ _
    (g.P.Peer.sent c.args.peer.now) (g.P.Peer.got c.args.peer.now) _ _ c.done.result planned c.in-Done.claimed
    c.in-Done.gap c.done.ensures.ok
    (concluded-from c.args.policy.now c.args.asked.now c.args.terms _ _ _ _ _ _ planned
    (concluded.Done c.in-Done.claimed c.in-Done.gap) seen.0 c.as_slice.result.now seen.1 is are_words
    (told.0, told.1, told.2, told.3, told.4, subst (SaysConcluded told.2) c.in-Done.is told.5))

pub returns-in-Done-clause-err : goal.returns-in-Done-clause-err
returns-in-Done-clause-err g c =
    let seen = c.in_ok-planned.ensures.ok in
    let told = c.in_ok-claimed.ensures.ok in
    let planned = c.in-Some.planned in
    let is : IsPlanned c.args.policy.now c.args.asked.now c.args.terms.at_most seen.0 planned =
    subst (IsJudged c.args.policy.now c.args.asked.now c.args.terms.at_most seen.0) c.in-Some.is seen.2 in
    let are_words : words_for planned.verdict.snapshot.group (within_of c.args.terms planned) (last_word planned.looked.last)
    c.args.asked.now.claimable planned.looked.removed planned.looked.rows.items planned.live.items planned.verdict.snapshot planned.verdict.answer
    ≡ Some c.as_slice.result.now = search rules in
    done-unfit c.args.policy.now c.args.asked.now c.args.terms _ _
    (g.P.Peer.sent c.args.peer.now) (g.P.Peer.got c.args.peer.now) _ _ c.done.result planned c.in-Done.claimed
    c.in-Done.gap c.done.ensures.err
    (concluded-from c.args.policy.now c.args.asked.now c.args.terms _ _ _ _ _ _ planned
    (concluded.Done c.in-Done.claimed c.in-Done.gap) seen.0 c.as_slice.result.now seen.1 is are_words
    (told.0, told.1, told.2, told.3, told.4, subst (SaysConcluded told.2) c.in-Done.is told.5))
