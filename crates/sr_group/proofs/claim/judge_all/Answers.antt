use Rattle.std.proofs.Common.{◌≡◌, ℕ, ◌≤◌, List, [], length, drop, refl}
use Rattle.std.proofs.lemmas.List.{drop_all}
use Rattle.std.proofs.lemmas.List.Elements.{All-nil}
use Rattle.std.proofs.lemmas.Result.{IfOk-from_err}
use Rattle.std.specs.List.{All}
use Rattle.sr_ids.specs.declared.id.Id.{Id}
use Rattle.sr_entries.specs.declared.entry.Entry.{Entry}
use Rattle.sr_pending.specs.declared.nack.Nack.{Nack}
use Rattle.sr_group.specs.declared.claim.Claim.{Claim}
use Rattle.sr_group.specs.declared.shown.Act.{Act}
use Rattle.sr_group.specs.steps.Judging.{IsJudged, IsUpTo}
use Rattle.sr_group.specs.steps.Showing.{IsActOf}
use Rattle.sr_group.proofs.JudgeLemmas.{IsJudged-next}
use Rattle.sr_group.proofs.claim.judge_all.Goals as goal

start : (claim : Claim) (claimer : List ℕ) (moment : ℕ) (entries : List Entry) (nacks : List Nack) (ids : List Id) (least : Id) (acts : List Act) → acts ≡ []
    → IsJudged claim claimer moment entries nacks ids ids acts × All (IsUpTo least) acts
start claim claimer moment entries nacks ids least acts none =
    rw none (record { after = refl; listed = refl; own = All-nil (IsActOf claimer) }, All-nil (IsUpTo least))

end : (claim : Claim) (claimer : List ℕ) (moment : ℕ) (entries : List Entry) (nacks : List Nack) (ids : List Id) (i : ℕ) (acts : List Act) → length ids ≤ i
    → IsJudged claim claimer moment entries nacks ids (drop i ids) acts → IsJudged claim claimer moment entries nacks ids [] acts
end claim claimer moment entries nacks ids i acts past judged = rw (drop_all i ids past) at judged

pub returns-in_err-claimer : goal.returns-in_err-claimer
returns-in_err-claimer c = IfOk-from_err _ _ c.from_residual.ensures.0

pub returns-in_err-judge_next : goal.returns-in_err-judge_next
returns-in_err-judge_next c = IfOk-from_err _ _ c.from_residual-in_err-judge_next.ensures.0

pub loop-id-init : goal.loop-id-init
loop-id-init c =
    let call = c.args.call.now in
    start call.claim call.claimer.now call.moment call.entries.now.entries c.args.pending.now.nacks c.args.ids.now _ c.new-acts.result.items c.new-acts.ensures.items

pub judge_next-requires : goal.judge_next-requires
judge_next-requires c = record {
  same = c.in_ok-claimer.ensures;
  moment = c.requires.moment;
  count = c.requires.count;
  own = c.loop-id.invariant.0.own;
  up_to = c.loop-id.invariant.1;
}

pub loop-id-preserved : goal.loop-id-preserved
loop-id-preserved c =
    let call = c.args.call.now in (
      IsJudged-next call.claim call.claimer.now call.moment call.entries.now.entries c.args.pending.now.nacks c.args.ids.now c.loop-id.id-index (record { ms = 0; seq = 0 }) c.loop-id.acts.items c.judge_next.new.acts.items c.loop-id-test.true c.loop-id.invariant.0 c.in_ok-judge_next.ensures.judged,
      c.in_ok-judge_next.ensures.up_to c.greater-greatest.result c.greater-greatest.ensures.first c.greater-greatest.ensures.second,
    )

pub returns : goal.returns
returns c =
    let call = c.args.call.now in
    end call.claim call.claimer.now call.moment call.entries.now.entries c.args.pending.now.nacks c.args.ids.now c.loop-id.id-index c.loop-id.acts.items c.loop-id-test.false c.loop-id.invariant.0
