use Rattle.std.proofs.Common.{drop}
use Rattle.std.specs.List.{All}
use Rattle.sr_group.specs.steps.Judging.{IsJudged, IsUpTo}
use Rattle.sr_group.proofs.claim.judge_all.Given as goal

abbrev pub invariant-loop-id : goal.invariant-loop-id
invariant-loop-id l =
    IsJudged l.call.claim l.call.claimer.now l.call.moment l.call.entries.now.entries l.pending.nacks l.ids (drop l.id-index l.ids) l.acts.items
    × All (IsUpTo l.greatest) l.acts.items
