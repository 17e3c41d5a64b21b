use Rattle.std.proofs.Common.{◌≡◌, subst, sym, Option, IfSome, IsSomeAnd}
use Rattle.sr_plan.specs.{Judged}
use Rattle.sr_policy.specs.{SnapshotState}
use Rattle.sr_hub.specs.Line.{wanted_of}
use Rattle.sr_hub.specs.declared.stage.Stage.{Stage}
use Rattle.sr_hub.proofs.MoveLemmas.{judged-moves, some-is, unjudged-moves}
use Rattle.sr_hub.proofs.rounds.conclude_round.Goals as goal

pub take_round-round-requires : goal.take_round-round-requires
take_round-round-requires c = some-is (wanted_of c.args.connection.now.stage) (λ (shown : SnapshotState). IfSome c.args.verdict (λ (judged : Judged). judged.snapshot ≡ shown)) c.requires

-- the verdict is on the snapshot that was taken out
pub returns-in-Some-clause-moves : goal.returns-in-Some-clause-moves
returns-in-Some-clause-moves c =
    let Of : Option Judged → SnapshotState → Type 0 = λ verdict shown. IfSome verdict (λ judged. judged.snapshot ≡ shown) in
    let wanted : Of c.args.verdict c.take_round-round.result.0 = subst (λ (stage : Stage). IsSomeAnd (wanted_of stage) (Of c.args.verdict)) c.take_round-round.ensures.stage c.requires in
    judged-moves c.args.book.now c.conclude_verdict.new.book c.args.connection.now c.take_round-round.new.connection c.conclude_verdict.new.connection _ c.in-Some.verdict
    (sym c.take_round-round.ensures.stage) c.take_round-round.ensures.rest (subst (λ (v : Option Judged). Of v c.take_round-round.result.0) c.in-Some.is wanted) c.conclude_verdict.ensures.moves

pub returns-in-None-clause-moves : goal.returns-in-None-clause-moves
returns-in-None-clause-moves c =
    unjudged-moves c.args.book.now c.args.connection.now c.take_round-round.new.connection c.tell_error.new.self _
    (sym c.take_round-round.ensures.stage) c.take_round-round.ensures.rest c.tell_error.ensures
