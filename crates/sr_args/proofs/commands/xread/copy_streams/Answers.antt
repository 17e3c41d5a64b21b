use Rattle.std.proofs.lemmas.Result.{IfOk-from_err}
use Rattle.std.proofs.Common.{[], append-nil}
use Rattle.sr_args.specs.FormWord.{position}
use Rattle.sr_args.proofs.StreamsLemmas.{AreStreams-more, next-enough}
use Rattle.sr_args.proofs.commands.xread.copy_streams.Goals as goal

pub returns : goal.returns
returns c = rw append-nil at (c.loop-word.invariant.whole [] (rw c.in_default.ensures.none tt))

pub returns-in_err-list : goal.returns-in_err-list
returns-in_err-list c = IfOk-from_err _ _ c.from_residual.ensures.0

pub returns-in_err-key : goal.returns-in_err-key
returns-in_err-key c = IfOk-from_err _ _ c.from_residual-in_err-key.ensures.0

pub returns-in_err-push : goal.returns-in_err-push
returns-in_err-push c = IfOk-from_err _ _ c.from_residual-in_err-push.ensures.0

pub loop-word-preserved : goal.loop-word-preserved
loop-word-preserved c =
    let u = c.loop-word.invariant in
    let words = c.in-Some.ensures.some in
    let keys = rw c.unwrap.ensures at c.next-in-Some.ensures.some in
    let spells = rw c.unwrap-from.ensures at c.read_position.ensures.found in
    record {
      left = (rw words at u.left).1;
      enough = next-enough c.loop-word.keys c.loop-word.words c.next-in-Some.new.self c.next.new.self c.unwrap.result.now c.in-Some.word.now keys words u.enough;
      whole = λ more are. rw c.in_ok-push.ensures.items (AreStreams-more position c.args.keys c.args.words c.loop-word.keys c.loop-word.words c.next-in-Some.new.self c.next.new.self c.in_ok-key.key c.unwrap.result.now c.in-Some.word.now c.loop-word.list.items c.unwrap-from.result keys words c.in_ok-key.ensures spells u.whole more are);
    }
