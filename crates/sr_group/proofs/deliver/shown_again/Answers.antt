use Rattle.std.proofs.Common.{List, ◌++◌, map, ap}
use Rattle.std.proofs.lemmas.Result.{IfOk-from_err}
use Rattle.sr_group.specs.declared.shown.Act.{Act}
use Rattle.sr_group.specs.steps.Showing.{again}
use Rattle.sr_group.proofs.LoopLemmas.{mapped-end, mapped-next, shorter-next}
use Rattle.sr_group.proofs.deliver.shown_again.Goals as goal

pub loop-nack-init : goal.loop-nack-init
loop-nack-init c =
    ap (λ (l : List Act). l ++ map (again c.args.moment c.args.entries.now.entries) c.args.history) c.new-acts.ensures.items

pub loop-nack-preserved : goal.loop-nack-preserved
loop-nack-preserved c =
    mapped-next (again c.args.moment c.args.entries.now.entries) c.in-Some.nack.now c.again.result c.loop-nack.rest c.next.new.self c.args.history c.loop-nack.acts.items c.push.new.self.items c.in-Some.ensures.some c.again.ensures c.in_ok-push.ensures.items c.loop-nack.invariant

pub loop-nack-smaller : goal.loop-nack-smaller
loop-nack-smaller c = shorter-next c.in-Some.nack.now c.loop-nack.rest c.next.new.self c.in-Some.ensures.some

pub returns-in_err-push : goal.returns-in_err-push
returns-in_err-push c = IfOk-from_err _ _ c.from_residual.ensures.0

pub returns : goal.returns
returns c =
    mapped-end (again c.args.moment c.args.entries.now.entries) c.loop-nack.rest c.args.history c.loop-nack.acts.items c.in_default.ensures.none c.loop-nack.invariant
