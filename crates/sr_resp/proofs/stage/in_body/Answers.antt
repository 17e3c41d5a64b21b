use Rattle.std.proofs.Common.{◌≡◌, ◌+◌, arith}
use Rattle.sr_resp.specs.declared.stage.Stage.TheVariants as stages
use Rattle.sr_resp.specs.declared.stage.Step.TheVariants as steps
use Rattle.sr_resp.proofs.StageLemmas.{byte_at, expected_step, body_good, body_bad, body_run, word_step}
use Rattle.sr_resp.proofs.stage.in_body.Goals as goal

pub returns-then-is_line_end : goal.returns-then-is_line_end
returns-then-is_line_end c =
    word_step c.args.item.now c.args.at c.args.others c.args.room c.args.start c.args.missing (c.is_line_end.ensures c.if-is_line_end.true) (omega (arith, c.if-others-gt0.true)) c.requires.order c.requires.room

pub returns-then-missing-gt0 : goal.returns-then-missing-gt0
returns-then-missing-gt0 c =
    body_run c.args.item.now c.args.at c.args.others c.args.room c.args.start c.args.missing c.min-run.result (omega (arith, c.min-run.ensures, c.requires.there)) (omega (arith, c.min-run.ensures, c.requires.there, c.if-missing-gt0.true)) (omega (arith, c.min-run.ensures)) c.requires.order c.requires.room

pub returns-else-missing-gt0 : goal.returns-else-missing-gt0
returns-else-missing-gt0 c =
    let item = c.args.item.now in
    let at = c.args.at in
    let others = c.args.others in
    let room = c.args.room in
    let start = c.args.start in
    let missing = c.args.missing in
    let none : missing ≡ 0 = omega (arith, c.if-missing-gt0.false) in
    expected_step item at 13 (stages.Body others room start missing) (steps.Word (record { start = start; end = at }) (stages.BodyEnd others room)) c.expect.result c.requires.there c.expect.ensures (λ more. body_good item at (at + 1) others room start missing more none) (λ more. body_bad item at others room start missing (byte_at item at) more none) (record { order = c.requires.order; within = omega arith }, c.requires.room)
