use Rattle.std.proofs.Common.{◌+◌, arith}
use Rattle.sr_resp.specs.declared.stage.Stage.TheVariants as stages
use Rattle.sr_resp.specs.declared.stage.Step.TheVariants as steps
use Rattle.sr_resp.proofs.StageLemmas.{byte_at, expected_step, word_good, word_bad, header_step}
use Rattle.sr_resp.proofs.stage.at_word.Goals as goal

pub returns-in-Some : goal.returns-in-Some
returns-in-Some c = rw c.to_body.ensures (header_step c.args.item.now c.args.at c.args.others c.args.room c.in-Some.len c.in-Some.ensures c.requires.room)

pub returns-in-None : goal.returns-in-None
returns-in-None c =
    let item = c.args.item.now in
    let at = c.args.at in
    let others = c.args.others in
    let room = c.args.room in
    expected_step item at 36 (stages.Word others room) (steps.On (stages.Length others room 0 0)) c.expect.result c.requires.there c.expect.ensures (word_good item at (at + 1) others room) (word_bad item at others room (byte_at item at)) (c.requires.room, omega arith)
