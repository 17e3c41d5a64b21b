use Rattle.std.proofs.Common.{◌≤◌, ◌<◌, ◌+◌, ◌-◌, ◌∙◌, arith, get_or, codes}
use Rattle.sr_resp.specs.declared.stage.Stage.TheVariants as stages
use Rattle.sr_resp.specs.declared.stage.Step.TheVariants as steps
use Rattle.sr_resp.proofs.StageLemmas.{byte_at, byte_step, expected_step, start_good, start_bad, kind_null, kind_count, null_bad, null_on, null_ends, count_end_empty, count_end_word, count_end_bad, length_end_good, length_end_bad, body_end_whole, body_end_word, body_end_bad}
use Rattle.sr_resp.proofs.stage.Stage.advance.Goals as goal
use Rattle.sr_resp.proofs.stage.Stage.advance.Goals.{then-read-lt3, else-read-lt3, then-count-eq0, else-count-eq0, then-others-eq0, else-others-eq0}

pub bounds-read : goal.bounds-read
bounds-read c = rw c.in-NullArray.is at c.requires.sound

pub in_length-requires-clause-room : goal.in_length-requires-clause-room
in_length-requires-clause-room c = (rw c.in-Length.is at c.requires.sound).0

pub in_length-requires-clause-value : goal.in_length-requires-clause-value
in_length-requires-clause-value c = (rw c.in-Length.is at c.requires.sound).1

pub to_body-step-requires : goal.to_body-step-requires
to_body-step-requires c = (rw c.in-LengthEnd.is at c.requires.sound).1

pub returns-in-Start : goal.returns-in-Start
returns-in-Start c =
    let item = c.args.item.now in
    let at = c.args.at in
    rw c.in-Start.is (expected_step item at 42 stages.Start (steps.On stages.Kind) c.expect.result c.requires.there c.expect.ensures (start_good item at (at + 1)) (start_bad item at (byte_at item at)) tt)

pub returns-then-byte-eq45 : goal.returns-then-byte-eq45
returns-then-byte-eq45 c =
    let item = c.args.item.now in
    let at = c.args.at in
    rw c.in-Kind.is (byte_step item at stages.Kind (steps.On (stages.NullArray 1)) c.requires.there (λ more. kind_null item at (byte_at item at) (at + 1) more c.if-byte-eq45.true) (omega arith))

pub returns-else-byte-eq45 : goal.returns-else-byte-eq45
returns-else-byte-eq45 c =
    let item = c.args.item.now in
    let at = c.args.at in
    let byte = byte_at item at in
    rw c.in-Kind.is (byte_step item at stages.Kind c.in_count.result c.requires.there (λ more. kind_count item at byte more c.if-byte-eq45.false ∙ c.in_count.ensures.reads item at (at + 1) more) (c.in_count.ensures.sound (at + 1)))

pub returns-after-read-lt3 : goal.returns-after-read-lt3
returns-after-read-lt3 c =
    let item = c.args.item.now in
    let at = c.args.at in
    let read = c.in-NullArray.read in
    let few : read < 4 = rw c.in-NullArray.is at c.requires.sound in
    elim c.if-read-lt3.branch [
      | then-read-lt3 w ↦
          let chosen = rw w.step-is at c.expect-in-NullArray.ensures in
          rw c.in-NullArray.is (expected_step item at (get_or (codes "-1\r\n") read 0) (stages.NullArray read) (steps.On (stages.NullArray (read + 1))) c.expect-in-NullArray.result c.requires.there chosen (λ more. null_on item at (at + 1) read more w.if-read-lt3.true) (λ more. null_bad item at read (byte_at item at) more few) (omega (arith, w.if-read-lt3.true)))
      | else-read-lt3 w ↦
          let chosen = rw w.step-is at c.expect-in-NullArray.ensures in
          rw c.in-NullArray.is (expected_step item at (get_or (codes "-1\r\n") read 0) (stages.NullArray read) steps.Empty c.expect-in-NullArray.result c.requires.there chosen (λ more. null_ends item at (at + 1) read more few w.if-read-lt3.false) (λ more. null_bad item at read (byte_at item at) more few) tt)
    ]

pub returns-in-Count : goal.returns-in-Count
returns-in-Count c =
    let item = c.args.item.now in
    let at = c.args.at in
    rw c.in-Count.is (byte_step item at (stages.Count c.in-Count.digits c.in-Count.value) c.in_count-in-Count.result c.requires.there (c.in_count-in-Count.ensures.reads item at (at + 1)) (c.in_count-in-Count.ensures.sound (at + 1)))

pub returns-after-count-eq0 : goal.returns-after-count-eq0
returns-after-count-eq0 c =
    let item = c.args.item.now in
    let at = c.args.at in
    let count = c.in-CountEnd.count in
    elim c.if-count-eq0.branch [
      | then-count-eq0 w ↦
          let chosen = rw w.step-is at c.expect-in-CountEnd.ensures in
          rw c.in-CountEnd.is (expected_step item at 10 (stages.CountEnd count) steps.Empty c.expect-in-CountEnd.result c.requires.there chosen (λ more. count_end_empty item at (at + 1) count more w.if-count-eq0.true) (count_end_bad item at count (byte_at item at)) tt)
      | else-count-eq0 w ↦
          let chosen = rw w.step-is at c.expect-in-CountEnd.ensures in
          rw c.in-CountEnd.is (expected_step item at 10 (stages.CountEnd count) (steps.On (stages.Word (count - 1) 16777216)) c.expect-in-CountEnd.result c.requires.there chosen (λ more. count_end_word item at (at + 1) count more w.if-count-eq0.false) (count_end_bad item at count (byte_at item at)) (omega arith))
    ]

pub returns-in-Length : goal.returns-in-Length
returns-in-Length c =
    let item = c.args.item.now in
    let at = c.args.at in
    rw c.in-Length.is (byte_step item at (stages.Length c.in-Length.others c.in-Length.room c.in-Length.digits c.in-Length.value) c.in_length.result c.requires.there (c.in_length.ensures.reads item at (at + 1)) (c.in_length.ensures.sound (at + 1)))

pub returns-in-LengthEnd : goal.returns-in-LengthEnd
returns-in-LengthEnd c =
    let item = c.args.item.now in
    let at = c.args.at in
    let others = c.in-LengthEnd.others in
    let room = c.in-LengthEnd.room in
    let len = c.in-LengthEnd.len in
    let small : room ≤ 16777216 = (rw c.in-LengthEnd.is at c.requires.sound).0 in
    let chosen = rw c.to_body-step.ensures at c.expect-in-LengthEnd.ensures in
    rw c.in-LengthEnd.is (expected_step item at 10 (stages.LengthEnd others room len) (steps.On (stages.Body others (room - len) (at + 1) len)) c.expect-in-LengthEnd.result c.requires.there chosen (length_end_good item at (at + 1) others room len) (length_end_bad item at others room len (byte_at item at)) (omega arith, omega arith))

pub returns-after-others-eq0 : goal.returns-after-others-eq0
returns-after-others-eq0 c =
    let item = c.args.item.now in
    let at = c.args.at in
    let others = c.in-BodyEnd.others in
    let room = c.in-BodyEnd.room in
    let small : room ≤ 16777216 = rw c.in-BodyEnd.is at c.requires.sound in
    elim c.if-others-eq0.branch [
      | then-others-eq0 w ↦
          let chosen = rw w.step-is at c.expect-in-BodyEnd.ensures in
          rw c.in-BodyEnd.is (expected_step item at 10 (stages.BodyEnd others room) steps.Whole c.expect-in-BodyEnd.result c.requires.there chosen (λ more. body_end_whole item at (at + 1) others room more w.if-others-eq0.true) (body_end_bad item at others room (byte_at item at)) tt)
      | else-others-eq0 w ↦
          let chosen = rw w.step-is at c.expect-in-BodyEnd.ensures in
          rw c.in-BodyEnd.is (expected_step item at 10 (stages.BodyEnd others room) (steps.On (stages.Word (others - 1) room)) c.expect-in-BodyEnd.result c.requires.there chosen (λ more. body_end_word item at (at + 1) others room more w.if-others-eq0.false) (body_end_bad item at others room (byte_at item at)) small)
    ]
