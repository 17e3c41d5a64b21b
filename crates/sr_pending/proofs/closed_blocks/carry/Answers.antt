use Rattle.std.proofs.Common.{◌≡◌, ◌+◌, ◌<◌, ◌≤◌, suc, List, ◌++◌, length, drop, refl, ap, ◌∙◌, arith}
use Rattle.sr_pending.specs.steps.Blocks.{AreFilled, held_in}
use Rattle.std.proofs.lemmas.List.{take-set-le}
use Rattle.sr_pending.proofs.Carrying.{behind, filled-at, filled-set, pushed, shifted}
use Rattle.sr_pending.proofs.closed_blocks.carry.Goals as goal

pub returns-then-len-capacity-clause-items : goal.returns-then-len-capacity-clause-items
returns-then-len-capacity-clause-items g c =
    let blocks = c.loop-at.closed.items in
    let was = c.index_mut-block.result.now in
    let is = c.push_front_reserved.new.self in
    let within : c.loop-at.at < length blocks = omega (arith, c.loop-at-test.true, c.len-at-end.ensures, c.loop-at.invariant.0.blocks, c.loop-at.closed.ok.0) in
    pushed blocks c.loop-at.at was is c.loop-at.value c.args.tail.now.items within c.index_mut-block.ensures.value c.push_front_reserved.ensures.items ∙ c.loop-at.invariant.0.items c.args.tail.now.items

pub loop-at-preserved : goal.loop-at-preserved
loop-at-preserved g c =
    let at = c.loop-at.at in
    let blocks = c.loop-at.closed.items in
    let was = c.index_mut-block.result.now in
    let is = c.shift-value.new.block in
    let carries = c.loop-at.invariant.0 in
    let within : at < length blocks = omega (arith, c.loop-at-test.true, c.len-at-end.ensures, carries.blocks, c.loop-at.closed.ok.0) in
    let step : at + 1 ≡ suc at = omega arith in
    let full : AreFilled (drop c.args.from c.args.closed.now.items) → 0 < length is.items = λ filled.
    let had : 0 < length was.items = filled-at blocks c.args.from at was (omega arith) within c.index_mut-block.ensures.value (carries.filled filled) in
    omega (arith, c.shift-value.ensures.len, was.ok.0, is.ok.0) in (
      record {
        items = λ rest. rw step (shifted blocks at was is c.loop-at.value c.shift-value.result rest within c.index_mut-block.ensures.value c.shift-value.ensures.items ∙ carries.items rest);
        before = take-set-le c.args.from blocks at is (omega arith) ∙ carries.before;
        blocks = carries.blocks;
        places = carries.places;
        filled = λ filled. filled-set blocks c.args.from at is (omega arith) (full filled) (carries.filled filled);
      },
      refl,
      omega arith,
    )

pub returns-then-len-capacity-clause-filled : goal.returns-then-len-capacity-clause-filled
returns-then-len-capacity-clause-filled g c filled =
    let at = c.loop-at.at in
    let is = c.push_front_reserved.new.self in
    let full : 0 < length is.items = omega (arith, c.push_front_reserved.ensures.len, is.ok.0) in
    filled-set c.loop-at.closed.items c.args.from at is (omega arith) full (c.loop-at.invariant.0.filled filled)

pub loop-at-init : goal.loop-at-init
loop-at-init g c = (record { items = λ _. refl; before = refl; blocks = refl; places = refl; filled = λ filled. filled }, refl, omega arith)

pub returns-then-len-capacity-clause-before : goal.returns-then-len-capacity-clause-before
returns-then-len-capacity-clause-before g c =
    take-set-le c.args.from c.loop-at.closed.items c.loop-at.at c.push_front_reserved.new.self c.loop-at.invariant.2 ∙ c.loop-at.invariant.0.before

pub returns-clause-items : goal.returns-clause-items
returns-clause-items g c =
    let blocks = c.loop-at.closed.items in
    let carries = c.loop-at.invariant.0 in
    let past : length blocks ≤ c.loop-at.at = omega (arith, c.loop-at-test.false, c.len-at-end.ensures, carries.blocks, c.loop-at.closed.ok.0) in
    ap (λ (l : List g.row.T.Denot). held_in blocks ++ l) c.push_front_reserved-2.ensures.items
    ∙ behind blocks c.loop-at.at c.loop-at.value c.args.tail.now.items past
    ∙ carries.items c.args.tail.now.items

pub returns-clause-before : goal.returns-clause-before
returns-clause-before g c = c.loop-at.invariant.0.before

pub returns-clause-filled : goal.returns-clause-filled
returns-clause-filled g c = c.loop-at.invariant.0.filled
