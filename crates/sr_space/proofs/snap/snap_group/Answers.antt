use Rattle.std.proofs.Common.{◌≡◌, length, nat_lt, ◌∙◌}
use Rattle.sr_policy.specs.Bounds.{most_stranded}
use Rattle.sr_space.specs.Snap.{in_order}
use Rattle.sr_space.specs.steps.Snapping.{left_in}
use Rattle.sr_space.proofs.NameOrderLemmas.{in_order-same}
use Rattle.sr_space.proofs.SnapLemmas.{if_few-many, if_few-memory, if_few-refused}
use Rattle.sr_space.proofs.snap.snap_group.Goals as goal

pub own_are_too_many-requires : goal.own_are_too_many-requires
own_are_too_many-requires c = in_order-same c.as_slice.result.now c.args.dead.now (c.as_slice.ensures.value ∙ c.in-Ok.ensures)

pub snap_few-requires-clause-order : goal.snap_few-requires-clause-order
snap_few-requires-clause-order c = in_order-same c.in-Ok.names.items c.args.dead.now c.in-Ok.ensures

pub returns-in_default-clause-err : goal.returns-in_default-clause-err
returns-in_default-clause-err c =
    if_few-refused c.args.policy.now c.args.key.now c.args.name.now c.args.dead.now c.args.stream.now.shown.entries c.args.group.now.shown.nacks c.refused.result c.refused.ensures

pub returns-then-own_are_too_many-clause-err : goal.returns-then-own_are_too_many-clause-err
returns-then-own_are_too_many-clause-err c =
    let entries = c.args.stream.now.shown.entries in
    let nacks = c.args.group.now.shown.nacks in
    let test : c.own_are_too_many.result ≡ nat_lt most_stranded (length (left_in (in_order c.args.dead.now) entries nacks)) =
    rw (c.as_slice.ensures.value, c.in-Ok.ensures) at c.own_are_too_many.ensures in
    if_few-many c.args.policy.now c.args.key.now c.args.name.now c.args.dead.now entries nacks c.own_are_too_many.result test c.if-own_are_too_many.true

pub returns-in-Err-clause-err : goal.returns-in-Err-clause-err
returns-in-Err-clause-err c =
    let entries = c.args.stream.now.shown.entries in
    let nacks = c.args.group.now.shown.nacks in
    let test : c.own_are_too_many.result ≡ nat_lt most_stranded (length (left_in (in_order c.args.dead.now) entries nacks)) =
    rw (c.as_slice.ensures.value, c.in-Ok.ensures) at c.own_are_too_many.ensures in
    if_few-memory c.args.policy.now c.args.key.now c.args.name.now c.args.dead.now entries nacks c.own_are_too_many.result test c.if-own_are_too_many.false
