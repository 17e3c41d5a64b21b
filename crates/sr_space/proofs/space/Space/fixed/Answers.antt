use Rattle.std.proofs.Common.{arith}
use Rattle.sr_args.specs.declared.call.Position.TheVariants.{At}
use Rattle.sr_space.specs.Blocking.{fixed_position}
use Rattle.sr_space.proofs.LoopLemmas.{mapped-next}
use Rattle.sr_space.proofs.WaitingLemmas.{waits-at}
use Rattle.sr_space.proofs.space.Space.fixed.Goals as goal

pub loop-key-preserved : goal.loop-key-preserved
loop-key-preserved c =
    let item = c.loop-key-item.result in
    let key = c.in_ok-copy.field-0 in
    let id = c.read_from-id.result in
    mapped-next (fixed_position c.args.self.now) c.args.streams.now c.loop-key.key-index item (key, At id) c.loop-key.list.items c.push.new.self.items (omega arith) c.loop-key-item.is c.in_ok-push.ensures.items
    (waits-at c.args.self.now item key id c.in_ok-copy.ensures c.read_from-id.ensures) c.loop-key.invariant
