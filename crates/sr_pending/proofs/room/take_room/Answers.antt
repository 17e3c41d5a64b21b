use Rattle.std.proofs.Common.{◌∙◌, arith}
use Rattle.sr_pending.proofs.room.take_room.Goals as goal

pub use_room-requires : goal.use_room-requires
use_room-requires c = omega (arith, c.requires, c.loop-left.invariant.0, c.loop-left-test.true)

pub loop-left-preserved : goal.loop-left-preserved
loop-left-preserved c = (
  omega (arith, c.loop-left.invariant.0, c.use_room.ensures.used.used, c.loop-left-test.true),
  (λ other apart. c.use_room.ensures.used.others other apart ∙ c.loop-left.invariant.1 other apart),
  omega (arith, c.loop-left.invariant.2, c.use_room.ensures.in_all),
)

pub returns-clause-taken : goal.returns-clause-taken
returns-clause-taken c = record {
  owners = omega (arith, c.loop-left.invariant.0, c.loop-left-test.false);
  others = c.loop-left.invariant.1;
}
