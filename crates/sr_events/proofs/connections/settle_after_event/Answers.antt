use Rattle.std.proofs.Common.{arith}
use Rattle.std.proofs.lemmas.Grind.{common_steps}
use Rattle.sr_events.proofs.connections.settle_after_event.Goals as goal

pub returns-then-has_turn : goal.returns-then-has_turn
returns-then-has_turn g c = grind (arith, common_steps)
