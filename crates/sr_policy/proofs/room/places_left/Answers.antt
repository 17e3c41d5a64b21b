use Rattle.std.proofs.Common.{rules}
use Rattle.sr_policy.proofs.room.places_left.Goals as goal

pub returns : goal.returns
returns c = search rules
