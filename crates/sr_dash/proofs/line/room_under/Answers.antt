use Rattle.std.proofs.Common.{rules}
use Rattle.sr_dash.proofs.line.room_under.Goals as goal

pub returns-in-Some : goal.returns-in-Some
returns-in-Some c = search rules
