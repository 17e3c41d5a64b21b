use Rattle.std.proofs.Common.{refl}
use Rattle.sr_run.proofs.desk.desk_fault.Goals as goal

pub returns-in-Full : goal.returns-in-Full
returns-in-Full c = rw c.in-Full.is refl
