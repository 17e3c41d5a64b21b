use Rattle.std.proofs.Common.{sym, ap}
use Rattle.sr_start.specs.Fault.{status_of}
use Rattle.sr_start.proofs.status.report.Goals as goal

pub returns-in-Err : goal.returns-in-Err
returns-in-Err g c = sym (ap status_of c.in-Err.is)
