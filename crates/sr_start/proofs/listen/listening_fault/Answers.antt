use Rattle.std.proofs.Common.{sym, ap}
use Rattle.sr_start.specs.Listening.{fault_of_listening}
use Rattle.sr_start.proofs.listen.listening_fault.Goals as goal

pub returns-in-Bind : goal.returns-in-Bind
returns-in-Bind c = sym (ap fault_of_listening c.in-Bind.is)
