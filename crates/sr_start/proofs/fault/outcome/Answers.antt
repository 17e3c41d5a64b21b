use Rattle.std.proofs.Common.{sym, ap}
use Rattle.sr_start.specs.Fault.{outcome_of}
use Rattle.sr_start.proofs.fault.outcome.Goals as goal

pub returns-in-ReadFault-clause-value : goal.returns-in-ReadFault-clause-value
returns-in-ReadFault-clause-value c = sym (ap outcome_of c.in-ReadFault.is)

pub returns-in-SendFault-clause-value : goal.returns-in-SendFault-clause-value
returns-in-SendFault-clause-value c = sym (ap outcome_of c.in-SendFault.is)
