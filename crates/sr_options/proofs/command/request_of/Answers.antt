use Rattle.sr_options.proofs.CommandLemmas.{fault_asks_for_nothing}
use Rattle.sr_options.proofs.command.request_of.Goals as goal

pub returns-in-Err-clause-err : goal.returns-in-Err-clause-err
returns-in-Err-clause-err c = fault_asks_for_nothing _ _ c.in-Err.ensures.fault
