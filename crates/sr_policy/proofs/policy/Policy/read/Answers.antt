use Rattle.sr_policy.proofs.policy.Policy.read.Goals as goal

pub returns-in-Err-2-clause-ok : goal.returns-in-Err-2-clause-ok
returns-in-Err-2-clause-ok c = tt
