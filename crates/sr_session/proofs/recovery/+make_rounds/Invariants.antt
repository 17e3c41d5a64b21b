-- a round less is left
use Rattle.sr_session.proofs.recovery.+make_rounds.Given as goal

abbrev pub decreases-make_rounds : goal.decreases-make_rounds
decreases-make_rounds g l = l.rounds
