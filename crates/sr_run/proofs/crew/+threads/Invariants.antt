use Rattle.std.specs.Prelude.{◌+◌, ◌*◌, length}
use Rattle.sr_run.proofs.crew.+threads.Given as goal

abbrev pub decreases-run_crew : goal.decreases-run_crew
decreases-run_crew g l = 4 * length l.crew.scripts + 1

abbrev pub decreases-scope : goal.decreases-scope
decreases-scope g l = 4 * length l.front.scripts + 4 * length l.back.scripts

abbrev pub decreases-scope-theirs : goal.decreases-scope-theirs
decreases-scope-theirs g l = 4 * length l.front.scripts + 2
