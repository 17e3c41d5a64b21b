-- How many threads serve connections.

use Rattle.std.specs.Prelude.{ℕ}
use Rattle.sr_options.specs.declared.way.Way.{Way}
use Rattle.sr_options.specs.declared.way.Way.TheVariants as ways

-- that many workers, or the one in which the loop runs
abbrev pub threads_of : Way → ℕ
threads_of (ways.Workers working) = working.workers
threads_of (ways.Loop looping) = 1
