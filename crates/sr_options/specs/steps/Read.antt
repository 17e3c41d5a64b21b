-- The numbers as they are read, and options that go together. Cited by private clauses alone.

use Rattle.std.specs.Prelude.{◌≡◌, ◌⊎◌, false, None}
use Rattle.sr_options.specs.Numbers.{IsConnections, IsIdle, IsIdleWaiting, IsKeep, IsKeepBytes, IsUnfinished, IsWorkers}
use Rattle.sr_options.specs.Options.{Asked}
use Rattle.sr_options.specs.declared.numbers.Numbers.{Numbers}

-- these are the numbers that the options give
pub record AreRead (asked : Asked) (numbers : Numbers) : Type 0 where
  pub workers : IsWorkers asked.workers numbers.workers
  pub keep : IsKeep asked.keep numbers.keep
  pub connections : IsConnections asked.connections numbers.connections
  pub idle : IsIdle asked.idle numbers.idle
  pub unfinished : IsUnfinished asked.unfinished numbers.unfinished
  pub keep_bytes : IsKeepBytes asked.keep_bytes numbers.keep_bytes
  pub idle_waiting : IsIdleWaiting asked.idle_waiting numbers.idle_waiting

-- no two of the options exclude each other, and none needs one that is not there
pub record GoTogether (asked : Asked) : Type 0 where
  pub kept : (asked.stdio ≡ false) ⊎ (asked.keep ≡ None)
  pub looped : (asked.stdio ≡ false) ⊎ (asked.connections ≡ None)
  pub one_way : (asked.workers ≡ None) ⊎ (asked.connections ≡ None)
  pub idle : asked.connections ≡ None → asked.idle ≡ None
  pub unfinished : asked.connections ≡ None → asked.unfinished ≡ None
  pub with_keep : asked.keep ≡ None → asked.keep_bytes ≡ None
  pub idle_waiting : asked.connections ≡ None → asked.idle_waiting ≡ None
