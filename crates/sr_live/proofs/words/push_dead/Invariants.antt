use Rattle.std.proofs.Common.{◌≡◌, ◌++◌, take}
use Rattle.std.specs.List.{flat_map}
use Rattle.sr_live.specs.Words.{dead_words}
use Rattle.sr_live.proofs.words.push_dead.Given as goal

abbrev pub invariant-loop-name : goal.invariant-loop-name
invariant-loop-name l =
    l.words.items ≡ l.initial.words.items ++ flat_map (dead_words l.rows) (take l.name-index l.dead)
