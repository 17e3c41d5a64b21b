use Rattle.std.proofs.Common.{◌≡◌, ◌++◌, take}
use Rattle.std.specs.List.{flat_map}
use Rattle.sr_live.specs.Words.{row_words, rows_of}
use Rattle.sr_live.proofs.words.push_rows.Given as goal

abbrev pub invariant-loop-row : goal.invariant-loop-row
invariant-loop-row l =
    l.words.items ≡ l.initial.words.items ++ flat_map row_words (rows_of l.name (take l.row-index l.rows))
