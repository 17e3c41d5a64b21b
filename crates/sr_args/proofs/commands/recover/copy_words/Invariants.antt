use Rattle.std.proofs.Common.{◌≡◌, ◌++◌, length}
use Rattle.sr_args.proofs.commands.recover.copy_words.Given as goal

abbrev pub invariant-loop-word : goal.invariant-loop-word
invariant-loop-word l = l.list.items ++ l.words ≡ l.fn.words

abbrev pub decreases-loop-word : goal.decreases-loop-word
decreases-loop-word l = length l.words
