use Rattle.std.proofs.Common.{◌∷◌, take}
use Rattle.sr_args.specs.steps.Names.{AreOther}
use Rattle.sr_args.proofs.table.find_among.Given as goal

abbrev pub invariant-loop-command : goal.invariant-loop-command
invariant-loop-command l = AreOther (take l.command-index l.commands) (l.word ∷ l.rest)
