use Rattle.std.proofs.Common.{◌≡◌, ◌++◌, take}
use Rattle.sr_dash.specs.steps.Names.{lines_of}
use Rattle.sr_dash.proofs.line.write_lines.Given as goal

abbrev pub invariant-loop-name : goal.invariant-loop-name
invariant-loop-name l = l.out.items ≡ l.initial.out.items ++ lines_of l.view.group.now.shown l.view.moment l.view.policy.now (take l.name-index l.names)
