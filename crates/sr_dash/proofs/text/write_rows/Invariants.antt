use Rattle.std.proofs.Common.{◌≡◌, ◌++◌, List, ℕ, drop}
use Rattle.sr_policy.specs.{Text, consumers_of}
use Rattle.sr_dash.specs.steps.Names.{AreRising, lines_of, merged}
use Rattle.sr_dash.proofs.text.write_rows.Given as goal

abbrev pub invariant-loop-consumer : goal.invariant-loop-consumer
invariant-loop-consumer l =
    let group = l.view.group.now.shown in
    let lines : List Text → List ℕ = lines_of group l.view.moment l.view.policy.now in
    record {
      lines : l.out.items ++ lines (merged (drop l.consumer-index group.consumers) l.named)
          ≡ l.initial.out.items ++ lines (merged group.consumers (consumers_of l.view.policy.now));
      rising : AreRising l.named;
    }
