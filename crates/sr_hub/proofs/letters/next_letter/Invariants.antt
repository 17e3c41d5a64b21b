use Rattle.std.specs.Prelude.{◌≡◌, drop}
use Rattle.sr_hub.specs.steps.Letters.{lettered_after}
use Rattle.sr_hub.proofs.letters.next_letter.Given as goal

abbrev pub invariant-loop-place : goal.invariant-loop-place
invariant-loop-place l = lettered_after l.before (drop l.place l.records) ≡ lettered_after l.passed l.records
