use Rattle.std.specs.Prelude.{◌≡◌, ◌≤◌, length, map, take, vec_capacity, vec_len}
use Rattle.sr_run.proofs.workers.sizes_of.Given as goal

abbrev pub invariant-loop-script : goal.invariant-loop-script
invariant-loop-script l = record {
  sizes : l.sizes.items ≡ map (λ script. length script.items) (take l.script-index l.scripts);
  many : vec_len l.sizes ≡ l.script-index;
  room : length l.scripts ≤ vec_capacity l.sizes;
}
