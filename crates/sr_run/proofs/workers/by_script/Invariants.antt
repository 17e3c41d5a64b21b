use Rattle.std.specs.Prelude.{◌≡◌, ◌++◌, ◌≤◌, drop, length, map, sum, take, vec_capacity, vec_len}
use Rattle.std.specs.List.{flat_map}
use Rattle.sr_run.proofs.workers.by_script.Given as goal

abbrev pub invariant-loop-size : goal.invariant-loop-size
invariant-loop-size l = record {
  sizes : map (λ group. length group.items) l.groups.items ≡ take l.size-index l.sizes;
  same : flat_map (λ group. group.items) l.groups.items ++ l.rest.items ≡ l.fn.receipts.items;
  left : vec_len l.rest ≡ sum (drop l.size-index l.sizes);
  many : vec_len l.groups ≡ l.size-index;
  room : length l.sizes ≤ vec_capacity l.groups;
}
