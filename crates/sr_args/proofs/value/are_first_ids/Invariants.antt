use Rattle.std.proofs.Common.{map, take}
use Rattle.sr_args.specs.FormWord.{strict_id, spelled, HasIds}
use Rattle.sr_args.proofs.value.are_first_ids.Given as goal

abbrev pub invariant-loop-left : goal.invariant-loop-left
invariant-loop-left l = record {
  back : HasIds (map (spelled strict_id) (take l.left l.words)) → HasIds (map (spelled strict_id) (take l.many l.fn.words));
  forth : HasIds (map (spelled strict_id) (take l.many l.fn.words)) → HasIds (map (spelled strict_id) (take l.left l.words));
}

abbrev pub decreases-loop-left : goal.decreases-loop-left
decreases-loop-left l = l.left
