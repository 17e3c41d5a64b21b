use Rattle.std.proofs.Common.{◌++◌, List, map, take}
use Rattle.sr_ids.specs.declared.id.Id.{Id}
use Rattle.sr_args.specs.FormWord.{strict_id, spelled, HasIds}
use Rattle.sr_args.specs.Form.{AreIds}
use Rattle.sr_args.proofs.value.copy_first_ids.Given as goal

abbrev pub invariant-loop-left : goal.invariant-loop-left
invariant-loop-left l = record {
  left : HasIds (map (spelled strict_id) (take l.left l.words));
  whole : (more : List Id) → AreIds strict_id (take l.left l.words) more → AreIds strict_id (take l.many l.fn.words) (l.ids.items ++ more);
}

abbrev pub decreases-loop-left : goal.decreases-loop-left
decreases-loop-left l = l.left
