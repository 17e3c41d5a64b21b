-- The words of XAUTOCLAIM and of XCLAIM in their places. No public clause cites this module.

use Rattle.std.specs.Prelude.{◌≡◌, List, ◌++◌}
use Rattle.sr_args.specs.declared.name.OptionSet.{OptionSet}
use Rattle.sr_args.specs.FormWord.{Word}
use Rattle.sr_args.specs.Options.{Written}
use Rattle.sr_args.specs.Form.{Reading, AreUnnamed}
use Rattle.sr_args.specs.commands.Xautoclaim as xautoclaim
use Rattle.sr_args.specs.commands.Xclaim as xclaim

abbrev pub autoclaim_reading : (key group consumer least_idle start : Word) → List Written → Reading xautoclaim.form
autoclaim_reading key group consumer least_idle start written =
    (key, (group, (consumer, (least_idle, (start, (written, tt))))))

abbrev pub claim_reading : (key group consumer least_idle : Word) → List Word → List Written → Reading xclaim.form
claim_reading key group consumer least_idle ids written = (key, (group, (consumer, (least_idle, (ids, written)))))

-- the words before those that are left name no option of the set
pub record IsSkipped (set : OptionSet) (words left : List Word) : Type 0 where
  pub skipped : List Word
  pub are : words ≡ skipped ++ left
  pub unnamed : AreUnnamed set skipped
