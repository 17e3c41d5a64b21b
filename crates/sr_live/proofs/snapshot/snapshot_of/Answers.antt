use Rattle.std.proofs.Common.{rules}
use Rattle.sr_policy.specs.Snapshot.{IsSnapshot}
use Rattle.sr_live.specs.Looked.{shown_of}
use Rattle.sr_live.specs.Spare.{with_spare}
use Rattle.sr_live.proofs.SpareLemmas.{spared-snapshot}
use Rattle.sr_live.proofs.snapshot.snapshot_of.Goals as goal

pub returns-in-None-clause-changed : goal.returns-in-None-clause-changed
returns-in-None-clause-changed c = λ _ is.
    let lower : IsSnapshot (with_spare c.args.asked.now.spare (shown_of c.args.policy.now c.args.asked.now
    c.args.looked.now.idles.items c.args.looked.now.numbers.items c.args.looked.now.rows.items)) =
    spared-snapshot _ _ is in
    search rules
