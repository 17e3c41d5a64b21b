use Rattle.sr_group.proofs.ScanLawLemmas.{scanned-right}
use Rattle.sr_group.proofs.laws.scans_go_no_farther.Goals as goal

pub returns : goal.returns
returns c = scanned-right
