-- What the program finds of a reply.
-- Source: docs/RECOVERY.md.

use Rattle.std.specs.Prelude.{ℕ, List, Bool}
use Rattle.sr_policy.specs.{SnapshotState}
use Rattle.sr_check.specs.Verified.{IsVerified, IsCheapestReply, IsShortageReply}
use Rattle.sr_check.specs.declared.verified.Verified.TheVariants as says
use Rattle.plan_check.specs.declared.finding.Finding.{Finding}
use Rattle.plan_check.specs.declared.finding.Finding.TheVariants as found

-- what is found of the bytes of a reply to the problem of a snapshot: what sr_check says of them
abbrev pub IsFound : SnapshotState → List ℕ → Finding → Type 0
IsFound shown text (found.Cheapest total) = (done : Bool) × IsCheapestReply shown text done total
IsFound shown text (found.Impossible places entries) = IsShortageReply shown text places
IsFound shown text (found.Wrong reason) = IsVerified shown text (says.Wrong reason)
IsFound shown text found.Refused = ⊥
IsFound shown text (found.Line number fault) = ⊥
IsFound shown text found.NoReply = ⊥
IsFound shown text found.Unfit = ⊥

-- the status that the program ends with: 0 for a cheapest plan and for a shortage
abbrev pub status_for : Finding → ℕ
status_for (found.Cheapest total) = 0
status_for (found.Impossible places entries) = 0
status_for (found.Wrong reason) = 1
status_for found.Refused = 1
status_for (found.Line number fault) = 1
status_for found.NoReply = 1
status_for found.Unfit = 1
