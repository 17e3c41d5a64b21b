-- Cited by a private model alone: the snapshot that a block holds.

use Rattle.std.specs.Prelude.{[], Option, unwrap_or}
use Rattle.sr_policy.specs.{SnapshotState}

-- none: a block that keeps a snapshot never holds this
abbrev pub no_snapshot : SnapshotState
no_snapshot = record { key = []; group = []; dead = []; stranded = []; gone = []; live = []; rates = [] }

-- the snapshot in a block
abbrev pub shown_in : Option SnapshotState → SnapshotState
shown_in held = unwrap_or held no_snapshot
