-- XACK takes these ids off the pending entries of a group, and replies how many of them were pending.
-- Source: Redis documentation, the page of XACK.

use Rattle.std.specs.Prelude.{ℕ, List, length, Option, pos}
use Rattle.sr_ids.specs.declared.id.Id.{Id}
use Rattle.sr_entries.specs.declared.entry.Entry.{Entry}
use Rattle.sr_group.specs.{GroupState}
use Rattle.sr_group.specs.Group.{with_ids, without_ids}
use Rattle.sr_resp.specs.{integer}
use Rattle.sr_stream.specs.{StreamState}
use Rattle.sr_space.specs.declared.grouped.Missing.TheVariants.{Zero}
use Rattle.sr_space.specs.Grouped.{Regrouped, in_group, regroups}
use Rattle.sr_space.specs.Touched.{Touched}

abbrev pub acknowledged : List Id → List Entry → GroupState → Regrouped
acknowledged ids entries group =
    regroups (record group { nacks = without_ids ids group.nacks }) (integer (pos (length (with_ids ids group.nacks))))

-- 0 if the key or the group is missing
abbrev pub xack : List ℕ → List Id → Option StreamState → Touched
xack group ids = in_group Zero (acknowledged ids) group
