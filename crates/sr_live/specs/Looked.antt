-- What was looked up of a group, and the snapshot that it gives: that of docs/RECOVERY.md, whose stranded entries, gone
-- entries and numbers of pending entries are those that were looked up.
-- Source: docs/RECOVERY.md.

use Rattle.std.specs.Prelude.{ℕ, nat_le, Bool, true, false, not, ◌&&◌, List, [], ◌∷◌, Option, Some, None, unwrap_or}
use Rattle.std.specs.Prelude.{if◌then◌else◌}
use Rattle.std.specs.List.{flat_map}
use Rattle.sr_ids.specs.declared.id.Id.{Id}
use Rattle.sr_policy.specs.declared.live.Live.{Live}
use Rattle.sr_policy.specs.declared.stranded.Stranded.{Stranded}
use Rattle.sr_policy.specs.{Text, consumers_of, live_of, SnapshotState, is_among}
use Rattle.sr_policy.specs.Rules.{Rules, class_of, value_at, weight_of}
use Rattle.sr_space.specs.{listed}
use Rattle.sr_space.specs.Snap.{rates_in}
use Rattle.sr_live.specs.declared.looked.Asked.{Asked}
use Rattle.sr_live.specs.declared.looked.Row.{Row}

-- how many entries are pending for the consumer; none for one that is not named
abbrev pub number_of : List (Text × ℕ) → Text → ℕ
number_of numbers name = unwrap_or (value_at name numbers) 0

-- an entry that is still in the stream, with the weight and the class of its fields
abbrev pub stranded_as : Rules → Id → Text → Option (List (Text × Text)) → List Stranded
stranded_as rules id owner None = []
stranded_as rules id owner (Some fields) =
    record { id = id; owner = owner; weight = weight_of fields; class = class_of rules fields } ∷ []

abbrev pub stranded_by : Rules → Row → List Stranded
stranded_by rules row = stranded_as rules row.id row.owner row.fields

-- an entry that is no longer in the stream, with its owner
abbrev pub gone_as : Id → Text → Option (List (Text × Text)) → List (Id × Text)
gone_as id owner None = (id, owner) ∷ []
gone_as id owner (Some fields) = []

abbrev pub gone_of : Row → List (Id × Text)
gone_of row = gone_as row.id row.owner row.fields

-- the group has the consumer, and it has been idle for at most so many milliseconds
abbrev pub is_idle_within : ℕ → Option ℕ → Bool
is_idle_within within None = false
is_idle_within within (Some idle) = nat_le idle within

-- the consumer has been seen in the time that is asked for; anyone, if none is
abbrev pub is_seen : Option ℕ → List (Text × ℕ) → Text → Bool
is_seen None idles name = true
is_seen (Some within) idles name = is_idle_within within (value_at name idles)

-- the consumer may be given entries: it is seen, and not dead
abbrev pub may_receive : List Text → (Text → Bool) → Text → Bool
may_receive dead seen name = seen name && not (is_among dead name)

-- a consumer of the policy that may be given entries, with how many are pending for it
abbrev pub live_named : Rules → List Text → (Text → Bool) → List (Text × ℕ) → Text → List Live
live_named rules dead seen numbers name =
    if may_receive dead seen name then listed (live_of rules name (number_of numbers name)) else []

abbrev pub live_by : Rules → List Text → (Text → Bool) → List (Text × ℕ) → List Live
live_by rules dead seen numbers = flat_map (live_named rules dead seen numbers) (consumers_of rules)

-- the snapshot of a group with these numbers of pending entries, of whose dead consumers these entries are pending. Of
-- its other consumers those that are seen are live
abbrev pub shown_by : Rules → Text → Text → List Text → (Text → Bool) → List (Text × ℕ) → List Row → SnapshotState
shown_by rules key group dead seen numbers rows =
    let stranded = flat_map (stranded_by rules) rows in
    let live = live_by rules dead seen numbers in
    record {
      key = key;
      group = group;
      dead = dead;
      stranded = stranded;
      gone = flat_map gone_of rows;
      live = live;
      rates = rates_in rules live stranded;
    }

-- the snapshot of what was looked up of a group
abbrev pub shown_of : Rules → Asked → List (Text × ℕ) → List (Text × ℕ) → List Row → SnapshotState
shown_of rules asked idles numbers rows =
    shown_by rules asked.key asked.group asked.dead.items (is_seen asked.seen_within idles) numbers rows
