-- What a snapshot of a group shows: the entries that the dead have left, those that are gone, and the consumers that
-- could take what was left.
-- Source: docs/RECOVERY.md.

use Rattle.std.specs.Prelude.{◌≡◌, ℕ, List, [], ◌∷◌, not, nat_lt, filter, length, map, Option, Some, None}
use Rattle.std.specs.Prelude.{Result, Ok, Err, if◌then◌else◌}
use Rattle.std.specs.List.{flat_map}
use Rattle.sr_bytes.specs.{with_name}
use Rattle.sr_ids.specs.declared.id.Id.{Id}
use Rattle.sr_entries.specs.declared.entry.Entry.{Entry}
use Rattle.sr_entries.specs.{entry_with, has_id}
use Rattle.sr_pending.specs.declared.nack.Nack.{Nack}
use Rattle.sr_pending.specs.{owned_by}
use Rattle.sr_group.specs.{GroupState}
use Rattle.sr_stream.specs.{group_with, StreamState}
use Rattle.sr_policy.specs.declared.live.Live.{Live}
use Rattle.sr_policy.specs.declared.stranded.Stranded.{Stranded}
use Rattle.sr_policy.specs.Bounds.{most_stranded}
use Rattle.sr_policy.specs.{Text, consumers_of, live_of, SnapshotState, is_among}
use Rattle.sr_policy.specs.Rules.{Rules, class_of, rate_of, weight_of}
use Rattle.sr_space.specs.Keys.{Key, Keys, stream_at}
use Rattle.sr_space.specs.declared.snap.SnapFault.{SnapFault}
use Rattle.sr_space.specs.declared.snap.SnapFault.TheVariants as faults

-- the names in byte order, each once
abbrev pub in_order : List Text → List Text
in_order [] = []
in_order (name ∷ names) = with_name name (in_order names)

-- what is pending for the dead
abbrev pub of_dead : List Text → List Nack → List Nack
of_dead dead nacks = filter (λ nack. is_among dead nack.owner) nacks

-- a pending entry that is still in the stream, with the weight and the class of its fields
abbrev pub stranded_as : Rules → Nack → Option Entry → List Stranded
stranded_as rules nack None = []
stranded_as rules nack (Some entry) =
    record { id = nack.id; owner = nack.owner; weight = weight_of entry.fields; class = class_of rules entry.fields }
    ∷ []

-- the entries that are pending for the dead and still in the stream
abbrev pub stranded_in : Rules → List Text → List Entry → List Nack → List Stranded
stranded_in rules dead entries nacks =
    flat_map (λ nack. stranded_as rules nack (entry_with nack.id entries)) (of_dead dead nacks)

-- the entries that are pending for the dead and no longer in the stream
abbrev pub gone_in : List Text → List Entry → List Nack → List (Id × Text)
gone_in dead entries nacks =
    map (λ nack. (nack.id, nack.owner)) (filter (λ nack. not (has_id nack.id entries)) (of_dead dead nacks))

abbrev pub listed : Option Live → List Live
listed None = []
listed (Some consumer) = consumer ∷ []

-- the consumers of the policy that are not dead, each with how many entries are pending for it
abbrev pub live_in : Rules → List Text → List Nack → List Live
live_in rules dead nacks =
    flat_map (λ name. listed (live_of rules name (length (owned_by name nacks))))
    (filter (λ name. not (is_among dead name)) (consumers_of rules))

-- for each class of these entries, in byte order, the rates of these consumers
abbrev pub rates_in : Rules → List Live → List Stranded → List (Text × List (Option ℕ))
rates_in rules live stranded =
    map (λ class. (class, map (λ consumer. rate_of rules class consumer.name) live))
    (in_order (map (λ entry. entry.class) stranded))

-- the snapshot of a group and its stream's entries, with these consumers dead
abbrev pub shown_with : Rules → Key → Text → List Text → List Entry → List Nack → SnapshotState
shown_with rules key group dead entries nacks =
    let stranded = stranded_in rules dead entries nacks in
    let live = live_in rules dead nacks in
    record {
      key = key;
      group = group;
      dead = dead;
      stranded = stranded;
      gone = gone_in dead entries nacks;
      live = live;
      rates = rates_in rules live stranded;
    }

-- there are not too many stranded entries
abbrev pub if_few : SnapshotState → Result SnapshotState SnapFault
if_few shown = if nat_lt most_stranded (length shown.stranded) then Err faults.TooMany else Ok shown

abbrev pub snapped_group : Rules → Key → Text → List Text → List Entry → Option GroupState
    → Result SnapshotState SnapFault
snapped_group rules key name dead entries None = Err faults.NoGroup
snapped_group rules key name dead entries (Some group) =
    if_few (shown_with rules key name (in_order dead) entries group.nacks)

abbrev pub snapped_stream : Rules → Key → Text → List Text → Option StreamState → Result SnapshotState SnapFault
snapped_stream rules key name dead None = Err faults.NoGroup
snapped_stream rules key name dead (Some stream) =
    snapped_group rules key name dead stream.entries (group_with name stream.groups)

-- the snapshot of a group, or why there is none: the key or the group is missing, or too many entries are stranded
abbrev pub snapped : Rules → Keys → Key → Text → List Text → Result SnapshotState SnapFault
snapped rules keys key name dead = snapped_stream rules key name dead (stream_at keys key)

-- why a snapshot is not taken: the reason that there is, or else a failed allocation
abbrev pub IsSnapFault : Result SnapshotState SnapFault → SnapFault → Type 0
IsSnapFault (Ok shown) fault = fault ≡ faults.Memory
IsSnapFault (Err reason) fault = fault ≡ reason
