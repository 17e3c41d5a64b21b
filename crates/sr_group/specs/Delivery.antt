-- What XREADGROUP delivers with the id `>`, and what it shows with a written id.
-- Source: Redis documentation, command XREADGROUP.

use Rattle.std.specs.Prelude.{ℕ, true, ◌+◌, ◌-◌, ◌^◌, min, List, Option, Bool, if◌then◌else◌, map, filter}
use Rattle.sr_ids.specs.declared.id.Id.{Id}
use Rattle.sr_entries.specs.declared.entry.Entry.{Entry}
use Rattle.sr_entries.specs.Entries as entries
use Rattle.sr_ids.specs.{is_below}
use Rattle.sr_entries.specs.{has_id, last_id_or}
use Rattle.sr_pending.specs.declared.nack.Nack.{Nack}
use Rattle.sr_pending.specs.Pending as pending
use Rattle.sr_pending.specs.{owned_by, redelivered}
use Rattle.sr_group.specs.declared.shown.Listed.{Listed}
use Rattle.sr_group.specs.Group.{GroupState, seen_at, with_nacks}

-- the entries above the last delivered id, at most this many
abbrev pub new_entries : Id → Option ℕ → List Entry → List Entry
new_entries last count list = entries.first_of count (filter (λ entry. is_below last entry.id) list)

-- an entry is pending for its reader from now on, delivered once
abbrev pub delivered_to : List ℕ → ℕ → Entry → Nack
delivered_to reader moment entry = record { id = entry.id; owner = reader; time = moment; count = 1 }

-- an entry that is listed because the stream has it
abbrev pub found_entry : Entry → Listed
found_entry entry = record { id = entry.id; found = true }

-- the group after these entries were delivered: the reader is seen, and unless they need no acknowledgement they are
-- pending for it, also those that were pending before
abbrev pub after_delivery : List ℕ → ℕ → Bool → List Entry → GroupState → GroupState
after_delivery reader moment noack new group = record {
  last = last_id_or group.last new;
  consumers = seen_at reader moment group.consumers;
  nacks = if noack then group.nacks else with_nacks (map (delivered_to reader moment) new) group.nacks;
}

-- one more delivery, but never more than the greatest number of 63 bits
abbrev pub raised : ℕ → ℕ
raised count = min (count + 1) (2 ^ 63 - 1)

-- the reader's pending entries above an id, at most this many
abbrev pub history_of : List ℕ → Id → Option ℕ → List Nack → List Nack
history_of reader after count nacks = pending.first_of count (filter
    (λ nack. is_below after nack.id) (owned_by reader nacks))

-- a pending entry that is shown once more: delivered now if the stream still has it, else as it was
abbrev pub shown_again : ℕ → List Entry → Nack → Nack
shown_again moment list nack =
    if has_id nack.id list then redelivered nack.owner moment (raised nack.count) nack else nack

-- a pending entry as it is listed: found if the stream still has it
abbrev pub listed_in : List Entry → Nack → Listed
listed_in list nack = record { id = nack.id; found = has_id nack.id list }

-- the group after these pending entries were shown to their owner
abbrev pub after_history : List ℕ → ℕ → List Entry → List Nack → GroupState → GroupState
after_history reader moment list history group = record {
  last = group.last;
  consumers = seen_at reader moment group.consumers;
  nacks = with_nacks (map (shown_again moment list) history) group.nacks;
}
