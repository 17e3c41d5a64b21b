-- A group that this project's own server keeps, and what is looked up of such a group at one moment.
-- Source: docs/RECOVERY.md.

use Rattle.std.specs.Prelude.{◌≡◌, ℕ, List, All, not, filter, length, option_map}
use Rattle.sr_entries.specs.declared.entry.Entry.{Entry}
use Rattle.sr_entries.specs.{entry_with}
use Rattle.sr_pending.specs.declared.nack.Nack.{Nack}
use Rattle.sr_pending.specs.{owned_by}
use Rattle.sr_policy.specs.{Text, consumers_of, is_among}
use Rattle.sr_policy.specs.Rules.{Rules}
use Rattle.sr_live.specs.declared.looked.Row.{Row}
use Rattle.sr_live.specs.Looked.{number_of}

-- of each consumer of the policy that is not dead, the number that was looked up is how many entries are pending for it
abbrev pub AreCounted : Rules → List Text → List Nack → List (Text × ℕ) → Type 0
AreCounted rules dead nacks numbers =
    All (λ name. number_of numbers name ≡ length (owned_by name nacks))
    (filter (λ name. not (is_among dead name)) (consumers_of rules))

-- a pending entry as it is looked up: its id and its owner, and its fields if it is in the stream
abbrev pub row_of : List Entry → Nack → Row
row_of entries nack = record {
  id = nack.id;
  owner = nack.owner;
  fields = option_map (λ entry. entry.fields) (entry_with nack.id entries);
}
