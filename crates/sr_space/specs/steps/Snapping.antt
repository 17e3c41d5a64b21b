-- Private clauses alone cite this: what is gathered for a snapshot, step by step.

use Rattle.std.specs.Prelude.{ℕ, List, [], ◌∷◌, not, filter, length, Option, Some, None}
use Rattle.std.specs.List.{count_by, flat_map}
use Rattle.sr_bytes.specs.{comes_before}
use Rattle.sr_ids.specs.declared.id.Id.{Id}
use Rattle.sr_entries.specs.declared.entry.Entry.{Entry}
use Rattle.sr_entries.specs.{has_id}
use Rattle.sr_pending.specs.declared.nack.Nack.{Nack}
use Rattle.sr_pending.specs.{owned_by}
use Rattle.sr_policy.specs.declared.live.Live.{Live}
use Rattle.sr_policy.specs.{Text, live_of, is_among}
use Rattle.sr_policy.specs.Rules.{Rules}
use Rattle.sr_space.specs.Snap.{listed, of_dead}

-- what is pending for these consumers, one after the other
abbrev pub own_of : List Text → List Nack → List Nack
own_of names nacks = flat_map (λ name. owned_by name nacks) names

-- those that are still in the stream
abbrev pub there_in : List Entry → List Nack → List Nack
there_in entries nacks = filter (λ nack. has_id nack.id entries) nacks

-- what is pending for the dead and still in the stream
abbrev pub left_in : List Text → List Entry → List Nack → List Nack
left_in dead entries nacks = there_in entries (of_dead dead nacks)

-- the id and the owner of a pending entry that is no longer in the stream
abbrev pub gone_as : Nack → Option Entry → List (Id × Text)
gone_as nack None = (nack.id, nack.owner) ∷ []
gone_as nack (Some entry) = []

-- the consumers with these names that are not dead, each with how many entries are pending for it
abbrev pub live_among : Rules → List Text → List Nack → List Text → List Live
live_among rules dead nacks names =
    flat_map (λ name. listed (live_of rules name (length (owned_by name nacks))))
    (filter (λ name. not (is_among dead name)) names)

-- how many of the names come before this one
abbrev pub count_before : Text → List Text → ℕ
count_before name names = count_by (λ other. comes_before other name) names
