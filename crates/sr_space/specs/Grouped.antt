-- A command on one consumer group: what it does to the group, and how it is carried out in the group's stream.
-- Source: Redis documentation, "Streams", section "Consumer groups", and the pages of XACK, XCLAIM, XGROUP and
-- XPENDING.

use Rattle.std.specs.Prelude.{ℕ, List, Option, Some, None, pos}
use Rattle.sr_entries.specs.declared.entry.Entry.{Entry}
use Rattle.sr_group.specs.{GroupState}
use Rattle.sr_resp.specs.declared.code.ErrCode.TheVariants as errors
use Rattle.sr_resp.specs.{ReplyParts, error_reply, integer}
use Rattle.sr_stream.specs.{group_with, with_group, StreamState, with_groups}
use Rattle.sr_space.specs.declared.grouped.Missing.{Missing}
use Rattle.sr_space.specs.declared.grouped.Missing.TheVariants.{Zero, NoGroup, NoKey}
use Rattle.sr_space.specs.Touched.{Touched, replies}

-- what a command writes in the place of its group, if anything, and what it leads to
pub record Regrouped : Type 0 where
  pub written : Option GroupState
  pub outcome : ReplyParts

-- the group is changed, and this is replied
abbrev pub regroups : GroupState → ReplyParts → Regrouped
regroups group answer = record { written = Some group; outcome = answer }

-- what is replied if there is no such key: 0, or an error
abbrev pub for_missing_key : Missing → ReplyParts
for_missing_key Zero = integer (pos 0)
for_missing_key NoGroup = error_reply errors.NoGroup
for_missing_key NoKey = error_reply errors.NoKey

-- what is replied if the key has no such group
abbrev pub for_missing_group : Missing → ReplyParts
for_missing_group Zero = integer (pos 0)
for_missing_group NoGroup = error_reply errors.NoGroup
for_missing_group NoKey = error_reply errors.NoGroup

-- a group after such a command
abbrev pub group_left : GroupState → Option GroupState → GroupState
group_left group None = group
group_left group (Some written) = written

-- the stream with what is written in the place of the group
abbrev pub regrouped : List ℕ → StreamState → Option GroupState → Option StreamState
regrouped name stream None = None
regrouped name stream (Some group) = Some (with_groups (with_group name group stream.groups) stream)

abbrev pub left_in : List ℕ → StreamState → Regrouped → Touched
left_in name stream left = record { written = regrouped name stream left.written; outcome = left.outcome }

-- a command on the group of this name, if the stream has it
abbrev pub at_group : Missing → (List Entry → GroupState → Regrouped) → List ℕ → StreamState → Option GroupState
    → Touched
at_group missing f name stream None = replies (for_missing_group missing)
at_group missing f name stream (Some group) = left_in name stream (f stream.entries group)

-- a command on the group of this name, if the key is there and has it
abbrev pub in_group : Missing → (List Entry → GroupState → Regrouped) → List ℕ → Option StreamState → Touched
in_group missing f name None = replies (for_missing_key missing)
in_group missing f name (Some stream) = at_group missing f name stream (group_with name stream.groups)
