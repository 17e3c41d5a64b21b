-- What a command on one group leaves of its stream.
use Rattle.std.proofs.Common.{◌≡◌, ℕ, List, Option, Some, None, ap, ◌∙◌}
use Rattle.sr_entries.specs.declared.entry.Entry.{Entry}
use Rattle.sr_group.specs.{GroupState}
use Rattle.sr_stream.specs.{ByName, group_with, with_group, StreamState, with_groups}
use Rattle.sr_stream.specs.Groups.{AreInOrder}
use Rattle.sr_stream.proofs.GroupsLemmas.{with_group-same}
use Rattle.sr_space.specs.declared.grouped.Missing.{Missing}
use Rattle.sr_resp.specs.{ReplyParts}
use Rattle.sr_space.specs.Grouped.{Regrouped, at_group, group_left, regrouped}
use Rattle.sr_space.specs.Touched.{left_of}

module _ (missing : Missing) (f : List Entry → GroupState → Regrouped) (name : List ℕ) (stream : StreamState) where
  -- a group that stays leaves its stream as it was
  pub group-stays : (group : GroupState) → AreInOrder stream.groups → group_with name stream.groups ≡ Some group
      → with_groups (with_group name group stream.groups) stream ≡ stream
  group-stays group order found = ap (λ (groups : ByName GroupState). with_groups groups stream) (with_group-same name group stream.groups order found)

  pub stream-left : (group now : GroupState) → AreInOrder stream.groups → group_with name stream.groups ≡ Some group
      → now ≡ group_left group (f stream.entries group).written
      → with_groups (with_group name now stream.groups) stream ≡ left_of stream (at_group missing f name stream (group_with name stream.groups)).written
  stream-left group now order found is = rw found (by (f stream.entries group).written is)
    where
      by : (written : Option GroupState) → now ≡ group_left group written → with_groups (with_group name now stream.groups) stream ≡ left_of stream (regrouped name stream written)
      by None same = ap (λ (g : GroupState). with_groups (with_group name g stream.groups) stream) same ∙ group-stays group order found
      by (Some written) same = ap (λ (g : GroupState). with_groups (with_group name g stream.groups) stream) same

  pub outcome-left : (group : GroupState) (outcome : ReplyParts) → group_with name stream.groups ≡ Some group → outcome ≡ (f stream.entries group).outcome
      → outcome ≡ (at_group missing f name stream (group_with name stream.groups)).outcome
  outcome-left group outcome found is = rw found is
