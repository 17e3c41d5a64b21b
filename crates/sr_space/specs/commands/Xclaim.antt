-- XCLAIM gives the entries with these ids to a consumer, and XAUTOCLAIM those that it finds from an id on.
-- Source: Redis documentation, the pages of XCLAIM and XAUTOCLAIM.

use Rattle.std.specs.Prelude.{ℕ, ℤ, List, [], ◌∷◌, length, map, Option, Some, None, Bool, true, false}
use Rattle.std.specs.List.{flat_map}
use Rattle.std.specs.Option.{option_map}
use Rattle.sr_ids.specs.declared.id.Id.{Id}
use Rattle.sr_ids.specs.{spelling}
use Rattle.sr_args.specs.declared.commands.xclaim.TimeAsked.{TimeAsked}
use Rattle.sr_args.specs.declared.commands.xclaim.TimeAsked.TheVariants as asked
use Rattle.sr_entries.specs.declared.entry.Entry.{Entry}
use Rattle.sr_entries.specs.{entry_with}
use Rattle.sr_group.specs.declared.claim.Claim.{Claim}
use Rattle.sr_group.specs.declared.claim.ClaimTime.{ClaimTime}
use Rattle.sr_group.specs.declared.claim.ClaimTime.TheVariants as times
use Rattle.sr_group.specs.declared.shown.Listed.{Listed}
use Rattle.sr_group.specs.Claim.{group_after_claim, id_behind, listed_claim, pending_from, scanned}
use Rattle.sr_group.specs.{GroupState}
use Rattle.sr_pending.specs.declared.nack.Nack.{Nack}
use Rattle.sr_resp.specs.{ReplyParts, array_of, bulk_string}
use Rattle.sr_stream.specs.{StreamState}
use Rattle.sr_space.specs.declared.grouped.Missing.TheVariants.{NoGroup}
use Rattle.sr_space.specs.Bounds.{in_63_bits}
use Rattle.sr_space.specs.EntryReply.{entry_answer}
use Rattle.sr_space.specs.Grouped.{Regrouped, in_group, regroups}
use Rattle.sr_space.specs.Touched.{Touched}
use Rattle.sr_space.specs.commands.Xpending.{at_least_0}

-- the delivery time that is asked for
abbrev pub time_of : TimeAsked → ClaimTime
time_of asked.Now = times.Now
time_of (asked.Idle idle) = times.Idle idle
time_of (asked.At time) = times.At time

abbrev pub claim_of : ℤ → TimeAsked → Option ℕ → Bool → Claim
claim_of least_idle time count just_ids =
    record {
      least_idle = at_least_0 least_idle;
      time = time_of time;
      count = option_map in_63_bits count;
      just_ids = just_ids;
    }

-- an entry of the stream, if it has it
abbrev pub entry_reply : Option Entry → List ReplyParts
entry_reply None = []
entry_reply (Some entry) = entry_answer entry ∷ []

-- what is replied of an entry that was claimed: its id, or itself; and nothing of one that the stream has no longer
abbrev pub claimed_reply : Bool → List Entry → Id → Bool → List ReplyParts
claimed_reply just_ids entries id false = []
claimed_reply true entries id true = bulk_string (spelling id) ∷ []
claimed_reply false entries id true = entry_reply (entry_with id entries)

abbrev pub claimed_answer : Bool → List Entry → List Listed → ReplyParts
claimed_answer just_ids entries listed =
    array_of (flat_map (λ l. claimed_reply just_ids entries l.id l.found) listed)

-- the id of an entry that the stream has no longer
abbrev pub deleted_id : Id → Bool → List ReplyParts
deleted_id id false = bulk_string (spelling id) ∷ []
deleted_id id true = []

abbrev pub deleted_answer : List Listed → ReplyParts
deleted_answer listed = array_of (flat_map (λ l. deleted_id l.id l.found) listed)

module _ (moment : ℕ) (consumer : List ℕ) (claim : Claim) where
  abbrev pub claimed : List Id → List Entry → GroupState → Regrouped
  claimed ids entries group =
      regroups (group_after_claim claim consumer moment entries ids group)
      (claimed_answer claim.just_ids entries (listed_claim claim consumer moment entries ids group.nacks))

  abbrev pub xclaim : List ℕ → List Id → Option StreamState → Touched
  xclaim group ids = in_group NoGroup (claimed ids) group

  -- [where to go on, what was claimed, the ids that the stream has no longer]
  abbrev pub scan_answer : List Entry → List Listed → Id → ReplyParts
  scan_answer entries listed next = array_of (
      bulk_string (spelling next) ∷ claimed_answer claim.just_ids entries listed ∷ deleted_answer listed ∷ [])

  -- those that were looked at, `found` being what is pending from the start on
  abbrev pub claimed_of_scan : List Nack → List Nack → List Entry → GroupState → Regrouped
  claimed_of_scan found looked entries group =
      let ids = map (λ nack. nack.id) looked in
      regroups (group_after_claim claim consumer moment entries ids group)
      (scan_answer entries (listed_claim claim consumer moment entries ids group.nacks)
      (id_behind (length looked) found))

  abbrev pub autoclaimed : Id → ℕ → List Entry → GroupState → Regrouped
  autoclaimed start count entries group =
      let found = pending_from start group.nacks in
      claimed_of_scan found (scanned claim consumer moment entries count found) entries group

  abbrev pub xautoclaim : List ℕ → Id → ℕ → Option StreamState → Touched
  xautoclaim group start count = in_group NoGroup (autoclaimed start count) group

-- COUNT is 100 where it is not written
abbrev pub count_or_100 : Option ℤ → ℕ
count_or_100 None = 100
count_or_100 (Some z) = at_least_0 z
