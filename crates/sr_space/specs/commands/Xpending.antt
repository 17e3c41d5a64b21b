-- XPENDING tells what is pending in a group: in sum, or a line for each entry of a range.
-- Source: Redis documentation, the page of XPENDING.

use Rattle.std.specs.Prelude.{ℕ, zero, suc, ℤ, List, [], ◌∷◌, length, map, take, Option, Some, None, pos, negsuc}
use Rattle.std.specs.Prelude.{decimal}
use Rattle.std.specs.List.{flat_map}
use Rattle.sr_args.specs.declared.commands.xpending.PendingAsked.{PendingAsked}
use Rattle.sr_group.specs.declared.consumer.Consumer.{Consumer}
use Rattle.sr_group.specs.{GroupState}
use Rattle.sr_group.specs.Group.{idle_at, idle_for}
use Rattle.sr_ids.specs.declared.id.Id.{Id}
use Rattle.sr_ids.specs.{spelling}
use Rattle.sr_pending.specs.declared.nack.Nack.{Nack}
use Rattle.sr_pending.specs.{owned_by}
use Rattle.sr_pending.specs.Pending.{greatest_pending, least_pending, owned_by_named, pending_between}
use Rattle.sr_resp.specs.declared.code.ErrCode.TheVariants as errors
use Rattle.sr_resp.specs.{ReplyParts, array_of, bulk_string, error_reply, integer}
use Rattle.sr_resp.specs.Reply.{null_array, null_string}
use Rattle.sr_stream.specs.{group_with, StreamState}

-- a number below 0 is read as 0
abbrev pub at_least_0 : ℤ → ℕ
at_least_0 (pos n) = n
at_least_0 (negsuc n) = 0

abbrev pub at_least_0_or_0 : Option ℤ → ℕ
at_least_0_or_0 None = 0
at_least_0_or_0 (Some z) = at_least_0 z

abbrev pub id_or_null : Option Id → ReplyParts
id_or_null None = null_string
id_or_null (Some id) = bulk_string (spelling id)

-- [consumer, how many as text]
abbrev pub share_answer : List ℕ → ℕ → ReplyParts
share_answer name pending = array_of (bulk_string name ∷ bulk_string (decimal pending) ∷ [])

-- the consumer's line, if it has something pending
abbrev pub share_of : List ℕ → ℕ → List ReplyParts
share_of name zero = []
share_of name (suc n) = share_answer name (suc n) ∷ []

-- the consumers that have something pending, in byte order; the null array if nothing is pending
abbrev pub shares_of : List Consumer → List Nack → ReplyParts
shares_of consumers [] = null_array
shares_of consumers (nack ∷ nacks) =
    array_of (flat_map (λ consumer. share_of consumer.name (length (owned_by consumer.name (nack ∷ nacks)))) consumers)

-- how many entries are pending, the least and the greatest of their ids, and how many each consumer has
abbrev pub summary_answer : GroupState → ReplyParts
summary_answer group = array_of (
    integer (pos (length group.nacks))
    ∷ id_or_null (least_pending group.nacks)
    ∷ id_or_null (greatest_pending group.nacks)
    ∷ shares_of group.consumers group.nacks
    ∷ [])

-- [id, consumer, for how long it was not delivered, how often it was delivered]
abbrev pub nack_answer : ℕ → Nack → ReplyParts
nack_answer moment nack = array_of (
    bulk_string (spelling nack.id) ∷ bulk_string nack.owner
    ∷ integer (pos (idle_at moment nack)) ∷ integer (pos nack.count) ∷ [])

-- those of the range that were idle for long enough, of the consumer if one is named, at most so many
abbrev pub listing_of : ℕ → PendingAsked → List Nack → List Nack
listing_of moment asked nacks =
    take (at_least_0 asked.count) (idle_for (at_least_0_or_0 asked.least_idle) moment
    (owned_by_named asked.consumer (pending_between asked.start asked.end nacks)))

abbrev pub listing_answer : ℕ → PendingAsked → List Nack → ReplyParts
listing_answer moment asked nacks = array_of (map (nack_answer moment) (listing_of moment asked nacks))

abbrev pub pending_answer : ℕ → Option PendingAsked → GroupState → ReplyParts
pending_answer moment None group = summary_answer group
pending_answer moment (Some asked) group = listing_answer moment asked group.nacks

abbrev pub pending_of : ℕ → Option PendingAsked → Option GroupState → ReplyParts
pending_of moment listing None = error_reply errors.NoGroup
pending_of moment listing (Some group) = pending_answer moment listing group

abbrev pub xpending : ℕ → List ℕ → Option PendingAsked → Option StreamState → ReplyParts
xpending moment group listing None = error_reply errors.NoGroup
xpending moment group listing (Some stream) = pending_of moment listing (group_with group stream.groups)
