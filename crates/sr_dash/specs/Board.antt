-- The board of a consumer group: a heading, and a line for each consumer.
-- Source: docs/COMMANDS.md, RECOVER.BOARD.

use Rattle.std.specs.Prelude.{ℕ, ◌-◌, ◌+◌, ◌/◌, ◌%◌, ◌==◌, ◌&&◌, nat_lt, not, List, [], ◌∷◌, ◌++◌, codes, decimal}
use Rattle.std.specs.Prelude.{length, map, replicate, Bool, true, false, Option, Some, None, if◌then◌else◌}
use mathlib.Core.List.{foldr}
use Rattle.std.specs.List.{flat_map}
use Rattle.std.specs.Option.{option_map}
use Rattle.sr_bytes.specs.{with_name}
use Rattle.sr_group.specs.{GroupState}
use Rattle.sr_group.specs.Group.{consumer_with, oldest_of}
use Rattle.sr_pending.specs.{owned_by}
use Rattle.sr_policy.specs.{Text, consumers_of}
use Rattle.sr_policy.specs.Rules.{Rules, has_tiers, limit_of, tier_of}
use Rattle.sr_policy.specs.Snapshot.{places_left}

-- ---- who has a line

-- the consumers of the group and those of the policy, each once in byte order
abbrev pub names_on : GroupState → Rules → List Text
names_on group rules = foldr with_name (map (λ consumer. consumer.name) group.consumers) (consumers_of rules)

-- ---- what a line says

-- a consumer: how many entries are pending for it, how many may be, its soft limit and its fee, for how long the one
-- that was delivered longest ago was not delivered again, and for how long it was not seen, in milliseconds
pub record Row : Type 0 where
  pub name : Text
  pub pending : ℕ
  pub limit : Option ℕ
  pub tier : Option (ℕ × ℕ)
  pub oldest : Option ℕ
  pub idle : Option ℕ

-- how long ago this was: 0 if it is to come
abbrev pub since : ℕ → ℕ → ℕ
since moment time = moment - time

abbrev pub row_of : GroupState → ℕ → Rules → Text → Row
row_of group moment rules name = record {
  name = name;
  pending = length (owned_by name group.nacks);
  limit = limit_of rules name;
  tier = tier_of rules name;
  oldest = option_map (since moment) (oldest_of (owned_by name group.nacks));
  idle = option_map (λ consumer. since moment consumer.seen) (consumer_with name group.consumers);
}

-- how many more may become pending for it
abbrev pub room_in : Row → Option ℕ
room_in row = option_map (λ limit. places_left limit row.pending) row.limit

-- its soft limit
abbrev pub soft_in : Row → Option ℕ
soft_in row = option_map (λ tier. tier.0) row.tier

-- the fee of each entry beyond it
abbrev pub fee_in : Row → Option ℕ
fee_in row = option_map (λ tier. tier.1) row.tier

-- ---- how it is written

-- a printable byte that is not a space or a backslash
abbrev pub is_plain : ℕ → Bool
is_plain byte = nat_lt 0x20 byte && (nat_lt byte 0x7f && not (byte == 0x5c))

-- a digit of base 16, in lower case
abbrev pub hex_digit : ℕ → ℕ
hex_digit n = if nat_lt n 10 then 0x30 + n else 0x57 + n

-- a byte of a name: itself, or \x and two digits
abbrev pub escaped_byte : ℕ → List ℕ
escaped_byte byte =
    if is_plain byte then byte ∷ [] else 0x5c ∷ 0x78 ∷ hex_digit (byte / 16) ∷ hex_digit (byte % 16) ∷ []

abbrev pub escaped : Text → List ℕ
escaped name = flat_map escaped_byte name

-- spaces, as many as the text lacks of a width; none if it is longer
abbrev pub spaces : ℕ → List ℕ → List ℕ
spaces width text = replicate (width - length text) 0x20

abbrev pub on_the_left : ℕ → List ℕ → List ℕ
on_the_left width text = text ++ spaces width text

abbrev pub on_the_right : ℕ → List ℕ → List ℕ
on_the_right width text = spaces width text ++ text

-- a number, or "-" if there is none
abbrev pub cell : Option ℕ → List ℕ
cell None = codes "-"
cell (Some n) = decimal n

-- what the columns after the name say, each with its width
abbrev pub cells : (pending limit room oldest idle : List ℕ) → List (ℕ × List ℕ)
cells pending limit room oldest idle = (8, pending) ∷ (8, limit) ∷ (8, room) ∷ (12, oldest) ∷ (12, idle) ∷ []

-- and the last two, which a wide board has
abbrev pub tier_cells : Bool → (soft fee : List ℕ) → List (ℕ × List ℕ)
tier_cells false soft fee = []
tier_cells true soft fee = (8, soft) ∷ (14, fee) ∷ []

-- columns, each on the right of its width, with a space before it
abbrev pub columns : List (ℕ × List ℕ) → List ℕ
columns cells = flat_map (λ column. 0x20 ∷ on_the_right column.0 column.1) cells

-- a name, and the columns after it
abbrev pub written : List ℕ → List (ℕ × List ℕ) → List ℕ
written name cells = on_the_left 20 name ++ columns cells ++ 0x0a ∷ []

abbrev pub heading : Bool → List ℕ
heading wide =
    written (codes "consumer")
    (cells (codes "pending") (codes "limit") (codes "room") (codes "oldest") (codes "idle")
    ++ tier_cells wide (codes "soft") (codes "fee"))

abbrev pub line : Bool → Row → List ℕ
line wide row =
    written (escaped row.name)
    (cells (decimal row.pending) (cell row.limit) (cell (room_in row)) (cell row.oldest) (cell row.idle)
    ++ tier_cells wide (cell (soft_in row)) (cell (fee_in row)))

-- the whole board at a moment; it is wide under a policy that gives a consumer a soft limit
abbrev pub board : GroupState → ℕ → Rules → List ℕ
board group moment rules =
    heading (has_tiers rules)
    ++ flat_map (λ name. line (has_tiers rules) (row_of group moment rules name)) (names_on group rules)
