-- What the replies of Redis say of a group.
-- Source: Redis documentation, commands XINFO STREAM, XINFO CONSUMERS, XPENDING and XRANGE.

use Rattle.std.specs.Prelude.{◌≡◌, ⊤, ◌⊎◌, ℕ, ◌+◌, ◌*◌, ◌<◌, ◌≤◌, ℤ, pos, List, [], ◌∷◌, ◌++◌, length, codes, decimal}
use Rattle.std.specs.Prelude.{Bool, true, not, ◌&&◌, ◌||◌, nat_lt, slice_index_or, if◌then◌else◌, Option, Some, None}
use Rattle.std.specs.List.{AllByRecursion, flat_map, list_all, list_any}
use Rattle.sr_ids.specs.declared.id.Id.{Id}
use Rattle.sr_ids.specs.{SpellsId, is_below, is_same_id}
use Rattle.sr_policy.specs.{Text}
use Rattle.sr_policy.specs.Rules.{value_at}
use Rattle.sr_peer.specs.{Part, Array, Bulk, Int}
use Rattle.sr_peer.specs.Reply.{NullArray, NullBulk, items_of}
use Rattle.sr_live.specs.declared.looked.Row.{Row}

-- ---- XPENDING: how many entries are pending, the least and the greatest of their ids, and an array of consumers, each
-- with how many entries are pending for it in decimal digits

abbrev pub number_parts : Text × ℕ → List Part
number_parts number = Array 2 ∷ Bulk number.0 ∷ Bulk (decimal number.1) ∷ []

-- what comes before so many consumers; before none it has no ids
abbrev pub IsFront : List Part → ℕ → Type 0
IsFront parts count = (all : ℤ)
    × (((least : Text) × (greatest : Text)
    × (parts ≡ Array 4 ∷ Int all ∷ Bulk least ∷ Bulk greatest ∷ Array count ∷ []))
    ⊎ ((count ≡ 0) × (parts ≡ Array 4 ∷ Int all ∷ NullBulk ∷ NullBulk ∷ NullArray ∷ [])))

-- the reply says how many entries are pending for each consumer that has any
pub record SaysNumbers (parts : List Part) (numbers : List (Text × ℕ)) : Type 0 where
  pub front : List Part
  pub first : IsFront front (length numbers)
  pub spelled : parts ≡ front ++ flat_map number_parts numbers

-- ---- XINFO CONSUMERS: an array of consumers, each an array of fields with their values

-- fields, each with a value that is one part
abbrev pub fields_parts : List (Text × Part) → List Part
fields_parts fields = flat_map (λ field. Bulk field.0 ∷ field.1 ∷ []) fields

abbrev pub consumer_parts : List (Text × Part) → List Part
consumer_parts fields = Array (2 * length fields) ∷ fields_parts fields

abbrev pub consumers_parts : List (List (Text × Part)) → List Part
consumers_parts consumers = Array (length consumers) ∷ flat_map consumer_parts consumers

-- the fields say the name of a consumer, and for how many milliseconds it has been idle; the first of a name counts
pub record SaysConsumer (fields : List (Text × Part)) (consumer : Text × ℕ) : Type 0 where
  pub name : value_at (codes "name") fields ≡ Some (Bulk consumer.0)
  pub idle : value_at (codes "idle") fields ≡ Some (Int (pos consumer.1))

-- each of them says one
abbrev pub SayConsumers : List (List (Text × Part)) → List (Text × ℕ) → Type 0
SayConsumers [] [] = ⊤
SayConsumers (fields ∷ others) (consumer ∷ consumers) = SaysConsumer fields consumer × SayConsumers others consumers
SayConsumers [] (consumer ∷ consumers) = ⊥
SayConsumers (fields ∷ others) [] = ⊥

-- the reply says for how long each consumer of the group has been idle
pub record SaysIdle (parts : List Part) (consumers : List (Text × ℕ)) : Type 0 where
  pub fields : List (List (Text × Part))
  pub spelled : parts ≡ consumers_parts fields
  pub says : SayConsumers fields consumers

-- ---- XINFO STREAM: an array of fields with their values, of which those up to the two that count are one part each

-- the reply says how many entries the stream has and how many were added to it: the others were removed
pub record SaysRemoved (parts : List Part) (removed : ℕ) : Type 0 where
  pub places : ℕ
  pub fields : List (Text × Part)
  pub rest : List Part
  pub kept : ℕ
  pub added : ℕ
  pub spelled : parts ≡ Array places ∷ fields_parts fields ++ rest
  pub plain : AllByRecursion (λ (field : Text × Part). items_of field.1 ≡ 0) fields
  pub says_kept : value_at (codes "length") fields ≡ Some (Int (pos kept))
  pub says_added : value_at (codes "entries-added") fields ≡ Some (Int (pos added))
  pub others : kept + removed ≡ added

-- ---- XPENDING with a consumer: an array of entries, each with its id, owner, idle time and delivery count

-- an entry, with how often it has been delivered
abbrev pub Delivered : Type 0
Delivered = Id × ℕ

pub record IsPendingRow (parts : List Part) (entry : Delivered) (owner : Text) : Type 0 where
  pub text : List ℕ
  pub idle : ℤ
  pub spells : SpellsId 0 text entry.0
  pub spelled : parts ≡ Array 4 ∷ Bulk text ∷ Bulk owner ∷ Int idle ∷ Int (pos entry.1) ∷ []

-- the parts are such entries, one after another, all of this owner
abbrev pub ArePendingRows : List Part → Text → List Delivered → Type 0
ArePendingRows parts owner [] = parts ≡ []
ArePendingRows parts owner (entry ∷ entries) =
    (front : List Part) × (behind : List Part) × IsPendingRow front entry owner × ArePendingRows behind owner entries
    × (parts ≡ front ++ behind)

-- the reply says which entries are pending for the owner, as far as it was asked
pub record SaysPending (parts : List Part) (owner : Text) (entries : List Delivered) : Type 0 where
  pub body : List Part
  pub spelled : parts ≡ Array (length entries) ∷ body
  pub rows : ArePendingRows body owner entries

-- ---- XRANGE from an id to the same id: no entry, or this one with its fields

abbrev pub pairs_parts : List (Text × Text) → List Part
pairs_parts pairs = flat_map (λ pair. Bulk pair.0 ∷ Bulk pair.1 ∷ []) pairs

-- the parts say what the stream has at this id: nothing, or an entry with these fields
abbrev pub SaysEntry : List Part → Id → Option (List (Text × Text)) → Type 0
SaysEntry parts id None = parts ≡ Array 0 ∷ []
SaysEntry parts id (Some fields) =
    (text : List ℕ) × SpellsId 0 text id
    × (parts ≡ Array 1 ∷ Array 2 ∷ Bulk text ∷ Array (2 * length fields) ∷ pairs_parts fields)

-- each of these replies says what the stream has at the id of its row
abbrev pub SayEntries : List (List Part) → List Row → Type 0
SayEntries [] [] = ⊤
SayEntries (parts ∷ replies) (row ∷ rows) = SaysEntry parts row.id row.fields × SayEntries replies rows
SayEntries [] (row ∷ rows) = ⊥
SayEntries (parts ∷ replies) [] = ⊥

-- ---- XRANGE with COUNT: entries from one id to another, in order, no more than that

-- an entry that is listed: its id, and its fields
abbrev pub Listed : Type 0
Listed = Id × List (Text × Text)

pub record IsEntry (parts : List Part) (entry : Listed) : Type 0 where
  pub text : List ℕ
  pub spells : SpellsId 0 text entry.0
  pub spelled : parts ≡ Array 2 ∷ Bulk text ∷ Array (2 * length entry.1) ∷ pairs_parts entry.1

-- the parts are such entries, one after another
abbrev pub AreEntries : List Part → List Listed → Type 0
AreEntries parts [] = parts ≡ []
AreEntries parts (entry ∷ entries) =
    (front : List Part) × (behind : List Part) × IsEntry front entry × AreEntries behind entries
    × (parts ≡ front ++ behind)

-- the id is one of those from the first to the last
abbrev pub is_between : Id → Id → Id → Bool
is_between first last id = not (is_below id first) && not (is_below last id)

-- the reply lists these entries
pub record SaysRange (first last : Id) (count : ℕ) (parts : List Part) (entries : List Listed) : Type 0 where
  pub body : List Part
  pub spelled : parts ≡ Array (length entries) ∷ body
  pub are : AreEntries body entries
  pub few : length entries ≤ count
  pub inside : list_all (λ entry. is_between first last entry.0) entries ≡ true
  pub rising : (k : ℕ) → (d : Listed) → k + 1 < length entries
      → is_below (slice_index_or entries k d).0 (slice_index_or entries (k + 1) d).0 ≡ true

-- the fields of the listed entry with this id, if one has it
abbrev pub fields_at : Id → List Listed → Option (List (Text × Text))
fields_at id [] = None
fields_at id (entry ∷ entries) = if is_same_id entry.0 id then Some entry.1 else fields_at id entries

-- whether it is listed, or not in the stream: all from the first id to the last are listed, since they are fewer than
-- were asked for; or all up to this id, since one is listed that does not come before it
abbrev pub reaches : Id → Id → ℕ → List Listed → Id → Bool
reaches first last count entries id =
    is_between first last id
    && (nat_lt (length entries) count || list_any (λ entry. not (is_below entry.0 id)) entries)

-- the entries tell what the stream has at the id of this row: the entry with its fields, or nothing
pub record IsTold (first last : Id) (count : ℕ) (entries : List Listed) (row : Row) : Type 0 where
  pub reached : reaches first last count entries row.id ≡ true
  pub fields : row.fields ≡ fields_at row.id entries
