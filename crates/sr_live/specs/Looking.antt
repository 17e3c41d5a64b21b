-- How a group is looked up: which calls are made, and what their replies say.
-- Source: Redis documentation, commands XINFO STREAM, XINFO CONSUMERS, XPENDING and XRANGE.

use Rattle.std.specs.Prelude.{◌≡◌, ◌⊎◌, ⊤, ℕ, ◌<◌, ◌≤◌, nat_le, Bool, true, false, not, List, [], ◌∷◌, ◌++◌, length}
use Rattle.std.specs.Prelude.{map, filter, codes, decimal, Option, Some, None}
use Rattle.std.specs.Io.KnownBytes.{Appends}
use Rattle.std.specs.List.{AllByRecursion, flat_map}
use Rattle.std.specs.List.Sorted.{IsPermutation, IsSortedBy}
use Rattle.sr_ids.specs.declared.id.Id.{Id}
use Rattle.sr_ids.specs.{is_below, spelling}
use Rattle.sr_policy.specs.{Text}
use Rattle.sr_peer.specs.{Part, part_text, request_text}
use Rattle.sr_live.specs.declared.looked.Asked.{Asked}
use Rattle.sr_live.specs.declared.looked.Claimable.{Claimable}
use Rattle.sr_live.specs.declared.looked.Row.{Row}
use Rattle.sr_live.specs.First.{kept_rows}
use Rattle.sr_live.specs.Said.{Delivered, IsTold, Listed, SaysEntry, SaysIdle, SaysNumbers, SaysPending, SaysRange}
use Rattle.sr_live.specs.Said.{SaysRemoved}

-- a call in words, and the parts of its reply
abbrev pub Exchange : Type 0
Exchange = List Text × List Part

-- the bytes of these calls, and of their replies
abbrev pub asked_of : List Exchange → List ℕ
asked_of talk = flat_map (λ exchange. request_text exchange.0) talk

abbrev pub answered_of : List Exchange → List ℕ
answered_of talk = flat_map (λ exchange. flat_map part_text exchange.1) talk

-- between two moments these calls were sent, and these replies came: `sent` and `got` are the bytes up to the first
-- moment, as far as they are known, and then up to the second one
pub record Talks (sent got sent_then got_then : Option (List ℕ)) (talk : List Exchange) : Type 0 where
  pub asked : Appends sent sent_then (asked_of talk)
  pub answered : Appends got got_then (answered_of talk)

-- ---- the calls

abbrev pub stream_call : Text → List Text
stream_call key = codes "XINFO" ∷ codes "STREAM" ∷ key ∷ []

abbrev pub consumers_call : Text → Text → List Text
consumers_call key group = codes "XINFO" ∷ codes "CONSUMERS" ∷ key ∷ group ∷ []

abbrev pub numbers_call : Text → Text → List Text
numbers_call key group = codes "XPENDING" ∷ key ∷ group ∷ []

abbrev pub pending_words : Text → Text → Text → Text → Text → List Text
pending_words key group idle start name =
    codes "XPENDING" ∷ key ∷ group ∷ codes "IDLE" ∷ idle ∷ start ∷ codes "+" ∷ codes "1000" ∷ name ∷ []

-- those that have been idle for so many milliseconds at least
abbrev pub pending_call : Text → Text → ℕ → Text → Text → List Text
pending_call key group idle start name = pending_words key group (decimal idle) start name

abbrev pub entry_call : Text → Id → List Text
entry_call key id = codes "XRANGE" ∷ key ∷ spelling id ∷ spelling id ∷ []

-- the first entries of those from one id to another
abbrev pub range_call : Text → Id → Id → ℕ → List Text
range_call key first last count =
    codes "XRANGE" ∷ key ∷ spelling first ∷ spelling last ∷ codes "COUNT" ∷ decimal count ∷ []

-- ---- what is looked up

-- how many entries one call lists
abbrev pub page : ℕ
page = 1000

-- the last of these entries, or the one before them
abbrev pub last_of : List Id → Option Id → Option Id
last_of [] before = before
last_of (id ∷ ids) before = last_of ids (Some id)

-- where a page starts: behind this entry
abbrev pub start_after : Option Id → Text
start_after None = codes "-"
start_after (Some id) = codes "(" ++ spelling id

-- whether all up to the last entry that is looked at lies before the next page; never, if all are looked at
abbrev pub is_past : Option Id → Option Id → Bool
is_past None last = false
is_past (Some after) None = false
is_past (Some after) (Some last) = not (is_below after last)

-- the entry has been delivered at most so often; any one, if no number is asked for
abbrev pub is_within : Option ℕ → Delivered → Bool
is_within None entry = true
is_within (Some most) entry = nat_le entry.1 most

abbrev pub ids_in : List Delivered → List Id
ids_in entries = map (λ entry. entry.0) entries

-- those of the entries that have been delivered at most so often
abbrev pub ids_within : Option ℕ → List Delivered → List Id
ids_within most entries = ids_in (filter (is_within most) entries)

-- the entries that are pending for the consumer behind this one, page by page: up to a page that is not full, or past
-- the last entry that is looked at. Those that have been delivered too often are left out
abbrev pub ListsPages : Text → Text → Claimable → Text → Option Id → Option Id → List Exchange → List Id → Type 0
ListsPages key group claimable name last after [] ids = (is_past after last ≡ true) × (ids ≡ [])
ListsPages key group claimable name last after (exchange ∷ talk) ids =
    (front : List Delivered) × (behind : List Id)
    × (exchange.0 ≡ pending_call key group claimable.idle (start_after after) name) × SaysPending exchange.1 name front
    × (((length front < page) × (talk ≡ []) × (behind ≡ []))
    ⊎ ((page ≤ length front) × ListsPages key group claimable name last (last_of (ids_in front) after) talk behind))
    × (ids ≡ ids_within claimable.most_deliveries front ++ behind)

-- the same of several consumers from the first entry on, one after another, each entry with its owner
abbrev pub ListsDead : Text → Text → Claimable → Option Id → List Text → List Exchange → List (Id × Text) → Type 0
ListsDead key group claimable last [] talk listed = (talk ≡ []) × (listed ≡ [])
ListsDead key group claimable last (name ∷ dead) talk listed =
    (own : List Exchange) × (others : List Exchange) × (ids : List Id) × (rest : List (Id × Text))
    × ListsPages key group claimable name last None own ids × ListsDead key group claimable last dead others rest
    × (talk ≡ own ++ others) × (listed ≡ map (λ id. (id, name)) ids ++ rest)

-- one row was read: its entry as it is in the stream
abbrev pub ReadsOne : Text → List Row → Exchange → Type 0
ReadsOne key rows exchange =
    (row : Row) × (rows ≡ row ∷ []) × (exchange.0 ≡ entry_call key row.id) × SaysEntry exchange.1 row.id row.fields

-- rows were read by a range that begins and ends somewhere: each is as the range tells it
pub record ReadsRange (key : Text) (rows : List Row) (exchange : Exchange) : Type 0 where
  pub first : Id
  pub last : Id
  pub count : ℕ
  pub entries : List Listed
  pub calls : exchange.0 ≡ range_call key first last count
  pub says : SaysRange first last count exchange.1 entries
  pub told : AllByRecursion (IsTold first last count entries) rows

-- each of these rows was read, in their order
abbrev pub LooksEntries : Text → List Row → List Exchange → Type 0
LooksEntries key rows [] = rows ≡ []
LooksEntries key rows (exchange ∷ talk) =
    (front : List Row) × (behind : List Row) × (ReadsOne key front exchange ⊎ ReadsRange key front exchange)
    × LooksEntries key behind talk × (rows ≡ front ++ behind)

-- an entry with its owner, as it was listed
abbrev pub listed_as : Row → Id × Text
listed_as row = (row.id, row.owner)

-- what is listed and not looked at: nothing, if all are looked at
abbrev pub IsLeft : Option Id → List (Id × Text) → Type 0
IsLeft None left = left ≡ []
IsLeft (Some last) left = ⊤

-- these calls, in some order, looked at those entries of the dead that come first by id: at all of them, or no further
-- than the last one, with which as many are stranded as were asked for. Of each dead consumer they list all that is
-- pending for it, up to that entry at least. Entries that have not been idle for so long are left out, and those that
-- have been delivered too often
pub record LooksRows (key group : Text) (claimable : Claimable) (dead : List Text) (at_most : Option ℕ)
    (talk : List Exchange) (rows : List Row) (last : Option Id) : Type 0 where
  pub pending : List Exchange
  pub entries : List Exchange
  pub listed : List (Id × Text)
  pub left : List (Id × Text)
  pub lists : ListsDead key group claimable last dead pending listed
  pub same : IsPermutation listed (map listed_as rows ++ left)
  pub rising : IsSortedBy (λ a b. is_below a.0 b.0) (map listed_as rows ++ left)
  pub looks : LooksEntries key rows entries
  pub enough : kept_rows at_most rows ≡ (rows, last)
  pub whole : IsLeft last left
  pub spelled : IsPermutation (pending ++ entries) talk

-- for how long each consumer of the group has been idle, if that is asked for
abbrev pub LooksIdle : Text → Text → Option ℕ → List Exchange → List (Text × ℕ) → Type 0
LooksIdle key group None talk idles = (talk ≡ []) × (idles ≡ [])
LooksIdle key group (Some within) talk idles =
    (parts : List Part) × SaysIdle parts idles × (talk ≡ (consumers_call key group, parts) ∷ [])

-- that, and then how many entries are pending for each consumer that has any
pub record LooksLive (key group : Text) (within : Option ℕ) (talk : List Exchange) (idles numbers : List (Text × ℕ))
    : Type 0 where
  pub first : List Exchange
  pub parts : List Part
  pub looks : LooksIdle key group within first idles
  pub says : SaysNumbers parts numbers
  pub spelled : talk ≡ first ++ (numbers_call key group, parts) ∷ []

-- what was looked up of a group by these calls: how many entries had been removed from the stream before any was read,
-- such entries, and last the consumers
pub record IsLooked (asked : Asked) (at_most : Option ℕ) (talk : List Exchange) (idles numbers : List (Text × ℕ))
    (rows : List Row) (last : Option Id) (removed : ℕ) : Type 0 where
  pub counts : List Part
  pub looking : List Exchange
  pub asking : List Exchange
  pub says_removed : SaysRemoved counts removed
  pub looks : LooksRows asked.key asked.group asked.claimable asked.dead.items at_most looking rows last
  pub live : LooksLive asked.key asked.group asked.seen_within asking idles numbers
  pub spelled : talk ≡ (stream_call asked.key, counts) ∷ looking ++ asking
