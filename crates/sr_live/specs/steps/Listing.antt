-- How what is pending for the dead is listed and looked at. No public clause cites it.

use Rattle.std.specs.Prelude.{◌≡◌, ◌⊎◌, ℕ, zero, suc, ◌+◌, ◌<◌, Bool, true, false, not, ◌||◌, leb, List, [], ◌∷◌, ◌++◌}
use Rattle.std.specs.Prelude.{length, map, slice_index_or, All, Option, Some, None}
use Rattle.std.specs.List.{AllByRecursion, list_all}
use Rattle.std.specs.List.Sorted.{IsPermutation, IsSortedBy}
use Rattle.sr_ids.specs.declared.id.Id.{Id}
use Rattle.sr_ids.specs.{is_below}
use Rattle.sr_policy.specs.{Text}
use Rattle.sr_peer.specs.{Part}
use Rattle.sr_live.specs.declared.listing.Listing.{Listing}
use Rattle.sr_live.specs.declared.looked.Claimable.{Claimable}
use Rattle.sr_live.specs.declared.looked.Row.{Row}
use Rattle.sr_live.specs.declared.looking.Seen.{Seen}
use Rattle.sr_live.specs.First.{first_rows}
use Rattle.sr_live.specs.Looking.{Exchange, ListsPages, LooksEntries, ids_in, ids_within, is_past, last_of, listed_as}
use Rattle.sr_live.specs.Looking.{page, pending_call, start_after}
use Rattle.sr_live.specs.Reading.{Reads}
use Rattle.sr_live.specs.Said.{Delivered, SaysPending}

abbrev pub unlisted_of : Text → Listing
unlisted_of name = record { name = name; last = None; goes_on = true }

-- whether the consumer is listed up to this entry; to its end, if there is none
abbrev pub is_sure : Option Id → Listing → Bool
is_sure last one = not one.goes_on || is_past one.last last

abbrev pub are_sure : List Listing → Option Id → Bool
are_sure listings last = list_all (is_sure last) listings

-- these pages list this much: whole pages, whatever was looked at last; or full ones, which others can follow
abbrev pub ListsAs : Bool → Text → Text → Claimable → Text → Option Id → List Exchange → List Id → Type 0
ListsAs true key group claimable name after talk ids =
    (last : Option Id) → (others : List Exchange) → (rest : List Id)
    → ListsPages key group claimable name last after others rest
    → ListsPages key group claimable name last None (talk ++ others) (ids ++ rest)
ListsAs false key group claimable name after talk ids =
    (last : Option Id) → ListsPages key group claimable name last None talk ids

-- the same of several consumers, one after another, each entry with its owner
abbrev pub AreListed : Text → Text → Claimable → List Listing → List Exchange → List (Id × Text) → Type 0
AreListed key group claimable [] talk listed = (talk ≡ []) × (listed ≡ [])
AreListed key group claimable (one ∷ listings) talk listed =
    (own : List Exchange) × (others : List Exchange) × (ids : List Id) × (rest : List (Id × Text))
    × ListsAs one.goes_on key group claimable one.name one.last own ids
    × AreListed key group claimable listings others rest × (talk ≡ own ++ others)
    × (listed ≡ map (λ id. (id, one.name)) ids ++ rest)

-- one more page was listed
pub record ListsNext (key group : Text) (claimable : Claimable) (one now : Listing) (talk : List Exchange)
    (ids : List Id) : Type 0 where
  pub parts : List Part
  pub entries : List Delivered
  pub was_open : one.goes_on ≡ true
  pub calls : talk ≡ (pending_call key group claimable.idle (start_after one.last) one.name, parts) ∷ []
  pub says : SaysPending parts one.name entries
  pub within : ids ≡ ids_within claimable.most_deliveries entries
  pub goes_on : now.goes_on ≡ leb page (length entries)
  pub last : now.last ≡ last_of (ids_in entries) one.last

pub record ListsNone (one now : Listing) (talk : List Exchange) (ids : List Id) : Type 0 where
  pub calls : talk ≡ []
  pub none : ids ≡ []
  pub goes_on : now.goes_on ≡ one.goes_on
  pub last : now.last ≡ one.last

-- the consumer was listed further, or not
abbrev pub ListsOn : Text → Text → Claimable → Listing → Listing → List Exchange → List Id → Type 0
ListsOn key group claimable one now talk ids =
    (now.name ≡ one.name) × (ListsNone one now talk ids ⊎ ListsNext key group claimable one now talk ids)

-- each of these consumers was listed further, or not: whatever listed them before, these calls went on
pub record Widens (key group : Text) (claimable : Claimable) (listings wider : List Listing) (talk : List Exchange)
    (more : List (Id × Text)) : Type 0 where
  pub names : map (λ (one : Listing). one.name) wider ≡ map (λ (one : Listing). one.name) listings
  pub reads : AllByRecursion Reads (map (λ (exchange : Exchange). exchange.0) talk)
  pub lists : (own : List Exchange) → (listed : List (Id × Text)) → AreListed key group claimable listings own listed
      → (own_then : List Exchange) × (listed_then : List (Id × Text))
      × AreListed key group claimable wider own_then listed_then
      × IsPermutation (own ++ talk) own_then × IsPermutation (listed ++ more) listed_then

-- none of the entries comes before the last of the rows
abbrev pub Follow : List Row → List (Id × Text) → Type 0
Follow rows ahead = (i : ℕ) → (d : Id × Text) → i + 1 ≡ length rows → 0 < length ahead
    → is_below (slice_index_or ahead 0 d).0 (slice_index_or (map listed_as rows) i d).0 ≡ false

-- these rows were looked at when this many stranded entries were wanted, and this many more are; none are if the last
-- of the rows is the last that was wanted
abbrev pub Finds : ℕ → List Row → ℕ → Type 0
Finds wanted rows zero =
    (front : List Row) × (row : Row) × (rows ≡ front ++ row ∷ []) × (first_rows wanted rows ≡ (rows, Some row.id))
Finds wanted rows (suc more) =
    (later : List Row) → first_rows wanted (rows ++ later)
    ≡ (rows ++ (first_rows (suc more) later).0, (first_rows (suc more) later).1)

-- one pass: some pages, and then those entries before which nothing can be missing
pub record Passes (key group : Text) (claimable : Claimable) (talk : List Exchange) (seen now : Seen) : Type 0 where
  pub listing : List Exchange
  pub looking : List Exchange
  pub more : List (Id × Text)
  pub sorted : List (Id × Text)
  pub rows : List Row
  pub calls : talk ≡ listing ++ looking
  pub widens : Widens key group claimable seen.listings.items now.listings.items listing more
  pub same : IsPermutation (seen.ahead.items ++ more) sorted
  pub rising : IsSortedBy (λ a b. is_below a.0 b.0) sorted
  pub follow : Follow seen.found.rows.items sorted
  pub looks : LooksEntries key rows looking
  pub found : now.found.rows.items ≡ seen.found.rows.items ++ rows
  pub ahead : map listed_as rows ++ now.ahead.items ≡ sorted
  pub sure : All (λ row. are_sure now.listings.items (Some row.id) ≡ true) rows
  pub finds : Finds seen.found.wanted rows now.found.wanted
