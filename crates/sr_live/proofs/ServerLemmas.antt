-- What is looked up of a group at one moment gives the snapshot that the server takes of it.
use Rattle.std.proofs.Common.{◌≡◌, ℕ, List, [], ◌∷◌, ◌++◌, length, map, Bool, true, false, cond, not, ◌||◌, is_some}
use Rattle.std.proofs.Common.{Option, Some, None, option_map, refl, sym, ap, ◌∙◌}
use Rattle.std.specs.List.{All, filter, flat_map}
use Rattle.std.proofs.lemmas.List.Elements.{All-head, All-tail}
use Rattle.sr_ids.specs.declared.id.Id.{Id}
use Rattle.sr_entries.specs.declared.entry.Entry.{Entry}
use Rattle.sr_ids.specs.{is_same_id}
use Rattle.sr_entries.specs.{entry_with, has_id}
use Rattle.sr_pending.specs.declared.nack.Nack.{Nack}
use Rattle.sr_pending.specs.{owned_by}
use Rattle.sr_policy.specs.declared.live.Live.{Live}
use Rattle.sr_policy.specs.declared.stranded.Stranded.{Stranded}
use Rattle.sr_policy.specs.{Text, consumers_of, live_of, SnapshotState, is_among}
use Rattle.sr_policy.specs.Rules.{Rules}
use Rattle.sr_space.specs.Snap as server
use Rattle.sr_space.specs.{listed, shown_with}
use Rattle.sr_space.specs.Snap.{gone_in, live_in, of_dead, rates_in, stranded_in}
use Rattle.sr_live.specs.declared.looked.Row.{Row}
use Rattle.sr_live.specs.Looked.{gone_as, gone_of, is_seen, live_by, live_named, number_of, shown_by, stranded_as}
use Rattle.sr_live.specs.Looked.{stranded_by}
use Rattle.sr_live.specs.Server.{AreCounted, row_of}

-- ---- the stranded entries

stranded_as-same : (rules : Rules) (nack : Nack) (found : Option Entry)
    → stranded_as rules nack.id nack.owner (option_map (λ (entry : Entry). entry.fields) found)
    ≡ server.stranded_as rules nack found
stranded_as-same rules nack None = refl
stranded_as-same rules nack (Some entry) = refl

stranded-same : (rules : Rules) (entries : List Entry) (nacks : List Nack)
    → flat_map (stranded_by rules) (map (row_of entries) nacks)
    ≡ flat_map (λ (nack : Nack). server.stranded_as rules nack (entry_with nack.id entries)) nacks
stranded-same rules entries [] = refl
stranded-same rules entries (nack ∷ nacks) =
    let found = entry_with nack.id entries in
    ap (λ (one : List Stranded). one ++ flat_map (stranded_by rules) (map (row_of entries) nacks))
    (stranded_as-same rules nack found)
    ∙ ap (λ (rest : List Stranded). server.stranded_as rules nack found ++ rest) (stranded-same rules entries nacks)

-- ---- the entries that are gone

-- an entry has the id exactly if one is found by it
has_id-found : (id : Id) (entries : List Entry) → has_id id entries ≡ is_some (entry_with id entries)
has_id-found id [] = refl
has_id-found id (entry ∷ entries) = by (is_same_id entry.id id) (has_id-found id entries)
  where
    by : (test : Bool) → has_id id entries ≡ is_some (entry_with id entries)
        → (test || has_id id entries) ≡ is_some (cond test (Some entry) (entry_with id entries))
    by true rest = refl
    by false rest = rest

abbrev pair_of : Nack → Id × Text
pair_of nack = (nack.id, nack.owner)

-- one more entry, which is listed if it is gone
gone-next : (nack : Nack) (found : Option Entry) (rest : List (Id × Text)) (nacks : List Nack)
    → rest ≡ map pair_of nacks
    → gone_as nack.id nack.owner (option_map (λ (entry : Entry). entry.fields) found) ++ rest
    ≡ map pair_of (cond (not (is_some found)) (nack ∷ nacks) nacks)
gone-next nack None rest nacks same = ap (λ (gone : List (Id × Text)). pair_of nack ∷ gone) same
gone-next nack (Some entry) rest nacks same = same

gone-same : (entries : List Entry) (nacks : List Nack)
    → flat_map gone_of (map (row_of entries) nacks)
    ≡ map pair_of (filter (λ (nack : Nack). not (has_id nack.id entries)) nacks)
gone-same entries [] = refl
gone-same entries (nack ∷ nacks) =
    let gone = filter (λ (other : Nack). not (has_id other.id entries)) nacks in
    gone-next nack (entry_with nack.id entries) (flat_map gone_of (map (row_of entries) nacks)) gone
    (gone-same entries nacks)
    ∙ ap (λ (test : Bool). map pair_of (cond (not test) (nack ∷ gone) gone)) (sym (has_id-found nack.id entries))

-- ---- the live consumers

abbrev IsCounted : List Nack → List (Text × ℕ) → Text → Type 0
IsCounted nacks numbers name = number_of numbers name ≡ length (owned_by name nacks)

-- the consumer as a live one
abbrev live_with : Rules → List Nack → Text → List Live
live_with rules nacks name = listed (live_of rules name (length (owned_by name nacks)))

-- one more consumer, which is listed unless it is dead
live-next : (rules : Rules) (nacks : List Nack) (numbers : List (Text × ℕ)) (name : Text) (names : List Text)
    (rest : List Live) (is_dead : Bool) → All (IsCounted nacks numbers) (cond (not is_dead) (name ∷ names) names)
    → (All (IsCounted nacks numbers) names → rest ≡ flat_map (live_with rules nacks) names)
    → cond (not is_dead) (listed (live_of rules name (number_of numbers name))) [] ++ rest
    ≡ flat_map (live_with rules nacks) (cond (not is_dead) (name ∷ names) names)
live-next rules nacks numbers name names rest true counted same = same counted
live-next rules nacks numbers name names rest false counted same =
    ap (λ (n : ℕ). listed (live_of rules name n) ++ rest) (All-head (IsCounted nacks numbers) name names counted)
    ∙ ap (λ (live : List Live). live_with rules nacks name ++ live)
    (same (All-tail (IsCounted nacks numbers) name names counted))

live-same : (rules : Rules) (dead : List Text) (nacks : List Nack) (idles numbers : List (Text × ℕ)) (names : List Text)
    → All (IsCounted nacks numbers) (filter (λ (name : Text). not (is_among dead name)) names)
    → flat_map (live_named rules dead (is_seen None idles) numbers) names
    ≡ flat_map (live_with rules nacks) (filter (λ (name : Text). not (is_among dead name)) names)
live-same rules dead nacks idles numbers [] counted = refl
live-same rules dead nacks idles numbers (name ∷ names) counted =
    live-next rules nacks numbers name (filter (λ (other : Text). not (is_among dead other)) names)
    (flat_map (live_named rules dead (is_seen None idles) numbers) names) (is_among dead name) counted
    (live-same rules dead nacks idles numbers names)

-- ---- the whole

-- the snapshot with these entries and consumers
abbrev shown_from : Rules → Text → Text → List Text → List Stranded → List (Id × Text) → List Live → SnapshotState
shown_from rules key group dead stranded gone live = record {
  key = key;
  group = group;
  dead = dead;
  stranded = stranded;
  gone = gone;
  live = live;
  rates = rates_in rules live stranded;
}

pub shown-same : (rules : Rules) (key group : Text) (dead : List Text) (idles numbers : List (Text × ℕ)) (rows : List Row)
    (entries : List Entry) (nacks : List Nack) → AreCounted rules dead nacks numbers
    → rows ≡ map (row_of entries) (of_dead dead nacks)
    → shown_by rules key group dead (is_seen None idles) numbers rows ≡ shown_with rules key group dead entries nacks
shown-same rules key group dead idles numbers rows entries nacks counted looked =
    let left = of_dead dead nacks in
    let live = live_by rules dead (is_seen None idles) numbers in
    let gone = flat_map gone_of (map (row_of entries) left) in
    ap (λ (looked : List Row). shown_by rules key group dead (is_seen None idles) numbers looked) looked
    ∙ ap (λ (stranded : List Stranded). shown_from rules key group dead stranded gone live)
    (stranded-same rules entries left)
    ∙ ap (λ (gone : List (Id × Text)). shown_from rules key group dead (stranded_in rules dead entries nacks) gone live)
    (gone-same entries left)
    ∙ ap (λ (live : List Live). shown_from rules key group dead (stranded_in rules dead entries nacks)
    (gone_in dead entries nacks) live) (live-same rules dead nacks idles numbers (consumers_of rules) counted)
