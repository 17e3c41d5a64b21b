-- How a queue of sessions is kept: in slots, of which some are empty, with the place of each session in a map. No
-- public clause cites this.
--
-- By hand: 7, 8 and 9 come, and are at the places 0, 1 and 2. If 8 goes, the slots are 7, empty, 9; if it comes again,
-- 7, empty, 9, 8, and it goes last. After 7 and 9 go, three slots are empty and one is taken: they are closed up, and 8
-- is at the place 0.
use Rattle.std.specs.Prelude.{◌≡◌, ℕ, suc, ◌≤◌, List, [], ◌∷◌, length, take, filter, not, nat_eq, ◌==◌, refl}
use Rattle.std.specs.Prelude.{Option, Some, None, is_some, if◌then◌else◌}
use Rattle.std.specs.Coded.{Coded, code_by, coded×, coded_ℕ, coded_list}
use Rattle.std.specs.HashMap.{HashMap, get, hash_map_len, spare}
use Rattle.std.specs.List.{IsDistinct}
use Rattle.std.specs.Map.{keys_of}
use Rattle.std.specs.Option.{option_map}

-- what contracts see: the sessions with their values, in their order, and for how many more there is room
pub record QueueState (T : Type 0) : Type 0 where
  pub entries : List (ℕ × T)
  pub room : ℕ

-- one is stored as the parts that it has
abbrev pub queue_code : {T : Type 0} → Coded T → Coded (QueueState T)
queue_code {T} code =
    code_by
    (List (ℕ × T) × ℕ)
    (coded× (coded_list (coded× coded_ℕ code)) coded_ℕ)
    (λ q. (q.entries, q.room))
    (λ p. record { entries = p.0; room = p.1 })
    (λ _. refl)

-- a place, or another if there is none
abbrev pub or_place : Option ℕ → Option ℕ → Option ℕ
or_place (Some place) other = Some place
or_place None other = other

module _ {T : Type 0} where
  -- without the session
  abbrev pub without_entry : ℕ → List (ℕ × T) → List (ℕ × T)
  without_entry session entries = filter (λ entry. not (entry.0 == session)) entries

  -- the entries of the slots that are taken
  abbrev pub taken : List (Option (ℕ × T)) → List (ℕ × T)
  taken [] = []
  taken (None ∷ slots) = taken slots
  taken (Some entry ∷ slots) = entry ∷ taken slots

  -- the place of the first slot that the session has
  abbrev pub place_of : ℕ → List (Option (ℕ × T)) → Option ℕ
  place_of session [] = None
  place_of session (None ∷ slots) = option_map suc (place_of session slots)
  place_of session (Some entry ∷ slots) =
      if nat_eq session entry.0 then Some 0 else option_map suc (place_of session slots)

  module _ {S : Type 0} where
    -- the map has the place of each session
    abbrev pub ArePlaced : HashMap ℕ ℕ S → List (Option (ℕ × T)) → Type 0
    ArePlaced places slots = (session : ℕ) → get nat_eq places session ≡ place_of session slots

    -- it has no other place; each session is there once; and no slot before the first is taken
    pub record IsQueued (slots : List (Option (ℕ × T))) (places : HashMap ℕ ℕ S) (first : ℕ) : Type 0 where
      pub placed : ArePlaced places slots
      pub counted : hash_map_len places ≡ length (taken slots)
      pub once : IsDistinct nat_eq (keys_of (taken slots))
      pub blank : taken (take first slots) ≡ []
      pub within : first ≤ length slots

    -- it has a place for each session in the slots, whichever, and for no other
    abbrev pub HasEach : HashMap ℕ ℕ S → List (Option (ℕ × T)) → Type 0
    HasEach places slots = (session : ℕ) → is_some (get nat_eq places session) ≡ is_some (place_of session slots)

    -- it has the places of the sessions in the slots up to an index, and those that it had before of the others
    pub record AreNumbered (slots : List (Option (ℕ × T))) (index : ℕ) (before places : HashMap ℕ ℕ S) : Type 0 where
      pub placed : (session : ℕ) → get nat_eq places session
          ≡ or_place (place_of session (take index slots)) (get nat_eq before session)
      pub len : hash_map_len places ≡ hash_map_len before
      pub room : spare places ≡ spare before
