-- The groups of a stream by name, in byte order.
-- Source: Redis documentation, "Streams", section "Consumer groups", and the pages of XGROUP and XINFO GROUPS.

use Rattle.std.specs.Prelude.{⊤, ℕ, IsTrue, List, [], ◌∷◌, ◌++◌, Option, Some, None, Bool, not, if◌then◌else◌, map}
use Rattle.std.specs.Prelude.{filter}
use Rattle.std.specs.List.{list_any}
use Rattle.sr_bytes.specs.{comes_before}
use Rattle.sr_ids.specs.declared.id.Id.{Id}
use Rattle.sr_pending.specs.{is_same_name}
use Rattle.sr_group.specs.{GroupState, KeptGroup}

-- groups by name, in byte order: as they are shown, or as they are kept
abbrev pub ByName : Type 0 → Type 0
ByName G = List (List ℕ × G)

-- a group has this name
abbrev pub has_group : {G : Type 0} → List ℕ → ByName G → Bool
has_group name groups = list_any (λ named. is_same_name named.0 name) groups

-- the group of this name, if there is one
abbrev pub group_with : {G : Type 0} → List ℕ → ByName G → Option G
group_with name [] = None
group_with name (named ∷ groups) = if is_same_name named.0 name then Some named.1 else group_with name groups

-- the group is there under this name: those before it, the group, and those after it
abbrev pub with_group : {G : Type 0} → List ℕ → G → ByName G → ByName G
with_group name group groups =
    filter (λ other. comes_before other.0 name) groups ++ (name, group)
    ∷ filter (λ other. comes_before name other.0) groups

-- without the group of this name
abbrev pub without_group : {G : Type 0} → List ℕ → ByName G → ByName G
without_group name groups = filter (λ named. not (is_same_name named.0 name)) groups

-- the name comes before those of all groups
abbrev pub AreAfter : {G : Type 0} → List ℕ → ByName G → Type 0
AreAfter name [] = ⊤
AreAfter name (named ∷ groups) = IsTrue (comes_before name named.0) × AreAfter name groups

-- each name comes after those before it, in byte order
abbrev pub AreInOrder : {G : Type 0} → ByName G → Type 0
AreInOrder [] = ⊤
AreInOrder (named ∷ groups) = AreAfter named.0 groups × AreInOrder groups

-- what is shown of groups
abbrev pub shown_groups : ByName KeptGroup → ByName GroupState
shown_groups groups = map (λ named. (named.0, named.1.shown)) groups

-- the group of this name has delivered what lies up to the id; without such a group all stay
abbrev pub with_last : List ℕ → Id → ByName GroupState → ByName GroupState
with_last name id groups =
    map (λ named. if is_same_name named.0 name then (named.0, record named.1 { last = id }) else named) groups
