-- Rooms of owners: what a loop has counted, and what using one or adding to one leaves.
use Rattle.std.proofs.Common.{◌≡◌, ℕ, ◌+◌, ◌<◌, ◌≤◌, ◌≢◌, Bool, true, false, cond, List, ◌∷◌, [], ◌++◌, length, get_or, take, set, slice_get, Some, refl, ap, sym, ◌∙◌, subst, arith}
use Rattle.std.specs.List.{sum_by, remove}
use Rattle.std.proofs.lemmas.List.Sums.{sum_by-set, sum_by-remove, sum_by_push, sum_by_more, get_or-le-sum_by}
use Rattle.std.proofs.lemmas.Option.{slice_get_within, get_or_from_slice_get}
use Rattle.std.specs.Cmp.Lexicographic.{bytes_decides}
use Rattle.sr_pending.specs.declared.room.Room.{Room}
use Rattle.sr_pending.specs.Pending.{UsesRoom, is_same_name, room_left}
use Rattle.sr_pending.specs.steps.Room.{AddsRoom, rooms_in_all}

-- what a room counts for this owner
abbrev pub part : List ℕ → Room → ℕ
part owner room = cond (is_same_name room.owner owner) room.left 0

abbrev left : Room → ℕ
left room = room.left

pub part-le : (owner : List ℕ) (room : Room) → part owner room ≤ room.left
part-le owner room = by (is_same_name room.owner owner)
  where
    by : (test : Bool) → cond test room.left 0 ≤ room.left
    by true = omega arith
    by false = omega arith

part-same : (owner : List ℕ) (room : Room) → is_same_name room.owner owner ≡ true → part owner room ≡ room.left
part-same owner room same = rw same

part-none : (owner : List ℕ) (room : Room) → is_same_name room.owner owner ≡ false → part owner room ≡ 0
part-none owner room apart = rw apart refl

part-other : (owner other : List ℕ) (room : Room) → is_same_name room.owner owner ≡ true → other ≢ owner → part other room ≡ 0
part-other owner other room same apart = by (is_same_name room.owner other) refl
  where
    by : (test : Bool) → is_same_name room.owner other ≡ test → cond test room.left 0 ≡ 0
    by true e = absurd (apart (sym ((bytes_decides room.owner other).0 e) ∙ (bytes_decides room.owner owner).0 same))
    by false e = refl

-- what one more room adds to this owner's
pub room_left-more : (owner : List ℕ) (rooms : List Room) (i : ℕ) (room : Room) → i < length rooms → room ≡ get_or rooms i room → (had all : ℕ) (test : Bool) → had ≡ room_left owner (take i rooms) → test ≡ is_same_name room.owner owner → (test ≡ true → all ≡ had + room.left → all ≡ room_left owner (take (i + 1) rooms)) × (test ≡ false → all ≡ had → all ≡ room_left owner (take (i + 1) rooms))
room_left-more owner rooms i room within read had all test counted tests =
    let more : room_left owner (take (i + 1) rooms) ≡ room_left owner (take i rooms) + part owner room = sum_by_more (part owner) rooms i room within ∙ ap (λ (r : Room). room_left owner (take i rooms) + part owner r) (sym read) in
    ((λ yes is. omega (arith, more, part-same owner room (sym tests ∙ yes), counted, is)), (λ no is. omega (arith, more, part-none owner room (sym tests ∙ no), counted, is)))

-- one room changes, goes or comes
changed : (f : Room → ℕ) (old new : List Room) (i : ℕ) (room then : Room) → slice_get old i ≡ Some room → new ≡ set old i then → sum_by f new + f room ≡ sum_by f old + f then
changed f old new i room then here is =
    let read : get_or old i room ≡ room = get_or_from_slice_get old i room room here in
    let step = sum_by-set f old i then room (slice_get_within old i room here) in
    rw is (subst (λ (r : Room). sum_by f (set old i then) + f r ≡ sum_by f old + f then) read step)

gone : (f : Room → ℕ) (old new : List Room) (i : ℕ) (room : Room) → slice_get old i ≡ Some room → new ≡ remove old i → sum_by f new + f room ≡ sum_by f old
gone f old new i room here is =
    let read : get_or old i room ≡ room = get_or_from_slice_get old i room room here in
    let step = sum_by-remove f old i room (slice_get_within old i room here) in
    rw is (subst (λ (r : Room). sum_by f (remove old i) + f r ≡ sum_by f old) read step)

module _ (owner : List ℕ) (old new : List Room) (i : ℕ) (room : Room) (here : slice_get old i ≡ Some room) (same : is_same_name room.owner owner ≡ true) where
  pub UsesRoom-remove : room.left ≡ 1 → new ≡ remove old i → UsesRoom owner old new
  UsesRoom-remove one is = record {
    used = omega (arith, gone (part owner) old new i room here is, part-same owner room same);
    others = λ other apart. omega (arith, gone (part other) old new i room here is, part-other owner other room same apart);
  }

  pub rooms_in_all-remove : room.left ≡ 1 → new ≡ remove old i → rooms_in_all new + 1 ≡ rooms_in_all old
  rooms_in_all-remove one is = omega (arith, gone left old new i room here is)

  module _ (then : Room) (owned : then.owner ≡ room.owner) (is : new ≡ set old i then) where
    still : is_same_name then.owner owner ≡ true
    still = rw owned same

    pub UsesRoom-set : then.left + 1 ≡ room.left → UsesRoom owner old new
    UsesRoom-set less = record {
      used = omega (arith, changed (part owner) old new i room then here is, part-same owner room same, part-same owner then still);
      others = λ other apart. omega (arith, changed (part other) old new i room then here is, part-other owner other room same apart, part-other owner other then still apart);
    }

    pub rooms_in_all-set : then.left + 1 ≡ room.left → rooms_in_all new + 1 ≡ rooms_in_all old
    rooms_in_all-set less = omega (arith, changed left old new i room then here is)

    pub AddsRoom-set : (more : ℕ) → then.left ≡ room.left + more → AddsRoom owner more old new
    AddsRoom-set more grows = record {
      added = omega (arith, changed (part owner) old new i room then here is, part-same owner room same, part-same owner then still);
      others = λ other apart. omega (arith, changed (part other) old new i room then here is, part-other owner other room same apart, part-other owner other then still apart);
      in_all = omega (arith, changed left old new i room then here is);
    }

pub AddsRoom-push : (owner : List ℕ) (more : ℕ) (old new : List Room) (room : Room) → room.owner ≡ owner → room.left ≡ more → new ≡ old ++ room ∷ [] → AddsRoom owner more old new
AddsRoom-push owner more old new room owned is_more is =
    let same : is_same_name room.owner owner ≡ true = (bytes_decides room.owner owner).1 owned in
    let pushed : (f : Room → ℕ) → sum_by f new ≡ sum_by f old + f room = λ f. rw is (sum_by_push f old room) in
    record {
      added = omega (arith, pushed (part owner), part-same owner room same);
      others = λ other apart. omega (arith, pushed (part other), part-other owner other room same apart);
      in_all = omega (arith, pushed left);
    }

-- one room is no more than all
pub left-le : (rooms : List Room) (i : ℕ) (room : Room) → slice_get rooms i ≡ Some room → room.left ≤ rooms_in_all rooms
left-le rooms i room here =
    let P : Room → Type 0 = λ r. r.left ≤ rooms_in_all rooms in
    subst P (get_or_from_slice_get rooms i room room here) (get_or-le-sum_by left rooms i room (slice_get_within rooms i room here))
