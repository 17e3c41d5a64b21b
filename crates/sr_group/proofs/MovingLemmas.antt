-- The room that moves need and use, and what a move leaves of a group.
use Rattle.std.proofs.Common.{◌≡◌, ◌≢◌, ℕ, ◌+◌, ◌^◌, ◌<◌, ◌≤◌, Bool, true, false, cond, not, nat_lt, List, [], ◌∷◌, ◌++◌, Option, Some, None, length, map, refl, ap, sym, ◌∙◌, arith}
use Rattle.std.specs.List.{All}
use Rattle.std.specs.Cmp.Lexicographic.{bytes_decides}
use Rattle.std.proofs.lemmas.List.Elements.{All-filter, All-weaker}
use Rattle.sr_ids.specs.declared.id.Id.{Id}
use Rattle.sr_entries.specs.declared.entry.Entry.{Entry}
use Rattle.sr_entries.specs.{has_id}
use Rattle.sr_pending.specs.declared.nack.Nack.{Nack}
use Rattle.sr_pending.specs.declared.room.Room.{Room}
use Rattle.sr_ids.specs.{is_same_id}
use Rattle.sr_pending.specs.{AreRising, IsCountable, is_same_name, redelivered, room_left}
use Rattle.sr_pending.specs.Pending.{HaveSameRooms, KeepsRooms, Releases, Reserves}
use Rattle.sr_pending.proofs.ChangeLemmas.{All-with_nack}
use Rattle.sr_group.specs.declared.claim.Claim.{Claim}
use Rattle.sr_group.specs.declared.consumer.Consumer.{Consumer}
use Rattle.sr_group.specs.declared.moving.Wanted.{Wanted}
use Rattle.sr_group.specs.Claim.{Fate, Skipped, Dropped, GivenOver, MoveState, after_claim, after_fate, after_move, after_moves, count_given, fate_of, fate_of_any, fate_with, time_given}
use Rattle.sr_group.specs.Group.{GroupState, IsGroup, IsOwned, IsSeen, has_consumer, idle_at, seen_at}
use Rattle.sr_group.specs.steps.Moving.{AddsRooms, HaveRooms, Spends, needed}
use Rattle.sr_group.proofs.ConsumerLemmas.{AreInOrder-seen_at, All-seen_at, has_consumer-seen, has_consumer-seen_at}

-- ---- room

-- what a move needs of this owner's room
abbrev part : List ℕ → MoveState → ℕ
part owner move = cond (is_same_name move.claimer owner) (length move.ids) 0

-- no moves need no room
pub HaveRooms-kept : (old new : List Room) → HaveRooms [] old new → KeepsRooms old new
HaveRooms-kept old new have owner = let all = have owner in omega (arith, all)

-- room for one move was added
pub AddsRooms-reserved : (move : MoveState) (n : ℕ) (old new : List Room) → n ≡ room_left move.claimer old + length move.ids → Reserves move.claimer n old new → AddsRooms (move ∷ []) old new
AddsRooms-reserved move n old new is reserves owner = by (is_same_name move.claimer owner) refl
  where
    by : (test : Bool) → is_same_name move.claimer owner ≡ test → room_left owner new ≡ room_left owner old + (cond test (length move.ids) 0 + 0)
    by true e =
        let same : move.claimer ≡ owner = (bytes_decides move.claimer owner).0 e in
        let all : room_left move.claimer new ≡ room_left move.claimer old + length move.ids = omega (arith, is, reserves.owners) in
        let own : room_left owner new ≡ room_left owner old + length move.ids = rw same at all in
        omega (arith, own)
    by false e =
        let apart : owner ≢ move.claimer = λ same. let yes : is_same_name move.claimer owner ≡ true = (bytes_decides move.claimer owner).1 (sym same) in let both = sym e ∙ yes in cc in
        let other = reserves.others owner apart in
        omega (arith, other)

-- it may be released then
pub AddsRooms-own : (move : MoveState) (base old now : List Room) → AddsRooms (move ∷ []) base old → HaveSameRooms old now → length move.ids ≤ room_left move.claimer now
AddsRooms-own move base old now added same =
    let all : room_left move.claimer old ≡ room_left move.claimer base + (part move.claimer move + 0) = added move.claimer in
    let own : part move.claimer move ≡ length move.ids = rw ((bytes_decides move.claimer move.claimer).1 refl) refl in
    omega (arith, all, own, same move.claimer)

-- and then there is the room that there was
pub HaveSameRooms-released : (move : MoveState) (base old now new : List Room) → AddsRooms (move ∷ []) base old → HaveSameRooms old now → Releases move.claimer (length move.ids) now new → HaveSameRooms base new
HaveSameRooms-released move base old now new added same released owner = by (is_same_name move.claimer owner) refl (added owner)
  where
    by : (test : Bool) → is_same_name move.claimer owner ≡ test → room_left owner old ≡ room_left owner base + (cond test (length move.ids) 0 + 0) → room_left owner new ≡ room_left owner base
    by true e all =
        let is : move.claimer ≡ owner = (bytes_decides move.claimer owner).0 e in
        let less : room_left move.claimer new + length move.ids ≡ room_left move.claimer now = released.owners in
        let own : room_left owner new + length move.ids ≡ room_left owner now = rw is at less in
        omega (arith, all, own, same owner)
    by false e all =
        let apart : owner ≢ move.claimer = λ is. let yes : is_same_name move.claimer owner ≡ true = (bytes_decides move.claimer owner).1 (sym is) in let both = sym e ∙ yes in cc in
        let other = released.others owner apart in
        omega (arith, all, other, same owner)

-- what is added to the room is room
pub HaveRooms-added : (moves : List MoveState) (old new : List Room) → AddsRooms moves old new → HaveRooms moves old new
HaveRooms-added moves old new added owner = omega (arith, added owner)

-- the first move has its room
pub HaveRooms-first : (move : MoveState) (moves : List MoveState) (base old : List Room) → HaveRooms (move ∷ moves) base old → length move.ids ≤ room_left move.claimer old
HaveRooms-first move moves base old have =
    let all : room_left move.claimer base + (part move.claimer move + needed move.claimer moves) ≤ room_left move.claimer old = have move.claimer in
    let own : part move.claimer move ≡ length move.ids = rw ((bytes_decides move.claimer move.claimer).1 refl) refl in
    omega (arith, all, own)

-- and leaves that of the others
pub HaveRooms-spent : (move : MoveState) (moves : List MoveState) (base old new : List Room) → HaveRooms (move ∷ moves) base old → Spends move.claimer (length move.ids) old new → HaveRooms moves base new
HaveRooms-spent move moves base old new have spends owner = by (is_same_name move.claimer owner) refl (have owner)
  where
    by : (test : Bool) → is_same_name move.claimer owner ≡ test → room_left owner base + (cond test (length move.ids) 0 + needed owner moves) ≤ room_left owner old → room_left owner base + needed owner moves ≤ room_left owner new
    by true e all =
        let same : move.claimer ≡ owner = (bytes_decides move.claimer owner).0 e in
        let spent : room_left move.claimer old ≤ room_left move.claimer new + length move.ids = spends.own in
        let own : room_left owner old ≤ room_left owner new + length move.ids = rw same at spent in
        omega (arith, all, own)
    by false e all =
        let apart : owner ≢ move.claimer = λ same. let yes : is_same_name move.claimer owner ≡ true = (bytes_decides move.claimer owner).1 (sym same) in let both = sym e ∙ yes in cc in
        let other = spends.others owner apart in
        omega (arith, all, other)

-- ---- what a move leaves

module _ (claim : Claim) (claimer : List ℕ) (moment : ℕ) (entries : List Entry) where
  -- what is given over becomes the claimer's
  given_owner : (nack other : Nack) → fate_of claim claimer moment entries nack ≡ GivenOver other → other.owner ≡ claimer
  given_owner nack other is = by (has_id nack.id entries) (nat_lt (idle_at moment nack) claim.least_idle) is
    where
      by : (there early : Bool) → cond (not there) Dropped (cond early Skipped (GivenOver (redelivered claimer (time_given moment claim.time) (count_given claim.count claim.just_ids nack.count) nack))) ≡ GivenOver other → other.owner ≡ claimer
      by false early e = cc
      by true true e = cc
      by true false e =
          let one : redelivered claimer (time_given moment claim.time) (count_given claim.count claim.just_ids nack.count) nack ≡ other = cc in
          ap (λ (n : Nack). n.owner) (sym one)

  owner_of_any : (found : Option Nack) (other : Nack) → fate_of_any claim claimer moment entries found ≡ GivenOver other → other.owner ≡ claimer
  owner_of_any None other is = cc
  owner_of_any (Some nack) other is = given_owner nack other is

  module _ (consumers : List Consumer) (there : has_consumer claimer consumers ≡ true) where
    owned-after_fate : (fate : Fate) (id : Id) (xs : List Nack) → fate_with claim claimer moment entries id xs ≡ fate → All (IsOwned consumers) xs → All (IsOwned consumers) (after_fate fate id xs)
    owned-after_fate Skipped id xs is owned = owned
    owned-after_fate Dropped id xs is owned = All-filter (λ n. not (is_same_id n.id id)) (IsOwned consumers) xs owned
    owned-after_fate (GivenOver nack) id xs is owned =
        let here : IsOwned consumers nack = rw (owner_of_any _ nack is) there in
        All-with_nack (IsOwned consumers) nack xs here owned

    owned-after_claim : (ids : List Id) (xs : List Nack) → All (IsOwned consumers) xs → All (IsOwned consumers) (after_claim claim claimer moment entries ids xs)
    owned-after_claim [] xs owned = owned
    owned-after_claim (id ∷ ids) xs owned = owned-after_claim ids _ (owned-after_fate (fate_with claim claimer moment entries id xs) id xs refl owned)

  -- the first of these entries was taken
  pub taken-first : (one : Wanted) (all left : List Wanted) (nacks now : List Nack) → all ≡ one ∷ left → now ≡ after_fate (fate_with claim claimer moment entries one.id nacks) one.id nacks
      → after_claim claim claimer moment entries (map (λ (w : Wanted). w.id) left) now ≡ after_claim claim claimer moment entries (map (λ (w : Wanted). w.id) all) nacks
  taken-first one all left nacks now items is =
      ap (after_claim claim claimer moment entries (map (λ (w : Wanted). w.id) left)) is
      ∙ ap (λ (l : List Wanted). after_claim claim claimer moment entries (map (λ (w : Wanted). w.id) l) nacks) (sym items)

  -- the claimer was seen, and got entries
  pub IsGroup-moved : (ids : List Id) (last : Id) (consumers seen : List Consumer) (nacks left : List Nack)
      → IsGroup (record { last = last; consumers = consumers; nacks = nacks }) → moment < 2 ^ 63 → seen ≡ seen_at claimer moment consumers
      → left ≡ after_claim claim claimer moment entries ids nacks → AreRising left → All IsCountable left → IsGroup (record { last = last; consumers = seen; nacks = left })
  IsGroup-moved ids last consumers seen nacks left old early is done rising countable = record {
    consumers = rw is (AreInOrder-seen_at claimer moment consumers old.consumers);
    seen = rw is (All-seen_at IsSeen claimer moment consumers early old.seen);
    rising = rising;
    countable = countable;
    owned = rw (is, done) (owned-after_claim (seen_at claimer moment consumers) (has_consumer-seen claimer moment consumers) ids nacks
        (All-weaker (IsOwned consumers) (IsOwned (seen_at claimer moment consumers)) (λ n owned. has_consumer-seen_at claimer n.owner moment consumers owned) nacks old.owned));
  }

-- the first of these moves was carried out
pub moved-first : (moment : ℕ) (entries : List Entry) (move : MoveState) (all left : List MoveState) (group now : GroupState) → all ≡ move ∷ left → now ≡ after_move moment entries group move
    → after_moves moment entries left now ≡ after_moves moment entries all group
moved-first moment entries move all left group now items is =
    ap (after_moves moment entries left) is ∙ ap (λ (l : List MoveState). after_moves moment entries l group) (sym items)

-- a group with the same consumers and pending entries, elsewhere
pub IsGroup-same : (last : Id) (consumers now : List Consumer) (nacks left : List Nack) → now ≡ consumers → left ≡ nacks
    → IsGroup (record { last = last; consumers = consumers; nacks = nacks }) → IsGroup (record { last = last; consumers = now; nacks = left })
IsGroup-same last consumers now nacks left same kept group = rw (same, kept) group

pub shown-same : (last : Id) (consumers now : List Consumer) (nacks left : List Nack) (group : GroupState) → now ≡ consumers → left ≡ nacks
    → record { last = last; consumers = consumers; nacks = nacks } ≡ group → record { last = last; consumers = now; nacks = left } ≡ group
shown-same last consumers now nacks left group same kept is = rw (same, kept) is

-- all moves were carried out
pub moved-all : (moment : ℕ) (entries : List Entry) (left items moves : List MoveState) (now first group : GroupState) → left ≡ [] → items ≡ moves → first ≡ group
    → after_moves moment entries left now ≡ after_moves moment entries items first → now ≡ after_moves moment entries moves group
moved-all moment entries left items moves now first group none read is moved =
    ap (λ (l : List MoveState). after_moves moment entries l now) (sym none)
    ∙ moved
    ∙ ap (λ (l : List MoveState). after_moves moment entries l first) read
    ∙ ap (after_moves moment entries moves) is

pub HaveRooms-same : (moves items : List MoveState) (base old new : List Room) → items ≡ moves → old ≡ base → HaveRooms moves old new → HaveRooms items base new
HaveRooms-same moves items base old new read is have owner = rw (read, ← is) (have owner)
