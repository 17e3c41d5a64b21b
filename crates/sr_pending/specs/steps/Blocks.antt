-- A list as it is kept: closed blocks, and the open one behind them. No public clause cites it.

use Rattle.std.specs.Prelude.{◌≡◌, ℕ, ◌+◌, ◌-◌, ◌*◌, ◌^◌, ◌<◌, ◌≤◌, Bool, true, List, [], ◌++◌, Option, Some, None}
use Rattle.std.specs.Prelude.{length, take, map, get_or, slice_get, slice_set, refl}
use Rattle.std.specs.List.{All, flat_map}
use Rattle.std.specs.Coded.{Coded, code_by, coded×, coded_ℕ, coded_list}
use Rattle.std.specs.VecDeque.{deque_items, deque_capacity, deque_len}
use Rattle.std.specs.declared.collections.VecDeque.{VecDeque}
use Rattle.sr_pending.specs.declared.blocks.Place.{Place}
use Rattle.sr_pending.specs.declared.closed_blocks.TheConstants.{BLOCK, FREE}

-- what contracts see: the closed blocks, the open one, and for how many more elements there is room
pub record Laid (T : Type 0) : Type 0 where
  pub closed : List (List T)
  pub tail : List T
  pub room : ℕ

-- one is stored as the parts that it has
abbrev pub laid_code : {T : Type 0} → Coded T → Coded (Laid T)
laid_code {T} code =
    code_by
    (List (List T) × (List T × ℕ))
    (coded× (coded_list (coded_list code)) (coded× (coded_list code) coded_ℕ))
    (λ l. (l.closed, (l.tail, l.room)))
    (λ p. record { closed = p.0; tail = p.1.0; room = p.1.1 })
    (λ _. refl)

-- its elements
abbrev pub items_of : {T : Type 0} → Laid T → List T
items_of laid = flat_map (λ block. block) laid.closed ++ laid.tail

-- which element a place is the place of
abbrev pub at_of : {T : Type 0} → Place → Laid T → ℕ
at_of place laid = length (flat_map (λ block. block) (take place.block laid.closed)) + place.at

-- the place is one of an element in a closed block, or of one in the open block, or the end
pub record IsIn {T : Type 0} (place : Place) (laid : Laid T) : Type 0 where
  pub within : place.block ≤ length laid.closed
  pub in_closed : place.block < length laid.closed → place.at < length (get_or laid.closed place.block [])
  pub in_tail : length laid.closed ≤ place.block → place.at ≤ length laid.tail

-- it passes the test, if there is one
abbrev pub passes : {T : Type 0} → (T → Bool) → Option T → Bool
passes test None = true
passes test (Some value) = test value

-- whether a block ends with an element that passes the test, or has none
abbrev pub ends_in : {T : Type 0} → (T → Bool) → List T → Bool
ends_in test block = passes test (slice_get block (length block - 1))

module _ {T Z : Type 0} where
  -- what these blocks hold, one after the other
  abbrev pub held_in : List (VecDeque T Z) → List T
  held_in blocks = flat_map deque_items blocks

  -- no block is empty
  abbrev pub AreFilled : List (VecDeque T Z) → Type 0
  AreFilled blocks = All (λ block. 0 < length block.items) blocks

  -- a block that has nothing yet, and a place for each element that it is closed with, and for those that may come then
  abbrev pub IsSpare : VecDeque T Z → Type 0
  IsSpare block = (block.items ≡ []) × (BLOCK + FREE ≤ deque_capacity block)

  abbrev pub AreSpare : List (VecDeque T Z) → Type 0
  AreSpare blocks = All (λ block. IsSpare block) blocks

  -- no closed block is empty; the elements are counted; the spare blocks have nothing, and places among the closed
  -- ones; there is memory for the elements to come, and the open block has a place for the next one
  pub record IsLaid
      (closed : VecDeque (VecDeque T Z) Z) (tail : VecDeque T Z) (spare : VecDeque (VecDeque T Z) Z)
      (count room : ℕ) : Type 0 where
    pub filled : AreFilled closed.items
    pub counted : count ≡ length (held_in closed.items ++ tail.items)
    pub spares : AreSpare spare.items
    pub places : deque_len closed + deque_len spare ≤ deque_capacity closed
    pub fits : deque_len tail + room ≤ deque_capacity tail + BLOCK * deque_len spare
    pub ready : 0 < room → deque_len tail < deque_capacity tail
    pub small : count + room < 2 ^ 63

  -- the elements are the same, no less memory is free, and the open block has a free place if a block is still spare
  pub record Rotates
      (old new : VecDeque (VecDeque T Z) Z) (tail_old tail_new : VecDeque T Z)
      (spare_old spare_new : VecDeque (VecDeque T Z) Z) : Type 0 where
    pub items : held_in new.items ++ tail_new.items ≡ held_in old.items ++ tail_old.items
    pub filled : AreFilled new.items
    pub spares : AreSpare spare_new.items
    pub places : deque_len new + deque_len spare_new ≤ deque_capacity new
    pub fits : deque_len tail_new + (deque_capacity tail_old + BLOCK * deque_len spare_old) ≤
        deque_len tail_old + (deque_capacity tail_new + BLOCK * deque_len spare_new)
    pub ready : 0 < deque_len spare_new → deque_len tail_new < deque_capacity tail_new

  -- the elements of a block: none if there is no such block
  abbrev pub items_at : ℕ → List (VecDeque T Z) → List T
  items_at block blocks = get_or (map deque_items blocks) block []

  -- the block has a free place: what it lost went on to those behind it, and the elements are the same
  pub record MakesRoom
      (block : ℕ) (old new : VecDeque (VecDeque T Z) Z) (tail_old tail_new : VecDeque T Z) : Type 0 where
    pub is : VecDeque T Z
    pub here : slice_get new.items block ≡ Some is
    pub free : deque_len is < deque_capacity is
    pub kept : length (items_at block old.items) ≤ length is.items + 1
    pub items : held_in new.items ++ tail_new.items ≡ held_in old.items ++ tail_old.items
    pub before : take block new.items ≡ take block old.items
    pub blocks : deque_len new ≡ deque_len old
    pub places : deque_capacity new ≡ deque_capacity old
    pub filled : (filling : VecDeque T Z) → 0 < length filling.items → AreFilled (slice_set new.items block filling)
    pub len : deque_len tail_new ≤ deque_len tail_old + 1
    pub capacity : deque_capacity tail_new ≡ deque_capacity tail_old
