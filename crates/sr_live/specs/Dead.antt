-- Who is dead: a consumer that was not seen for some time, and for which an entry is pending that has been idle for as
-- long.
-- Source: docs/LIVE.md; Redis documentation, commands XINFO CONSUMERS and XPENDING.

use Rattle.std.specs.Prelude.{◌≡◌, ◌⊎◌, ℕ, ◌<◌, ◌≤◌, nat_le, Bool, true, false, ◌&&◌, List, [], ◌∷◌, ◌++◌, codes}
use Rattle.std.specs.Prelude.{decimal, if◌then◌else◌}
use Rattle.sr_policy.specs.{Text}
use Rattle.sr_peer.specs.{Part}
use Rattle.sr_live.specs.Looked.{number_of}
use Rattle.sr_live.specs.Looking.{Exchange, consumers_call, numbers_call}
use Rattle.sr_live.specs.Said.{Delivered, SaysIdle, SaysNumbers, SaysPending}

-- ---- the rule

abbrev pub has_any : List Delivered → Bool
has_any [] = false
has_any (entry ∷ entries) = true

-- a consumer is dead if entries are pending for it that have been idle for at least so many milliseconds, and it has
-- itself been idle for at least as long
abbrev pub is_dead : ℕ → ℕ → List Delivered → Bool
is_dead after idle old = has_any old && nat_le after idle

-- its name, if it is dead
abbrev pub name_of_dead : ℕ → Text × ℕ → List Delivered → List Text
name_of_dead after consumer old = if is_dead after consumer.1 old then consumer.0 ∷ [] else []

-- ---- how it is found out

-- whether entries are pending for a consumer that have been idle for at least so many milliseconds: one is enough
abbrev pub old_words : Text → Text → Text → Text → List Text
old_words key group after name =
    codes "XPENDING" ∷ key ∷ group ∷ codes "IDLE" ∷ after ∷ codes "-" ∷ codes "+" ∷ codes "1" ∷ name ∷ []

abbrev pub old_call : Text → Text → ℕ → Text → List Text
old_call key group after name = old_words key group (decimal after) name

-- a consumer that was seen lately, or for which nothing is pending, is not asked for; of any other one the reply says
-- which such entries there are
abbrev pub LooksOld : Text → Text → ℕ → List (Text × ℕ) → Text × ℕ → List Delivered → List Exchange → Type 0
LooksOld key group after numbers consumer old talk =
    (((consumer.1 < after) ⊎ (number_of numbers consumer.0 ≡ 0)) × (old ≡ []) × (talk ≡ []))
    ⊎ ((after ≤ consumer.1) × (0 < number_of numbers consumer.0) × (parts : List Part)
    × SaysPending parts consumer.0 old × (talk ≡ (old_call key group after consumer.0, parts) ∷ []))

-- these consumers were looked at, one after another, and these of them are dead, and no others
abbrev pub FindsEach : Text → Text → ℕ → List (Text × ℕ) → List (Text × ℕ) → List Exchange → List Text → Type 0
FindsEach key group after numbers [] talk dead = (talk ≡ []) × (dead ≡ [])
FindsEach key group after numbers (consumer ∷ consumers) talk dead =
    (old : List Delivered) × (own : List Exchange) × (others : List Exchange) × (rest : List Text)
    × LooksOld key group after numbers consumer old own × FindsEach key group after numbers consumers others rest
    × (talk ≡ own ++ others) × (dead ≡ name_of_dead after consumer old ++ rest)

-- all consumers of the group were looked at, each for as long as the first reply says that it has been idle, and with
-- as many entries as the second one says
pub record FindsDead (key group : Text) (after : ℕ) (talk : List Exchange) (dead : List Text) : Type 0 where
  pub parts : List Part
  pub counts : List Part
  pub consumers : List (Text × ℕ)
  pub numbers : List (Text × ℕ)
  pub asking : List Exchange
  pub says : SaysIdle parts consumers
  pub says_numbers : SaysNumbers counts numbers
  pub finds : FindsEach key group after numbers consumers asking dead
  pub spelled : talk ≡ (consumers_call key group, parts) ∷ (numbers_call key group, counts) ∷ asking
