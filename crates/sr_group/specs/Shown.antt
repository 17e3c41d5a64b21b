-- What a call shows of a group: its effect, which takes no memory, and what is replied.

use Rattle.std.specs.Prelude.{◌⊎◌, ◌+◌, ℕ, ◌<◌, ◌≤◌, IsTrue, List, [], ◌∷◌, true, false}
use Rattle.sr_ids.specs.declared.id.Id.{Id}
use Rattle.sr_pending.specs.{room_left, with_nack}
use Rattle.sr_pending.specs.Pending.{touched, without}
use Rattle.sr_pending.specs.declared.nack.Nack.{Nack}
use Rattle.sr_group.specs.declared.shown.Act.{Act}
use Rattle.sr_group.specs.declared.shown.Act.TheVariants.{Give, Touch, Forget, Only}
use Rattle.sr_group.specs.declared.shown.Listed.{Listed}
use Rattle.sr_group.specs.Group.{GroupState, KeptGroup, has_consumer, seen_at}

-- a call of a consumer: the moment at which it is seen by it, the id that was delivered last after it, and what it does
-- to pending entries one after the other
pub record ShownState : Type 0 where
  pub consumer : List ℕ
  pub moment : ℕ
  pub last : Id
  pub acts : List Act

-- the pending entries after these acts
abbrev pub after_acts : List Act → List Nack → List Nack
after_acts [] nacks = nacks
after_acts (Give nack ∷ acts) nacks = after_acts acts (with_nack nack nacks)
after_acts (Touch id time count ∷ acts) nacks = after_acts acts (touched id time count nacks)
after_acts (Forget id ∷ acts) nacks = after_acts acts (without id nacks)
after_acts (Only listed ∷ acts) nacks = after_acts acts nacks

-- what they list, in order: an entry that leaves the pending list was not found
abbrev pub listed_of : List Act → List Listed
listed_of [] = []
listed_of (Give nack ∷ acts) = record { id = nack.id; found = true } ∷ listed_of acts
listed_of (Touch id time count ∷ acts) = record { id = id; found = true } ∷ listed_of acts
listed_of (Forget id ∷ acts) = record { id = id; found = false } ∷ listed_of acts
listed_of (Only listed ∷ acts) = listed ∷ listed_of acts

-- how many entries become the consumer's
abbrev pub gifts : List Act → ℕ
gifts [] = 0
gifts (Give nack ∷ acts) = gifts acts + 1
gifts (Touch id time count ∷ acts) = gifts acts
gifts (Forget id ∷ acts) = gifts acts
gifts (Only listed ∷ acts) = gifts acts

-- the group after the call is shown
abbrev pub after_showing : ShownState → GroupState → GroupState
after_showing shown group = record {
  last = shown.last;
  consumers = seen_at shown.consumer shown.moment group.consumers;
  nacks = after_acts shown.acts group.nacks;
}

-- the group has room for what is shown: for each entry that becomes the consumer's, and for the consumer if it is not
-- there
pub record HasRoomFor (shown : ShownState) (group : KeptGroup) : Type 0 where
  pub entries : gifts shown.acts ≤ room_left shown.consumer group.rooms
  pub consumer : IsTrue (has_consumer shown.consumer group.shown.consumers) ⊎ (0 < group.places)
