-- Lists of ids, one for each consumer, that the entries of a plan are dealt to. No public clause cites this module.

use Rattle.std.specs.Prelude.{◌≡◌, ℕ, ◌+◌, ◌<◌, List, ◌++◌, length, get_or}
use Rattle.std.specs.Global.{Vec}
use Rattle.sr_ids.specs.declared.id.Id.{Id}
use Rattle.sr_plan.specs.Batches.{ids_for}

-- list c has the ids of the entries that go to consumer c, by id
pub record AreDealt (ids : List Id) (assign : List ℕ) (consumers : ℕ) (lists : List (Vec Id)) : Type 0 where
  pub count : length lists ≡ consumers
  pub each : (c : ℕ) (d : Vec Id) → c < consumers → (get_or lists c d).items ≡ ids_for ids assign c

-- the same once the entries that are left are dealt as well
pub record AreDealing (ids : List Id) (assign : List ℕ) (left : List Id) (places : List ℕ) (consumers : ℕ)
    (lists : List (Vec Id)) : Type 0 where
  pub count : length lists ≡ consumers
  pub each : (c : ℕ) (d : Vec Id) → c < consumers
      → (get_or lists c d).items ++ ids_for left places c ≡ ids_for ids assign c

-- the lists of the consumers from number c on
pub record AreLeft (ids : List Id) (assign : List ℕ) (c : ℕ) (consumers : ℕ) (lists : List (Vec Id)) : Type 0 where
  pub count : c + length lists ≡ consumers
  pub each : (k : ℕ) (d : Vec Id) → k < length lists → (get_or lists k d).items ≡ ids_for ids assign (c + k)
