-- How a scan looks at pending entries. No public clause cites it.

use Rattle.std.specs.Prelude.{◌≡◌, ℕ, ◌-◌, ◌*◌, ◌++◌, List, length, map, take, drop}
use Rattle.sr_ids.specs.declared.id.Id.{Id}
use Rattle.sr_entries.specs.declared.entry.Entry.{Entry}
use Rattle.sr_pending.specs.declared.nack.Nack.{Nack}
use Rattle.sr_group.specs.declared.claim.Claim.{Claim}
use Rattle.sr_group.specs.Claim.{id_behind, scanned, up_to_taken}

module _ (claim : Claim) (claimer : List ℕ) (moment : ℕ) (entries : List Entry) (count : ℕ) (found : List Nack) where
  -- these ids, and then those of the entries that are still to be looked at, are those that the scan looks at
  pub record IsLooked (ids : List Id) (left : ℕ) (rest : List Nack) : Type 0 where
    pub all : ids ++ map (λ nack. nack.id)
        (up_to_taken claim claimer moment entries left (take (10 * count - length ids) rest))
        ≡ map (λ nack. nack.id) (scanned claim claimer moment entries count found)
    pub behind : drop (length ids) found ≡ rest

  -- these are the ids that the scan looks at, and the next one behind them
  pub record IsScan (ids : List Id) (next : Id) : Type 0 where
    pub all : ids ≡ map (λ nack. nack.id) (scanned claim claimer moment entries count found)
    pub behind : next ≡ id_behind (length (scanned claim claimer moment entries count found)) found
