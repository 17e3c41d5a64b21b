-- What a snapshot of a group shows: its stranded entries, and the consumers that could take them.
-- Source: docs/RECOVERY.md.

use Rattle.std.specs.Prelude.{◌≡◌, ℕ, ◌+◌, ◌-◌, ◌≤◌, IsTrue, List, length, All, Bool, Option, IfSome, nat_eq}
use Rattle.std.specs.List.{list_any}
use Rattle.std.specs.Cmp.Lexicographic.{pointwise}
use Rattle.sr_ids.specs.declared.id.Id.{Id}
use Rattle.sr_ids.specs.{IsBelow}
use Rattle.sr_policy.specs.declared.stranded.Stranded.{Stranded}
use Rattle.sr_policy.specs.declared.live.Live.{Live}
use Rattle.sr_policy.specs.Bounds.{most_consumers, most_classes, most_stranded}
use Rattle.sr_policy.specs.Bounds.{most_fee, most_limit, most_rate, most_weight}
use Rattle.sr_policy.specs.Rules.{Text}
pub use Rattle.sr_bytes.specs.Order.{comes_before, ComesBefore, AreInOrder}

-- the key and the group; the names of the dead consumers; the entries that are pending for them and still in the
-- stream, and those that are no longer in the stream, each with its owner; the consumers that could take them; and for
-- each class the rate of each of these consumers, None if it may not take the class. No times and no counts
pub record SnapshotState : Type 0 where
  pub key : Text
  pub group : Text
  pub dead : List Text
  pub stranded : List Stranded
  pub gone : List (Id × Text)
  pub live : List Live
  pub rates : List (Text × List (Option ℕ))

-- ids rise, so that each is there once
pub record AreIdsInOrder (shown : SnapshotState) : Type 0 where
  pub stranded : AreInOrder (λ a b. IsBelow a.id b.id) shown.stranded
  pub gone : AreInOrder (λ a b. IsBelow a.0 b.0) shown.gone

-- names rise, so that each is there once
pub record AreNamesInOrder (shown : SnapshotState) : Type 0 where
  pub dead : AreInOrder ComesBefore shown.dead
  pub live : AreInOrder (λ a b. ComesBefore a.name b.name) shown.live
  pub rates : AreInOrder (λ a b. ComesBefore a.0 b.0) shown.rates

-- the name is one of the names
abbrev pub is_among : List Text → Text → Bool
is_among names name = list_any (λ other. pointwise nat_eq other name) names

-- every owner is dead
pub record AreOwnersDead (shown : SnapshotState) : Type 0 where
  pub stranded : All (λ entry. IsTrue (is_among shown.dead entry.owner)) shown.stranded
  pub gone : All (λ entry. IsTrue (is_among shown.dead entry.1)) shown.gone

-- the weight of an entry
pub record IsWeight (weight : ℕ) : Type 0 where
  pub some : 1 ≤ weight
  pub small : weight ≤ most_weight

-- the rates of a class: one place for each consumer
pub record AreRates (consumers : ℕ) (rates : List (Option ℕ)) : Type 0 where
  pub places : length rates ≡ consumers
  pub small : All (λ rate. IfSome rate (λ n. n ≤ most_rate)) rates

-- the soft limit is not above the limit, and the fee is not too great
pub record IsTier (limit : ℕ) (tier : ℕ × ℕ) : Type 0 where
  pub soft : tier.0 ≤ limit
  pub fee : tier.1 ≤ most_fee

-- no list is too long, and no number too great; `*` may be there beside the classes of the policy
pub record IsWithinBounds (shown : SnapshotState) : Type 0 where
  pub few_stranded : length shown.stranded ≤ most_stranded
  pub few_live : length shown.live ≤ most_consumers
  pub few_classes : length shown.rates ≤ most_classes + 1
  pub weights : All (λ entry. IsWeight entry.weight) shown.stranded
  pub limits : All (λ consumer. consumer.limit ≤ most_limit) shown.live
  pub tiers : All (λ consumer. IfSome consumer.tier (IsTier consumer.limit)) shown.live
  pub rates : All (λ class. AreRates (length shown.live) class.1) shown.rates

-- these lists make a snapshot
pub record IsSnapshot (shown : SnapshotState) : Type 0 where
  pub ids : AreIdsInOrder shown
  pub names : AreNamesInOrder shown
  pub owners : AreOwnersDead shown
  pub bounds : IsWithinBounds shown

-- how many more entries may become pending for a consumer with this limit
abbrev pub places_left : ℕ → ℕ → ℕ
places_left limit pending = limit - pending
