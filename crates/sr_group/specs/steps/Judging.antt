-- How the ids of a claim are judged, one after the other. No public clause cites it.

use Rattle.std.specs.Prelude.{◌≡◌, ℕ, ◌++◌, List, [], Option, Some, None, false, if◌then◌else◌}
use Rattle.std.specs.Option.{option_map}
use Rattle.std.specs.List.{All}
use Rattle.sr_ids.specs.declared.id.Id.{Id}
use Rattle.sr_entries.specs.declared.entry.Entry.{Entry}
use Rattle.sr_pending.specs.declared.nack.Nack.{Nack}
use Rattle.sr_ids.specs.{is_below, is_same_id}
use Rattle.sr_group.specs.declared.claim.Claim.{Claim}
use Rattle.sr_group.specs.declared.claim.Delivery.{Delivery}
use Rattle.sr_group.specs.declared.claim.Weighed.{Weighed}
use Rattle.sr_group.specs.declared.claim.Weighed.TheVariants.{Stays, Leaves, Moves}
use Rattle.sr_group.specs.declared.shown.Act.{Act}
use Rattle.sr_group.specs.declared.shown.Act.TheVariants.{Give, Touch, Forget, Only}
use Rattle.sr_group.specs.Claim.{Fate, Skipped, Dropped, GivenOver, after_claim, fate_with, after_fate, listed_claim}
use Rattle.sr_group.specs.Claim.{listed_with}
use Rattle.sr_group.specs.Shown.{after_acts, listed_of}
use Rattle.sr_group.specs.steps.Showing.{IsActOf}

-- the entry of an act
abbrev pub act_id : Act → Id
act_id (Give nack) = nack.id
act_id (Touch id time count) = id
act_id (Forget id) = id
act_id (Only listed) = listed.id

-- the act is not of an entry above this id
abbrev pub IsUpTo : Id → Act → Type 0
IsUpTo last act = is_below last (act_id act) ≡ false

-- what is done to a pending entry that has this fate
abbrev pub act_with : Fate → Id → Option Act
act_with Skipped id = None
act_with Dropped id = Some (Forget id)
act_with (GivenOver nack) id = Some (Give nack)

-- what is done to a pending entry that was judged so
abbrev pub act_judged : List ℕ → Id → Weighed → Option Act
act_judged claimer id Stays = None
act_judged claimer id Leaves = Some (Forget id)
act_judged claimer id (Moves delivery) =
    Some (Give (record { id = id; owner = claimer; time = delivery.time; count = delivery.count }))

-- when and how often a pending entry was delivered
abbrev pub delivery_of : Nack → Delivery
delivery_of nack = record { time = nack.time; count = nack.count }

-- a pending entry that was delivered so, to anybody
abbrev pub delivered : Id → Delivery → Nack
delivered id delivery = record { id = id; owner = []; time = delivery.time; count = delivery.count }

-- the delivery of the entry with this id after an act
abbrev pub delivery_after : Act → Id → Option Delivery → Option Delivery
delivery_after (Give nack) id before = if is_same_id id nack.id then Some (delivery_of nack) else before
delivery_after (Touch other time count) id before =
    if is_same_id id other then option_map (λ _. record { time = time; count = count }) before else before
delivery_after (Forget other) id before = if is_same_id id other then None else before
delivery_after (Only listed) id before = before

module _ (claim : Claim) (claimer : List ℕ) (moment : ℕ) (entries : List Entry) where
  -- one more id was judged: the acts do to the entry what its fate is, and list it so
  pub record Judges (nacks : List Nack) (id : Id) (old new : List Act) : Type 0 where
    pub after : after_acts new nacks ≡ after_fate (fate_with claim claimer moment entries id (after_acts old nacks)) id
        (after_acts old nacks)
    pub listed : listed_of new ≡ listed_of old
        ++ listed_with (fate_with claim claimer moment entries id (after_acts old nacks)) id
    pub own : All (IsActOf claimer) new

  -- the acts so far, and then the claim of the ids that are left, do what the claim of all ids does
  pub record IsJudged (nacks : List Nack) (ids left : List Id) (acts : List Act) : Type 0 where
    pub after : after_claim claim claimer moment entries left (after_acts acts nacks)
        ≡ after_claim claim claimer moment entries ids nacks
    pub listed : listed_of acts ++ listed_claim claim claimer moment entries left (after_acts acts nacks)
        ≡ listed_claim claim claimer moment entries ids nacks
    pub own : All (IsActOf claimer) acts
