-- What it does to the pending entries that one more id is judged.
use Rattle.std.proofs.Common.{◌≡◌, ℕ, suc, ◌+◌, ◌-◌, ◌<◌, ◌≤◌, ◌^◌, Bool, true, false, cond, not, nat_lt, List, [], ◌∷◌, ◌++◌, length, get_or, slice_index_or, drop, Option, Some, None, refl, ap, sym, ◌∙◌, append-nil, append_assoc, arith}
use Rattle.std.specs.Option.{option_map}
use Rattle.std.specs.List.{All}
use Rattle.std.proofs.Math.Seq.{drop-cons}
use Rattle.std.proofs.lemmas.Bool.Decides.{nat_tests}
use Rattle.std.proofs.lemmas.List.Elements.{All-head, All-tail, All-filter, All-push}
use Rattle.sr_ids.specs.declared.id.Id.{Id}
use Rattle.sr_entries.specs.declared.entry.Entry.{Entry}
use Rattle.sr_entries.specs.{has_id}
use Rattle.sr_pending.specs.declared.nack.Nack.{Nack}
use Rattle.sr_ids.specs.{is_below}
use Rattle.sr_pending.specs.{IsCountable, nack_with, redelivered}
use Rattle.sr_pending.proofs.ChangeLemmas.{All-with_nack, All-changed}
use Rattle.sr_group.specs.declared.claim.Claim.{Claim}
use Rattle.sr_group.specs.declared.claim.Delivery.{Delivery}
use Rattle.sr_group.specs.declared.shown.Act.{Act}
use Rattle.sr_group.specs.declared.shown.Act.TheVariants.{Give, Touch, Forget, Only}
use Rattle.sr_group.specs.declared.shown.Listed.{Listed}
use Rattle.sr_group.specs.Claim.{Fate, Skipped, Dropped, GivenOver, after_claim, after_fate, count_given, fate_of, fate_of_any, fate_with, listed_claim, listed_with, time_given}
use Rattle.sr_group.specs.Group.{idle_at}
use Rattle.sr_group.specs.Shown.{after_acts, listed_of}
use Rattle.sr_group.specs.steps.Judging.{IsJudged, IsUpTo, Judges, act_id, act_with, delivered, delivery_of}
use Rattle.sr_group.specs.steps.Showing.{IsActOf}
use Rattle.sr_group.proofs.FoundLemmas.{All-nack_with, after_acts-append, listed_of-append, nack_with-id}

-- times and counts stay those that a reply can hold
pub All-after_acts : (consumer : List ℕ) (acts : List Act) (xs : List Nack) → All (IsActOf consumer) acts → All IsCountable xs → All IsCountable (after_acts acts xs)
All-after_acts consumer [] xs own all = all
All-after_acts consumer (Give nack ∷ acts) xs own all =
    let act = All-head (IsActOf consumer) (Give nack) acts own in
    All-after_acts consumer acts _ (All-tail (IsActOf consumer) (Give nack) acts own) (All-with_nack IsCountable nack xs act.1 all)
All-after_acts consumer (Touch id time count ∷ acts) xs own all =
    let act = All-head (IsActOf consumer) (Touch id time count) acts own in
    All-after_acts consumer acts _ (All-tail (IsActOf consumer) (Touch id time count) acts own) (All-changed id (λ nack. redelivered nack.owner time count nack) IsCountable (λ nack. act) xs all)
All-after_acts consumer (Forget id ∷ acts) xs own all =
    All-after_acts consumer acts _ (All-tail (IsActOf consumer) (Forget id) acts own) (All-filter _ IsCountable xs all)
All-after_acts consumer (Only listed ∷ acts) xs own all = All-after_acts consumer acts xs (All-tail (IsActOf consumer) (Only listed) acts own) all

-- an entry that was delivered so, if one is pending
record IsKnown (id : Id) (xs : List Nack) (delivery : Delivery) : Type 0 where
  nack : Nack
  here : nack_with id xs ≡ Some nack
  same : delivery_of nack ≡ delivery

IsKnown-found : (id : Id) (xs : List Nack) (delivery : Delivery) → Some delivery ≡ option_map delivery_of (nack_with id xs) → IsKnown id xs delivery
IsKnown-found id xs delivery is = by (nack_with id xs) refl is
  where
    by : (found : Option Nack) → nack_with id xs ≡ found → Some delivery ≡ option_map delivery_of found → IsKnown id xs delivery
    by None none e = cc
    by (Some nack) here e = record { nack = nack; here = here; same = let both : delivery ≡ delivery_of nack = cc in sym both }

none_known : (id : Id) (xs : List Nack) → None ≡ option_map delivery_of (nack_with id xs) → nack_with id xs ≡ None
none_known id xs is = by (nack_with id xs) is
  where
    by : (found : Option Nack) → None ≡ option_map delivery_of found → found ≡ None
    by None e = refl
    by (Some nack) e = cc

pub count-known : (id : Id) (xs : List Nack) (delivery : Delivery) → Some delivery ≡ option_map delivery_of (nack_with id xs) → All IsCountable xs → delivery.count < 2 ^ 63
count-known id xs delivery is all =
    let known = IsKnown-found id xs delivery is in
    let fits = All-nack_with IsCountable id xs known.nack all known.here in
    let same : known.nack.count ≡ delivery.count = ap (λ (d : Delivery). d.count) known.same in
    omega (arith, fits.1)

module _ (claim : Claim) (claimer : List ℕ) (moment : ℕ) (entries : List Entry) where
  fate_of-same : (nack : Nack) (id : Id) (delivery : Delivery) → nack.id ≡ id → delivery_of nack ≡ delivery → fate_of claim claimer moment entries nack ≡ fate_of claim claimer moment entries (delivered id delivery)
  fate_of-same nack id delivery named same =
      ap (λ (i : Id). fate_of claim claimer moment entries (delivered i (delivery_of nack))) named
      ∙ ap (λ (d : Delivery). fate_of claim claimer moment entries (delivered id d)) same

  fate_with-known : (id : Id) (xs : List Nack) (delivery : Delivery) → Some delivery ≡ option_map delivery_of (nack_with id xs) → fate_with claim claimer moment entries id xs ≡ fate_of claim claimer moment entries (delivered id delivery)
  fate_with-known id xs delivery is =
      let known = IsKnown-found id xs delivery is in
      ap (fate_of_any claim claimer moment entries) known.here ∙ fate_of-same known.nack id delivery (nack_with-id id xs known.nack known.here) known.same

  -- what is done to an entry that the stream has: nothing, or it is given over
  pub stays-early : (id : Id) (delivery : Delivery) (idle : ℕ) → has_id id entries ≡ true → idle ≡ moment - delivery.time → idle < claim.least_idle
      → None ≡ act_with (fate_of claim claimer moment entries (delivered id delivery)) id
  stays-early id delivery idle there is early =
      let test : nat_lt (moment - delivery.time) claim.least_idle ≡ true = grind (arith, nat_tests) in
      rw (there, test) refl

  pub moves-late : (id : Id) (delivery : Delivery) (idle time count : ℕ) → has_id id entries ≡ true → idle ≡ moment - delivery.time → claim.least_idle ≤ idle
      → time ≡ time_given moment claim.time → count ≡ count_given claim.count claim.just_ids delivery.count
      → Some (Give (record { id = id; owner = claimer; time = time; count = count })) ≡ act_with (fate_of claim claimer moment entries (delivered id delivery)) id
  moves-late id delivery idle time count there is late timed counted =
      let test : nat_lt (moment - delivery.time) claim.least_idle ≡ false = grind (arith, nat_tests) in
      rw (there, test, timed, counted) refl

  -- what is given over keeps its id
  given_id : (nack other : Nack) → fate_of claim claimer moment entries nack ≡ GivenOver other → other.id ≡ nack.id
  given_id nack other is = by (has_id nack.id entries) (nat_lt (idle_at moment nack) claim.least_idle) is
    where
      by : (there early : Bool) → cond (not there) Dropped (cond early Skipped (GivenOver (redelivered claimer (time_given moment claim.time) (count_given claim.count claim.just_ids nack.count) nack))) ≡ GivenOver other → other.id ≡ nack.id
      by false early e = cc
      by true true e = cc
      by true false e =
          let one : redelivered claimer (time_given moment claim.time) (count_given claim.count claim.just_ids nack.count) nack ≡ other = cc in
          ap (λ (n : Nack). n.id) (sym one)

  act_with-some : (nack : Nack) (fate : Fate) (act : Act) → fate_of claim claimer moment entries nack ≡ fate → act_with fate nack.id ≡ Some act → (xs : List Nack)
      → (after_acts (act ∷ []) xs ≡ after_fate fate nack.id xs) × (listed_of (act ∷ []) ≡ listed_with fate nack.id)
  act_with-some nack Skipped act is some xs = cc
  act_with-some nack Dropped act is some xs = let one : Forget nack.id ≡ act = cc in rw (← one) (refl, refl)
  act_with-some nack (GivenOver other) act is some xs =
      let one : Give other ≡ act = cc in
      rw (← one) (refl, ap (λ (i : Id). record { id = i; found = true } ∷ []) (given_id nack other is))

  act_with-none : (fate : Fate) (id : Id) → act_with fate id ≡ None → fate ≡ Skipped
  act_with-none Skipped id none = refl
  act_with-none Dropped id none = cc
  act_with-none (GivenOver nack) id none = cc

  -- an id that is skipped changes nothing
  Judges-skipped : (nacks : List Nack) (id : Id) (acts : List Act) → fate_with claim claimer moment entries id (after_acts acts nacks) ≡ Skipped → All (IsActOf claimer) acts → Judges claim claimer moment entries nacks id acts acts
  Judges-skipped nacks id acts skipped own = record {
    after = rw skipped refl;
    listed = rw skipped (sym (append-nil (listed_of acts)));
    own = own;
  }

  pub Judges-absent : (nacks : List Nack) (id : Id) (acts : List Act) → None ≡ option_map delivery_of (nack_with id (after_acts acts nacks)) → All (IsActOf claimer) acts → Judges claim claimer moment entries nacks id acts acts
  Judges-absent nacks id acts none own =
      Judges-skipped nacks id acts (ap (fate_of_any claim claimer moment entries) (none_known id (after_acts acts nacks) none)) own

  pub Judges-none : (nacks : List Nack) (id : Id) (delivery : Delivery) (acts : List Act) → Some delivery ≡ option_map delivery_of (nack_with id (after_acts acts nacks))
      → None ≡ act_with (fate_of claim claimer moment entries (delivered id delivery)) id → All (IsActOf claimer) acts → Judges claim claimer moment entries nacks id acts acts
  Judges-none nacks id delivery acts known none own =
      Judges-skipped nacks id acts (fate_with-known id (after_acts acts nacks) delivery known ∙ act_with-none _ id (sym none)) own

  -- one that is not gives one act more
  pub Judges-pushed : (nacks : List Nack) (id : Id) (delivery : Delivery) (act : Act) (old new : List Act) → Some delivery ≡ option_map delivery_of (nack_with id (after_acts old nacks))
      → Some act ≡ act_with (fate_of claim claimer moment entries (delivered id delivery)) id → IsActOf claimer act → All (IsActOf claimer) old → new ≡ old ++ act ∷ []
      → Judges claim claimer moment entries nacks id old new
  Judges-pushed nacks id delivery act old new known some is own pushed =
      let xs = after_acts old nacks in
      let fate = fate_of claim claimer moment entries (delivered id delivery) in
      let with_it = fate_with-known id xs delivery known in
      let does = act_with-some (delivered id delivery) fate act refl (sym some) xs in
      record {
        after = ap (λ (l : List Act). after_acts l nacks) pushed ∙ after_acts-append old (act ∷ []) nacks ∙ does.0 ∙ ap (λ (f : Fate). after_fate f id xs) (sym with_it);
        listed = ap listed_of pushed ∙ listed_of-append old (act ∷ []) ∙ ap (λ (l : List Listed). listed_of old ++ l) (does.1 ∙ ap (λ (f : Fate). listed_with f id) (sym with_it));
        own = rw pushed (All-push (IsActOf claimer) old act own is);
      }

  -- so judging all ids one after the other is the claim of all
  pub IsJudged-next : (nacks : List Nack) (ids : List Id) (i : ℕ) (none : Id) (old new : List Act) → i < length ids → IsJudged claim claimer moment entries nacks ids (drop i ids) old
      → Judges claim claimer moment entries nacks (get_or ids i none) old new → IsJudged claim claimer moment entries nacks ids (drop (i + 1) ids) new
  IsJudged-next nacks ids i none old new within judged next =
      let more : suc i ≡ i + 1 = omega arith in
      let id = get_or ids i none in
      let left : drop i ids ≡ id ∷ drop (i + 1) ids = drop-cons ids i none within ∙ ap (λ (n : ℕ). id ∷ drop n ids) more in
      let rest = drop (i + 1) ids in
      let fate = fate_with claim claimer moment entries id (after_acts old nacks) in
      let so_far : IsJudged claim claimer moment entries nacks ids (id ∷ rest) old = rw left at judged in
      record {
        after = ap (after_claim claim claimer moment entries rest) next.after ∙ so_far.after;
        listed = ap (λ (l : List Listed). l ++ listed_claim claim claimer moment entries rest (after_acts new nacks)) next.listed
            ∙ ap (λ (l : List Nack). (listed_of old ++ listed_with fate id) ++ listed_claim claim claimer moment entries rest l) next.after
            ∙ append_assoc (listed_of old) (listed_with fate id) (listed_claim claim claimer moment entries rest (after_fate fate id (after_acts old nacks)))
            ∙ so_far.listed;
        own = next.own;
      }

  -- an act is of the entry whose id was judged
  pub act-id : (id : Id) (delivery : Delivery) (act : Act) → Some act ≡ act_with (fate_of claim claimer moment entries (delivered id delivery)) id → act_id act ≡ id
  act-id id delivery act some = by (fate_of claim claimer moment entries (delivered id delivery)) refl some
    where
      by : (fate : Fate) → fate_of claim claimer moment entries (delivered id delivery) ≡ fate → Some act ≡ act_with fate id → act_id act ≡ id
      by Skipped is e = cc
      by Dropped is e = let one : act ≡ Forget id = cc in ap act_id one
      by (GivenOver other) is e = let one : act ≡ Give other = cc in ap act_id one ∙ given_id (delivered id delivery) other is

-- what is up to an id is up to a greater one
up_to-trans : (most last other : Id) → is_below most last ≡ false → is_below last other ≡ false → is_below most other ≡ false
up_to-trans most last other a b = grind (arith, nat_tests)

pub AreUpTo-greater : (most last : Id) (acts : List Act) → is_below most last ≡ false → All (IsUpTo last) acts → All (IsUpTo most) acts
AreUpTo-greater most last acts above all k d within = up_to-trans most last (act_id (slice_index_or acts k d)) above (all k d within)

pub AreUpTo-pushed : (most last id : Id) (act : Act) (old new : List Act) → is_below most last ≡ false → is_below most id ≡ false → act_id act ≡ id
    → All (IsUpTo last) old → new ≡ old ++ act ∷ [] → All (IsUpTo most) new
AreUpTo-pushed most last id act old new above with_it is all pushed =
    rw pushed (All-push (IsUpTo most) old act (AreUpTo-greater most last old above all) (rw is with_it))
