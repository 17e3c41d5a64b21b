-- What a group keeps, after each change.
use Rattle.std.proofs.Common.{◌≡◌, ℕ, get_or, take, ◌+◌, ◌-◌, ◌^◌, ◌≤◌, ◌<◌, ◌⊎◌, inl, inr, Bool, true, false, cond, not, ◌&&◌, ◌||◌, List, [], ◌∷◌, ◌++◌, length, filter, IsTrue, refl, ap, sym, ◌∙◌, arith}
use Rattle.std.specs.List.{All}
use Rattle.std.proofs.lemmas.List.{take_more}
use Rattle.std.proofs.lemmas.List.Elements.{All-cons, All-filter, All-head, All-nil, All-tail, All-weaker, filter_agree}
use Rattle.std.proofs.lemmas.List.Folds.{list_any-append}
use Rattle.std.proofs.lemmas.List.Filters.{length-filter_both}
use Rattle.sr_ids.specs.declared.id.Id.{Id}
use Rattle.sr_pending.specs.declared.nack.Nack.{Nack}
use Rattle.sr_ids.specs.{is_same_id, is_one_of}
use Rattle.sr_pending.specs.{AreRising, IsCountable, is_same_name, room_left}
use Rattle.sr_pending.specs.Pending.{without, without_owner}
use Rattle.sr_pending.proofs.NackLemmas.{AreRising-filter}
use Rattle.sr_group.specs.declared.consumer.Consumer.{Consumer}
use Rattle.sr_group.specs.declared.shown.Act.{Act}
use Rattle.sr_group.specs.Group.{IsGroup, IsOwned, IsSeen, KeptGroup, has_consumer, seen_at, with_ids, without_consumer, without_ids}
use Rattle.sr_group.specs.Shown.{HasRoomFor, ShownState, after_acts}
use Rattle.sr_group.specs.steps.Showing.{IsActOf, is_gift}
use Rattle.sr_group.proofs.ShowLemmas.{gifts-filter, owned-after_acts}
use Rattle.sr_group.proofs.ConsumerLemmas.{AreInOrder-filter, AreInOrder-seen_at, All-seen_at, has_consumer-seen, has_consumer-seen_at, has_consumer-without}

-- the room that a call made
pub HasRoomFor-made : (shown : ShownState) (group : KeptGroup) (name : List ℕ) (n len cap : ℕ) → shown.consumer ≡ name → n ≡ length (filter is_gift shown.acts) → n ≤ room_left name group.rooms
    → IsTrue (has_consumer name group.shown.consumers) ⊎ (len < cap) → group.places ≡ cap - len → HasRoomFor shown group
HasRoomFor-made shown group name n len cap same count room place spare = record {
  entries = rw same (let all = gifts-filter shown.acts in omega (arith, count, room));
  consumer = rw same (elim place [ inl there ↦ inl there | inr lt ↦ inr (omega (arith, spare, lt)) ]);
}

-- a consumer was seen, and acted
pub IsGroup-shown : (consumer : List ℕ) (moment : ℕ) (acts : List Act) (last next : Id) (consumers seen : List Consumer) (nacks left : List Nack)
    → IsGroup (record { last = last; consumers = consumers; nacks = nacks }) → moment < 2 ^ 63 → All (IsActOf consumer) acts → seen ≡ seen_at consumer moment consumers → left ≡ after_acts acts nacks → AreRising left → All IsCountable left
    → IsGroup (record { last = next; consumers = seen; nacks = left })
IsGroup-shown consumer moment acts last next consumers seen nacks left old early each is done rising countable = record {
  consumers = rw is (AreInOrder-seen_at consumer moment consumers old.consumers);
  seen = rw is (All-seen_at IsSeen consumer moment consumers early old.seen);
  rising = rising;
  countable = countable;
  owned = rw (is, done) (owned-after_acts (seen_at consumer moment consumers) consumer acts nacks (has_consumer-seen consumer moment consumers) each
      (All-weaker (IsOwned consumers) (IsOwned (seen_at consumer moment consumers)) (λ n owned. has_consumer-seen_at consumer n.owner moment consumers owned) nacks old.owned));
}

-- a consumer was seen
pub IsGroup-seen : (consumer : List ℕ) (moment : ℕ) (last : Id) (consumers seen : List Consumer) (nacks : List Nack) → IsGroup (record { last = last; consumers = consumers; nacks = nacks }) → moment < 2 ^ 63 → seen ≡ seen_at consumer moment consumers → IsGroup (record { last = last; consumers = seen; nacks = nacks })
IsGroup-seen consumer moment last consumers seen nacks old early is =
    IsGroup-shown consumer moment [] last last consumers seen nacks nacks old early (All-nil (IsActOf consumer)) is refl old.rising old.countable

-- entries are no longer pending
pub IsGroup-filter : (p : Nack → Bool) (last : Id) (consumers : List Consumer) (nacks left : List Nack) → IsGroup (record { last = last; consumers = consumers; nacks = nacks }) → left ≡ filter p nacks → IsGroup (record { last = last; consumers = consumers; nacks = left })
IsGroup-filter p last consumers nacks left old done = record {
  consumers = old.consumers;
  seen = old.seen;
  rising = rw done (AreRising-filter p nacks old.rising);
  countable = rw done (All-filter p IsCountable nacks old.countable);
  owned = rw done (All-filter p (IsOwned consumers) nacks old.owned);
}

owned-without : (name : List ℕ) (consumers : List Consumer) (nacks : List Nack) → All (IsOwned consumers) nacks → All (IsOwned (without_consumer name consumers)) (without_owner name nacks)
owned-without name consumers [] all = All-nil (IsOwned (without_consumer name consumers))
owned-without name consumers (n ∷ ns) all =
    by (owned-without name consumers ns (All-tail (IsOwned consumers) n ns all)) (is_same_name n.owner name) refl
  where
    here : has_consumer n.owner consumers ≡ true
    here = All-head (IsOwned consumers) n ns all

    by : All (IsOwned (without_consumer name consumers)) (without_owner name ns) → (test : Bool) → is_same_name n.owner name ≡ test → All (IsOwned (without_consumer name consumers)) (cond (not test) (n ∷ without_owner name ns) (without_owner name ns))
    by rest true same = rest
    by rest false apart = All-cons (IsOwned (without_consumer name consumers)) n (without_owner name ns) (has_consumer-without name n.owner consumers apart here) rest

-- a consumer is gone, and what was pending for it
pub IsGroup-without : (name : List ℕ) (last : Id) (consumers others : List Consumer) (nacks left : List Nack) → IsGroup (record { last = last; consumers = consumers; nacks = nacks }) → others ≡ without_consumer name consumers → left ≡ without_owner name nacks → IsGroup (record { last = last; consumers = others; nacks = left })
IsGroup-without name last consumers others nacks left old is done = record {
  consumers = rw is (AreInOrder-filter (λ c. not (is_same_name c.name name)) consumers old.consumers);
  seen = rw is (All-filter (λ c. not (is_same_name c.name name)) IsSeen consumers old.seen);
  rising = rw done (AreRising-filter (λ n. not (is_same_name n.owner name)) nacks old.rising);
  countable = rw done (All-filter (λ n. not (is_same_name n.owner name)) IsCountable nacks old.countable);
  owned = rw (is, done) (owned-without name consumers nacks old.owned);
}

-- ---- acknowledging

filter-filter : {X : Type 0} (p q : X → Bool) (xs : List X) → filter p (filter q xs) ≡ filter (λ x. q x && p x) xs
filter-filter p q [] = refl
filter-filter {X} p q (x ∷ xs) = by (filter-filter p q xs) (q x)
  where
    both : filter p (filter q xs) ≡ filter (λ x. q x && p x) xs → (test : Bool) → cond test (x ∷ filter p (filter q xs)) (filter p (filter q xs)) ≡ cond test (x ∷ filter (λ x. q x && p x) xs) (filter (λ x. q x && p x) xs)
    both rest true = ap (λ (l : List X). x ∷ l) rest
    both rest false = rest

    by : filter p (filter q xs) ≡ filter (λ x. q x && p x) xs → (test : Bool) → filter p (cond test (x ∷ filter q xs) (filter q xs)) ≡ cond (test && p x) (x ∷ filter (λ x. q x && p x) xs) (filter (λ x. q x && p x) xs)
    by rest true = both rest (p x)
    by rest false = rest

neither : (a b : Bool) → (not a && not b) ≡ not (a || (b || false))
neither true b = refl
neither false true = refl
neither false false = refl

pub without_ids-more : (ids : List Id) (id : Id) (nacks : List Nack) → without id (without_ids ids nacks) ≡ without_ids (ids ++ id ∷ []) nacks
without_ids-more ids id nacks =
    filter-filter (λ n. not (is_same_id n.id id)) (λ n. not (is_one_of ids n.id)) nacks
    ∙ filter_agree (λ n. not (is_one_of ids n.id) && not (is_same_id n.id id)) (λ n. not (is_one_of (ids ++ id ∷ []) n.id)) each nacks
  where
    each : (n : Nack) → (not (is_one_of ids n.id) && not (is_same_id n.id id)) ≡ not (is_one_of (ids ++ id ∷ []) n.id)
    each n =
        neither (is_one_of ids n.id) (is_same_id n.id id)
        ∙ ap not (sym (list_any-append (λ other. is_same_id n.id other) ids (id ∷ [])))

pub without_ids-step : (ids : List Id) (i : ℕ) (d : Id) (nacks old new : List Nack) → i < length ids → old ≡ without_ids (take i ids) nacks → new ≡ without (get_or ids i d) old → new ≡ without_ids (take (i + 1) ids) nacks
without_ids-step ids i d nacks old new within so_far gone =
    gone
    ∙ ap (λ (l : List Nack). without (get_or ids i d) l) so_far
    ∙ without_ids-more (take i ids) (get_or ids i d) nacks
    ∙ ap (λ (l : List Id). without_ids l nacks) (sym (take_more ids i d within))

pub without_ids-none : (nacks : List Nack) → nacks ≡ without_ids [] nacks
without_ids-none [] = refl
without_ids-none (n ∷ ns) = ap (λ (l : List Nack). n ∷ l) (without_ids-none ns)

pub with_ids-count : (ids : List Id) (nacks left : List Nack) → left ≡ without_ids ids nacks → length nacks - length left ≡ length (with_ids ids nacks)
with_ids-count ids nacks left done =
    let both = length-filter_both (λ n. is_one_of ids n.id) (λ n. not (is_one_of ids n.id)) (λ n. refl) nacks in
    let same = ap (λ (l : List Nack). length l) done in
    omega (arith, both, same)

pub without_ids-fewer : (ids : List Id) (nacks left : List Nack) → left ≡ without_ids ids nacks → length left ≤ length nacks
without_ids-fewer ids nacks left done =
    let both = length-filter_both (λ n. is_one_of ids n.id) (λ n. not (is_one_of ids n.id)) (λ n. refl) nacks in
    let same = ap (λ (l : List Nack). length l) done in
    omega (arith, both, same)
