-- What acts do to pending entries, and the room that they need.
use Rattle.std.proofs.Common.{◌≡◌, ℕ, suc, ◌+◌, Bool, true, false, cond, not, ◌||◌, List, [], ◌∷◌, ◌++◌, length, map, filter, Some, refl, ap, sym, ◌∙◌, arith}
use Rattle.std.specs.List.{All}
use Rattle.std.proofs.lemmas.List.Elements.{All-filter, All-head, All-map, All-tail, All-weaker, All-cons, All-nil}
use Rattle.sr_ids.specs.declared.id.Id.{Id}
use Rattle.sr_ids.specs.{IsBelow}
use Rattle.sr_ids.proofs.IdLemmas.{IsBelow-one_way}
use Rattle.sr_pending.specs.declared.nack.Nack.{Nack}
use Rattle.sr_pending.specs.declared.room.Room.{Room}
use Rattle.sr_ids.specs.{is_below, is_same_id}
use Rattle.sr_pending.specs.{AreRising, nack_with, redelivered, room_left, with_nack}
use Rattle.sr_pending.specs.Pending.{AreAbove, UsesRoom, has_id, touched, moved, without}
use Rattle.sr_pending.proofs.NackLemmas.{is_below-from, is_below-true, is_same_id-refl, is_same_id-true}
use Rattle.sr_pending.proofs.SearchLemmas.{has_id-above}
use Rattle.sr_pending.proofs.ChangeLemmas.{All-with_nack, changed_at, map-none}
use Rattle.sr_group.specs.declared.consumer.Consumer.{Consumer}
use Rattle.sr_group.specs.declared.shown.Act.{Act}
use Rattle.sr_group.specs.declared.shown.Act.TheVariants.{Give, Touch, Forget, Only}
use Rattle.sr_group.specs.declared.shown.Listed.{Listed}
use Rattle.sr_group.specs.Group.{IsOwned, has_consumer}
use Rattle.sr_group.specs.Shown.{after_acts, gifts, listed_of}
use Rattle.sr_group.specs.steps.Showing.{HaveRoom, IsActOf, is_gift}

-- ---- the entry with an id

is_below-itself : (a b : Id) → a ≡ b → is_below a b ≡ false
is_below-itself a b same = by (is_below a b) refl
  where
    by : (test : Bool) → is_below a b ≡ test → test ≡ false
    by true e =
        let lt : IsBelow a b = is_below-true a b e in
        let back : IsBelow b a = rw same (rw same at lt) in
        absurd (IsBelow-one_way a b lt back)
    by false e = refl

is_below-back : (a b : Id) → IsBelow a b → is_below b a ≡ false
is_below-back a b lt = by (is_below b a) refl
  where
    by : (test : Bool) → is_below b a ≡ test → test ≡ false
    by true e = absurd (IsBelow-one_way a b lt (is_below-true b a e))
    by false e = refl

pub nack_with-id : (id : Id) (xs : List Nack) (x : Nack) → nack_with id xs ≡ Some x → x.id ≡ id
nack_with-id id [] x found = absurd (cc found)
nack_with-id id (y ∷ ys) x found = by (λ rest. nack_with-id id ys x rest) (is_same_id y.id id) refl found
  where
    by : (nack_with id ys ≡ Some x → x.id ≡ id) → (test : Bool) → is_same_id y.id id ≡ test → cond test (Some y) (nack_with id ys) ≡ Some x → x.id ≡ id
    by rest true same here =
        let first : y ≡ x = cc in
        rw (← first) (is_same_id-true y.id id same)
    by rest false apart there = rest there

pub AreAbove-with : (a id : Id) (xs : List Nack) (x : Nack) → AreAbove a xs → nack_with id xs ≡ Some x → IsBelow a id
AreAbove-with a id [] x above found = absurd (cc found)
AreAbove-with a id (y ∷ ys) x above found = by (λ rest. AreAbove-with a id ys x above.1 rest) (is_same_id y.id id) refl found
  where
    by : (nack_with id ys ≡ Some x → IsBelow a id) → (test : Bool) → is_same_id y.id id ≡ test → cond test (Some y) (nack_with id ys) ≡ Some x → IsBelow a id
    by rest true same here = rw (is_same_id-true y.id id same) at above.0
    by rest false apart there = rest there

pub nack_with-pending : (id : Id) (xs : List Nack) → has_id id xs ≡ true → (x : Nack) × (nack_with id xs ≡ Some x)
nack_with-pending id [] there = absurd (cc there)
nack_with-pending id (y ∷ ys) there = by (λ rest. nack_with-pending id ys rest) (is_same_id y.id id) there
  where
    by : (has_id id ys ≡ true → (x : Nack) × (nack_with id ys ≡ Some x)) → (test : Bool) → (test || has_id id ys) ≡ true → (x : Nack) × (cond test (Some y) (nack_with id ys) ≡ Some x)
    by rest true here = (y, refl)
    by rest false later = rest later

-- ---- an entry that is pending, changed in its place

-- the entries below an id, one entry, and those above the id
abbrev around : Id → Nack → List Nack → List Nack
around id nack xs = filter (λ x. is_below x.id id) xs ++ nack ∷ filter (λ x. is_below id x.id) xs

below-none : (id : Id) (xs : List Nack) → AreAbove id xs → filter (λ x. is_below x.id id) xs ≡ []
below-none id [] above = refl
below-none id (x ∷ xs) above = rw (is_below-back id x.id above.0) (below-none id xs above.1)

above-all : (id : Id) (xs : List Nack) → AreAbove id xs → filter (λ x. is_below id x.id) xs ≡ xs
above-all id [] above = refl
above-all id (x ∷ xs) above = rw (is_below-from id x.id above.0) (ap (λ (l : List Nack). x ∷ l) (above-all id xs above.1))

module _ (id : Id) (change : Nack → Nack) where
  changed-first : (y : Nack) (ys : List Nack) (x : Nack) → y ≡ x → y.id ≡ id → AreAbove id ys → map (changed_at id change) (y ∷ ys) ≡ around id (change x) (y ∷ ys)
  changed-first y ys x first same above =
      let test : is_same_id y.id id ≡ true = rw same (is_same_id-refl id) in
      let front : is_below y.id id ≡ false = is_below-itself y.id id same in
      let back : is_below id y.id ≡ false = is_below-itself id y.id (sym same) in
      let rest : map (changed_at id change) ys ≡ ys = map-none id change ys (has_id-above id ys above) in
      rw (test, front, back, below-none id ys above) (ap (λ (l : List Nack). change y ∷ l) (rest ∙ sym (above-all id ys above)) ∙ ap (λ (n : Nack). change n ∷ filter (λ z. is_below id z.id) ys) first)

  changed-later : (y : Nack) (ys : List Nack) (x : Nack) → is_same_id y.id id ≡ false → IsBelow y.id id → map (changed_at id change) ys ≡ around id (change x) ys → map (changed_at id change) (y ∷ ys) ≡ around id (change x) (y ∷ ys)
  changed-later y ys x apart lt rest =
      rw (apart, is_below-from y.id id lt, is_below-back y.id id lt) (ap (λ (l : List Nack). y ∷ l) rest)

  changed-around : (xs : List Nack) (x : Nack) → AreRising xs → nack_with id xs ≡ Some x → map (changed_at id change) xs ≡ around id (change x) xs
  changed-around [] x rising found = absurd (cc found)
  changed-around (y ∷ ys) x rising found = by (λ rest. changed-around ys x rising.1 rest) (is_same_id y.id id) refl found
    where
      by : (nack_with id ys ≡ Some x → map (changed_at id change) ys ≡ around id (change x) ys) → (test : Bool) → is_same_id y.id id ≡ test → cond test (Some y) (nack_with id ys) ≡ Some x → map (changed_at id change) (y ∷ ys) ≡ around id (change x) (y ∷ ys)
      by rest true same here =
          let first : y ≡ x = cc in
          let is = is_same_id-true y.id id same in
          changed-first y ys x first is (rw is at rising.0)
      by rest false apart there = changed-later y ys x apart (AreAbove-with y.id id ys x rising.0 there) (rest there)

  pub changed-with_nack : (xs : List Nack) (x nack : Nack) → AreRising xs → nack_with id xs ≡ Some x → nack ≡ change x → nack.id ≡ id → map (changed_at id change) xs ≡ with_nack nack xs
  changed-with_nack xs x nack rising found is same =
      changed-around xs x rising found ∙ ap (λ (n : Nack). around id n xs) (sym is) ∙ ap (λ (i : Id). around i nack xs) (sym same)

pub moved-with_nack : (nack : Nack) (xs : List Nack) → AreRising xs → has_id nack.id xs ≡ true → moved nack.id nack.owner nack.time nack.count xs ≡ with_nack nack xs
moved-with_nack nack xs rising there =
    let found = nack_with-pending nack.id xs there in
    let change : Nack → Nack = λ n. redelivered nack.owner nack.time nack.count n in
    let id = nack_with-id nack.id xs found.0 found.1 in
    changed-with_nack nack.id change xs found.0 nack rising found.1 (ap (λ (i : Id). let n : Nack = record { id = i; owner = nack.owner; time = nack.time; count = nack.count } in n) (sym id)) refl

-- ---- room

gifts-more : (act : Act) (acts : List Act) → gifts (act ∷ acts) ≡ gifts (act ∷ []) + gifts acts
gifts-more (Give nack) acts = omega arith
gifts-more (Touch id time count) acts = omega arith
gifts-more (Forget id) acts = omega arith
gifts-more (Only listed) acts = omega arith

pub HaveRoom-first : (act : Act) (acts : List Act) (rooms : List Room) → HaveRoom (act ∷ acts) rooms → HaveRoom (act ∷ []) rooms
HaveRoom-first act acts rooms have = record {
  consumer = have.consumer;
  each = All-cons (IsActOf have.consumer) act [] (All-head (IsActOf have.consumer) act acts have.each) (All-nil (IsActOf have.consumer));
  room = let all = gifts-more act acts in omega (arith, have.room);
}

pub HaveRoom-given : (nack : Nack) (acts : List Act) (old new : List Room) → UsesRoom nack.owner old new → HaveRoom (Give nack ∷ acts) old → HaveRoom acts new
HaveRoom-given nack acts old new uses have =
    let own : (nack.owner ≡ have.consumer) × _ = All-head (IsActOf have.consumer) (Give nack) acts have.each in
    let used : room_left have.consumer new + 1 ≡ room_left have.consumer old = rw own.0 at uses.used in
    record {
      consumer = have.consumer;
      each = All-tail (IsActOf have.consumer) (Give nack) acts have.each;
      room = omega (arith, have.room, used);
    }

pub HaveRoom-other : (act : Act) (acts : List Act) (old new : List Room) → gifts (act ∷ []) ≡ 0 → new ≡ old → HaveRoom (act ∷ acts) old → HaveRoom acts new
HaveRoom-other act acts old new none same have = record {
  consumer = have.consumer;
  each = All-tail (IsActOf have.consumer) act acts have.each;
  room = rw same (let all = gifts-more act acts in omega (arith, have.room, none));
}

-- how many gifts there are
pub gifts-filter : (acts : List Act) → length (filter is_gift acts) ≡ gifts acts
gifts-filter [] = refl
gifts-filter (Give nack ∷ acts) = let rest = gifts-filter acts in omega arith
gifts-filter (Touch id time count ∷ acts) = gifts-filter acts
gifts-filter (Forget id ∷ acts) = gifts-filter acts
gifts-filter (Only listed ∷ acts) = gifts-filter acts

pub length-listed_of : (acts : List Act) → length acts ≡ length (listed_of acts)
length-listed_of [] = refl
length-listed_of (Give nack ∷ acts) = ap (λ (n : ℕ). suc n) (length-listed_of acts)
length-listed_of (Touch id time count ∷ acts) = ap (λ (n : ℕ). suc n) (length-listed_of acts)
length-listed_of (Forget id ∷ acts) = ap (λ (n : ℕ). suc n) (length-listed_of acts)
length-listed_of (Only listed ∷ acts) = ap (λ (n : ℕ). suc n) (length-listed_of acts)

pub listed_of-more : (act : Act) (acts : List Act) → listed_of (act ∷ acts) ≡ listed_of (act ∷ []) ++ listed_of acts
listed_of-more (Give nack) acts = refl
listed_of-more (Touch id time count) acts = refl
listed_of-more (Forget id) acts = refl
listed_of-more (Only listed) acts = refl

-- the first act lists the first entry
pub listed_of-first : (act : Act) (acts rest : List Act) (listed : Listed) (all : List Listed) → acts ≡ act ∷ rest → listed_of (act ∷ []) ≡ listed ∷ [] → listed_of acts ≡ all → all ≡ listed ∷ listed_of rest
listed_of-first act acts rest listed all is one seen =
    sym seen ∙ ap listed_of is ∙ listed_of-more act rest ∙ ap (λ (l : List Listed). l ++ listed_of rest) one

pub after_acts-more : (act : Act) (acts : List Act) (nacks : List Nack) → after_acts (act ∷ acts) nacks ≡ after_acts acts (after_acts (act ∷ []) nacks)
after_acts-more (Give nack) acts nacks = refl
after_acts-more (Touch id time count) acts nacks = refl
after_acts-more (Forget id) acts nacks = refl
after_acts-more (Only listed) acts nacks = refl

-- ---- owners

All-touched : (consumers : List Consumer) (id : Id) (time count : ℕ) (xs : List Nack) → All (IsOwned consumers) xs → All (IsOwned consumers) (touched id time count xs)
All-touched consumers id time count xs all =
    let change : Nack → Nack = λ n. redelivered n.owner time count n in
    All-map (IsOwned consumers) (changed_at id change) xs (All-weaker (IsOwned consumers) (λ n. IsOwned consumers (changed_at id change n)) each xs all)
  where
    each : (n : Nack) → IsOwned consumers n → IsOwned consumers (cond (is_same_id n.id id) (redelivered n.owner time count n) n)
    each n owned = by (is_same_id n.id id)
      where
        by : (test : Bool) → IsOwned consumers (cond test (redelivered n.owner time count n) n)
        by true = owned
        by false = owned

-- what is pending stays in the hands of consumers, if the one that acts is among them
pub owned-after_acts : (consumers : List Consumer) (consumer : List ℕ) (acts : List Act) (nacks : List Nack) → has_consumer consumer consumers ≡ true → All (IsActOf consumer) acts → All (IsOwned consumers) nacks → All (IsOwned consumers) (after_acts acts nacks)
owned-after_acts consumers consumer [] nacks there each owned = owned
owned-after_acts consumers consumer (Give nack ∷ acts) nacks there each owned =
    let own : (nack.owner ≡ consumer) × _ = All-head (IsActOf consumer) (Give nack) acts each in
    let here : IsOwned consumers nack = rw own.0 there in
    owned-after_acts consumers consumer acts (with_nack nack nacks) there (All-tail (IsActOf consumer) (Give nack) acts each) (All-with_nack (IsOwned consumers) nack nacks here owned)
owned-after_acts consumers consumer (Touch id time count ∷ acts) nacks there each owned =
    owned-after_acts consumers consumer acts (touched id time count nacks) there (All-tail (IsActOf consumer) (Touch id time count) acts each) (All-touched consumers id time count nacks owned)
owned-after_acts consumers consumer (Forget id ∷ acts) nacks there each owned =
    owned-after_acts consumers consumer acts (without id nacks) there (All-tail (IsActOf consumer) (Forget id) acts each) (All-filter (λ n. not (is_same_id n.id id)) (IsOwned consumers) nacks owned)
owned-after_acts consumers consumer (Only listed ∷ acts) nacks there each owned =
    owned-after_acts consumers consumer acts nacks there (All-tail (IsActOf consumer) (Only listed) acts each) owned
