-- What a delivery and a history do, act by act.
use Rattle.std.proofs.Common.{◌≡◌, ℕ, suc, zero, ◌^◌, ◌<◌, Bool, true, false, cond, ◌||◌, List, [], ◌∷◌, ◌++◌, map, filter, take, Option, Some, None, refl, ap, sym, ◌∙◌, arith}
use Rattle.std.specs.List.{All}
use Rattle.std.proofs.lemmas.List.Elements.{All-cons, All-filter, All-head, All-nil, All-tail, All-take}
use Rattle.sr_ids.specs.declared.id.Id.{Id}
use Rattle.sr_entries.specs.declared.entry.Entry.{Entry}
use Rattle.sr_entries.specs.Entries as entries
use Rattle.sr_entries.specs.{entries_above, entry_with, last_id_or}
use Rattle.sr_pending.specs.declared.nack.Nack.{Nack}
use Rattle.sr_pending.specs.Pending as pending
use Rattle.sr_ids.specs.{is_below, is_same_id}
use Rattle.sr_pending.specs.{AreRising, is_same_name, nack_with, owned_by, redelivered}
use Rattle.sr_pending.specs.{with_nack}
use Rattle.sr_pending.specs.Pending.{AreAbove, owned_by_named, pending_above, touched, is_of}
use Rattle.sr_pending.proofs.NackLemmas.{AreRising-filter, is_same_id-below, is_same_id-refl, is_same_id-true}
use Rattle.sr_pending.proofs.ChangeLemmas.{AreRising-changed, changed_at}
use Rattle.sr_group.specs.declared.shown.Act.{Act}
use Rattle.sr_group.specs.declared.shown.Act.TheVariants.{Touch, Only}
use Rattle.sr_group.specs.declared.shown.Listed.{Listed}
use Rattle.sr_group.specs.Group.{GroupState, seen_at, with_nacks}
use Rattle.sr_group.specs.Delivery.{after_delivery, after_history, new_entries, delivered_to, found_entry, history_of, listed_in, raised, shown_again}
use Rattle.sr_group.specs.Shown.{after_acts, after_showing, listed_of}
use Rattle.sr_group.specs.steps.Showing.{IsActOf, again, delivery_of}
use Rattle.sr_group.proofs.ShowLemmas.{changed-with_nack}

-- ---- entries of the stream

pub last_id_or-end : (id : Id) (xs : List Entry) (x : Entry) → last_id_or id (xs ++ x ∷ []) ≡ x.id
last_id_or-end id [] x = refl
last_id_or-end id (y ∷ ys) x = last_id_or-end y.id ys x

pub entry_with-some : (id : Id) (xs : List Entry) (x : Entry) → entry_with id xs ≡ Some x → entries.has_id id xs ≡ true
entry_with-some id [] x found = absurd (cc found)
entry_with-some id (y ∷ ys) x found = by (λ rest. entry_with-some id ys x rest) (is_same_id y.id id) found
  where
    by : (entry_with id ys ≡ Some x → entries.has_id id ys ≡ true) → (test : Bool) → cond test (Some y) (entry_with id ys) ≡ Some x → (test || entries.has_id id ys) ≡ true
    by rest true here = refl
    by rest false there = rest there

pub entry_with-none : (id : Id) (xs : List Entry) → entry_with id xs ≡ None → entries.has_id id xs ≡ false
entry_with-none id [] none = refl
entry_with-none id (y ∷ ys) none = by (λ rest. entry_with-none id ys rest) (is_same_id y.id id) none
  where
    by : (entry_with id ys ≡ None → entries.has_id id ys ≡ false) → (test : Bool) → cond test (Some y) (entry_with id ys) ≡ None → (test || entries.has_id id ys) ≡ false
    by rest true here = absurd (cc here)
    by rest false there = rest there

-- ---- a delivery

pub after_acts-delivery : (reader : List ℕ) (moment : ℕ) (noack : Bool) (new : List Entry) (nacks : List Nack) → after_acts (map (delivery_of reader moment noack) new) nacks ≡ cond noack nacks (with_nacks (map (delivered_to reader moment) new) nacks)
after_acts-delivery reader moment true [] nacks = refl
after_acts-delivery reader moment false [] nacks = refl
after_acts-delivery reader moment true (x ∷ xs) nacks = after_acts-delivery reader moment true xs nacks
after_acts-delivery reader moment false (x ∷ xs) nacks = after_acts-delivery reader moment false xs (with_nack (delivered_to reader moment x) nacks)

pub listed_of-delivery : (reader : List ℕ) (moment : ℕ) (noack : Bool) (new : List Entry) → listed_of (map (delivery_of reader moment noack) new) ≡ map found_entry new
listed_of-delivery reader moment noack [] = refl
listed_of-delivery reader moment true (x ∷ xs) = ap (λ (l : List Listed). found_entry x ∷ l) (listed_of-delivery reader moment true xs)
listed_of-delivery reader moment false (x ∷ xs) = ap (λ (l : List Listed). found_entry x ∷ l) (listed_of-delivery reader moment false xs)

pub acts-delivery : (reader : List ℕ) (moment : ℕ) (noack : Bool) (new : List Entry) → moment < 2 ^ 63 → All (IsActOf reader) (map (delivery_of reader moment noack) new)
acts-delivery reader moment noack [] early = All-nil (IsActOf reader)
acts-delivery reader moment true (x ∷ xs) early =
    All-cons (IsActOf reader) (delivery_of reader moment true x) (map (delivery_of reader moment true) xs) tt (acts-delivery reader moment true xs early)
acts-delivery reader moment false (x ∷ xs) early =
    All-cons (IsActOf reader) (delivery_of reader moment false x) (map (delivery_of reader moment false) xs) (refl, (early, omega arith)) (acts-delivery reader moment false xs early)

-- ---- a history

pub acts-again : (reader : List ℕ) (moment : ℕ) (list : List Entry) (history : List Nack) → moment < 2 ^ 63 → All (IsActOf reader) (map (again moment list) history)
acts-again reader moment list [] early = All-nil (IsActOf reader)
acts-again reader moment list (x ∷ xs) early =
    All-cons (IsActOf reader) (again moment list x) (map (again moment list) xs) (by (entries.has_id x.id list)) (acts-again reader moment list xs early)
  where
    by : (found : Bool) → IsActOf reader (cond found (Touch x.id moment (raised x.count)) (Only (record { id = x.id; found = false })))
    by true = (early, omega arith)
    by false = tt

pub listed_of-again : (moment : ℕ) (list : List Entry) (history : List Nack) → listed_of (map (again moment list) history) ≡ map (listed_in list) history
listed_of-again moment list [] = refl
listed_of-again moment list (x ∷ xs) = by (listed_of-again moment list xs) (entries.has_id x.id list)
  where
    by : listed_of (map (again moment list) xs) ≡ map (listed_in list) xs → (found : Bool) → listed_of (cond found (Touch x.id moment (raised x.count)) (Only (record { id = x.id; found = false })) ∷ map (again moment list) xs) ≡ record { id = x.id; found = found } ∷ map (listed_in list) xs
    by rest true = ap (λ (l : List Listed). record { id = x.id; found = true } ∷ l) rest
    by rest false = ap (λ (l : List Listed). record { id = x.id; found = false } ∷ l) rest

-- each of these is found in the list by its id
abbrev pub AreIn : List Nack → List Nack → Type 0
AreIn nacks xs = All (λ n. nack_with n.id nacks ≡ Some n) xs

AreIn-behind : (y : Nack) (nacks xs : List Nack) → AreAbove y.id xs → AreIn nacks xs → AreIn (y ∷ nacks) xs
AreIn-behind y nacks [] above all = All-nil (λ n. nack_with n.id (y ∷ nacks) ≡ Some n)
AreIn-behind y nacks (x ∷ xs) above all =
    let here : nack_with x.id nacks ≡ Some x = All-head (λ n. nack_with n.id nacks ≡ Some n) x xs all in
    let found : nack_with x.id (y ∷ nacks) ≡ Some x = rw (is_same_id-below y.id x.id above.0) here in
    All-cons (λ n. nack_with n.id (y ∷ nacks) ≡ Some n) x xs found (AreIn-behind y nacks xs above.1 (All-tail (λ n. nack_with n.id nacks ≡ Some n) x xs all))

pub AreIn-itself : (nacks : List Nack) → AreRising nacks → AreIn nacks nacks
AreIn-itself [] rising = All-nil (λ n. nack_with n.id [] ≡ Some n)
AreIn-itself (x ∷ xs) rising =
    let here : nack_with x.id (x ∷ xs) ≡ Some x = rw (is_same_id-refl x.id) in
    All-cons (λ n. nack_with n.id (x ∷ xs) ≡ Some n) x xs here (AreIn-behind x xs xs rising.0 (AreIn-itself xs rising.1))

-- a change of an entry leaves the others as they are
nack_with-changed : (id other : Id) (change : Nack → Nack) → ((n : Nack) → (change n).id ≡ n.id) → is_same_id id other ≡ false → (xs : List Nack) → nack_with other (map (changed_at id change) xs) ≡ nack_with other xs
nack_with-changed id other change keeps apart [] = refl
nack_with-changed id other change keeps apart (x ∷ xs) = by (nack_with-changed id other change keeps apart xs) (is_same_id x.id id) refl
  where
    by : nack_with other (map (changed_at id change) xs) ≡ nack_with other xs → (test : Bool) → is_same_id x.id id ≡ test → nack_with other (cond test (change x) x ∷ map (changed_at id change) xs) ≡ nack_with other (x ∷ xs)
    by rest true same =
        let is = is_same_id-true x.id id same in
        let old : is_same_id x.id other ≡ false = rw is apart in
        let new : is_same_id (change x).id other ≡ false = rw (keeps x) old in
        rw (old, new) rest
    by rest false differs = ap (λ (o : Option Nack). cond (is_same_id x.id other) (Some x) o) rest

AreIn-changed : (id : Id) (change : Nack → Nack) → ((n : Nack) → (change n).id ≡ n.id) → (nacks xs : List Nack) → AreAbove id xs → AreIn nacks xs → AreIn (map (changed_at id change) nacks) xs
AreIn-changed id change keeps nacks [] above all = All-nil (λ n. nack_with n.id (map (changed_at id change) nacks) ≡ Some n)
AreIn-changed id change keeps nacks (x ∷ xs) above all =
    let here : nack_with x.id nacks ≡ Some x = All-head (λ n. nack_with n.id nacks ≡ Some n) x xs all in
    let found = nack_with-changed id x.id change keeps (is_same_id-below id x.id above.0) nacks ∙ here in
    All-cons (λ n. nack_with n.id (map (changed_at id change) nacks) ≡ Some n) x xs found (AreIn-changed id change keeps nacks xs above.1 (All-tail (λ n. nack_with n.id nacks ≡ Some n) x xs all))

unchanged : (id : Id) (xs : List Nack) → map (changed_at id (λ n. n)) xs ≡ xs
unchanged id [] = refl
unchanged id (x ∷ xs) = by (unchanged id xs) (is_same_id x.id id)
  where
    by : map (changed_at id (λ n. n)) xs ≡ xs → (test : Bool) → cond test x x ∷ map (changed_at id (λ n. n)) xs ≡ x ∷ xs
    by rest true = ap (λ (l : List Nack). x ∷ l) rest
    by rest false = ap (λ (l : List Nack). x ∷ l) rest

with_nack-itself : (x : Nack) (nacks : List Nack) → AreRising nacks → nack_with x.id nacks ≡ Some x → with_nack x nacks ≡ nacks
with_nack-itself x nacks rising here =
    sym (changed-with_nack x.id (λ n. n) nacks x x rising here refl refl) ∙ unchanged x.id nacks

pub after_acts-again : (moment : ℕ) (list : List Entry) (history nacks : List Nack) → AreRising history → AreRising nacks → AreIn nacks history → after_acts (map (again moment list) history) nacks ≡ with_nacks (map (shown_again moment list) history) nacks
after_acts-again moment list [] nacks order rising all = refl
after_acts-again moment list (x ∷ xs) nacks order rising all =
    by (λ left above each. after_acts-again moment list xs left order.1 above each) (entries.has_id x.id list)
  where
    change : Nack → Nack
    change n = redelivered n.owner moment (raised x.count) n

    here : nack_with x.id nacks ≡ Some x
    here = All-head (λ n. nack_with n.id nacks ≡ Some n) x xs all

    rest : AreIn nacks xs
    rest = All-tail (λ n. nack_with n.id nacks ≡ Some n) x xs all

    by : ((left : List Nack) → AreRising left → AreIn left xs → after_acts (map (again moment list) xs) left ≡ with_nacks (map (shown_again moment list) xs) left) → (found : Bool)
        → after_acts (cond found (Touch x.id moment (raised x.count)) (Only (record { id = x.id; found = false })) ∷ map (again moment list) xs) nacks
        ≡ with_nacks (cond found (redelivered x.owner moment (raised x.count) x) x ∷ map (shown_again moment list) xs) nacks
    by others true =
        let change : Nack → Nack = λ n. redelivered n.owner moment (raised x.count) n in
        let left = map (changed_at x.id change) nacks in
        let same : left ≡ with_nack (redelivered x.owner moment (raised x.count) x) nacks = changed-with_nack x.id change nacks x (change x) rising here refl refl in
        others left (AreRising-changed x.id change (λ _. refl) nacks rising) (AreIn-changed x.id change (λ _. refl) nacks xs order.0 rest)
        ∙ ap (λ (l : List Nack). with_nacks (map (shown_again moment list) xs) l) same
    by others false = others nacks rising rest ∙ ap (λ (l : List Nack). with_nacks (map (shown_again moment list) xs) l) (sym (with_nack-itself x nacks rising here))

-- ---- which entries a history has

filter-swap : {X : Type 0} (p q : X → Bool) (xs : List X) → filter p (filter q xs) ≡ filter q (filter p xs)
filter-swap p q [] = refl
filter-swap {X} p q (x ∷ xs) = by (filter-swap p q xs) (p x) refl (q x) refl
  where
    by : filter p (filter q xs) ≡ filter q (filter p xs) → (a : Bool) → p x ≡ a → (b : Bool) → q x ≡ b → filter p (filter q (x ∷ xs)) ≡ filter q (filter p (x ∷ xs))
    by rest true e true f = rw (f, e, f) (ap (λ (l : List X). x ∷ l) rest)
    by rest true e false f = rw (f, e, f) rest
    by rest false e true f = rw (f, e) rest
    by rest false e false f = rw (f, e) rest

pub history_of-above : (reader : List ℕ) (after : Id) (count : Option ℕ) (nacks : List Nack) → pending.first_of count (owned_by_named (Some reader) (pending_above after nacks)) ≡ history_of reader after count nacks
history_of-above reader after count nacks =
    ap (λ (l : List Nack). pending.first_of count l) (filter-swap (λ n. is_same_name n.owner reader) (λ n. is_below after n.id) nacks)

AreAbove-take : (id : Id) (n : ℕ) (xs : List Nack) → AreAbove id xs → AreAbove id (take n xs)
AreAbove-take id zero xs above = tt
AreAbove-take id (suc n) [] above = tt
AreAbove-take id (suc n) (x ∷ xs) above = (above.0, AreAbove-take id n xs above.1)

AreRising-take : (n : ℕ) (xs : List Nack) → AreRising xs → AreRising (take n xs)
AreRising-take zero xs rising = tt
AreRising-take (suc n) [] rising = tt
AreRising-take (suc n) (x ∷ xs) rising = (AreAbove-take x.id n xs rising.0, AreRising-take n xs rising.1)

AreRising-first_of : (count : Option ℕ) (xs : List Nack) → AreRising xs → AreRising (pending.first_of count xs)
AreRising-first_of None xs rising = rising
AreRising-first_of (Some n) xs rising = AreRising-take n xs rising

AreIn-first_of : (nacks : List Nack) (count : Option ℕ) (xs : List Nack) → AreIn nacks xs → AreIn nacks (pending.first_of count xs)
AreIn-first_of nacks None xs all = all
AreIn-first_of nacks (Some n) xs all = All-take (λ m. nack_with m.id nacks ≡ Some m) n xs all

pub after_acts-history : (reader : List ℕ) (after : Id) (count : Option ℕ) (moment : ℕ) (list : List Entry) (nacks : List Nack) → AreRising nacks
    → after_acts (map (again moment list) (history_of reader after count nacks)) nacks ≡ with_nacks (map (shown_again moment list) (history_of reader after count nacks)) nacks
after_acts-history reader after count moment list nacks rising =
    let own = owned_by reader nacks in
    let above = filter (λ n. is_below after n.id) own in
    let own_rising = AreRising-filter (λ n. is_same_name n.owner reader) nacks rising in
    let own_in = All-filter (λ n. is_same_name n.owner reader) (λ n. nack_with n.id nacks ≡ Some n) nacks (AreIn-itself nacks rising) in
    after_acts-again moment list (history_of reader after count nacks) nacks
    (AreRising-first_of count above (AreRising-filter (λ n. is_below after n.id) own own_rising))
    rising
    (AreIn-first_of nacks count above (All-filter (λ n. is_below after n.id) (λ n. nack_with n.id nacks ≡ Some n) own own_in))

-- ---- the group behind them

pub new_entries-unread : (unread above : List Entry) (count : Option ℕ) (last known : Id) (list : List Entry) → unread ≡ entries.first_of count above → above ≡ entries_above last list → last ≡ known → unread ≡ new_entries known count list
new_entries-unread unread above count last known list front behind same =
    front ∙ ap (λ (l : List Entry). entries.first_of count l) behind ∙ ap (λ (i : Id). entries.first_of count (entries_above i list)) same

pub showing-delivery : (group : GroupState) (reader : List ℕ) (moment : ℕ) (noack : Bool) (new : List Entry) (last : Id) (acts : List Act) → last ≡ last_id_or group.last new → acts ≡ map (delivery_of reader moment noack) new
    → after_showing (record { consumer = reader; moment = moment; last = last; acts = acts }) group ≡ after_delivery reader moment noack new group
showing-delivery group reader moment noack new last acts end done =
    let made : Id → List Nack → GroupState = λ l n. record { last = l; consumers = seen_at reader moment group.consumers; nacks = n } in
    ap (λ (l : Id). made l (after_acts acts group.nacks)) end
    ∙ ap (λ (n : List Nack). made (last_id_or group.last new) n) (ap (λ (a : List Act). after_acts a group.nacks) done ∙ after_acts-delivery reader moment noack new group.nacks)

pub showing-history : (group : GroupState) (reader : List ℕ) (after : Id) (count : Option ℕ) (moment : ℕ) (list : List Entry) (last : Id) (acts : List Act) → AreRising group.nacks → last ≡ group.last → acts ≡ map (again moment list) (history_of reader after count group.nacks)
    → after_showing (record { consumer = reader; moment = moment; last = last; acts = acts }) group ≡ after_history reader moment list (history_of reader after count group.nacks) group
showing-history group reader after count moment list last acts rising end done =
    let made : Id → List Nack → GroupState = λ l n. record { last = l; consumers = seen_at reader moment group.consumers; nacks = n } in
    ap (λ (l : Id). made l (after_acts acts group.nacks)) end
    ∙ ap (λ (n : List Nack). made group.last n) (ap (λ (a : List Act). after_acts a group.nacks) done ∙ after_acts-history reader after count moment list group.nacks rising)
