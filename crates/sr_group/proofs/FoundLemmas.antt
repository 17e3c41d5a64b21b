-- Which pending entry an id finds after acts, and what they list.
use Rattle.std.proofs.Common.{◌≡◌, ℕ, Bool, true, false, cond, not, ◌||◌, List, [], ◌∷◌, ◌++◌, filter, Option, Some, None, inl, inr, refl, ap, subst, sym, ◌∙◌, arith}
use Rattle.std.specs.Option.{option_map}
use Rattle.std.specs.List.{All}
use Rattle.std.proofs.lemmas.List.Elements.{All-head, All-tail}
use Rattle.std.proofs.lemmas.Bool.Decides.{nat_tests}
use Rattle.sr_ids.specs.declared.id.Id.{Id}
use Rattle.sr_ids.specs.{IsBelow}
use Rattle.sr_ids.proofs.IdLemmas.{IsBelow-cases}
use Rattle.sr_entries.specs.declared.entry.Entry.{Entry}
use Rattle.sr_entries.specs.Entries as entries
use Rattle.sr_pending.specs.declared.nack.Nack.{Nack}
use Rattle.sr_ids.specs.{is_below, is_same_id}
use Rattle.sr_pending.specs.{nack_with, redelivered, with_nack}
use Rattle.sr_pending.specs.Pending.{touched, without}
use Rattle.sr_pending.proofs.NackLemmas.{is_below-from, is_same_id-above, is_same_id-below, is_same_id-refl, is_same_id-true}
use Rattle.sr_group.specs.declared.claim.Delivery.{Delivery}
use Rattle.sr_group.specs.declared.shown.Act.{Act}
use Rattle.sr_group.specs.declared.shown.Act.TheVariants.{Give, Touch, Forget, Only}
use Rattle.sr_group.specs.declared.shown.Listed.{Listed}
use Rattle.sr_group.specs.Shown.{after_acts, listed_of}
use Rattle.sr_group.specs.steps.Judging.{IsUpTo, delivery_after, delivery_of}

-- ---- entries of a stream

-- where an entry is found, one has the id
pub has_id-found : (id : Id) (list : List Entry) (entry : Entry) → entries.entry_with id list ≡ Some entry → entries.has_id id list ≡ true
has_id-found id [] entry found = cc
has_id-found id (x ∷ xs) entry found = by (has_id-found id xs entry) (is_same_id x.id id) found
  where
    by : (entries.entry_with id xs ≡ Some entry → entries.has_id id xs ≡ true) → (test : Bool) → cond test (Some x) (entries.entry_with id xs) ≡ Some entry
        → (test || entries.has_id id xs) ≡ true
    by later true here = refl
    by later false there = later there

pub has_id-not_found : (id : Id) (list : List Entry) → entries.entry_with id list ≡ None → entries.has_id id list ≡ false
has_id-not_found id [] none = refl
has_id-not_found id (x ∷ xs) none = by (has_id-not_found id xs) (is_same_id x.id id) none
  where
    by : (entries.entry_with id xs ≡ None → entries.has_id id xs ≡ false) → (test : Bool) → cond test (Some x) (entries.entry_with id xs) ≡ None
        → (test || entries.has_id id xs) ≡ false
    by later true some = cc
    by later false nowhere = later nowhere

-- ---- the entry with an id

-- what is found has the id
pub nack_with-id : (id : Id) (xs : List Nack) (nack : Nack) → nack_with id xs ≡ Some nack → nack.id ≡ id
nack_with-id id [] nack found = cc
nack_with-id id (x ∷ xs) nack found = by (nack_with-id id xs nack) (is_same_id x.id id) refl found
  where
    by : (nack_with id xs ≡ Some nack → nack.id ≡ id) → (test : Bool) → is_same_id x.id id ≡ test → cond test (Some x) (nack_with id xs) ≡ Some nack → nack.id ≡ id
    by later true same here =
        let one : x ≡ nack = cc in
        ap (λ (n : Nack). n.id) (sym one) ∙ is_same_id-true x.id id same
    by later false apart there = later there

-- what all have, the one that is found has
pub All-nack_with : (P : Nack → Type 0) (id : Id) (xs : List Nack) (nack : Nack) → All P xs → nack_with id xs ≡ Some nack → P nack
All-nack_with P id [] nack all found = cc
All-nack_with P id (x ∷ xs) nack all found = by (All-nack_with P id xs nack (All-tail P x xs all)) (is_same_id x.id id) found
  where
    by : (nack_with id xs ≡ Some nack → P nack) → (test : Bool) → cond test (Some x) (nack_with id xs) ≡ Some nack → P nack
    by later true here = let one : x ≡ nack = cc in subst P one (All-head P x xs all)
    by later false there = later there

-- a filter keeps the entry with the id, or leaves it out
pub nack_with-filter : (p : Nack → Bool) (id : Id) (kept : Bool) → ((x : Nack) → x.id ≡ id → p x ≡ kept) → (xs : List Nack) → nack_with id (filter p xs) ≡ cond kept (nack_with id xs) None
nack_with-filter p id true says [] = refl
nack_with-filter p id false says [] = refl
nack_with-filter p id kept says (x ∷ xs) = by (nack_with-filter p id kept says xs) (is_same_id x.id id) refl (p x) refl kept refl
  where
    by : nack_with id (filter p xs) ≡ cond kept (nack_with id xs) None → (same : Bool) → is_same_id x.id id ≡ same → (passes : Bool) → p x ≡ passes → (k : Bool) → kept ≡ k
        → nack_with id (cond passes (x ∷ filter p xs) (filter p xs)) ≡ cond kept (cond same (Some x) (nack_with id xs)) None
    by rest true s true e true k = rw (s, k) refl
    by rest true s true e false k = absurd (let says_so = says x (is_same_id-true x.id id s) in cc)
    by rest true s false e true k = absurd (let says_so = says x (is_same_id-true x.id id s) in cc)
    by rest true s false e false k = rw k (rw k at rest)
    by rest false s true e k q = rw s rest
    by rest false s false e k q = rest

-- the first that is there
abbrev or_else : Option Nack → Option Nack → Option Nack
or_else None other = other
or_else (Some nack) other = Some nack

or_else-none : (found : Option Nack) → or_else found None ≡ found
or_else-none None = refl
or_else-none (Some nack) = refl

nack_with-append : (id : Id) (xs ys : List Nack) → nack_with id (xs ++ ys) ≡ or_else (nack_with id xs) (nack_with id ys)
nack_with-append id [] ys = refl
nack_with-append id (x ∷ xs) ys = by (nack_with-append id xs ys) (is_same_id x.id id)
  where
    by : nack_with id (xs ++ ys) ≡ or_else (nack_with id xs) (nack_with id ys) → (same : Bool)
        → cond same (Some x) (nack_with id (xs ++ ys)) ≡ or_else (cond same (Some x) (nack_with id xs)) (nack_with id ys)
    by rest true = refl
    by rest false = rest

is_below-of : (a b id : Id) (test : Bool) → is_below id b ≡ test → a ≡ id → is_below a b ≡ test
is_below-of a b id test e same = rw same e

is_above-of : (a b id : Id) (test : Bool) → is_below b id ≡ test → a ≡ id → is_below b a ≡ test
is_above-of a b id test e same = rw same e

is_below-same : (a b : Id) → a ≡ b → is_below a b ≡ false
is_below-same a b same = rw same (grind (arith, nat_tests))

is_below-not : (a b : Id) → IsBelow a b → is_below b a ≡ false
is_below-not a b below = grind (arith, nat_tests)

-- with one more entry, its id finds it, and any other id what it found before
pub nack_with-with_nack : (id : Id) (nack : Nack) (xs : List Nack) → nack_with id (with_nack nack xs) ≡ cond (is_same_id id nack.id) (Some nack) (nack_with id xs)
nack_with-with_nack id nack xs =
    elim (IsBelow-cases id nack.id) [
      | inl same ↦ by true false false (rw same (is_same_id-refl nack.id)) (rw same (is_same_id-refl nack.id)) (is_below-same id nack.id same) (is_below-same nack.id id (sym same)) refl
      | inr (inl lt) ↦ by false true false (is_same_id-below id nack.id lt) (is_same_id-above nack.id id lt) (is_below-from id nack.id lt) (is_below-not id nack.id lt) (or_else-none (nack_with id xs))
      | inr (inr gt) ↦ by false false true (is_same_id-above id nack.id gt) (is_same_id-below nack.id id gt) (is_below-not nack.id id gt) (is_below-from nack.id id gt) refl
    ]
  where
    joined : Bool → Bool → Bool → Option Nack
    joined same before behind = or_else (cond before (nack_with id xs) None) (cond same (Some nack) (cond behind (nack_with id xs) None))

    by : (same before behind : Bool) → is_same_id id nack.id ≡ same → is_same_id nack.id id ≡ same → is_below id nack.id ≡ before → is_below nack.id id ≡ behind
        → or_else (cond before (nack_with id xs) None) (cond same (Some nack) (cond behind (nack_with id xs) None)) ≡ cond same (Some nack) (nack_with id xs)
        → nack_with id (with_nack nack xs) ≡ cond (is_same_id id nack.id) (Some nack) (nack_with id xs)
    by same before behind s t b a joins =
        rw s (nack_with-append id (filter (λ x. is_below x.id nack.id) xs) (nack ∷ filter (λ x. is_below nack.id x.id) xs)
        ∙ ap (λ (r : Option Nack). or_else r (nack_with id (nack ∷ filter (λ x. is_below nack.id x.id) xs))) (nack_with-filter (λ x. is_below x.id nack.id) id before (λ x e. is_below-of x.id nack.id id before b e) xs)
        ∙ ap (λ (r : Option Nack). or_else (cond before (nack_with id xs) None) (cond (is_same_id nack.id id) (Some nack) r)) (nack_with-filter (λ x. is_below nack.id x.id) id behind (λ x e. is_above-of x.id nack.id id behind a e) xs)
        ∙ rw t joins)

pub nack_with-without : (id other : Id) (xs : List Nack) → nack_with id (without other xs) ≡ cond (is_same_id id other) None (nack_with id xs)
nack_with-without id other xs = nack_with-filter (λ x. not (is_same_id x.id other)) id (not (is_same_id id other)) (λ x e. rw e refl) xs ∙ flipped (is_same_id id other)
  where
    flipped : (test : Bool) → cond (not test) (nack_with id xs) None ≡ cond test None (nack_with id xs)
    flipped true = refl
    flipped false = refl

-- an entry that is delivered again is found as it then is
module _ (other : Id) (time count : ℕ) where
  abbrev again : Nack → Nack
  again nack = redelivered nack.owner time count nack

  touched_or : (id : Id) (x : Nack) (xs : List Nack) (test : Bool) → is_same_id x.id other ≡ test → nack_with id (cond test (again x) x ∷ xs) ≡ cond (is_same_id x.id id) (Some (cond test (again x) x)) (nack_with id xs)
  touched_or id x xs true e = refl
  touched_or id x xs false e = refl

  pub nack_with-touched : (id : Id) (xs : List Nack) → nack_with id (touched other time count xs) ≡ cond (is_same_id id other) (option_map again (nack_with id xs)) (nack_with id xs)
  nack_with-touched id [] = either None (is_same_id id other)
    where
      either : (found : Option Nack) (test : Bool) → found ≡ cond test found found
      either found true = refl
      either found false = refl
  nack_with-touched id (x ∷ xs) = touched_or id x (touched other time count xs) (is_same_id x.id other) refl ∙ by (nack_with-touched id xs) (is_same_id x.id id) refl (is_same_id id other) refl
    where
      by : nack_with id (touched other time count xs) ≡ cond (is_same_id id other) (option_map again (nack_with id xs)) (nack_with id xs) → (here : Bool) → is_same_id x.id id ≡ here → (named : Bool) → is_same_id id other ≡ named
          → cond here (Some (cond (is_same_id x.id other) (again x) x)) (nack_with id (touched other time count xs)) ≡ cond named (option_map again (cond here (Some x) (nack_with id xs))) (cond here (Some x) (nack_with id xs))
      by rest true h true n = let at : is_same_id x.id other ≡ true = rw (is_same_id-true x.id id h) n in rw at refl
      by rest true h false n = let at : is_same_id x.id other ≡ false = rw (is_same_id-true x.id id h) n in rw at refl
      by rest false h true n = rw n at rest
      by rest false h false n = rw n at rest

-- ---- acts, one after the other

pub delivery_after-act : (act : Act) (id : Id) (xs : List Nack) → option_map delivery_of (nack_with id (after_acts (act ∷ []) xs)) ≡ delivery_after act id (option_map delivery_of (nack_with id xs))
delivery_after-act (Give nack) id xs = ap (option_map delivery_of) (nack_with-with_nack id nack xs) ∙ by (is_same_id id nack.id)
  where
    by : (test : Bool) → option_map delivery_of (cond test (Some nack) (nack_with id xs)) ≡ cond test (Some (delivery_of nack)) (option_map delivery_of (nack_with id xs))
    by true = refl
    by false = refl
delivery_after-act (Touch other time count) id xs = ap (option_map delivery_of) (nack_with-touched other time count id xs) ∙ by (is_same_id id other) (nack_with id xs)
  where
    by : (test : Bool) (found : Option Nack) → option_map delivery_of (cond test (option_map (again other time count) found) found) ≡ cond test (option_map (λ _. record { time = time; count = count }) (option_map delivery_of found)) (option_map delivery_of found)
    by true None = refl
    by true (Some nack) = refl
    by false found = refl
delivery_after-act (Forget other) id xs = ap (option_map delivery_of) (nack_with-without id other xs) ∙ by (is_same_id id other)
  where
    by : (test : Bool) → option_map delivery_of (cond test None (nack_with id xs)) ≡ cond test None (option_map delivery_of (nack_with id xs))
    by true = refl
    by false = refl
delivery_after-act (Only listed) id xs = refl

pub after_acts-append : (acts more : List Act) (xs : List Nack) → after_acts (acts ++ more) xs ≡ after_acts more (after_acts acts xs)
after_acts-append [] more xs = refl
after_acts-append (Give nack ∷ acts) more xs = after_acts-append acts more (with_nack nack xs)
after_acts-append (Touch id time count ∷ acts) more xs = after_acts-append acts more (touched id time count xs)
after_acts-append (Forget id ∷ acts) more xs = after_acts-append acts more (without id xs)
after_acts-append (Only listed ∷ acts) more xs = after_acts-append acts more xs

pub listed_of-append : (acts more : List Act) → listed_of (acts ++ more) ≡ listed_of acts ++ listed_of more
listed_of-append [] more = refl
listed_of-append (Give nack ∷ acts) more = ap (λ (l : List Listed). record { id = nack.id; found = true } ∷ l) (listed_of-append acts more)
listed_of-append (Touch id time count ∷ acts) more = ap (λ (l : List Listed). record { id = id; found = true } ∷ l) (listed_of-append acts more)
listed_of-append (Forget id ∷ acts) more = ap (λ (l : List Listed). record { id = id; found = false } ∷ l) (listed_of-append acts more)
listed_of-append (Only listed ∷ acts) more = ap (λ (l : List Listed). listed ∷ l) (listed_of-append acts more)

-- ---- an id above those of all acts

same_as_below : (last id other : Id) → is_below last id ≡ true → is_below last other ≡ false → is_same_id id other ≡ false
same_as_below last id other above up_to = grind (arith, nat_tests)

delivery_after-above : (last : Id) (act : Act) (id : Id) (before : Option Delivery) → is_below last id ≡ true → IsUpTo last act → delivery_after act id before ≡ before
delivery_after-above last (Give nack) id before above up_to = rw (same_as_below last id nack.id above up_to) refl
delivery_after-above last (Touch other time count) id before above up_to = rw (same_as_below last id other above up_to) refl
delivery_after-above last (Forget other) id before above up_to = rw (same_as_below last id other above up_to) refl
delivery_after-above last (Only listed) id before above up_to = refl

-- finds what it found before them
pub delivery-above : (last : Id) (acts : List Act) (id : Id) (xs : List Nack) → is_below last id ≡ true → All (IsUpTo last) acts
    → option_map delivery_of (nack_with id (after_acts acts xs)) ≡ option_map delivery_of (nack_with id xs)
delivery-above last [] id xs above all = refl
delivery-above last (act ∷ acts) id xs above all =
    ap (λ (l : List Nack). option_map delivery_of (nack_with id l)) (after_acts-append (act ∷ []) acts xs)
    ∙ delivery-above last acts id (after_acts (act ∷ []) xs) above (All-tail (IsUpTo last) act acts all)
    ∙ delivery_after-act act id xs
    ∙ delivery_after-above last act id (option_map delivery_of (nack_with id xs)) above (All-head (IsUpTo last) act acts all)
