-- Lists in order have each element once.
use Rattle.std.proofs.Common.{◌≡◌, ℕ, zero, suc, ◌+◌, ◌-◌, ◌<◌, inl, inr, List, [], ◌∷◌, length, get_or, refl, sym, ap}
use Rattle.std.proofs.Common.{◌∙◌, subst, arith}
use Rattle.std.specs.Prelude.{IsTrue}
use Rattle.std.specs.Ordering.{is_lt, nat_cmp}
use Rattle.std.specs.declared.cmp.Ordering.{Ordering}
use Rattle.std.specs.declared.cmp.Ordering.TheVariants.{Less, Equal, Greater}
use Rattle.std.specs.Cmp.Lexicographic.{slice_cmp}
use Rattle.std.proofs.lemmas.Bool.{cases_order}
use Rattle.std.proofs.lemmas.Cmp.{nat_list_cmp_total, tied_itself}
use Rattle.std.proofs.lemmas.List.{get_or-map}
use Rattle.sr_ids.specs.declared.id.Id.{Id}
use Rattle.sr_ids.specs.{IsBelow}
use Rattle.sr_ids.proofs.IdLemmas.{IsBelow-irreflexive}
use Rattle.sr_policy.specs.declared.live.Live.{Live}
use Rattle.sr_policy.specs.declared.stranded.Stranded.{Stranded}
use Rattle.sr_policy.specs.{Text, AreInOrder}
use Rattle.sr_policy.specs.Snapshot.{ComesBefore}
use Rattle.sr_check.specs.PlanAnswer.{name_at}

-- an element comes before each later one
later : {X : Type 0} (R : X → X → Type 0) → ((a b c : X) → R a b → R b c → R a c) → (xs : List X) → AreInOrder R xs
    → (i n j : ℕ) (d : X) → j ≡ i + 1 + n → j < length xs → R (get_or xs i d) (get_or xs j d)
later R trans xs ordered i zero j d is lt =
    let e : i + 1 ≡ j = omega arith in
    subst (λ k. R (get_or xs i d) (get_or xs k d)) e (ordered i d (omega arith))
later R trans xs ordered i (suc n) j d is lt =
    let k : ℕ = i + 1 + n in
    let e : k + 1 ≡ j = omega arith in
    let far = later R trans xs ordered i n k d refl (omega arith) in
    let near : R (get_or xs k d) (get_or xs j d) =
    subst (λ m. R (get_or xs k d) (get_or xs m d)) e (ordered k d (omega arith)) in
    trans (get_or xs i d) (get_or xs k d) (get_or xs j d) far near

pub before_later : {X : Type 0} (R : X → X → Type 0) → ((a b c : X) → R a b → R b c → R a c) → (xs : List X)
    → AreInOrder R xs
    → (i j : ℕ) (d : X) → i < j → j < length xs → R (get_or xs i d) (get_or xs j d)
before_later R trans xs ordered i j d less lt = later R trans xs ordered i (j - (i + 1)) j d (omega arith) lt

-- ---- names

less-lt : (o : Ordering) → IsTrue (is_lt o) → o ≡ Less
less-lt Less is = refl
less-lt Equal is = absurd (cc is)
less-lt Greater is = absurd (cc is)

lt-less : (o : Ordering) → o ≡ Less → IsTrue (is_lt o)
lt-less o is = ap is_lt is

ComesBefore-trans : (a b c : Text) → ComesBefore a b → ComesBefore b c → ComesBefore a c
ComesBefore-trans a b c first second =
    lt-less (slice_cmp nat_cmp a c)
    (nat_list_cmp_total.trans a b c (less-lt (slice_cmp nat_cmp a b) first) (less-lt (slice_cmp nat_cmp b c) second))

ComesBefore-irreflexive : (a : Text) → ComesBefore a a → ⊥
ComesBefore-irreflexive a before =
    let less = less-lt (slice_cmp nat_cmp a a) before in
    let equal = tied_itself nat_list_cmp_total a in
    absurd (cc (less, equal))

-- the name of a consumer
pub name_at-is : (live : List Live) (c : ℕ) (d : Live) → c < length live → name_at live c ≡ (get_or live c d).name
name_at-is live c d lt = get_or-map (λ (consumer : Live). consumer.name) live c d [] lt

earlier_name : (live : List Live) → AreInOrder (λ a b. ComesBefore a.name b.name) live → (d : Live) (i j : ℕ) → i < j
    → j < length live → name_at live i ≡ name_at live j → ⊥
earlier_name live ordered d i j less lt same =
    let before = before_later (λ (a b : Live). ComesBefore a.name b.name)
    (λ a b c. ComesBefore-trans a.name b.name c.name) live ordered i j d less lt in
    let first = name_at-is live i d (omega arith) in
    let second = name_at-is live j d lt in
    let names : (get_or live i d).name ≡ (get_or live j d).name = sym first ∙ same ∙ second in
    ComesBefore-irreflexive (get_or live j d).name
    (subst (λ name. ComesBefore name (get_or live j d).name) names before)

-- each name has one number
pub one_consumer : (live : List Live) → AreInOrder (λ a b. ComesBefore a.name b.name) live → (i j : ℕ) → i < length live
    → j < length live → name_at live i ≡ name_at live j → i ≡ j
one_consumer [] ordered i j here there same = absurd (omega arith)
one_consumer (d ∷ live) ordered i j here there same =
    elim (cases_order i j) [
      | inl e ↦ e
      | inr (inl lt) ↦ absurd (earlier_name (d ∷ live) ordered d i j lt there same)
      | inr (inr lt) ↦ absurd (earlier_name (d ∷ live) ordered d j i lt here (sym same))
    ]

-- ---- ids

IsBelow-trans : (a b c : Id) → IsBelow a b → IsBelow b c → IsBelow a c
IsBelow-trans a b c first second = grind arith

-- each id has one number
pub earlier_id : (stranded : List Stranded) → AreInOrder (λ a b. IsBelow a.id b.id) stranded → (d : Stranded) (i j : ℕ)
    → i < j → j < length stranded
    → (get_or stranded i d).id ≡ (get_or stranded j d).id → ⊥
earlier_id stranded ordered d i j less lt same =
    let before = before_later (λ (a b : Stranded). IsBelow a.id b.id)
    (λ a b c. IsBelow-trans a.id b.id c.id) stranded ordered i j d less lt in
    IsBelow-irreflexive (get_or stranded j d).id (subst (λ id. IsBelow id (get_or stranded j d).id) same before)
