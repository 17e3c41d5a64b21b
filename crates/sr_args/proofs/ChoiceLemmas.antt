-- What options ask for: it is one, it has its numbers and ids, and numbers and ids give it.
use Rattle.std.proofs.Common.{◌≡◌, ℕ, ℤ, List, [], ◌∷◌, ◌++◌, Option, Some, None, Result, Ok, Err, refl, sym, ap, ◌∙◌, arith, to_z, of_z, w64, FitsSigned}
use Rattle.std.specs.List.{flat_map}
use Rattle.std.proofs.lemmas.Int.{ints, to_z-of_z}
use Rattle.sr_ids.proofs.SpellingLemmas.{SpellsId-one}
use Rattle.sr_args.specs.declared.call.Trim.{Trim}
use Rattle.sr_args.specs.declared.call.TrimBy.{TrimBy}
use Rattle.sr_args.specs.declared.call.TrimBy.TheVariants as bounds
use Rattle.sr_args.specs.declared.name.Measure.{Measure}
use Rattle.sr_args.specs.declared.name.Measure.TheVariants as measures
use Rattle.sr_args.specs.declared.name.Sign.{Sign}
use Rattle.sr_args.specs.declared.name.Choice.{Choice}
use Rattle.sr_args.specs.declared.options.ValueFault.{ValueFault}
use Rattle.sr_args.specs.declared.options.ValueFault.TheVariants as faults
use Rattle.sr_args.specs.FormWord.{Word, FormWord, HasNumber, HasId, HasNumbers, HasIds}
use Rattle.sr_args.specs.Name.{nothing, with_number}
use Rattle.sr_args.specs.Options.{TrimReading, Written, flag, numbered, count, named_group, trimming, count_place, sign_places, bound_place, limit_places, option_places, IsBound, IsLimit, IsTrim, Sets, Choose}
use Rattle.sr_args.specs.steps.Options.{AreJudged, IsJudged, GivesBound, GivesTrim, trim_operands}
use Rattle.sr_args.specs.declared.number.CountRange.{CountRange}
use Rattle.sr_args.specs.declared.number.CountRange.TheVariants.{Any, FromOne}
use Rattle.sr_args.specs.Number.{IsInt, IsCount}
use Rattle.sr_args.specs.Number.IsInt.{positive, negative}
use Rattle.sr_args.proofs.NumberLemmas.{IsInt-one, IsNat-one}

-- numbers and ids of places one after the other
pub HasNumbers-append : (ps qs : List FormWord) → HasNumbers ps → HasNumbers qs → HasNumbers (ps ++ qs)
HasNumbers-append [] qs p q = q
HasNumbers-append (place ∷ ps) qs p q = (p.0, HasNumbers-append ps qs p.1 q)

pub HasNumbers-front : (ps qs : List FormWord) → HasNumbers (ps ++ qs) → HasNumbers ps
HasNumbers-front [] qs p = tt
HasNumbers-front (place ∷ ps) qs p = (p.0, HasNumbers-front ps qs p.1)

pub HasNumbers-back : (ps qs : List FormWord) → HasNumbers (ps ++ qs) → HasNumbers qs
HasNumbers-back [] qs p = p
HasNumbers-back (place ∷ ps) qs p = HasNumbers-back ps qs p.1

pub HasIds-append : (ps qs : List FormWord) → HasIds ps → HasIds qs → HasIds (ps ++ qs)
HasIds-append [] qs p q = q
HasIds-append (place ∷ ps) qs p q = (p.0, HasIds-append ps qs p.1 q)

pub HasIds-front : (ps qs : List FormWord) → HasIds (ps ++ qs) → HasIds ps
HasIds-front [] qs p = tt
HasIds-front (place ∷ ps) qs p = (p.0, HasIds-front ps qs p.1)

pub HasIds-back : (ps qs : List FormWord) → HasIds (ps ++ qs) → HasIds qs
HasIds-back [] qs p = p
HasIds-back (place ∷ ps) qs p = HasIds-back ps qs p.1

-- a sign is neither a number nor an id
sign-numbers : (sign : Option Sign) → HasNumbers (sign_places sign)
sign-numbers None = tt
sign-numbers (Some sign) = (tt, tt)

sign-ids : (sign : Option Sign) → HasIds (sign_places sign)
sign-ids None = tt
sign-ids (Some sign) = (tt, tt)

limit-ids : (limit : Option Word) → HasIds (limit_places limit)
limit-ids None = tt
limit-ids (Some word) = (tt, (tt, tt))

limit-numbers : (limit : Option Word) (n : ℕ) → IsLimit limit n → HasNumbers (limit_places limit)
limit-numbers None n p = tt
limit-numbers (Some word) n p = (tt, ((n, p), tt))

limit-exists : (limit : Option Word) → HasNumbers (limit_places limit) → (n : ℕ) × IsLimit limit n
limit-exists None p = (0, refl)
limit-exists (Some word) p = p.1.0

limit_value-one : (limit : Option Word) (m n : ℕ) → IsLimit limit m → IsLimit limit n → m ≡ n
limit_value-one None m n p q = p ∙ sym q
limit_value-one (Some word) m n p q = IsNat-one word m n p q

-- the bound of a trim
bound-number : (by : Measure) (word : Word) (bound : TrimBy) → IsBound by word bound → HasNumber (bound_place by word)
bound-number measures.MaxLen word (bounds.MaxLen n) p = (n, p)
bound-number measures.MaxLen word (bounds.MinId id) p = absurd p
bound-number measures.MinId word bound p = tt

bound-id : (by : Measure) (word : Word) (bound : TrimBy) → IsBound by word bound → HasId (bound_place by word)
bound-id measures.MaxLen word bound p = tt
bound-id measures.MinId word (bounds.MaxLen n) p = absurd p
bound-id measures.MinId word (bounds.MinId id) p = (id, p)

bound_value-one : (by : Measure) (word : Word) (a b : TrimBy) → IsBound by word a → IsBound by word b → a ≡ b
bound_value-one measures.MaxLen word (bounds.MaxLen m) (bounds.MaxLen n) p q = ap bounds.MaxLen (IsNat-one word m n p q)
bound_value-one measures.MinId word (bounds.MinId i) (bounds.MinId j) p q = ap bounds.MinId (SpellsId-one 0 word i j p q)
bound_value-one measures.MaxLen word (bounds.MaxLen m) (bounds.MinId j) p q = absurd q
bound_value-one measures.MaxLen word (bounds.MinId i) b p q = absurd p
bound_value-one measures.MinId word (bounds.MinId i) (bounds.MaxLen n) p q = absurd q
bound_value-one measures.MinId word (bounds.MaxLen m) b p q = absurd p

-- what follows the name of a trim
abbrev after_sign : TrimReading → List FormWord
after_sign t = bound_place t.by t.bound ∷ limit_places t.limit

pub trim-numbers : (t : TrimReading) (trim : Trim) → IsTrim t trim → HasNumbers (option_places (trimming t))
trim-numbers t trim p =
    (tt, HasNumbers-append (sign_places t.sign) (after_sign t) (sign-numbers t.sign) (bound-number t.by t.bound trim.by p.by, limit-numbers t.limit trim.limit p.limit))

pub trim-ids : (t : TrimReading) (trim : Trim) → IsTrim t trim → HasIds (option_places (trimming t))
trim-ids t trim p =
    (tt, HasIds-append (sign_places t.sign) (after_sign t) (sign-ids t.sign) (bound-id t.by t.bound trim.by p.by, limit-ids t.limit))

abbrev trim_of_parts : TrimBy → ℕ → Trim
trim_of_parts by limit = record { by = by; limit = limit }

pub IsTrim-one : (t : TrimReading) (a b : Trim) → IsTrim t a → IsTrim t b → a ≡ b
IsTrim-one t a b p q =
    let by = bound_value-one t.by t.bound a.by b.by p.by q.by in
    let limit = limit_value-one t.limit a.limit b.limit p.limit q.limit in
    ap (λ (x : TrimBy). trim_of_parts x a.limit) by ∙ ap (λ (x : ℕ). trim_of_parts b.by x) limit

-- COUNT
count-number : (range : CountRange) (word : Word) (z : ℤ) → IsCount range word z → HasNumber (count_place range word)
count-number Any word z i = (z, i)
count-number FromOne word z i = (z, i)

count-exists : (range : CountRange) (word : Word) → HasNumber (count_place range word) → (z : ℤ) × IsCount range word z
count-exists Any word n = n
count-exists FromOne word n = n

count-id : (range : CountRange) (word : Word) → HasId (count_place range word)
count-id Any word = tt
count-id FromOne word = tt

IsCount-one : (range : CountRange) (word : Word) (x y : ℤ) → IsCount range word x → IsCount range word y → x ≡ y
IsCount-one Any word x y p q = IsInt-one word x y p q
IsCount-one FromOne word x y p q = IsInt-one word x y p.0 q.0

count-int : (range : CountRange) (word : Word) (z : ℤ) → IsCount range word z → IsInt word z
count-int Any word z i = i
count-int FromOne word z i = i.0

-- one option
pub Sets-numbers : (o : Written) (a b : Choice) → Sets o a b → HasNumbers (option_places o)
Sets-numbers (flag f) a b s = (tt, tt)
Sets-numbers (numbered which word) a b s = (tt, ((s.0, s.1), tt))
Sets-numbers (count range most) a b s = (tt, (count-number range most s.0 s.1, tt))
Sets-numbers (named_group group consumer) a b s = (tt, (tt, (tt, tt)))
Sets-numbers (trimming t) a b s = trim-numbers t s.0 s.1

pub Sets-ids : (o : Written) (a b : Choice) → Sets o a b → HasIds (option_places o)
Sets-ids (flag f) a b s = (tt, tt)
Sets-ids (numbered which word) a b s = (tt, (tt, tt))
Sets-ids (count range most) a b s = (tt, (count-id range most, tt))
Sets-ids (named_group group consumer) a b s = (tt, (tt, (tt, tt)))
Sets-ids (trimming t) a b s = trim-ids t s.0 s.1

pub Sets-one : (o : Written) (a b c : Choice) → Sets o a b → Sets o a c → b ≡ c
Sets-one (flag f) a b c s t = s ∙ sym t
Sets-one (numbered which word) a b c s t = s.2 ∙ ap (λ (n : ℕ). with_number which n a) (IsNat-one word s.0 t.0 s.1 t.1) ∙ sym t.2
Sets-one (count range most) a b c s t = s.2 ∙ ap (λ (z : ℤ). record a { count = Some z }) (IsCount-one range most s.0 t.0 s.1 t.1) ∙ sym t.2
Sets-one (named_group group consumer) a b c s t = s ∙ sym t
Sets-one (trimming r) a b c s t = s.2 ∙ ap (λ (trim : Trim). record a { trim = Some trim }) (IsTrim-one r s.0 t.0 s.1 t.1) ∙ sym t.2

-- all of them
pub Choose-numbers : (os : List Written) (a b : Choice) → Choose os a b → HasNumbers (flat_map option_places os)
Choose-numbers [] a b p = tt
Choose-numbers (o ∷ os) a b p = HasNumbers-append (option_places o) (flat_map option_places os) (Sets-numbers o a p.0 p.1) (Choose-numbers os p.0 b p.2)

pub Choose-ids : (os : List Written) (a b : Choice) → Choose os a b → HasIds (flat_map option_places os)
Choose-ids [] a b p = tt
Choose-ids (o ∷ os) a b p = HasIds-append (option_places o) (flat_map option_places os) (Sets-ids o a p.0 p.1) (Choose-ids os p.0 b p.2)

pub Choose-one : (os : List Written) (a b c : Choice) → Choose os a b → Choose os a c → b ≡ c
Choose-one [] a b c p q = p ∙ sym q
Choose-one (o ∷ os) a b c p q =
    let same : q.0 ≡ p.0 = Sets-one o a q.0 p.0 q.1 p.1 in
    Choose-one os p.0 b c p.2 (rw same at q.2)

-- one option more
last-numbers : (os : List Written) (o : Written) → HasNumbers (flat_map option_places (os ++ o ∷ [])) → HasNumbers (flat_map option_places os) × HasNumbers (option_places o)
last-numbers [] o n = (tt, HasNumbers-front (option_places o) [] n)
last-numbers (p ∷ os) o n =
    let rest = last-numbers os o (HasNumbers-back (option_places p) (flat_map option_places (os ++ o ∷ [])) n) in
    (HasNumbers-append (option_places p) (flat_map option_places os) (HasNumbers-front (option_places p) (flat_map option_places (os ++ o ∷ [])) n) rest.0, rest.1)

with_last-numbers : (os : List Written) (o : Written) → HasNumbers (flat_map option_places os) → HasNumbers (option_places o) → HasNumbers (flat_map option_places (os ++ o ∷ []))
with_last-numbers [] o n m = HasNumbers-append (option_places o) [] m tt
with_last-numbers (p ∷ os) o n m =
    HasNumbers-append (option_places p) (flat_map option_places (os ++ o ∷ [])) (HasNumbers-front (option_places p) (flat_map option_places os) n) (with_last-numbers os o (HasNumbers-back (option_places p) (flat_map option_places os) n) m)

last-ids : (os : List Written) (o : Written) → HasIds (flat_map option_places (os ++ o ∷ [])) → HasIds (flat_map option_places os) × HasIds (option_places o)
last-ids [] o n = (tt, HasIds-front (option_places o) [] n)
last-ids (p ∷ os) o n =
    let rest = last-ids os o (HasIds-back (option_places p) (flat_map option_places (os ++ o ∷ [])) n) in
    (HasIds-append (option_places p) (flat_map option_places os) (HasIds-front (option_places p) (flat_map option_places (os ++ o ∷ [])) n) rest.0, rest.1)

Choose-last : (os : List Written) (o : Written) (a b c : Choice) → Choose os a b → Sets o b c → Choose (os ++ o ∷ []) a c
Choose-last [] o a b c p s = let same : b ≡ a = p in (c, rw same at s, refl)
Choose-last (q ∷ os) o a b c p s = (p.0, p.1, Choose-last os o p.0 b c p.2 s)

-- what options ask for, judged one after the other
pub AreJudged-after : (os : List Written) (o : Written) (before : Choice) (result : Result Choice ValueFault) → Choose os nothing before → IsJudged o before result → AreJudged (os ++ o ∷ []) result
AreJudged-after os o before (Ok after) p j = Choose-last os o nothing before after p j
AreJudged-after os o before (Err faults.Number) p j = λ n. j (last-numbers os o n).1
AreJudged-after os o before (Err faults.BadId) p j = (with_last-numbers os o (Choose-numbers os nothing before p) j.0, λ i. j.1 (last-ids os o i).1)

pub AreJudged-number : (os : List Written) (o : Written) → AreJudged os (Err faults.Number) → AreJudged (os ++ o ∷ []) (Err faults.Number)
AreJudged-number os o p = λ n. p (last-numbers os o n).0

pub AreJudged-id : (os : List Written) (o : Written) (before : Choice) (after : Choice) → AreJudged os (Err faults.BadId) → IsJudged o before (Ok after) → AreJudged (os ++ o ∷ []) (Err faults.BadId)
AreJudged-id os o before after p j = (with_last-numbers os o p.0 (Sets-numbers o before after j), λ i. p.1 (last-ids os o i).0)

pub AreJudged-fault : (os : List Written) (o : Written) (before : Choice) (fault : ValueFault) → AreJudged os (Err faults.BadId) → IsJudged o before (Err fault) → AreJudged (os ++ o ∷ []) (Err fault)
AreJudged-fault os o before faults.Number p j = λ n. j (last-numbers os o n).1
AreJudged-fault os o before faults.BadId p j = (with_last-numbers os o p.0 j.0, λ i. p.1 (last-ids os o i).0)

-- the fault of a trim's limit or bound is that of the trim
pub no_limit-no_numbers : (t : TrimReading) → ((n : ℕ) → IsLimit t.limit n → ⊥) → HasNumbers (trim_operands t) → ⊥
no_limit-no_numbers t none n =
    let limit = limit-exists t.limit (HasNumbers-back (sign_places t.sign) (after_sign t) n).1 in none limit.0 limit.1

pub GivesTrim-from_bound : (t : TrimReading) (limit : ℕ) (fault : ValueFault) → IsLimit t.limit limit → GivesBound t.by t.bound (Err fault) → GivesTrim t (Err fault)
GivesTrim-from_bound t limit faults.Number l g = λ n. g (HasNumbers-back (sign_places t.sign) (after_sign t) n).0
GivesTrim-from_bound t limit faults.BadId l g =
    (HasNumbers-append (sign_places t.sign) (after_sign t) (sign-numbers t.sign) (g.0, limit-numbers t.limit limit l), λ i. g.1 (HasIds-back (sign_places t.sign) (after_sign t) i).0)

-- and the fault of a trim is that of its option
pub IsJudged-from_trim : (t : TrimReading) (before : Choice) (fault : ValueFault) → GivesTrim t (Err fault) → IsJudged (trimming t) before (Err fault)
IsJudged-from_trim t before faults.Number g = λ n. g n.1
IsJudged-from_trim t before faults.BadId g = ((tt, g.0), λ i. g.1 i.1)

-- a number that was read fits 64 bits
pub count-back : (word : Word) (z : ℤ) → IsInt word z → to_z w64 (of_z w64 z) ≡ z
count-back word z (positive n d lt e) = let fits : FitsSigned w64 z = omega (arith, ints) in to_z-of_z w64 z fits
count-back word z (negative digits n w d le e) = let fits : FitsSigned w64 z = omega (arith, ints) in to_z-of_z w64 z fits

pub Sets-count : (range : CountRange) (word : Word) (z : ℤ) (before : Choice) → IsCount range word z → Sets (count range word) before (record before { count = Some (to_z w64 (of_z w64 z)) })
Sets-count range word z before i = (z, i, ap (λ (y : ℤ). record before { count = Some y }) (count-back word z (count-int range word z i)))

pub no_count-no_numbers : (range : CountRange) (word : Word) → ((z : ℤ) → IsCount range word z → ⊥) → HasNumbers (option_places (count range word)) → ⊥
no_count-no_numbers range word none n = let found = count-exists range word n.1.0 in none found.0 found.1
