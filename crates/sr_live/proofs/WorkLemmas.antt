-- The problems of two snapshots with the same work differ in the rooms of their tiers alone.
use Rattle.std.proofs.Common.{◌≡◌, ℕ, zero, suc, ◌+◌, ◌<◌, ◌≤◌, min, List, [], ◌∷◌, ◌++◌, length, get_or, map}
use Rattle.std.proofs.Common.{Option, Some, None, IfSome, option_map, unwrap_or, All, refl, sym, ap, ◌∙◌, subst, inl, inr, arith}
use Rattle.std.specs.List.{flat_map}
use Rattle.std.proofs.lemmas.Bool.{cases_lt}
use Rattle.std.proofs.lemmas.List.{get_or-map, length-map}
use Rattle.sr_transport.specs.declared.problem.Tier.{Tier}
use Rattle.sr_transport.specs.Assignment.{load}
use Rattle.sr_transport.specs.Problem.{room_of}
use Rattle.sr_policy.specs.declared.stranded.Stranded.{Stranded}
use Rattle.sr_policy.specs.declared.live.Live.{Live}
use Rattle.sr_policy.specs.{Text, SnapshotState, problem_of, room_at}
use Rattle.sr_policy.specs.Rules.{value_at}
use Rattle.sr_policy.specs.Snapshot.{IsTier}
use Rattle.sr_policy.specs.Problem.{costs_at, next_tier, tiers_from}
use Rattle.sr_policy.proofs.ProblemLemmas.{room_of-live}
use Rattle.sr_live.specs.Bounds.{fee_of, free_load, free_loads, terms_of, HaveRoom, HaveSameCosts, IsSameWork}
use Rattle.sr_live.proofs.AlikeLemmas.{first_room, shape, AreAlike, HaveSameFirst}
use Rattle.sr_live.proofs.TiersLemmas.{first_room-live, room_at-le}

-- what is read past the last consumer
abbrev no_consumer : Live
no_consumer = record { name = []; limit = 0; pending = 0; tier = None }

abbrev pub Terms : Type 0
Terms = Text × ℕ × Option (ℕ × ℕ)

-- a consumer's name and its fee, if it has one
abbrev Fees : Type 0
Fees = Text × Option ℕ

abbrev fees_in : Terms → Fees
fees_in terms = (terms.0, option_map (λ (tier : ℕ × ℕ). tier.1) terms.2)

fees-terms : (live : List Live) → map fee_of live ≡ map fees_in (map terms_of live)
fees-terms [] = refl
fees-terms (x ∷ live) = ap (λ (fees : List Fees). fee_of x ∷ fees) (fees-terms live)

-- the same work has the same costs
pub costs-same : (old now : SnapshotState) → IsSameWork old now → HaveSameCosts old now
costs-same old now work = record {
  stranded = work.stranded;
  rates = work.rates;
  live = fees-terms old.live ∙ ap (λ (terms : List Terms). map fees_in terms) work.live ∙ sym (fees-terms now.live);
}

-- ---- the consumers

-- what depends on the fees of the consumers alone is the same
same_fees : {X : Type 0} (f : List Live → X) (g : List Fees → X)
    → ((live : List Live) → f live ≡ g (map fee_of live)) → (old now : List Live)
    → map fee_of old ≡ map fee_of now → f old ≡ f now
same_fees f g by old now same = by old ∙ ap g same ∙ sym (by now)

length-fees : (live : List Live) → length live ≡ length (map fee_of live)
length-fees live = sym (length-map live fee_of)

no_rates-fees : (live : List Live)
    → ◌≡◌ {A = List (Option ℕ)} (map (λ _. None) live) (map (λ _. None) (map fee_of live))
no_rates-fees [] = refl
no_rates-fees (x ∷ live) = ap (λ (l : List (Option ℕ)). None ∷ l) (no_rates-fees live)

-- the shape of a second tier, if there is one
abbrev next_shapes : ℕ → Option ℕ → List (ℕ × ℕ)
next_shapes c None = []
next_shapes c (Some fee) = (c, fee) ∷ []

-- the shapes of the tiers of consumers with these fees
abbrev shapes_from : ℕ → List Fees → List (ℕ × ℕ)
shapes_from c [] = []
shapes_from c (fees ∷ rest) = ((c, 0) ∷ next_shapes c fees.1) ++ shapes_from (c + 1) rest

next-shapes : (c : ℕ) (x : Live) (tier : Option (ℕ × ℕ)) (rest : List Tier)
    → map shape (next_tier c x tier ++ rest)
    ≡ next_shapes c (option_map (λ (own : ℕ × ℕ). own.1) tier) ++ map shape rest
next-shapes c x None rest = refl
next-shapes c x (Some tier) rest = refl

tiers-shapes : (c : ℕ) (live : List Live) → map shape (tiers_from c live) ≡ shapes_from c (map fee_of live)
tiers-shapes c [] = refl
tiers-shapes c (x ∷ live) =
    ap (λ shapes. (c, 0) ∷ shapes) (next-shapes c x x.tier (tiers_from (c + 1) live)
    ∙ ap (λ shapes. next_shapes c (fee_of x).1 ++ shapes) (tiers-shapes (c + 1) live))

-- ---- the problems

-- the costs of these entries at these rates, and where there are none
abbrev costs_in : List Stranded → List (Text × List (Option ℕ)) → List (Option ℕ) → List (Option ℕ)
costs_in stranded rates none =
    flat_map (λ entry. costs_at entry.weight (unwrap_or (value_at entry.class rates) none)) stranded

costs-alike : (old now : SnapshotState) → HaveSameCosts old now → (problem_of old).costs ≡ (problem_of now).costs
costs-alike old now work =
    let none : List Live → List (Option ℕ) = λ live. map (λ _. None) live in
    let same : none old.live ≡ none now.live =
    same_fees none (λ fees. map (λ _. None) fees) no_rates-fees old.live now.live work.live in
    ap (λ stranded. costs_in stranded old.rates (none old.live)) work.stranded
    ∙ ap (λ rates. costs_in now.stranded rates (none old.live)) work.rates
    ∙ ap (costs_in now.stranded now.rates) same

-- problems with the same costs differ in their rooms alone
pub problems-alike : (old now : SnapshotState) → HaveSameCosts old now → AreAlike (problem_of old) (problem_of now)
problems-alike old now work = record {
  takers = same_fees (λ live. length live) (λ fees. length fees) length-fees old.live now.live work.live;
  entries = ap (λ stranded. length stranded) work.stranded;
  costs = costs-alike old now work;
  shapes = same_fees (λ live. map shape (tiers_from 0 live)) (shapes_from 0) (tiers-shapes 0) old.live now.live
      work.live;
}

-- as many consumers are live
pub live-same : (old now : SnapshotState) → HaveSameCosts old now → length old.live ≡ length now.live
live-same old now work = (problems-alike old now work).takers

-- ---- the soft limits

-- no soft limit is above its limit
abbrev pub AreSoft : List Live → Type 0
AreSoft live = All (λ consumer. IfSome consumer.tier (IsTier consumer.limit)) live

soft-terms : (old now : Live) → terms_of old ≡ terms_of now → IfSome old.tier (IsTier old.limit)
    → IfSome now.tier (IsTier now.limit)
soft-terms old now same soft = subst (λ (terms : Terms). IfSome terms.2 (IsTier terms.1)) same soft

terms-at : (old now : SnapshotState) (i : ℕ) (d : Live) → IsSameWork old now → i < length now.live
    → terms_of (get_or old.live i d) ≡ terms_of (get_or now.live i d)
terms-at old now i d work lt =
    sym (get_or-map terms_of old.live i d (terms_of d) (omega (arith, live-same old now (costs-same old now work))))
    ∙ ap (λ (terms : List Terms). get_or terms i (terms_of d)) work.live
    ∙ get_or-map terms_of now.live i d (terms_of d) lt

pub soft-same : (old now : SnapshotState) → IsSameWork old now → AreSoft old.live → AreSoft now.live
soft-same old now work soft i d lt =
    soft-terms (get_or old.live i d) (get_or now.live i d) (terms-at old now i d work lt)
    (soft i d (omega (arith, live-same old now (costs-same old now work))))

-- ---- how many entries are without a fee

free_loads-at : (assign : List ℕ) (c i : ℕ) (live : List Live) (d : Live) → i < length live
    → get_or (free_loads assign c live) i 0 ≡ free_load (load assign (c + i)) (get_or live i d)
free_loads-at assign c i [] d lt = absurd (omega arith)
free_loads-at assign c zero (x ∷ live) d lt =
    let e : c ≡ c + 0 = omega arith in
    ap (λ n. free_load (load assign n) x) e
free_loads-at assign c (suc i) (x ∷ live) d lt =
    let e : c + 1 + i ≡ c + suc i = omega arith in
    free_loads-at assign (c + 1) i live d (omega arith) ∙ ap (λ n. free_load (load assign n) (get_or live i d)) e

free_load-live : (s : SnapshotState) (assign : List ℕ) (i : ℕ) (d : Live) → i < length s.live
    → get_or (free_loads assign 0 s.live) i 0 ≡ min (load assign i) (first_room (problem_of s) i)
free_load-live s assign i d lt =
    let e : 0 + i ≡ i = omega arith in
    free_loads-at assign 0 i s.live d lt ∙ ap (λ n. free_load (load assign n) (get_or s.live i d)) e
    ∙ ap (min (load assign i)) (sym (first_room-live s i d lt))

-- if as many entries of each consumer are without a fee, as many are in its first tier
pub same_first : (old now : SnapshotState) (assign : List ℕ) → HaveSameCosts old now
    → free_loads assign 0 old.live ≡ free_loads assign 0 now.live
    → HaveSameFirst (problem_of old) (problem_of now) assign
same_first old now assign work same i lt =
    sym (free_load-live old assign i no_consumer lt) ∙ ap (λ (loads : List ℕ). get_or loads i 0) same
    ∙ free_load-live now assign i no_consumer (omega (arith, live-same old now work))

-- ---- who has room

room-at : (assign : List ℕ) (c i : ℕ) (live : List Live) (d : Live) → i < length live → HaveRoom assign c live
    → load assign (c + i) ≤ room_at (get_or live i d)
room-at assign c i [] d lt room = absurd (omega arith)
room-at assign c zero (x ∷ live) d lt room =
    let e : c ≡ c + 0 = omega arith in
    let here : load assign c ≤ room_at x = elim (cases_lt 0 (load assign c)) [
      | inl some ↦ omega (arith, room.0 some)
      | inr none ↦ omega arith
    ] in
    subst (λ n. load assign n ≤ room_at x) e here
room-at assign c (suc i) (x ∷ live) d lt room =
    let e : c + 1 + i ≡ c + suc i = omega arith in
    subst (λ n. load assign n ≤ room_at (get_or live i d)) e (room-at assign (c + 1) i live d (omega arith) room.1)

-- consumers that have room get no more than their room in the problem
pub room-in_problem : (s : SnapshotState) (assign : List ℕ) → HaveRoom assign 0 s.live → (c : ℕ) → c < length s.live
    → load assign c ≤ room_of (problem_of s) c
room-in_problem s assign room c lt =
    let e : 0 + c ≡ c = omega arith in
    let within = subst (λ n. load assign n ≤ room_at (get_or s.live c no_consumer)) e
    (room-at assign 0 c s.live no_consumer lt room) in
    omega (arith, within, room_at-le s c no_consumer lt)

room-from : (assign : List ℕ) (c : ℕ) (live : List Live)
    → ((i : ℕ) → i < length live → load assign (c + i) ≤ room_at (get_or live i no_consumer)) → HaveRoom assign c live
room-from assign c [] within = tt
room-from assign c (x ∷ live) within =
    let e : c + 0 ≡ c = omega arith in
    let here : load assign c ≤ room_at x = subst (λ n. load assign n ≤ room_at x) e (within 0 (omega arith)) in (
      λ some. omega (arith, here),
      room-from assign (c + 1) live (λ i lt.
          let step : c + suc i ≡ c + 1 + i = omega arith in
          subst (λ n. load assign n ≤ room_at (get_or live i no_consumer)) step (within (suc i) (omega arith))),
    )

-- and the other way round, if no soft limit is above its limit
pub room-from_problem : (s : SnapshotState) (assign : List ℕ) → AreSoft s.live
    → ((c : ℕ) → c < length s.live → load assign c ≤ room_of (problem_of s) c) → HaveRoom assign 0 s.live
room-from_problem s assign soft within =
    room-from assign 0 s.live (λ c lt.
    let e : c ≡ 0 + c = omega arith in
    subst (λ n. load assign n ≤ room_at (get_or s.live c no_consumer)) e
    (omega (arith, within c lt, room_of-live s c no_consumer lt soft)))
