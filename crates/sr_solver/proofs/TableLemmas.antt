-- The table of bounds: what an entry that leaves or comes makes of it, and what a bound tells.
use Rattle.std.proofs.Common.{◌≡◌, ℕ, ◌+◌, ◌*◌, ◌<◌, ◌≤◌, ◌⊎◌, List, length, get_or, Option, Some, None, refl, sym, ap}
use Rattle.std.proofs.Common.{◌∙◌, inl, inr, arith, false}
use Rattle.sr_transport.specs.{greatest_charge, Transport, consumers}
use Rattle.std.specs.Prelude.{IsSome, unwrap_or}
use Rattle.std.specs.Option.{is_some}
use Rattle.std.proofs.Math.ListN.{set, length-set, replicate}
use Rattle.std.proofs.Math.Nat.{mul-le-mul_left}
use Rattle.std.proofs.lemmas.Nat.{mul-add-lt}
use Rattle.std.proofs.lemmas.Bool.{cases_eq, cases_lt, false≢true}
use Rattle.std.proofs.lemmas.List.{get_or-set_same, get_or-set_other, get_or-replicate}
use Rattle.std.proofs.lemmas.List.{length-replicate}
use Rattle.sr_transport.specs.plain.Problem.{IsWithinLimits, cost_at, cost_of, IsAllowed}
use Rattle.sr_solver.specs.declared.table.Bound.{Bound}
use Rattle.sr_solver.specs.Table.{bound_at, unknown, no_entry, IsAt, IsTight, IsKnown, IsFound, ArePairsOf, ArePairs, IsWithout}
use Rattle.sr_solver.specs.Table.{IsBest, IsLowered, IsRowChanged, IsApart, IsMover}
use Rattle.sr_solver.proofs.SearchLemmas.{cost_small}

-- what stands past the last place
abbrev blank_bound : Bound
blank_bound = record { low = 0; best = 0 }

-- the rows of two consumers are apart
pub rows_apart : (n a c b : ℕ) → b < n → (a ≡ c → ⊥) → (a * n + b < c * n) ⊎ (c * n + n ≤ a * n + b)
rows_apart n a c b lt ne =
    elim (cases_lt a c) [
      | inl below ↦
          let up : a + 1 ≤ c = omega arith in
          inl (omega (arith, mul-le-mul_left n up))
      | inr above ↦
          let up : c + 1 ≤ a = omega arith in
          inr (omega (arith, mul-le-mul_left n up))
    ]

-- one place more of a row
row_step : (n a i : ℕ) (to : ℕ → Bound → Bound → Type 0) (old new : List Bound)
    (x : Bound)
    → IsRowChanged n a i to old new → a * n + i < length new → to i (bound_at new (a * n + i)) x
    → IsRowChanged n a (i + 1) to old (set new (a * n + i) x)
row_step n a i to old new x changed lt step =
    let same : bound_at new (a * n + i) ≡ bound_at old (a * n + i) =
    changed.others (a * n + i) (inr (omega arith)) in
    record {
      one_each = length-set new (a * n + i) x ∙ changed.one_each;
      row = λ b ltb. elim (cases_eq b i) [
        | inl e ↦ rw e (rw (get_or-set_same new (a * n + i) x blank_bound lt) (rw (← same) step))
        | inr ne ↦ rw (get_or-set_other new (a * n + i) (a * n + b) x blank_bound (λ e. ne (omega arith)))
            (changed.row b (omega arith))
      ];
      others = λ q out.
          let out' : (q < a * n) ⊎ (a * n + i ≤ q) = elim out [ inl low ↦ inl low | inr high ↦ inr (omega arith) ] in
          let ne : q ≡ a * n + i → ⊥ = λ e. elim out [ inl low ↦ omega arith | inr high ↦ omega arith ] in
          get_or-set_other new (a * n + i) q x blank_bound ne ∙ changed.others q out';
    }

pub row_more : (n a i q : ℕ) (to : ℕ → Bound → Bound → Type 0) (old new : List Bound)
    (x : Bound)
    → IsRowChanged n a i to old new → a < n → i < n → length old ≡ n * n → q ≡ a * n + i → to i (bound_at new q) x
    → IsRowChanged n a (i + 1) to old (set new q x)
row_more n a i q to old new x changed lta lti every is step =
    let lt : a * n + i < length new = omega (arith, mul-add-lt a n i n lta lti, every, changed.one_each) in
    rw is (row_step n a i to old new x changed lt (rw (← is) step))

-- the same, where nothing changes there
pub row_stays : (n a i q : ℕ) (to : ℕ → Bound → Bound → Type 0) (old new : List Bound)
    → IsRowChanged n a i to old new → q ≡ a * n + i → to i (bound_at new q) (bound_at new q)
    → IsRowChanged n a (i + 1) to old new
row_stays n a i q to old new changed is step =
    let same : bound_at new (a * n + i) ≡ bound_at old (a * n + i) =
    changed.others (a * n + i) (inr (omega arith)) in
    record {
      one_each = changed.one_each;
      row = λ b ltb. elim (cases_eq b i) [
        | inl e ↦ rw e (let here : to i (bound_at new (a * n + i))
            (bound_at new (a * n + i)) = rw is at step in rw (← same) here)
        | inr ne ↦ changed.row b (omega arith)
      ];
      others = λ x out. changed.others x (elim out [ inl low ↦ inl low | inr high ↦ inr (omega arith) ]);
    }

-- the same costs
pub lowered_is : (i here here' : ℕ) (there there' : Option ℕ) (old new : Bound) → here' ≡ here → there' ≡ there
    → IsLowered i here there old new → IsLowered i here' there' old new
lowered_is i here here' there there' old new is_here is_there lowered = rw is_here (rw is_there lowered)

-- an entry that may not go there changes nothing
pub lowered_not : (i here : ℕ) (there : Option ℕ) (known : Bound) → is_some there ≡ false
    → IsLowered i here there known known
lowered_not i here None known not_allowed = refl
lowered_not i here (Some cost) known not_allowed = absurd (false≢true (sym not_allowed))

-- a bound that holds for any entries
unknown_holds : (p : Transport) (at : ℕ → Type 0) (a b : ℕ) → IsWithinLimits p.rooms p.entries p.costs
    → IsKnown p at a b unknown
unknown_holds p at a b limits = record {
  small = omega arith;
  below = λ i here allowed. omega (arith, cost_small p limits i a);
  best = λ is. absurd (omega (arith, is, limits.few_entries));
}

-- a table of nothing else
pub unknown_pairs : (p : Transport) (xs : List ℕ) (n : ℕ) → IsWithinLimits p.rooms p.entries p.costs
    → n ≡ consumers p * consumers p → ArePairs p xs (replicate n unknown)
unknown_pairs p xs n limits is = record {
  each_pair = length-replicate n unknown ∙ is;
  each = λ a b lta ltb.
      let within : a * consumers p + b < n = omega (arith, is, mul-add-lt a (consumers p) b (consumers p) lta ltb) in
      rw (get_or-replicate n (a * consumers p + b) unknown blank_bound within) (
      unknown_holds p (IsAt xs p.entries a) a b limits);
}

-- what is known where no entry stands
pub none_known : (p : Transport) (at : ℕ → Type 0) (a b : ℕ) → IsWithinLimits p.rooms p.entries p.costs
    → ((i : ℕ) → at i → ⊥) → IsKnown p at a b no_entry
none_known p at a b limits none = record {
  small = omega arith;
  below = λ i here allowed. absurd (none i here);
  best = λ is. absurd (omega (arith, is, limits.few_entries));
}

-- the same entries
pub known_same : (p : Transport) (at at' : ℕ → Type 0) (a b : ℕ) (known : Bound)
    → ((i : ℕ) → at i → at' i) → ((i : ℕ) → at' i → at i) → IsKnown p at a b known → IsKnown p at' a b known
known_same p at at' a b known to from is = record {
  small = is.small;
  below = λ i here allowed. is.below i (from i here) allowed;
  best = λ lt.
      let best : IsTight p at a b known.low known.best = is.best lt in
      record { stands = to known.best best.stands; allowed = best.allowed; tight = best.tight };
}

-- entry i left
known_without : (p : Transport) (at at' : ℕ → Type 0) (a b i : ℕ) (old new : Bound)
    → IsWithinLimits p.rooms p.entries p.costs
    → ((j : ℕ) → at j → (j ≡ i → ⊥) → at' j) → ((j : ℕ) → at' j → at j)
    → IsKnown p at a b old → IsWithout i old new → IsKnown p at' a b new
known_without p at at' a b i old new limits to from known without = record {
  small = omega (arith, known.small, without.low);
  below = λ j here allowed. omega (arith, known.below j (from j here) allowed, without.low);
  best = λ lt. elim without.best [
    | inl none ↦ absurd (omega (arith, lt, none, limits.few_entries))
    | inr kept ↦
        let best : IsTight p at a b old.low old.best = known.best (omega (arith, lt, kept.0)) in
        rw kept.0 (
        record { stands = to old.best best.stands kept.1; allowed = best.allowed; tight = omega (arith, best.tight, without.low) }
        )
  ];
}

-- what was known after an entry came, by its cost
record IsStillAt (here : ℕ) (there : Option ℕ) (old new : Bound) : Type 0 where
  same : new ≡ old
  below : IsSome there → old.low + here ≤ unwrap_or there 0 + greatest_charge

record IsBestAt (i here : ℕ) (there : Option ℕ) (old new : Bound) : Type 0 where
  allowed : IsSome there
  best : IsBest i here (unwrap_or there 0) old new

lowered_split : (i here : ℕ) (there : Option ℕ) (old new : Bound) → IsLowered i here there old new
    → IsStillAt here there old new ⊎ IsBestAt i here there old new
lowered_split i here None old new lowered = inl (record { same = lowered; below = λ some. absurd (false≢true some) })
lowered_split i here (Some there) old new lowered =
    elim lowered [
      | inl still ↦ inl (record { same = still.same; below = λ some. still.below })
      | inr best ↦ inr (record { allowed = refl; best = best })
    ]

-- which entries stand at a consumer once entry i has come
pub record HasCome (at at' : ℕ → Type 0) (i : ℕ) : Type 0 where
  pub stay : (j : ℕ) → at j → at' j
  pub here : at' i
  pub back : (j : ℕ) → at' j → (j ≡ i) ⊎ at j

known_still : (p : Transport) (at at' : ℕ → Type 0) (a b i : ℕ) (old : Bound) → HasCome at at' i
    → IsKnown p at a b old
    → (IsAllowed p i b → old.low + cost_of p i a ≤ cost_of p i b + greatest_charge)
    → IsKnown p at' a b old
known_still p at at' a b i old come known below = record {
  small = known.small;
  below = λ j here allowed. elim (come.back j here) [
    | inl e ↦ rw e (below (rw (← e) allowed))
    | inr before ↦ known.below j before allowed
  ];
  best = λ lt.
      let best : IsTight p at a b old.low old.best = known.best lt in
      record { stands = come.stay old.best best.stands; allowed = best.allowed; tight = best.tight };
}

known_best : (p : Transport) (at at' : ℕ → Type 0) (a b i : ℕ) (old new : Bound)
    → IsWithinLimits p.rooms p.entries p.costs → HasCome at at' i → IsAllowed p i b
    → IsKnown p at a b old → IsBest i (cost_of p i a) (cost_of p i b) old new → IsKnown p at' a b new
known_best p at at' a b i old new limits come allowed known best = record {
  small = omega (arith, best.tight, cost_small p limits i b);
  below = λ j here may. elim (come.back j here) [
    | inl e ↦ rw e (omega (arith, best.tight))
    | inr before ↦ omega (arith, best.tight, best.lower, known.below j before may)
  ];
  best = λ lt. rw best.best (record { stands = come.here; allowed = allowed; tight = best.tight });
}

-- entry i came
pub known_lowered : (p : Transport) (at at' : ℕ → Type 0) (a b i : ℕ) (old new : Bound)
    → IsWithinLimits p.rooms p.entries p.costs → HasCome at at' i → b < consumers p
    → IsKnown p at a b old → IsLowered i (cost_of p i a) (cost_at p i b) old new → IsKnown p at' a b new
known_lowered p at at' a b i old new limits come lt known lowered =
    elim (lowered_split i (cost_of p i a) (cost_at p i b) old new lowered) [
      | inl still ↦ rw still.same (known_still p at at' a b i old come known (λ allowed. still.below allowed.1))
      | inr best ↦ known_best p at at' a b i old new limits come (lt, best.allowed) known best.best
    ]

-- and it is found, if one was before
pub found_lowered : (p : Transport) (i here : ℕ) (there : Option ℕ) (old new : Bound) → i < p.entries
    → IsLowered i here there old new → IsFound p old → IsFound p new
found_lowered p i here there old new lti lowered found =
    elim (lowered_split i here there old new lowered) [
      | inl still ↦ rw still.same found
      | inr best ↦ inl (omega (arith, lti, best.best.best))
    ]

-- the table while entry i stands nowhere, where it stood at a consumer
pub table_left : (p : Transport) (xs : List ℕ) (i : ℕ) (old new : List Bound)
    → IsWithinLimits p.rooms p.entries p.costs → ArePairs p xs old
    → IsRowChanged (consumers p) (get_or xs i 0) (consumers p) (λ to. IsWithout i) old new
    → ArePairsOf p (IsApart (IsAt xs p.entries) i) new
table_left p xs i old new limits table changed = record {
  each_pair = changed.one_each ∙ table.each_pair;
  each = λ a b lta ltb. elim (cases_eq a (get_or xs i 0)) [
    | inl e ↦
        known_without p (IsAt xs p.entries a) (IsApart (IsAt xs p.entries) i a) a b i _ _ limits (λ j here ne. (here, ne))
        (λ j here. here.0)
        (table.each a b lta ltb) (rw e (changed.row b ltb))
    | inr ne ↦
        let same = changed.others (a * consumers p + b) (rows_apart (consumers p) a (get_or xs i 0) b ltb ne) in
        rw same (
        known_same p (IsAt xs p.entries a) (IsApart (IsAt xs p.entries) i a) a b _
        (λ j here. (here, λ e. ne (sym here.1 ∙ ap (λ x. get_or xs x 0) e))) (λ j here. here.0) (table.each a b lta ltb)
        )
  ];
}

-- the same, where it stood nowhere
pub table_waiting : (p : Transport) (xs : List ℕ) (i : ℕ) (old : List Bound)
    → ArePairs p xs old → consumers p ≤ get_or xs i 0 → ArePairsOf p (IsApart (IsAt xs p.entries) i) old
table_waiting p xs i old table nowhere = record {
  each_pair = table.each_pair;
  each = λ a b lta ltb.
      known_same p (IsAt xs p.entries a) (IsApart (IsAt xs p.entries) i a) a b _
      (λ j here.
      (here, λ e. let at : get_or xs j 0 ≡ get_or xs i 0 = ap (λ x. get_or xs x 0) e in omega (arith, here.1, at)))
      (λ j here. here.0) (table.each a b lta ltb);
}

-- the table once entry i has come to consumer c
pub table_arrived : (p : Transport) (xs : List ℕ) (i c : ℕ) (old new : List Bound)
    → IsWithinLimits p.rooms p.entries p.costs → length xs ≡ p.entries → i < p.entries → c < consumers p
    → ArePairsOf p (IsApart (IsAt xs p.entries) i) old
    → IsRowChanged (consumers p) c (consumers p) (λ next. IsLowered i (cost_of p i c) (cost_at p i next)) old new
    → ArePairs p (set xs i c) new
table_arrived p xs i c old new limits every lt ltc table changed =
    let here : get_or (set xs i c) i 0 ≡ c = get_or-set_same xs i c 0 (omega (arith, every)) in
    let other : (j : ℕ) → (j ≡ i → ⊥) → get_or (set xs i c) j 0 ≡ get_or xs j 0 =
    λ j ne. get_or-set_other xs i j c 0 ne in
    let stay : (a j : ℕ) → IsApart (IsAt xs p.entries) i a j → IsAt (set xs i c) p.entries a j =
    λ a j before. (before.0.0, other j before.1 ∙ before.0.1) in
    let back : (a j : ℕ) → IsAt (set xs i c) p.entries a j → (j ≡ i → ⊥) → IsApart (IsAt xs p.entries) i a j =
    λ a j now ne. ((now.0, sym (other j ne) ∙ now.1), ne) in
    record {
      each_pair = changed.one_each ∙ table.each_pair;
      each = λ a b lta ltb. elim (cases_eq a c) [
        | inl e ↦
            let come : HasCome (IsApart (IsAt xs p.entries) i a) (IsAt (set xs i c) p.entries a) i =
            record {
              stay = stay a;
              here = (lt, here ∙ sym e);
              back = λ j now. elim (cases_eq j i) [ inl same ↦ inl same | inr ne ↦ inr (back a j now ne) ];
            } in
            known_lowered p (IsApart (IsAt xs p.entries) i a) (IsAt (set xs i c) p.entries a) a b i _ _ limits come ltb
            (table.each a b lta ltb) (rw e (changed.row b ltb))
        | inr ne ↦
            let same = changed.others (a * consumers p + b) (rows_apart (consumers p) a c b ltb ne) in
            let moved : (j : ℕ) → IsAt (set xs i c) p.entries a j → j ≡ i → ⊥ =
            λ j now e. ne (sym now.1 ∙ ap (λ x. get_or (set xs i c) x 0) e ∙ here) in
            rw same (
            known_same p (IsApart (IsAt xs p.entries) i a) (IsAt (set xs i c) p.entries a) a b _ (stay a)
            (λ j now. back a j now (moved j now)) (table.each a b lta ltb)
            )
      ];
    }

-- the table with another place known
note_at : (p : Transport) (xs : List ℕ) (a b : ℕ) (old : List Bound) (known : Bound)
    → a < consumers p → b < consumers p → ArePairs p xs old → IsKnown p (IsAt xs p.entries a) a b known
    → ArePairs p xs (set old (a * consumers p + b) known)
note_at p xs a b old known lta ltb table is_known =
    let n : ℕ = consumers p in
    let pair : a * n + b < length old = omega (arith, mul-add-lt a n b n lta ltb, table.each_pair) in
    record {
      each_pair = length-set old (a * n + b) known ∙ table.each_pair;
      each = λ c d ltc ltd. elim (cases_eq c a) [
        | inr ne ↦
            let apart : c * n + d ≡ a * n + b → ⊥ = λ e. elim (rows_apart n c a d ltd ne) [
              | inl low ↦ omega arith
              | inr high ↦ omega arith
            ] in
            rw (get_or-set_other old (a * n + b) (c * n + d) known blank_bound apart) (table.each c d ltc ltd)
        | inl same_row ↦ elim (cases_eq d b) [
          | inr ne ↦
              let apart : c * n + d ≡ a * n + b → ⊥ =
              λ e. ne (let row : c * n ≡ a * n = ap (λ x. x * n) same_row in omega arith) in
              rw (get_or-set_other old (a * n + b) (c * n + d) known blank_bound apart) (table.each c d ltc ltd)
          | inl same ↦ rw same_row (rw same (rw (get_or-set_same old (a * n + b) known blank_bound pair) is_known))
        ]
      ];
    }

pub table_noted : (p : Transport) (xs : List ℕ) (a b q : ℕ) (old : List Bound) (known : Bound)
    → a < consumers p → b < consumers p → q ≡ a * consumers p + b → ArePairs p xs old
    → IsKnown p (IsAt xs p.entries a) a b known → ArePairs p xs (set old q known)
table_noted p xs a b q old known lta ltb is table is_known = rw is (note_at p xs a b old known lta ltb table is_known)

-- a best that is known is one to move
pub mover_known : (p : Transport) (xs : List ℕ) (a b q : ℕ) (table : List Bound)
    → a < consumers p → b < consumers p → q ≡ a * consumers p + b → ArePairs p xs table
    → (bound_at table q).best < p.entries → IsMover p (IsAt xs p.entries a) a b (Some (bound_at table q))
mover_known p xs a b q table lta ltb is table_is lt = (rw is (table_is.each a b lta ltb), lt)

-- and if none was found, none may go there
pub none_moves : (p : Transport) (at : ℕ → Type 0) (a b : ℕ) (found : Bound) → IsWithinLimits p.rooms p.entries p.costs
    → IsKnown p at a b found → IsFound p found → (found.best < p.entries → ⊥) → IsMover p at a b None
none_moves p at a b found limits known is none = λ i here allowed. elim is [
  | inl some ↦ absurd (none some)
  | inr above ↦ absurd (omega (arith, above, known.below i here allowed, cost_small p limits i b))
]

-- the place of an ordered pair is within the list
pub pair_in : (p : Transport) (at : ℕ → ℕ → Type 0) (a b n : ℕ) (pairs : List Bound)
    → ArePairsOf p at pairs → a < consumers p → b < consumers p → n ≡ consumers p → a * n + b < length pairs
pair_in p at a b n pairs are lta ltb is =
    rw is (rw are.each_pair (mul-add-lt a (consumers p) b (consumers p) lta ltb))
