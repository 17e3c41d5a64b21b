-- The allowed pairs of an entry: between neighbors in its row no consumer is allowed, so that what is known up to the
-- one is known up to the other.
use Rattle.std.proofs.Common.{◌≡◌, ℕ, zero, suc, ◌+◌, ◌*◌, ◌<◌, ◌≤◌, ◌⊎◌, List, length, Option, Some, None}
use Rattle.std.proofs.Common.{refl, inl, inr, arith}
use Rattle.std.specs.Prelude.{IsSome, IfNone}
use Rattle.std.proofs.lemmas.Bool.{cases_lt}
use Rattle.sr_transport.specs.{Transport, consumers}
use Rattle.sr_transport.specs.plain.Problem.{cost_at, IsAllowed}
use Rattle.sr_solver.specs.declared.pairs.Pair.{Pair}
use Rattle.sr_solver.specs.declared.stepped.Step.{Step}
use Rattle.sr_solver.specs.declared.table.Bound.{Bound}
use Rattle.sr_solver.specs.declared.taker.Cheapest.{Cheapest}
use Rattle.sr_solver.specs.Pairs.{pair_at, IsRowOf}
use Rattle.sr_solver.specs.Table.{bound_at, IsTight, ArePairsOf, IsRowChanged, IsWithout, IsLowered}
use Rattle.sr_solver.specs.Taker.{IsFree, IsCheapest}

-- how many consumers are looked at with the first j pairs of a row: all up to that of the last one
abbrev pub looked_at : List Pair → ℕ → ℕ
looked_at pairs zero = 0
looked_at pairs (suc j) = (pair_at pairs j).consumer + 1

-- from consumer n up to m none is allowed
pub record IsGap (p : Transport) (i n m : ℕ) : Type 0 where
  pub forward : n ≤ m
  pub none : (c : ℕ) → n ≤ c → c < m → IsAllowed p i c → ⊥

-- a pair that comes before place j is looked at with the first j
looked_before : (p : Transport) (i j k : ℕ) (pairs : List Pair) → IsRowOf p i pairs → k < j → j ≤ length pairs
    → (pair_at pairs k).consumer < looked_at pairs j
looked_before p i zero k pairs row lt le = absurd (omega arith)
looked_before p i (suc j) k pairs row lt le = elim (cases_lt k j) [
  | inl below ↦ omega (arith, row.rising k j below (omega arith))
  | inr last ↦ let same : k ≡ j = omega arith in rw same (omega arith)
]

-- after one pair more
pub looked_next : (pairs : List Pair) (j : ℕ) → looked_at pairs (j + 1) ≡ (pair_at pairs j).consumer + 1
looked_next pairs j = let e : j + 1 ≡ suc j = omega arith in rw e refl

looked_forward : (p : Transport) (i j : ℕ) (pairs : List Pair) → IsRowOf p i pairs → j < length pairs
    → looked_at pairs j ≤ (pair_at pairs j).consumer
looked_forward p i zero pairs row lt = omega arith
looked_forward p i (suc j) pairs row lt = omega (arith, row.rising j (suc j) (omega arith) lt)

looked_within : (p : Transport) (i j : ℕ) (pairs : List Pair) → IsRowOf p i pairs → j ≤ length pairs
    → looked_at pairs j ≤ consumers p
looked_within p i zero pairs row le = omega arith
looked_within p i (suc j) pairs row le = omega (arith, row.consumer j (omega arith))

-- between neighbors in a row none is allowed, nor before the first one
pub gap_before : (p : Transport) (i j : ℕ) (pairs : List Pair) → IsRowOf p i pairs → j < length pairs
    → IsGap p i (looked_at pairs j) (pair_at pairs j).consumer
gap_before p i j pairs row lt = record {
  forward = looked_forward p i j pairs row lt;
  none = λ c from below allowed.
      let pair = row.each c allowed in
      elim (cases_lt pair.0 j) [
        | inl before ↦ omega (arith, looked_before p i j pair.0 pairs row before (omega arith), pair.2)
        | inr after ↦ elim (cases_lt j pair.0) [
          | inl later ↦ omega (arith, row.rising j pair.0 later pair.1, pair.2)
          | inr same ↦
              let is : pair.0 ≡ j = omega arith in
              let here : (pair_at pairs j).consumer ≡ c = rw is at pair.2 in
              omega arith
        ]
      ];
}

-- nor after the last one
pub gap_after : (p : Transport) (i j : ℕ) (pairs : List Pair) → IsRowOf p i pairs → j ≡ length pairs
    → IsGap p i (looked_at pairs j) (consumers p)
gap_after p i j pairs row all = record {
  forward = looked_within p i j pairs row (omega arith);
  none = λ c from below allowed.
      let pair = row.each c allowed in
      omega (arith, looked_before p i j pair.0 pairs row (omega (arith, pair.1)) (omega arith), pair.2);
}

-- so each allowed consumer is looked at in the end
pub looked_all : (p : Transport) (i j c : ℕ) (pairs : List Pair) → IsRowOf p i pairs → j ≡ length pairs
    → IsAllowed p i c → c < looked_at pairs j
looked_all p i j c pairs row all allowed = elim (cases_lt c (looked_at pairs j)) [
  | inl below ↦ below
  | inr above ↦ absurd ((gap_after p i j pairs row all).none c (omega arith) allowed.0 allowed)
]

-- and with the next pair its consumer alone
pub looked_more : (p : Transport) (i j c : ℕ) (pairs : List Pair) → IsRowOf p i pairs → j < length pairs
    → IsAllowed p i c → c < looked_at pairs (j + 1) → (c ≡ (pair_at pairs j).consumer) ⊎ (c < looked_at pairs j)
looked_more p i j c pairs row lt allowed below = elim (cases_lt c (looked_at pairs j)) [
  | inl before ↦ inr before
  | inr after ↦ elim (cases_lt c (pair_at pairs j).consumer) [
    | inl between ↦ absurd ((gap_before p i j pairs row lt).none c (omega arith) between allowed)
    | inr last ↦ inl (omega (arith, looked_next pairs j))
  ]
]

-- no consumer of a gap takes the entry at once
free_skips : (p : Transport) (s : List Step) (prices loads : List ℕ) (k n m sum : ℕ) (free : Option ℕ)
    → IsGap p k n m → IfNone free ((c : ℕ) → c < n → IsFree p s prices loads k sum c → ⊥)
    → IfNone free ((c : ℕ) → c < m → IsFree p s prices loads k sum c → ⊥)
free_skips p s prices loads k n m sum (Some f) gap before = tt
free_skips p s prices loads k n m sum None gap before = λ c lt is. elim (cases_lt c n) [
  | inl below ↦ before c below is
  | inr above ↦ gap.none c (omega arith) lt is.allowed
]

-- the cheapest consumer stays over a gap
pub cheapest_skips : (p : Transport) (s : List Step) (prices loads : List ℕ) (k n m : ℕ) (old : Cheapest)
    → IsGap p k n m → IsCheapest p s prices loads k n old → IsCheapest p s prices loads k m old
cheapest_skips p s prices loads k n m old gap before = record {
  least = λ c lt allowed. elim (cases_lt c n) [
    | inl below ↦ before.least c below allowed
    | inr above ↦ absurd (gap.none c (omega arith) lt allowed)
  ];
  free = before.free;
  attained = before.attained;
  none = free_skips p s prices loads k n m old.sum old.free gap before.none;
}

-- a row of a table goes on unchanged up to place m
row_skips : (n a i m : ℕ) (to : ℕ → Bound → Bound → Type 0) (old new : List Bound)
    → i ≤ m → ((b : ℕ) → i ≤ b → b < m → to b (bound_at old (a * n + b)) (bound_at old (a * n + b)))
    → IsRowChanged n a i to old new → IsRowChanged n a m to old new
row_skips n a i m to old new forward stays changed = record {
  one_each = changed.one_each;
  row = λ b lt. elim (cases_lt b i) [
    | inl below ↦ changed.row b below
    | inr above ↦ rw (changed.others (a * n + b) (inr (omega arith))) (stays b (omega arith) lt)
  ];
  others = λ q out. changed.others q (elim out [ inl low ↦ inl low | inr high ↦ inr (omega arith) ]);
}

-- an entry that may not go there changes nothing
lowered_none : (i here : ℕ) (there : Option ℕ) (known : Bound) → (IsSome there → ⊥) → IsLowered i here there known known
lowered_none i here None known not = refl
lowered_none i here (Some cost) known not = absurd (not refl)

-- the bounds of an entry that comes stay over a gap
pub lowered_skips : (p : Transport) (i a n m here : ℕ) (old new : List Bound)
    → IsGap p i n m → m ≤ consumers p
    → IsRowChanged (consumers p) a n (λ b. IsLowered i here (cost_at p i b)) old new
    → IsRowChanged (consumers p) a m (λ b. IsLowered i here (cost_at p i b)) old new
lowered_skips p i a n m here old new gap within changed =
    row_skips (consumers p) a n m (λ b. IsLowered i here (cost_at p i b)) old new gap.forward
    (λ b from below. lowered_none i here (cost_at p i b) _
    (λ some. gap.none b from below (omega arith, some))) changed

-- an entry is the best only where it is allowed
pub best_allowed : (p : Transport) (at : ℕ → ℕ → Type 0) (a b i : ℕ) (pairs : List Bound) → ArePairsOf p at pairs
    → i < p.entries → a < consumers p → b < consumers p → (bound_at pairs (a * consumers p + b)).best ≡ i
    → IsAllowed p i b
best_allowed p at a b i pairs are lti lta ltb is =
    let known = are.each a b lta ltb in
    let best : IsTight p (at a) a b (bound_at pairs (a * consumers p + b)).low (bound_at pairs (a * consumers p + b)).best =
    known.best (omega (arith, is, lti)) in
    rw is at best.allowed

-- the bounds of an entry that leaves stay over a gap
pub without_skips : (p : Transport) (i a n m : ℕ) (old new : List Bound)
    → IsGap p i n m → m ≤ consumers p
    → ((b : ℕ) → b < consumers p → (bound_at old (a * consumers p + b)).best ≡ i → IsAllowed p i b)
    → IsRowChanged (consumers p) a n (λ b. IsWithout i) old new
    → IsRowChanged (consumers p) a m (λ b. IsWithout i) old new
without_skips p i a n m old new gap within best changed =
    row_skips (consumers p) a n m (λ b. IsWithout i) old new gap.forward
    (λ b from below. record {
      low = refl;
      best = inr (refl, λ is. gap.none b from below (best b (omega arith) is));
    }) changed
