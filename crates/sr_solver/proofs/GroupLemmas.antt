-- The bounds by group: what entries that come and go make of them, and what the least of them tells.
use Rattle.std.proofs.Common.{◌≡◌, ℕ, ◌+◌, ◌-◌, ◌*◌, ◌/◌, ◌^◌, ◌<◌, ◌≤◌, ◌⊎◌, List, length, get_or}
use Rattle.std.proofs.Common.{sym, ap, ◌∙◌, inl, inr, arith}
use Rattle.std.proofs.Math.ListN.{set, length-set, replicate}
use Rattle.std.proofs.Math.Nat.{mul-le-mul_left, div-mul-le_self, lt-div-mul-add}
use Rattle.std.proofs.lemmas.Nat.{mul-add-lt}
use Rattle.std.proofs.lemmas.Bool.{cases_eq, cases_lt}
use Rattle.std.proofs.lemmas.List.{get_or_past, get_or-set_same, get_or-set_other, get_or-replicate, length-replicate}
use Rattle.sr_transport.specs.{greatest_charge, Transport, consumers}
use Rattle.sr_transport.specs.plain.Problem.{IsWithinLimits, room_of, cost_at, cost_of, IsAllowed}
use Rattle.sr_solver.specs.Limits.{group_size, narrow_room}
use Rattle.sr_solver.specs.declared.table.Bound.{Bound}
use Rattle.sr_solver.specs.declared.groups.Groups.{Groups}
use Rattle.sr_solver.specs.Groups.{IsAt, IsInGroup, IsBetween, IsAtIn, AreGroups, low_row, AreLowsOf, AreLowered}
use Rattle.sr_solver.specs.Table.{no_entry, IsApart, IsKnown, IsTight, IsLowered}
use Rattle.sr_solver.proofs.SearchLemmas.{cost_small}
use Rattle.sr_solver.proofs.TableLemmas.{rows_apart, HasCome, known_lowered, known_same, none_known}

-- a row of n places ends before the list does
row_within : (n x rows : ℕ) → x < rows → x * n + n ≤ rows * n
row_within n x rows lt =
    let up : x + 1 ≤ rows = omega arith in
    omega (arith, mul-le-mul_left n up)

-- a row of bounds is in the list
pub record IsLowRow (long row groups : ℕ) : Type 0 where
  pub short : long ≤ 2 ^ 32
  pub within : row + groups ≤ long

pub row_fits : (p : Transport) (groups : Groups) (a b row : ℕ) (lows : List ℕ)
    → IsWithinLimits p.rooms p.entries p.costs
    → AreGroups p groups → length lows ≡ consumers p * groups.span * groups.count → a < consumers p
    → narrow_room < room_of p a → b < consumers p
    → row ≡ low_row (consumers p) groups a b → IsLowRow (length lows) row groups.count
row_fits p groups a b row lows limits are long lta wide ltb is =
    let m : ℕ = consumers p in
    let x : ℕ = a - groups.first in
    let at = are.spanned a lta wide in
    let pair : x * m + b < m * groups.span = mul-add-lt x m b groups.span (omega (arith, at.0, at.1)) ltb in
    let small : groups.span ≤ 128 = omega (arith, are.within, limits.consumers) in
    let some : m * groups.span ≤ m * 128 = omega (arith, mul-le-mul_left m small) in
    let few : m * groups.span ≤ 16384 = omega (arith, some, limits.consumers) in
    record {
      short = omega (arith, long, mul-le-mul_left groups.count few, are.few);
      within = rw is (rw long (row_within groups.count (x * m + b) (m * groups.span) pair));
    }

-- two places that are not in the same column of the same row
place_apart : (n x y k g : ℕ) → k < n → g < n → (x ≡ y → k ≡ g → ⊥) → x * n + k ≡ y * n + g → ⊥
place_apart n x y k g ltk ltg ne e = elim (cases_eq x y) [
  | inl same ↦
      let row : x * n ≡ y * n = ap (λ z. z * n) same in
      ne same (omega (arith, e, row))
  | inr far ↦ elim (rows_apart n x y k ltk far) [
    | inl low ↦ omega (arith, low, e)
    | inr high ↦ omega (arith, high, e, ltg)
  ]
]

-- no bound is known yet
zero_at : (n q : ℕ) → get_or (replicate {A = ℕ} n 0) q 0 ≡ 0
zero_at n q = elim (cases_lt q n) [
  | inl within ↦ get_or-replicate n q 0 0 within
  | inr past ↦ get_or_past (replicate {A = ℕ} n 0) q 0 (omega (arith, length-replicate {A = ℕ} n 0, past))
]

pub lows_unknown : (p : Transport) (at : ℕ → ℕ → Type 0) (groups : Groups) (n : ℕ) (lows : List ℕ)
    → IsWithinLimits p.rooms p.entries p.costs → AreGroups p groups → lows ≡ replicate {A = ℕ} n 0
    → n ≡ consumers p * groups.span * groups.count → AreLowsOf p at groups lows
lows_unknown p at groups n lows limits are is long = record {
  each_group = ap length is ∙ length-replicate {A = ℕ} n 0 ∙ long;
  grouped = are;
  below = λ a b g i lta ltb ltg wide here member may.
      let place : ℕ = low_row (consumers p) groups a b + g in
      omega (arith, ap (λ xs. get_or xs place 0) is, zero_at n place, cost_small p limits i a);
}

-- fewer entries
pub lows_fewer : (p : Transport) (at at' : ℕ → ℕ → Type 0) (groups : Groups) (lows : List ℕ)
    → ((a i : ℕ) → at' a i → at a i) → AreLowsOf p at groups lows → AreLowsOf p at' groups lows
lows_fewer p at at' groups lows from are = record {
  each_group = are.each_group;
  grouped = are.grouped;
  below = λ a b g i lta ltb ltg wide here member may. are.below a b g i lta ltb ltg wide (from a i here) member may;
}

-- the bounds once entry i has come to consumer c
pub lows_come : (p : Transport) (xs : List ℕ) (i c : ℕ) (groups : Groups) (old new : List ℕ) → length xs ≡ p.entries
    → i < p.entries → AreLowsOf p (IsApart (IsAt xs p.entries) i) groups old → AreLowered p c i groups old new
    → AreLowsOf p (IsAt (set xs i c) p.entries) groups new
lows_come p xs i c groups old new every lti are lowered = record {
  each_group = lowered.each_group ∙ are.each_group;
  grouped = are.grouped;
  below = λ a b g j lta ltb ltg wide here member may. elim (cases_eq j i) [
    | inl e ↦
        let is : a ≡ c =
        sym here.1 ∙ ap (λ x. get_or (set xs i c) x 0) e ∙ get_or-set_same xs i c 0 (omega (arith, every)) in
        rw e (rw is (lowered.below b g ltb (rw is at wide) (rw e at member) (rw e at may)))
    | inr ne ↦
        let before : IsApart (IsAt xs p.entries) i a j =
        ((here.0, sym (get_or-set_other xs i j c 0 ne) ∙ here.1), ne) in
        omega (
          arith,
          lowered.none_higher (low_row (consumers p) groups a b + g),
          are.below a b g j lta ltb ltg wide before member may,
        )
  ];
}

-- another bound for one group
note_low : (p : Transport) (at : ℕ → ℕ → Type 0) (groups : Groups) (a b g low : ℕ) (old : List ℕ)
    → a < consumers p → narrow_room < room_of p a → b < consumers p → g < groups.count → AreLowsOf p at groups old
    → low_row (consumers p) groups a b + g < length old
    → ((i : ℕ) → at a i → IsInGroup g i → IsAllowed p i b → low + cost_of p i a ≤ cost_of p i b + greatest_charge)
    → AreLowsOf p at groups (set old (low_row (consumers p) groups a b + g) low)
note_low p at groups a b g low old lta wide_a ltb ltg are within holds =
    let m : ℕ = consumers p in
    let from : ℕ → ℕ = λ c. c - groups.first in
    let q : ℕ = low_row m groups a b + g in
    record {
      each_group = length-set old q low ∙ are.each_group;
      grouped = are.grouped;
      below = λ c d k i ltc ltd ltk wide here member may.
          let x : ℕ = low_row m groups c d + k in
          let keep : (x ≡ q → ⊥) → get_or (set old q low) x 0 + cost_of p i c ≤ cost_of p i d + greatest_charge =
          λ apart. rw (get_or-set_other old q x low 0 apart) (are.below c d k i ltc ltd ltk wide here member may) in
          let same : c - groups.first ≡ a - groups.first → c ≡ a = λ e.
          omega (arith, e, (are.grouped.spanned c ltc wide).0, (are.grouped.spanned a lta wide_a).0) in
          elim (cases_eq k g) [
            | inr ne ↦ keep (place_apart groups.count (from c * m + d) (from a * m + b) k g ltk ltg (λ s t. ne t))
            | inl same_group ↦ elim (cases_eq c a) [
              | inr ne ↦
                  keep (place_apart groups.count (from c * m + d) (from a * m + b) k g ltk ltg
                  (λ s t. place_apart m (from c) (from a) d b ltd ltb (λ u v. ne (same u)) s))
              | inl same_from ↦ elim (cases_eq d b) [
                | inr ne ↦
                    keep (place_apart groups.count (from c * m + d) (from a * m + b) k g ltk ltg
                    (λ s t. place_apart m (from c) (from a) d b ltd ltb (λ u v. ne v) s))
                | inl same_to ↦
                    let stands : at a i = rw same_from at here in
                    let member' : IsInGroup g i = rw same_group at member in
                    let allowed : IsAllowed p i b = rw same_to at may in
                    rw same_group (rw same_from (rw same_to (rw (get_or-set_same old q low 0 within)
                    (holds i stands member' allowed))))
              ]
            ]
          ];
    }

-- each entry is in a group
in_group : (i : ℕ) → IsInGroup (i / group_size) i
in_group i = (div-mul-le_self i group_size, lt-div-mul-add {a = i} {b = group_size} (omega arith))

pub group_below : (p : Transport) (groups : Groups) (i : ℕ) → AreGroups p groups → i < p.entries
    → i / group_size < groups.count
group_below p groups i are lti = omega (arith, div-mul-le_self i group_size, are.enough)

-- what was found in a group is its bound
pub lows_noted : (p : Transport) (xs : List ℕ) (groups : Groups) (a b g row : ℕ) (old : List ℕ) (found : Bound)
    → IsWithinLimits p.rooms p.entries p.costs
    → a < consumers p → narrow_room < room_of p a → b < consumers p → g < groups.count
    → row ≡ low_row (consumers p) groups a b → AreLowsOf p (IsAt xs p.entries) groups old → IsKnown p (IsAtIn xs p.entries a g) a b found
    → AreLowsOf p (IsAt xs p.entries) groups (set old (row + g) found.low)
lows_noted p xs groups a b g row old found limits lta wide ltb ltg is are known =
    let fits = row_fits p groups a b row old limits are.grouped are.each_group lta wide ltb is in
    let within : low_row (consumers p) groups a b + g < length old =
    (let end : row + g < length old = omega (arith, fits.within, ltg) in rw is at end) in
    rw is (
    note_low p (IsAt xs p.entries) groups a b g found.low old lta wide ltb ltg are within
    (λ i here member may. known.below i (here, member.0, member.1) may)
    )

-- each bound is at least what was found in the group with the least one
pub least_of_all : (p : Transport) (xs : List ℕ) (groups : Groups) (a b g row : ℕ) (lows : List ℕ) (found : Bound)
    → a < consumers p → b < consumers p → narrow_room < room_of p a
    → row ≡ low_row (consumers p) groups a b → AreLowsOf p (IsAt xs p.entries) groups lows → IsKnown p (IsAtIn xs p.entries a g) a b found
    → ((k : ℕ) → k < groups.count → found.low ≤ get_or lows (row + k) 0)
    → IsKnown p (IsAt xs p.entries a) a b found
least_of_all p xs groups a b g row lows found lta ltb wide is are known least =
    record {
      small = known.small;
      below = λ i here may.
          let member : IsInGroup (i / group_size) i = in_group i in
          let ltk : i / group_size < groups.count = group_below p groups i are.grouped here.0 in
          let held = are.below a b (i / group_size) i lta ltb ltk wide here member may in
          let more = rw is at (least (i / group_size) ltk) in
          omega (arith, held, more);
      best = λ lt.
          let best : IsTight p (IsAtIn xs p.entries a g) a b found.low found.best = known.best lt in
          record { stands = best.stands.0; allowed = best.allowed; tight = best.tight };
    }

-- no entry was looked at
pub between_none : (p : Transport) (xs : List ℕ) (a b first : ℕ) → IsWithinLimits p.rooms p.entries p.costs
    → IsKnown p (IsBetween xs p.entries a first first) a b no_entry
between_none p xs a b first limits =
    none_known p (IsBetween xs p.entries a first first) a b limits (λ i here. omega (arith, here.1, here.2))

-- one entry more is looked at, which stands there
pub between_more : (p : Transport) (xs : List ℕ) (a b first i : ℕ) (old new : Bound)
    → IsWithinLimits p.rooms p.entries p.costs → b < consumers p → i < p.entries → get_or xs i 0 ≡ a → first ≤ i
    → IsKnown p (IsBetween xs p.entries a first i) a b old → IsLowered i (cost_of p i a) (cost_at p i b) old new
    → IsKnown p (IsBetween xs p.entries a first (i + 1)) a b new
between_more p xs a b first i old new limits ltb lti stands from known lowered =
    let come : HasCome (IsBetween xs p.entries a first i) (IsBetween xs p.entries a first (i + 1)) i =
    record {
      stay = λ j before. (before.0, before.1, omega (arith, before.2));
      here = ((lti, stands), from, omega arith);
      back = λ j now. elim (cases_eq j i) [
        | inl e ↦ inl e
        | inr ne ↦ inr (now.0, now.1, omega (arith, now.2, ne))
      ];
    } in
    known_lowered p (IsBetween xs p.entries a first i) (IsBetween xs p.entries a first (i + 1)) a b i old new
    limits come ltb known lowered

-- one that does not stand there
pub between_other : (p : Transport) (xs : List ℕ) (a b first i : ℕ) (known : Bound)
    → (get_or xs i 0 ≡ a → ⊥)
    → IsKnown p (IsBetween xs p.entries a first i) a b known
    → IsKnown p (IsBetween xs p.entries a first (i + 1)) a b known
between_other p xs a b first i known elsewhere is =
    known_same p (IsBetween xs p.entries a first i) (IsBetween xs p.entries a first (i + 1)) a b known
    (λ j before. (before.0, before.1, omega (arith, before.2)))
    (λ j now.
    let ne : j ≡ i → ⊥ = λ e. elsewhere (ap (λ x. get_or xs x 0) (sym e) ∙ now.0.1) in
    (now.0, now.1, omega (arith, now.2, ne)))
    is

-- all entries of a group were looked at
pub between_all : (p : Transport) (xs : List ℕ) (a b g end i : ℕ) (known : Bound)
    → end ≤ g * group_size + group_size → (p.entries ≤ end) ⊎ (g * group_size + group_size ≤ end)
    → end ≤ i → (i ≤ end) ⊎ (i ≡ g * group_size)
    → IsKnown p (IsBetween xs p.entries a (g * group_size) i) a b known → IsKnown p (IsAtIn xs p.entries a g) a b known
between_all p xs a b g end i known within all reached small is =
    known_same p (IsBetween xs p.entries a (g * group_size) i) (IsAtIn xs p.entries a g) a b known
    (λ j before. (
      before.0,
      before.1,
      elim small [
        | inl le ↦ omega (arith, before.2, within, le)
        | inr e ↦ omega (arith, before.2, e)
      ],
    ))
    (λ j now. (
      now.0,
      now.1,
      elim all [
        | inl few ↦ omega (arith, now.0.0, few, reached)
        | inr full ↦ omega (arith, now.2, full, reached)
      ],
    ))
    is
