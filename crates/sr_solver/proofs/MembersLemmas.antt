-- The rows of members: an entry that is taken out, and one that is added.
use Rattle.std.proofs.Common.{◌≡◌, ℕ, ◌+◌, ◌*◌, ◌^◌, ◌<◌, ◌≤◌, ◌==◌, ◌⊎◌, cond, List, length, get_or, take, ◌++◌}
use Rattle.std.proofs.Common.{Fits, w64, refl, sym, ap, ◌∙◌, inl, inr, arith}
use Rattle.std.proofs.Math.ListN.{set, length-set}
use Rattle.std.proofs.lemmas.Bool.{cases_eq, cases_lt}
use Rattle.std.proofs.Math.Nat.{mul-le-mul_left}
use Rattle.std.proofs.lemmas.List.{get_or-set_same, get_or-set_other, take_at}
use Rattle.std.proofs.lemmas.List.Sums.{count_by-le-length}
use Rattle.sr_transport.specs.{Transport, consumers}
use Rattle.sr_transport.specs.plain.Problem.{IsWithinLimits, room_of, cost_at, cost_of}
use Rattle.sr_transport.specs.plain.Assignment.{load}
use Rattle.sr_solver.specs.declared.table.Bound.{Bound}
use Rattle.sr_solver.specs.Table.{no_entry, IsAt, IsApart, IsKnown, IsLowered, IsRowChanged, ArePairs}
use Rattle.sr_solver.specs.Members.{IsListed, AreApart, IsSeen, AreLookedThrough, AreWide, AreMembersOf, AreMembers, IsRemoved}
use Rattle.sr_solver.proofs.PathLemmas.{one_at_same, one_at_other, load-set}
use Rattle.sr_solver.proofs.TableLemmas.{rows_apart, HasCome, known_lowered, known_same, none_known}

-- no more entries stand at a consumer than there are
load_fits : (xs : List ℕ) (c : ℕ) → load xs c ≤ length xs
load_fits xs c = count_by-le-length (λ x. x == c) xs

-- two places of a row hold two entries
apart_at : (members : List ℕ) (row n j k : ℕ) → AreApart members row n → j < n → k < n → (j ≡ k → ⊥)
    → get_or members (row + 1 + j) 0 ≡ get_or members (row + 1 + k) 0 → ⊥
apart_at members row n j k apart ltj ltk ne same = elim (cases_lt j k) [
  | inl below ↦ apart j k below ltk same
  | inr above ↦ apart k j (omega (arith, above, ne)) ltj (sym same)
]

-- the row of a list where the count alone fell
record IsFallen (row : ℕ) (old mid : List ℕ) (last : ℕ) : Type 0 where
  length : length mid ≡ length old
  count : last + 1 ≡ get_or old row 0
  here : get_or mid row 0 ≡ last
  others : (q : ℕ) → (q ≡ row → ⊥) → get_or mid q 0 ≡ get_or old q 0

fallen : (row : ℕ) (old : List ℕ) (last : ℕ) → row < length old → last + 1 ≡ get_or old row 0
    → IsFallen row old (set old row last) last
fallen row old last lt count = record {
  length = length-set old row last;
  count = count;
  here = get_or-set_same old row last 0 lt;
  others = λ q ne. get_or-set_other old row q last 0 ne;
}

-- the member to take out is the last one
last_removed : (row entry : ℕ) (old mid : List ℕ) (last : ℕ) → IsFallen row old mid last
    → IsListed old row (get_or old row 0) entry → AreApart old row (get_or old row 0)
    → ((j : ℕ) → j < last → get_or mid (row + 1 + j) 0 ≡ entry → ⊥) → IsRemoved row entry old mid
last_removed row entry old mid last fall listed apart passed =
    let same : (j : ℕ) → get_or mid (row + 1 + j) 0 ≡ get_or old (row + 1 + j) 0 =
    λ j. fall.others (row + 1 + j) (λ e. omega arith) in
    let at_last : get_or old (row + 1 + last) 0 ≡ entry =
    elim (cases_lt listed.0 last) [
      | inl early ↦ absurd (passed listed.0 early (same listed.0 ∙ listed.2))
      | inr late ↦
          let is_last : listed.0 ≡ last = omega (arith, listed.1, fall.count) in
          ap (λ j. get_or old (row + 1 + j) 0) (sym is_last) ∙ listed.2
    ] in
    record {
      one_each = fall.length;
      count = omega (arith, fall.count, fall.here);
      others = λ q out. fall.others q (λ e. elim out [ inl low ↦ omega arith | inr high ↦ omega arith ]);
      from = λ j lt. (j, omega (arith, lt, fall.here, fall.count), sym (same j));
      kept = λ j lt ne.
          let early : j < get_or mid row 0 =
          elim (cases_eq j last) [
            | inl e ↦ absurd (ne (ap (λ k. get_or old (row + 1 + k) 0) e ∙ at_last))
            | inr other ↦ omega (arith, lt, fall.count, fall.here)
          ] in
          (j, early, same j);
      gone = λ j lt. passed j (omega (arith, lt, fall.here));
      apart = λ j k lt below e.
          apart j k lt (omega (arith, below, fall.here, fall.count)) (sym (same j) ∙ e ∙ same k);
    }

-- it is found before
place_removed : (row entry : ℕ) (old mid : List ℕ) (last place : ℕ) → IsFallen row old mid last
    → row + get_or old row 0 < length old → AreApart old row (get_or old row 0) → place < last
    → get_or mid (row + 1 + place) 0 ≡ entry
    → IsRemoved row entry old (set mid (row + 1 + place) (get_or mid (row + 1 + last) 0))
place_removed row entry old mid last place fall room apart early found =
    let x : ℕ = get_or mid (row + 1 + last) 0 in
    let new : List ℕ = set mid (row + 1 + place) x in
    let same : (j : ℕ) → get_or mid (row + 1 + j) 0 ≡ get_or old (row + 1 + j) 0 =
    λ j. fall.others (row + 1 + j) (λ e. omega arith) in
    let in_list : row + 1 + place < length mid = omega (arith, fall.length, fall.count, room, early) in
    let here : get_or new (row + 1 + place) 0 ≡ x = get_or-set_same mid (row + 1 + place) x 0 in_list in
    let other : (q : ℕ) → (q ≡ row + 1 + place → ⊥) → get_or new q 0 ≡ get_or mid q 0 =
    λ q ne. get_or-set_other mid (row + 1 + place) q x 0 ne in
    let head : get_or new row 0 ≡ last = other row (λ e. omega arith) ∙ fall.here in
    let moved : (j : ℕ) → j ≡ place → get_or new (row + 1 + j) 0 ≡ get_or old (row + 1 + last) 0 =
    λ j e. ap (λ k. get_or new (row + 1 + k) 0) e ∙ here ∙ same last in
    let kept_at : (j : ℕ) → (j ≡ place → ⊥) → get_or new (row + 1 + j) 0 ≡ get_or old (row + 1 + j) 0 =
    λ j ne. other (row + 1 + j) (λ e. ne (omega arith)) ∙ same j in
    let was : get_or old (row + 1 + place) 0 ≡ entry = sym (same place) ∙ found in
    record {
      one_each = length-set mid (row + 1 + place) x ∙ fall.length;
      count = omega (arith, fall.count, head);
      others = λ q out.
          other q (λ e. elim out [ inl low ↦ omega arith | inr high ↦ omega (arith, fall.count) ])
          ∙ fall.others q (λ e. elim out [ inl low ↦ omega arith | inr high ↦ omega arith ]);
      from = λ j lt. elim (cases_eq j place) [
        | inl e ↦ (last, omega (arith, fall.count), sym (ap (λ k. get_or new (row + 1 + k) 0) e ∙ here ∙ same last))
        | inr ne ↦ (j, omega (arith, lt, head, fall.count), sym (other (row + 1 + j) (λ e. ne (omega arith)) ∙ same j))
      ];
      kept = λ j lt ne. elim (cases_eq j last) [
        | inl e ↦ (place, omega (arith, head), here ∙ same last ∙ ap (λ k. get_or old (row + 1 + k) 0) (sym e))
        | inr before ↦
            let not_there : j ≡ place → ⊥ = λ e. ne (sym (same j) ∙ ap (λ k. get_or mid (row + 1 + k) 0) e ∙ found) in (
              j,
              omega (arith, lt, fall.count, head, before),
              other (row + 1 + j) (λ e. not_there (omega arith)) ∙ same j,
            )
      ];
      gone = λ j lt is. elim (cases_eq j place) [
        | inl e ↦ apart place last early (omega (arith, fall.count)) (was ∙ sym is ∙ moved j e)
        | inr ne ↦
            apart_at old row (get_or old row 0) j place apart (omega (arith, lt, head, fall.count))
            (omega (arith, early, fall.count)) ne
            (sym (kept_at j ne) ∙ is ∙ sym was)
      ];
      apart = λ j k lt below is.
          let last_in : last < get_or old row 0 = omega (arith, fall.count) in
          let ltk : k < last = omega (arith, below, head) in
          elim (cases_eq j place) [
            | inl e ↦
                apart_at old row (get_or old row 0) last k apart last_in (omega (arith, ltk, last_in))
                (λ x. omega (arith, x, ltk))
                (sym (moved j e) ∙ is ∙ kept_at k (λ x. omega (arith, x, e, lt)))
            | inr ne ↦ elim (cases_eq k place) [
              | inl e ↦
                  apart_at old row (get_or old row 0) j last apart (omega (arith, lt, ltk, last_in)) last_in
                  (λ x. omega (arith, x, lt, ltk))
                  (sym (kept_at j ne) ∙ is ∙ moved k e)
              | inr far ↦ apart j k lt (omega (arith, ltk, last_in)) (sym (kept_at j ne) ∙ is ∙ kept_at k far)
            ]
          ];
    }

pub removed_last : (row entry : ℕ) (old mid : List ℕ) (last : ℕ) → mid ≡ set old row last → row < length old
    → last + 1 ≡ get_or old row 0 → IsListed old row (get_or old row 0) entry → AreApart old row (get_or old row 0)
    → ((j : ℕ) → j < last → get_or mid (row + 1 + j) 0 ≡ entry → ⊥) → IsRemoved row entry old mid
removed_last row entry old mid last is lt count listed apart passed =
    last_removed row entry old mid last (rw is (fallen row old last lt count)) listed apart passed

pub removed_at : (row entry : ℕ) (old mid : List ℕ) (last place : ℕ) → mid ≡ set old row last
    → row + get_or old row 0 < length old
    → last + 1 ≡ get_or old row 0 → AreApart old row (get_or old row 0) → place < last
    → get_or mid (row + 1 + place) 0 ≡ entry
    → IsRemoved row entry old (set mid (row + 1 + place) (get_or mid (row + 1 + last) 0))
removed_at row entry old mid last place is room count apart early found =
    place_removed row entry old mid last place (rw is (fallen row old last (omega arith) count)) room apart early found

-- a row ends within the list
row_fits : (p : Transport) (w c row long : ℕ) → c < consumers p → row ≡ c * w → long ≡ consumers p * w → row + w ≤ long
row_fits p w c row long lt is are =
    let up : c + 1 ≤ consumers p = omega arith in
    omega (arith, is, are, mul-le-mul_left w up)

-- what the row of a consumer with n entries is
pub record IsRow (members : List ℕ) (row w n : ℕ) : Type 0 where
  pub short : length members ≤ 2 ^ 32
  pub count : get_or members row 0 ≡ n
  pub fits : n < w
  pub room : row + w ≤ length members

pub row_of : (p : Transport) (w : ℕ) (count : ℕ → ℕ) (at : ℕ → ℕ → Type 0) (members : List ℕ) (c row : ℕ)
    → IsWithinLimits p.rooms p.entries p.costs → AreMembersOf p w count at members → c < consumers p → row ≡ c * w
    → IsRow members row w (count c)
row_of p w count at members c row limits are lt is = record {
  short = omega (arith, are.one_each, mul-le-mul_left w limits.consumers, are.short, limits.few_entries);
  count = rw is (are.counted c lt);
  fits = are.fits c lt;
  room = row_fits p w c row (length members) lt is are.one_each;
}

-- the members while entry i stands nowhere, where it stood at a consumer
pub members_left : (p : Transport) (w : ℕ) (xs : List ℕ) (i : ℕ) (old new : List ℕ)
    → length xs ≡ p.entries → i < p.entries → get_or xs i 0 < consumers p
    → AreMembers p w xs old → IsRemoved (get_or xs i 0 * w) i old new
    → AreMembersOf p w (load (set xs i (consumers p))) (IsApart (IsAt xs p.entries) i) new
members_left p w xs i old new every lti within members removed =
    let from : ℕ = get_or xs i 0 in
    let nowhere : List ℕ = set xs i (consumers p) in
    let loads : (c : ℕ) → c < consumers p → load nowhere c + cond (from == c) 1 0 ≡ load xs c =
    λ c lt. omega (
      arith,
      load-set xs i (consumers p) c (omega (arith, every)),
      one_at_other (consumers p) c (λ e. omega (arith, e, lt)),
    ) in
    let before : get_or old (from * w) 0 ≡ load xs from = members.counted from within in
    let after : load nowhere from + 1 ≡ load xs from = omega (arith, loads from within, one_at_same from from refl) in
    let now : get_or new (from * w) 0 ≡ load nowhere from = omega (arith, removed.count, before, after) in
    let elsewhere : (c b : ℕ) → b < w → (c ≡ from → ⊥) → get_or new (c * w + b) 0 ≡ get_or old (c * w + b) 0 =
    λ c b ltb ne. removed.others (c * w + b) (elim (rows_apart w c from b ltb ne) [
      | inl low ↦ inl low
      | inr high ↦ inr (omega (arith, before, members.fits from within))
    ]) in
    let other : (c : ℕ) → c < consumers p → (c ≡ from → ⊥) → load nowhere c ≡ load xs c =
    λ c lt ne. omega (arith, loads c lt, one_at_other from c (λ e. ne (sym e))) in
    record {
      one_each = removed.one_each ∙ members.one_each;
      short = members.short;
      counted = λ c lt. elim (cases_eq c from) [
        | inl e ↦ rw e now
        | inr ne ↦
            let zero_more : get_or new (c * w + 0) 0 ≡ get_or old (c * w + 0) 0 = elsewhere c 0 (omega arith) ne in
            let plain : c * w + 0 ≡ c * w = omega arith in
            (rw plain at zero_more) ∙ members.counted c lt ∙ sym (other c lt ne)
      ];
      fits = λ c lt. omega (arith, loads c lt, members.fits c lt);
      stands = λ c j lt ltj. elim (cases_eq c from) [
        | inl e ↦
            let below : j < get_or new (from * w) 0 =
            (let l : j < load nowhere from = rw (← e) ltj in omega (arith, now, l)) in
            let was = removed.from j below in
            let stood : IsAt xs p.entries from (get_or old (from * w + 1 + was.0) 0) =
            members.stands from was.0 within (omega (arith, was.1, before)) in
            rw e ((rw was.2 at stood), removed.gone j below)
        | inr ne ↦
            let same : get_or new (c * w + (1 + j)) 0 ≡ get_or old (c * w + (1 + j)) 0 =
            elsewhere c (1 + j) (omega (arith, ltj, other c lt ne, members.fits c lt)) ne in
            let plain : c * w + (1 + j) ≡ c * w + 1 + j = omega arith in
            let stood : IsAt xs p.entries c (get_or old (c * w + 1 + j) 0) =
            members.stands c j lt (omega (arith, ltj, other c lt ne)) in
            rw (rw plain at same) (stood, λ is. ne (sym stood.1 ∙ ap (λ k. get_or xs k 0) is))
      ];
      apart = λ c lt. elim (cases_eq c from) [
        | inl e ↦ rw e (rw (← now) removed.apart)
        | inr ne ↦ λ j k ltk below is.
            let same : (x : ℕ) → x < load nowhere c → get_or new (c * w + 1 + x) 0 ≡ get_or old (c * w + 1 + x) 0 =
            λ x ltx.
            let plain : c * w + (1 + x) ≡ c * w + 1 + x = omega arith in
            rw plain at (elsewhere c (1 + x) (omega (arith, ltx, other c lt ne, members.fits c lt)) ne) in
            members.apart c lt j k ltk (omega (arith, below, other c lt ne))
            (sym (same j (omega (arith, ltk, below))) ∙ is ∙ same k below)
      ];
      each = λ c k lt at.
          let was = members.each c k lt at.0 in
          elim (cases_eq c from) [
            | inl e ↦
                let listed : IsListed old (from * w) (load xs from) k = rw (← e) was in
                let kept =
                removed.kept listed.0 (omega (arith, listed.1, before)) (λ same. at.1 (sym listed.2 ∙ same)) in
                rw e (kept.0, omega (arith, kept.1, now), kept.2 ∙ listed.2)
            | inr ne ↦
                let same : get_or new (c * w + (1 + was.0)) 0 ≡ get_or old (c * w + (1 + was.0)) 0 =
                elsewhere c (1 + was.0) (omega (arith, was.1, members.fits c lt)) ne in
                let plain : c * w + (1 + was.0) ≡ c * w + 1 + was.0 = omega arith in
                (was.0, omega (arith, was.1, other c lt ne), (rw plain at same) ∙ was.2)
          ];
    }

-- the same, where it stood nowhere
pub members_waiting : (p : Transport) (w : ℕ) (xs : List ℕ) (i : ℕ) (old : List ℕ)
    → length xs ≡ p.entries → i < p.entries → consumers p ≤ get_or xs i 0 → AreMembers p w xs old
    → AreMembersOf p w (load (set xs i (consumers p))) (IsApart (IsAt xs p.entries) i) old
members_waiting p w xs i old every lti nowhere members =
    let loads : (c : ℕ) → c < consumers p → load (set xs i (consumers p)) c ≡ load xs c =
    λ c lt. omega (
      arith,
      load-set xs i (consumers p) c (omega (arith, every)),
      one_at_other (consumers p) c (λ e. omega (arith, e, lt)),
      one_at_other (get_or xs i 0) c (λ e. omega (arith, e, lt)),
    ) in
    record {
      one_each = members.one_each;
      short = members.short;
      counted = λ c lt. members.counted c lt ∙ sym (loads c lt);
      fits = λ c lt. omega (arith, loads c lt, members.fits c lt);
      stands = λ c j lt ltj.
          let stood : IsAt xs p.entries c (get_or old (c * w + 1 + j) 0) =
          members.stands c j lt (omega (arith, loads c lt, ltj)) in
          (stood, λ is. omega (arith, stood.1, ap (λ k. get_or xs k 0) is, lt, nowhere));
      apart = λ c lt j k ltk below. members.apart c lt j k ltk (omega (arith, loads c lt, below));
      each = λ c k lt at.
          let was = members.each c k lt at.0 in
          (was.0, omega (arith, was.1, loads c lt), was.2);
    }

-- a row has room for one more
pub room_for_one : (p : Transport) (w : ℕ) (xs : List ℕ) (i c : ℕ)
    → length xs ≡ p.entries → i < p.entries → c < consumers p → AreWide p w → load (set xs i c) c ≤ room_of p c
    → (load (set xs i (consumers p)) c + 1 ≡ load (set xs i c) c) × (load (set xs i c) c < w)
room_for_one p w xs i c every lti lt wide room =
    let more : load (set xs i (consumers p)) c + 1 ≡ load (set xs i c) c =
    omega (
      arith,
      load-set xs i (consumers p) c (omega (arith, every)),
      load-set xs i c c (omega (arith, every)),
      one_at_other (consumers p) c (λ e. omega (arith, e, lt)),
      one_at_same c c refl,
    ) in (
      more,
      wide.enough c (load (set xs i c) c) lt room
          (omega (arith, load_fits (set xs i c) c, length-set xs i c, every)),
    )

-- the members once entry i has come to consumer c
pub members_come : (p : Transport) (w : ℕ) (xs : List ℕ) (i c row count : ℕ) (old : List ℕ)
    → length xs ≡ p.entries → i < p.entries → c < consumers p → AreWide p w → load (set xs i c) c ≤ room_of p c
    → AreMembersOf p w (load (set xs i (consumers p))) (IsApart (IsAt xs p.entries) i) old
    → row ≡ c * w → count ≡ get_or old row 0
    → AreMembers p w (set xs i c) (set (set old (row + 1 + count) i) row (count + 1))
members_come p w xs i c row count old every lti ltc wide room members is_row is_count =
    let nowhere : List ℕ = set xs i (consumers p) in
    let one = room_for_one p w xs i c every lti ltc wide room in
    let is_load : count ≡ load nowhere c = is_count ∙ ap (λ q. get_or old q 0) is_row ∙ members.counted c ltc in
    let row_within : row + w ≤ length old = row_fits p w c row (length old) ltc is_row members.one_each in
    let mid : List ℕ = set old (row + 1 + count) i in
    let new : List ℕ = set mid row (count + 1) in
    let length_mid : length mid ≡ length old = length-set old (row + 1 + count) i in
    let head : get_or new row 0 ≡ count + 1 =
    get_or-set_same mid row (count + 1) 0 (omega (arith, length_mid, row_within, one.1)) in
    let at_end : get_or new (row + 1 + count) 0 ≡ i =
    get_or-set_other mid row (row + 1 + count) (count + 1) 0 (λ e. omega arith)
    ∙ get_or-set_same old (row + 1 + count) i 0 (omega (arith, row_within, is_load, one.0, one.1)) in
    let same : (q : ℕ) → (q ≡ row → ⊥) → (q ≡ row + 1 + count → ⊥) → get_or new q 0 ≡ get_or old q 0 =
    λ q ne far. get_or-set_other mid row q (count + 1) 0 ne ∙ get_or-set_other old (row + 1 + count) q i 0 far in
    let elsewhere : (d b : ℕ) → b < w → (d ≡ c → ⊥) → get_or new (d * w + b) 0 ≡ get_or old (d * w + b) 0 =
    λ d b ltb ne.
    let apart : (d * w + b < row) ⊎ (row + w ≤ d * w + b) = rw is_row (rows_apart w d c b ltb ne) in
    same (d * w + b) (λ e. elim apart [ inl low ↦ omega arith | inr high ↦ omega arith ])
    (λ e. elim apart [ inl low ↦ omega arith | inr high ↦ omega (arith, is_load, one.0, one.1) ]) in
    let other : (d : ℕ) → d < consumers p → (d ≡ c → ⊥) → load (set xs i c) d ≡ load nowhere d =
    λ d lt ne. omega (
      arith,
      load-set xs i (consumers p) d (omega (arith, every)),
      load-set xs i c d (omega (arith, every)),
      one_at_other (consumers p) d (λ e. omega (arith, e, lt)),
      one_at_other c d (λ e. ne (sym e)),
    ) in
    let loads : load (set xs i c) c ≡ count + 1 = omega (arith, one.0, is_load) in
    let kept_here : (j : ℕ) → j < count → get_or new (row + 1 + j) 0 ≡ get_or old (row + 1 + j) 0 =
    λ j lt. same (row + 1 + j) (λ e. omega arith) (λ e. omega (arith, lt, e)) in
    let stood_here : (j : ℕ) → j < count → IsApart (IsAt xs p.entries) i c (get_or old (row + 1 + j) 0) =
    λ j lt. rw is_row (members.stands c j ltc (omega (arith, lt, is_load))) in
    let apart_here : AreApart old row count = rw is_row (rw is_load (members.apart c ltc)) in
    let still : (d k : ℕ) → IsApart (IsAt xs p.entries) i d k → IsAt (set xs i c) p.entries d k =
    λ d k at. (at.0.0, get_or-set_other xs i k c 0 at.1 ∙ at.0.1) in
    record {
      one_each = length-set mid row (count + 1) ∙ length_mid ∙ members.one_each;
      short = members.short;
      counted = λ d lt. elim (cases_eq d c) [
        | inl e ↦ rw e (rw (← is_row) (head ∙ sym loads))
        | inr ne ↦
            let zero_more : get_or new (d * w + 0) 0 ≡ get_or old (d * w + 0) 0 = elsewhere d 0 (omega arith) ne in
            let plain : d * w + 0 ≡ d * w = omega arith in
            (rw plain at zero_more) ∙ members.counted d lt ∙ sym (other d lt ne)
      ];
      fits =
          λ d lt. elim (cases_eq d c) [ inl e ↦ rw e one.1 | inr ne ↦ omega (arith, other d lt ne, members.fits d lt) ];
      stands = λ d j lt ltj. elim (cases_eq d c) [
        | inl e ↦
            let below : j < count + 1 = omega (arith, ltj, ap (λ x. load (set xs i c) x) e, loads) in
            rw e (
            rw (← is_row) (
            elim (cases_eq j count) [
              | inl last ↦
                  let is : get_or new (row + 1 + j) 0 ≡ i = ap (λ k. get_or new (row + 1 + k) 0) last ∙ at_end in
                  rw is (lti, get_or-set_same xs i c 0 (omega (arith, every)))
              | inr before ↦ rw (kept_here j (omega (arith, below, before)))
                  (still c (get_or old (row + 1 + j) 0) (stood_here j (omega (arith, below, before))))
            ]
            )
            )
        | inr ne ↦
            let kept : get_or new (d * w + (1 + j)) 0 ≡ get_or old (d * w + (1 + j)) 0 =
            elsewhere d (1 + j) (omega (arith, ltj, other d lt ne, members.fits d lt)) ne in
            let plain : d * w + (1 + j) ≡ d * w + 1 + j = omega arith in
            rw (rw plain at kept)
            (still d (get_or old (d * w + 1 + j) 0) (members.stands d j lt (omega (arith, ltj, other d lt ne))))
      ];
      apart = λ d lt. elim (cases_eq d c) [
        | inl e ↦ rw e (rw (← is_row) (rw loads (λ j k ltk below is.
            let ltj : j < count = omega (arith, ltk, below) in
            elim (cases_eq k count) [
              | inl last ↦
                  (stood_here j ltj).1 (sym (kept_here j ltj) ∙ is ∙ ap (λ x. get_or new (row + 1 + x) 0) last ∙ at_end)
              | inr before ↦
                  let lt_count : k < count = omega (arith, below, before) in
                  apart_here j k ltk lt_count (sym (kept_here j ltj) ∙ is ∙ kept_here k lt_count)
            ])))
        | inr ne ↦ λ j k ltk below is.
            let same_there : (x : ℕ) → x < load (set xs i c) d
            → get_or new (d * w + 1 + x) 0 ≡ get_or old (d * w + 1 + x) 0 =
            λ x ltx.
            let plain : d * w + (1 + x) ≡ d * w + 1 + x = omega arith in
            rw plain at (elsewhere d (1 + x) (omega (arith, ltx, other d lt ne, members.fits d lt)) ne) in
            members.apart d lt j k ltk (omega (arith, below, other d lt ne))
            (sym (same_there j (omega (arith, ltk, below))) ∙ is ∙ same_there k below)
      ];
      each = λ d k lt at. elim (cases_eq d c) [
        | inl e ↦
            rw e (
            rw (← is_row) (
            elim (cases_eq k i) [
              | inl new_one ↦ (count, omega (arith, loads), at_end ∙ sym new_one)
              | inr ne ↦
                  let stood : get_or xs k 0 ≡ c = sym (get_or-set_other xs i k c 0 ne) ∙ at.1 ∙ e in
                  let was : IsListed old row (load nowhere c) k =
                  rw is_row (members.each c k ltc ((at.0, stood), ne)) in
                  let kept : get_or new (row + 1 + was.0) 0 ≡ get_or old (row + 1 + was.0) 0 =
                  same (row + 1 + was.0) (λ e. omega arith) (λ e. omega (arith, was.1, is_load)) in
                  (was.0, omega (arith, was.1, is_load, loads), kept ∙ was.2)
            ]
            )
            )
        | inr ne ↦
            let moved : k ≡ i → ⊥ =
            λ e. ne (sym at.1 ∙ ap (λ j. get_or (set xs i c) j 0) e
            ∙ get_or-set_same xs i c 0 (omega (arith, every))) in
            let stood : get_or xs k 0 ≡ d = sym (get_or-set_other xs i k c 0 moved) ∙ at.1 in
            let was = members.each d k lt ((at.0, stood), moved) in
            let kept : get_or new (d * w + (1 + was.0)) 0 ≡ get_or old (d * w + (1 + was.0)) 0 =
            elsewhere d (1 + was.0) (omega (arith, was.1, members.fits d lt)) ne in
            let plain : d * w + (1 + was.0) ≡ d * w + 1 + was.0 = omega arith in
            (was.0, omega (arith, was.1, other d lt ne), (rw plain at kept) ∙ was.2)
      ];
    }

-- one member more is looked at
pub seen_more : (p : Transport) (xs members : List ℕ) (row n i a b : ℕ) (old new : Bound)
    → IsWithinLimits p.rooms p.entries p.costs → b < consumers p → i < p.entries → get_or xs i 0 ≡ a
    → i ≡ get_or members (row + 1 + n) 0
    → IsKnown p (IsSeen p xs members row n a) a b old → IsLowered i (cost_of p i a) (cost_at p i b) old new
    → IsKnown p (IsSeen p xs members row (n + 1) a) a b new
seen_more p xs members row n i a b old new limits ltb lti stands is known lowered =
    let come : HasCome (IsSeen p xs members row n a) (IsSeen p xs members row (n + 1) a) i =
    record {
      stay = λ j seen. (seen.0, (seen.1.0, omega (arith, seen.1.1), seen.1.2));
      here = ((lti, stands), (n, omega arith, sym is));
      back = λ j seen. elim (cases_eq seen.1.0 n) [
        | inl e ↦ inl (sym seen.1.2 ∙ ap (λ k. get_or members (row + 1 + k) 0) e ∙ sym is)
        | inr ne ↦ inr (seen.0, (seen.1.0, omega (arith, seen.1.1, ne), seen.1.2))
      ];
    } in
    known_lowered p (IsSeen p xs members row n a)
    (IsSeen p xs members row (n + 1) a) a b i old new limits come ltb known lowered

-- all members were looked at
pub seen_all : (p : Transport) (w : ℕ) (xs members : List ℕ) (row n a b : ℕ) (known : Bound) → a < consumers p
    → AreMembers p w xs members → row ≡ a * w → n ≡ get_or members row 0
    → IsKnown p (IsSeen p xs members row n a) a b known → IsKnown p (IsAt xs p.entries a) a b known
seen_all p w xs members row n a b known lta are is_row is_count =
    let all : n ≡ load xs a = is_count ∙ ap (λ q. get_or members q 0) is_row ∙ are.counted a lta in
    known_same p (IsSeen p xs members row n a) (IsAt xs p.entries a) a b known (λ j seen. seen.0)
    (λ j at.
    let listed = are.each a j lta at in
    (at, (listed.0, omega (arith, listed.1, all), rw is_row listed.2)))

-- one consumer more fits
pub wide_more : (p : Transport) (k room old new : ℕ) → room ≡ room_of p k
    → ((c n : ℕ) → c < k → n ≤ room_of p c → n ≤ p.entries → n ≤ old)
    → old ≤ new → (room ≤ new) ⊎ (p.entries ≤ new)
    → (c n : ℕ) → c < k + 1 → n ≤ room_of p c → n ≤ p.entries → n ≤ new
wide_more p k room old new is before kept enough c n lt in_room few = elim (cases_eq c k) [
  | inl e ↦
      let here : n ≤ room_of p k = rw (← e) in_room in
      elim enough [ inl r ↦ omega (arith, here, is, r) | inr all ↦ omega (arith, few, all) ]
  | inr ne ↦ omega (arith, before c n (omega (arith, lt, ne)) in_room few, kept)
]

-- a slice that is written back into a `Vec` is all of it
pub members_written : (p : Transport) (w n : ℕ) (count : ℕ → ℕ) (at : ℕ → ℕ → Type 0) (members rest : List ℕ)
    → length members ≡ n → AreMembersOf p w count at members → AreMembersOf p w count at (take n (members ++ rest))
members_written p w n count at members rest all are = rw (take_at members rest n all) are

-- no member was looked at
pub looked_none : (p : Transport) (xs members : List ℕ) (row a : ℕ) (old new : List Bound)
    → IsWithinLimits p.rooms p.entries p.costs
    → IsRowChanged (consumers p) a (consumers p) (λ to was now. now ≡ no_entry) old new
    → AreLookedThrough p xs members row 0 a old new
looked_none p xs members row a old new limits blank = record {
  one_each = blank.one_each;
  row_known = λ b ltb. rw (blank.row b ltb) (
      none_known p (IsSeen p xs members row 0 a) a b limits (λ i seen. omega (arith, seen.1.1))
      );
  others = blank.others;
}

-- one member more was looked at
pub looked_more : (p : Transport) (xs members : List ℕ) (row n i a : ℕ) (old now new : List Bound)
    → IsWithinLimits p.rooms p.entries p.costs → i < p.entries → get_or xs i 0 ≡ a
    → i ≡ get_or members (row + 1 + n) 0
    → AreLookedThrough p xs members row n a old now
    → IsRowChanged (consumers p) a (consumers p) (λ next. IsLowered i (cost_of p i a) (cost_at p i next)) now new
    → AreLookedThrough p xs members row (n + 1) a old new
looked_more p xs members row n i a old now new limits lti stands is looked changed = record {
  one_each = changed.one_each ∙ looked.one_each;
  row_known = λ b ltb.
      seen_more p xs members row n i a b _ _ limits ltb lti stands is (looked.row_known b ltb) (changed.row b ltb);
  others = λ q out. changed.others q out ∙ looked.others q out;
}

-- all members were looked at
pub looked_all : (p : Transport) (w : ℕ) (xs members : List ℕ) (row n a : ℕ) (old new : List Bound)
    → a < consumers p → AreMembers p w xs members → row ≡ a * w → n ≡ get_or members row 0
    → ArePairs p xs old → AreLookedThrough p xs members row n a old new → ArePairs p xs new
looked_all p w xs members row n a old new lta are is_row is_count pairs looked = record {
  each_pair = looked.one_each ∙ pairs.each_pair;
  each = λ c b ltc ltb. elim (cases_eq c a) [
    | inl e ↦ rw e (seen_all p w xs members row n a b _ lta are is_row is_count (looked.row_known b ltb))
    | inr ne ↦ rw (looked.others (c * consumers p + b) (rows_apart (consumers p) c a b ltb ne)) (pairs.each c b ltc ltb)
  ];
}

-- the row of the consumer, and what fits within it
pub row_in : (p : Transport) (w from : ℕ) (xs held members : List ℕ) → IsWithinLimits p.rooms p.entries p.costs
    → members ≡ held → AreMembers p w xs held → from < consumers p → IsRow members (from * w) w (load xs from)
row_in p w from xs held members limits same are lt =
    row_of p w (load xs) (IsAt xs p.entries) members from (from * w) limits (rw same are) lt refl

pub first_in : (members : List ℕ) (row w n : ℕ) → IsRow members row w n
    → (row < length members) × Fits w64 (row * 2) × Fits w64 row
first_in members row w n is =
    (omega (arith, is.fits, is.room), omega (arith, is.short, is.room), omega (arith, is.short, is.room))

pub other_in : (members : List ℕ) (row w n place : ℕ) → IsRow members row w n → place < get_or members row 0
    → (row + 1 + place < length members) × Fits w64 ((row + 1 + place) * 2) × Fits w64 (row + 1 + place)
    × Fits w64 (row + 1)
other_in members row w n place is lt =
    let within : row + 1 + place < length members = omega (arith, lt, is.count, is.fits, is.room) in
    (within, omega (arith, within, is.short), omega (arith, within, is.short), omega (arith, within, is.short))
