-- A consumer that takes an entry: how it is found, and what is known once the entry is there.
use Rattle.std.proofs.Common.{◌≡◌, ℕ, ◌+◌, ◌*◌, ◌^◌, ◌<◌, ◌≤◌, Bool, true, List, length, get_or, Option, Some, None}
use Rattle.std.proofs.Common.{refl, sym, ◌∙◌, inl, inr, arith}
use Rattle.std.specs.Prelude.{IfSome, IfNone, IsSome, ◌-◌}
use Rattle.std.proofs.Math.ListN.{set, length-set}
use Rattle.std.proofs.lemmas.Bool.{cases_eq, false≢true}
use Rattle.std.proofs.lemmas.List.{get_or-set_same, get_or-set_other}
use Rattle.sr_transport.specs.{Transport, consumers}
use Rattle.sr_transport.specs.plain.Problem.{room_of, cost_at, cost_of, IsAllowed}
use Rattle.sr_transport.specs.plain.Assignment.{load}
use Rattle.sr_solver.specs.declared.taker.Cheapest.{Cheapest}
use Rattle.sr_solver.specs.Labels.{priced}
use Rattle.sr_solver.specs.declared.stepped.Step.{Step}
use Rattle.sr_solver.specs.Steps.{step_at, next_fee, IsVacant}
use Rattle.sr_solver.specs.Placed.{IsPlaced, AreLevel, AreLoads}
use Rattle.sr_solver.specs.Taker.{IsTaker, IsFree, IsCheapest, IsFreeAfter, IsNoneAfter, IsCompared}
use Rattle.sr_solver.specs.Members.{AreWide, AreMembers}
use Rattle.sr_solver.proofs.MembersLemmas.{row_of, members_waiting, room_for_one, members_come}
use Rattle.sr_solver.proofs.StepLemmas.{level_more}
use Rattle.sr_solver.proofs.PathLemmas.{one_at, one_at_same, one_at_other, load-set}

-- the entry is placed at the consumer that takes it
pub placed_taken : (p : Transport) (s : List Step) (k c : ℕ) (xs prices loads : List ℕ)
    → IsPlaced p k xs prices → AreLoads p xs loads → k < p.entries → IsTaker p s prices loads k c
    → IsPlaced p (k + 1) (set xs k c) prices
placed_taken p s k c xs prices loads placed counted ltk taken =
    let ltc : c < consumers p = taken.allowed.0 in
    let in_list : k < length xs = omega (arith, placed.every, ltk) in
    let here : get_or (set xs k c) k 0 ≡ c = get_or-set_same xs k c 0 in_list in
    let other : (i : ℕ) → (i ≡ k → ⊥) → get_or (set xs k c) i 0 ≡ get_or xs i 0 =
    λ i ne. get_or-set_other xs k i c 0 ne in
    let room : load xs c < room_of p c = omega (arith, taken.vacant.room, counted.each c ltc) in
    let loads_are : (d : ℕ) → d < consumers p → load (set xs k c) d ≡ load xs d + one_at c d = λ d lt.
    omega (
      arith,
      load-set xs k c d in_list,
      one_at_other (get_or xs k 0) d (λ e. omega (arith, e, lt, placed.waiting k (omega arith) ltk)),
    ) in
    record {
      limits = placed.limits;
      every = length-set xs k c ∙ placed.every;
      one_each = placed.one_each;
      placed = λ i lt. elim (cases_eq i k) [
        | inl e ↦ rw e (rw here taken.allowed)
        | inr ne ↦ rw (other i ne) (placed.placed i (omega (arith, lt, ne)))
      ];
      waiting = λ i le lt. other i (λ e. omega (arith, e, le)) ∙ placed.waiting i (omega arith) lt;
      in_room = λ d lt. elim (cases_eq c d) [
        | inl e ↦
            let room_there : load xs d < room_of p d = rw (← e) room in
            omega (arith, loads_are d lt, one_at_same c d e, room_there)
        | inr ne ↦ omega (arith, loads_are d lt, one_at_other c d ne, placed.in_room d lt)
      ];
      least = λ i lt. elim (cases_eq i k) [
        | inl e ↦ rw e (rw here taken.least)
        | inr ne ↦ rw (other i ne) (placed.least i (omega (arith, lt, ne)))
      ];
      low = λ d lt. omega (arith, placed.low d lt);
    }

-- and its price stays level
pub level_taken : (p : Transport) (s : List Step) (k c : ℕ) (xs prices loads : List ℕ)
    → IsPlaced p k xs prices → AreLevel p s xs prices → AreLoads p xs loads → k < p.entries
    → IsTaker p s prices loads k c → AreLevel p s (set xs k c) prices
level_taken p s k c xs prices loads placed level counted ltk taken d lt =
    let in_list : k < length xs = omega (arith, placed.every, ltk) in
    let load_is : load (set xs k c) d ≡ load xs d + one_at c d = omega (
      arith,
      load-set xs k c d in_list,
      one_at_other (get_or xs k 0) d (λ e. omega (arith, e, lt, placed.waiting k (omega arith) ltk)),
    ) in
    elim (cases_eq c d) [
      | inl e ↦
          let more : load (set xs k c) d ≡ load xs d + 1 = omega (arith, load_is, one_at_same c d e) in
          let before : get_or loads d 0 ≡ load xs d = counted.each d lt in
          let fee : next_fee s d (get_or loads d 0) ≡ get_or prices d 0 = rw (← e) taken.vacant.fee in
          rw more (level_more (step_at s d) (room_of p d) (load xs d) (get_or prices d 0) (rw before at fee))
      | inr ne ↦
          let same : load (set xs k c) d ≡ load xs d = omega (arith, load_is, one_at_other c d ne) in
          rw same (level d lt)
    ]

-- and the loads count it
pub loads_taken : (p : Transport) (s : List Step) (k c : ℕ) (xs prices loads : List ℕ)
    → IsPlaced p k xs prices → AreLoads p xs loads → k < p.entries → IsTaker p s prices loads k c
    → AreLoads p (set xs k c) (set loads c (get_or loads c 0 + 1))
loads_taken p s k c xs prices loads placed counted ltk taken =
    let ltc : c < consumers p = taken.allowed.0 in
    let in_list : k < length xs = omega (arith, placed.every, ltk) in
    let in_loads : c < length loads = omega (arith, counted.one_each, ltc) in
    let loads_are : (d : ℕ) → d < consumers p → load (set xs k c) d ≡ load xs d + one_at c d = λ d lt.
    omega (
      arith,
      load-set xs k c d in_list,
      one_at_other (get_or xs k 0) d (λ e. omega (arith, e, lt, placed.waiting k (omega arith) ltk)),
    ) in
    record {
      one_each = length-set loads c (get_or loads c 0 + 1) ∙ counted.one_each;
      each = λ d lt. elim (cases_eq d c) [
        | inl e ↦
            let here : get_or (set loads c (get_or loads c 0 + 1)) d 0 ≡ get_or loads c 0 + 1 =
            rw e (get_or-set_same loads c (get_or loads c 0 + 1) 0 in_loads) in
            let before : get_or loads c 0 ≡ load xs d = rw (← e) (counted.each d lt) in
            omega (arith, here, before, loads_are d lt, one_at_same c d (sym e))
        | inr ne ↦
            let here : get_or (set loads c (get_or loads c 0 + 1)) d 0 ≡ get_or loads d 0 =
            get_or-set_other loads c d (get_or loads c 0 + 1) 0 ne in
            let apart : c ≡ d → ⊥ = λ e. ne (sym e) in
            omega (arith, here, counted.each d lt, loads_are d lt, one_at_other c d apart)
      ];
    }

-- nothing is known before the first consumer
pub none_compared : (p : Transport) (s : List Step) (prices loads : List ℕ) (k sum : ℕ) → sum ≡ 2 ^ 64 - 1
    → IsCheapest p s prices loads k 0 (record { sum = sum; free = None })
none_compared p s prices loads k sum is = record {
  least = λ c lt. absurd (omega (arith, lt));
  free = tt;
  attained = λ below. absurd (omega (arith, below, is));
  none = λ c lt. absurd (omega (arith, lt));
}

-- the consumer that is free after one more
free_after : (p : Transport) (s : List Step) (prices loads : List ℕ) (k n cost sum : ℕ) (is_vacant : Bool)
    (old : Cheapest) (free : Option ℕ)
    → IsAllowed p k n → cost_of p k n ≡ cost → (is_vacant ≡ true → IsVacant p s n (get_or loads n 0) (get_or prices n 0))
    → IfSome old.free (IsFree p s prices loads k old.sum)
    → IfSome free (IsFreeAfter n (cost + get_or prices n 0) is_vacant old sum)
    → IfSome free (IsFree p s prices loads k sum)
free_after p s prices loads k n cost sum is_vacant old None allowed is_cost room before after = tt
free_after p s prices loads k n cost sum is_vacant old (Some f) allowed is_cost room before after =
    elim after [
      | inl here ↦ rw here.0 (
          record { allowed = allowed; same = omega (arith, here.1, is_cost); vacant = room here.2 }
          )
      | inr kept ↦
          let was : IsFree p s prices loads k old.sum f = rw kept.0 at before in
          record { allowed = was.allowed; same = omega (arith, was.same, kept.1); vacant = was.vacant }
    ]

-- nor after one that is not
none_past : (p : Transport) (s : List Step) (prices loads : List ℕ) (k n sum : ℕ) (free : Option ℕ)
    → (IsFree p s prices loads k sum n → ⊥) → IfNone free ((c : ℕ) → c < n → IsFree p s prices loads k sum c → ⊥)
    → IfNone free ((c : ℕ) → c < n + 1 → IsFree p s prices loads k sum c → ⊥)
none_past p s prices loads k n sum (Some f) not before = tt
none_past p s prices loads k n sum None not before = λ c lt is. elim (cases_eq c n) [
  | inl e ↦ not (rw (← e) is)
  | inr ne ↦ before c (omega (arith, lt, ne)) is
]

-- no consumer is free after one more
none_after : (p : Transport) (s : List Step) (prices loads : List ℕ) (k n cost sum : ℕ) (is_vacant : Bool)
    (old : Cheapest) (free : Option ℕ)
    → cost_of p k n ≡ cost → (IsVacant p s n (get_or loads n 0) (get_or prices n 0) → is_vacant ≡ true) → sum ≤ old.sum
    → ((c : ℕ) → c < n → IsAllowed p k c → old.sum ≤ priced p prices k c)
    → IfNone old.free ((c : ℕ) → c < n → IsFree p s prices loads k old.sum c → ⊥)
    → IfNone free (IsNoneAfter (cost + get_or prices n 0) is_vacant old sum)
    → IfNone free ((c : ℕ) → c < n + 1 → IsFree p s prices loads k sum c → ⊥)
none_after p s prices loads k n cost sum is_vacant old (Some f) is_cost room less least before after = tt
none_after p s prices loads k n cost sum is_vacant old None is_cost room less least before after = λ c lt is.
    elim (cases_eq c n) [
      | inl e ↦
          let here : IsFree p s prices loads k sum n = rw (← e) is in
          false≢true (sym (after.0 (omega (arith, here.same, is_cost))) ∙ room here.vacant)
      | inr ne ↦
          let ltn : c < n = omega (arith, lt, ne) in
          let stays : sum ≡ old.sum = omega (arith, least c ltn is.allowed, is.same, less) in
          let none : old.free ≡ None = after.1 stays in
          (rw none at before) c ltn (rw (← stays) is)
    ]

-- one more consumer was looked at
compared_more : (p : Transport) (s : List Step) (prices loads : List ℕ) (k n : ℕ) (cost : Option ℕ) (is_vacant : Bool)
    (old new : Cheapest)
    → n < consumers p → cost_at p k n ≡ cost → (is_vacant ≡ true → IsVacant p s n (get_or loads n 0) (get_or prices n 0))
    → (IsVacant p s n (get_or loads n 0) (get_or prices n 0) → is_vacant ≡ true)
    → IsCheapest p s prices loads k n old → IsCompared n cost (get_or prices n 0) is_vacant old new
    → IsCheapest p s prices loads k (n + 1) new
compared_more p s prices loads k n None is_vacant old new ltn is room no_room before compared =
    rw compared (
    record {
      least = λ c lt allowed. elim (cases_eq c n) [
        | inl e ↦ absurd (false≢true (let some : IsSome (cost_at p k n) = rw (← e) allowed.1 in rw is at some))
        | inr ne ↦ before.least c (omega (arith, lt, ne)) allowed
      ];
      free = before.free;
      attained = before.attained;
      none = none_past p s prices loads k n old.sum old.free
          (λ is_free. false≢true (let some : IsSome (cost_at p k n) = is_free.allowed.1 in rw is at some)) before.none;
    }
    )
compared_more p s prices loads k n (Some cost) is_vacant old new ltn is room no_room before compared =
    let allowed : IsAllowed p k n = (ltn, rw is refl) in
    let is_cost : cost_of p k n ≡ cost = rw is refl in
    record {
      least = λ c lt ok. elim (cases_eq c n) [
        | inl e ↦ rw e (omega (arith, compared.0, is_cost))
        | inr ne ↦ omega (arith, before.least c (omega (arith, lt, ne)) ok, compared.1)
      ];
      free =
          free_after p s prices loads k n cost new.sum is_vacant old new.free allowed is_cost room before.free compared.3;
      attained = λ below. elim compared.2 [
        | inl here ↦ (n, allowed, omega (arith, here, is_cost))
        | inr stays ↦
            let was = before.attained (omega (arith, stays, below)) in
            (was.0, was.1, omega (arith, was.2, stays))
      ];
      none = none_after p s prices loads k n cost new.sum is_vacant old new.free is_cost no_room compared.1 before.least
          before.none compared.4;
    }

-- the same for what a loop holds
pub compared_next : (p : Transport) (s : List Step) (prices loads : List ℕ) (k n price : ℕ) (cost : Option ℕ) (is_vacant : Bool)
    (old new : Cheapest)
    → n < consumers p → cost_at p k n ≡ cost → price ≡ get_or prices n 0
    → (is_vacant ≡ true → IsVacant p s n (get_or loads n 0) (get_or prices n 0)) → (IsVacant p s n (get_or loads n 0) (get_or prices n 0) → is_vacant ≡ true)
    → IsCheapest p s prices loads k n old → IsCompared n cost price is_vacant old new
    → IsCheapest p s prices loads k (n + 1) new
compared_next p s prices loads k n price cost is_vacant old new ltn is is_price room no_room before compared =
    compared_more p s prices loads k n cost is_vacant old new ltn is room no_room before (rw is_price at compared)

-- an entry that may not go there
pub compared_not : (p : Transport) (s : List Step) (prices loads : List ℕ) (k n : ℕ) (old : Cheapest)
    → n < consumers p → (IsSome (cost_at p k n) → ⊥) → IsCheapest p s prices loads k n old
    → IsCheapest p s prices loads k (n + 1) old
compared_not p s prices loads k n old ltn not before = record {
  least = λ c lt allowed. elim (cases_eq c n) [
    | inl e ↦ absurd (not (rw (← e) allowed.1))
    | inr ne ↦ before.least c (omega (arith, lt, ne)) allowed
  ];
  free = before.free;
  attained = before.attained;
  none = none_past p s prices loads k n old.sum old.free (λ is_free. not is_free.allowed.1) before.none;
}

-- the consumer that is free after the last one takes the entry
pub free_takes : (p : Transport) (s : List Step) (prices loads : List ℕ) (k sum : ℕ) (free : Option ℕ)
    → ((c : ℕ) → c < consumers p → IsAllowed p k c → sum ≤ priced p prices k c)
    → IfSome free (IsFree p s prices loads k sum) → IfSome free (IsTaker p s prices loads k)
free_takes p s prices loads k sum None least is = tt
free_takes p s prices loads k sum (Some c) least is = record {
  allowed = is.allowed;
  least = λ d allowed. omega (arith, least d allowed.0 allowed, is.same);
  vacant = is.vacant;
}

-- and if none is free after the last one, none takes it
pub none_takes : (p : Transport) (s : List Step) (prices loads : List ℕ) (k n sum : ℕ) (free : Option ℕ) → n ≡ consumers p
    → ((c : ℕ) → c < n → IsAllowed p k c → sum ≤ priced p prices k c)
    → ((c : ℕ) → c < n → IsAllowed p k c → priced p prices k c < 2 ^ 64 - 1)
    → (sum < 2 ^ 64 - 1 → (c : ℕ) × IsAllowed p k c × (priced p prices k c ≡ sum))
    → IfNone free ((c : ℕ) → c < n → IsFree p s prices loads k sum c → ⊥)
    → IfNone free ((c : ℕ) → IsTaker p s prices loads k c → ⊥)
none_takes p s prices loads k n sum (Some f) all least small attained none = tt
none_takes p s prices loads k n sum None all least small attained none = λ c taker.
    let ltn : c < n = omega (arith, taker.allowed.0, all) in
    let at_least = least c ltn taker.allowed in
    let some = attained (omega (arith, at_least, small c ltn taker.allowed)) in
    let at_most = taker.least some.0 some.1 in
    none c ltn (record { allowed = taker.allowed; same = omega (arith, at_least, at_most, some.2); vacant = taker.vacant })

-- the consumer has room for the entry
pub taken_in_room : (p : Transport) (s : List Step) (k c : ℕ) (xs prices loads : List ℕ)
    → IsPlaced p k xs prices → AreLoads p xs loads → k < p.entries → IsTaker p s prices loads k c
    → load (set xs k c) c ≤ room_of p c
taken_in_room p s k c xs prices loads placed counted ltk taken =
    (placed_taken p s k c xs prices loads placed counted ltk taken).in_room c taken.allowed.0

-- a member can be added to a row
pub record IsRoomy (members : List ℕ) (row : ℕ) : Type 0 where
  pub short : length members ≤ 2 ^ 32
  pub room : row + 1 + get_or members row 0 < length members

-- as to the row of the consumer that takes the entry
pub taken_roomy : (p : Transport) (s : List Step) (k c w : ℕ) (xs prices loads members : List ℕ)
    → IsPlaced p k xs prices → AreLoads p xs loads → AreWide p w → AreMembers p w xs members → k < p.entries
    → IsTaker p s prices loads k c → IsRoomy members (c * w)
taken_roomy p s k c w xs prices loads members placed counted wide are ltk taken =
    let away =
    members_waiting p w xs k members placed.every ltk (omega (arith, placed.waiting k (omega arith) ltk)) are in
    let row = row_of p w _ _ members c (c * w) placed.limits away taken.allowed.0 refl in
    let one =
    room_for_one p w xs k c placed.every ltk taken.allowed.0 wide
    (taken_in_room p s k c xs prices loads placed counted ltk taken) in
    record { short = row.short; room = omega (arith, row.count, row.room, one.0, one.1) }

pub taken_members : (p : Transport) (s : List Step) (k c w : ℕ) (xs prices loads members : List ℕ)
    → IsPlaced p k xs prices → AreLoads p xs loads → AreWide p w → AreMembers p w xs members → k < p.entries
    → IsTaker p s prices loads k c
    → AreMembers p w (set xs k c)
    (set (set members (c * w + 1 + get_or members (c * w) 0) k) (c * w) (get_or members (c * w) 0 + 1))
taken_members p s k c w xs prices loads members placed counted wide are ltk taken =
    let away =
    members_waiting p w xs k members placed.every ltk (omega (arith, placed.waiting k (omega arith) ltk)) are in
    members_come p w xs k c (c * w) (get_or members (c * w) 0) members placed.every ltk taken.allowed.0 wide
    (taken_in_room p s k c xs prices loads placed counted ltk taken) away refl refl
