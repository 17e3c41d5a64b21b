-- At the start no entry stands anywhere. Then one more is placed: the prices rise, and the entries move along the path.
use Rattle.std.proofs.Common.{◌≡◌, ℕ, ◌+◌, ◌*◌, ◌<◌, ◌≤◌, ◌⊎◌, true, false, List, length, get_or, Option, Some}
use Rattle.std.proofs.Common.{refl, sym, ap, ◌∙◌, subst, inl, inr, arith}
use Rattle.sr_transport.specs.{Transport, consumers}
use Rattle.sr_transport.specs.Limits.{greatest_rise}
use Rattle.std.proofs.lemmas.Bool.{cases_eq, false≢true}
use Rattle.std.proofs.Math.ListN.{set, length-set, replicate}
use Rattle.std.proofs.lemmas.List.{get_or_past, get_or-set_same, get_or-set_other, get_or-replicate, length-replicate}
use Rattle.std.proofs.lemmas.List.Folds.{sum_by-replicate}
use Rattle.std.proofs.lemmas.Nat.{mul-add-lt}
use Rattle.sr_transport.specs.plain.Problem.{IsWithinLimits, room_of, IsAllowed}
use Rattle.sr_transport.specs.plain.Assignment.{load}
use Rattle.sr_transport.specs.plain.Certificate.{IsLeast}
use Rattle.sr_solver.specs.declared.label.Label.{Label}
use Rattle.sr_solver.specs.Labels.{no_label, label_at, priced}
use Rattle.sr_solver.specs.declared.placement.Placement.{Placement}
use Rattle.sr_solver.specs.declared.front.End.{End}
use Rattle.sr_solver.specs.declared.stepped.Step.{Step}
use Rattle.sr_solver.specs.Steps.{step_at, next_fee, AreSteps, IsLevel}
use Rattle.sr_solver.specs.Placed.{IsPlaced, AreLevel, AreLoads, IsStanding}
use Rattle.sr_solver.specs.Members.{AreWide, AreMembers}
use Rattle.sr_solver.specs.Search.{IsWay, IsCovered, IsRound, IsEnd}
use Rattle.sr_solver.specs.Path.{IsRaised, AreRaised, IsStep, ArePaths, AreShifted}
use Rattle.sr_solver.proofs.PathLemmas.{one_at, one_at_same, one_at_other}
use Rattle.sr_solver.proofs.CutoffLemmas.{cases_bool}
use Rattle.sr_solver.proofs.StepLemmas.{fee_small, level_none, level_more}

-- where each entry stands past the last consumer, no consumer has a load
load_nowhere : (n top c : ℕ) → c < top → load (replicate n top) c ≡ 0
load_nowhere n top c lt =
    sum_by-replicate (λ x. one_at x c) n top ∙ ap (λ k. n * k) (one_at_other top c (λ e. omega (arith, e, lt)))
    ∙ omega arith

-- and no entry stands at any
none_at : (p : Transport) (i c : ℕ) → i < p.entries → c < consumers p
    → get_or (replicate p.entries (consumers p)) i 0 ≡ c → ⊥
none_at p i c lt ltc at = omega (arith, ltc, at, get_or-replicate p.entries i (consumers p) 0 lt)

none_placed : (p : Transport) → IsWithinLimits p.rooms p.entries p.costs
    → IsPlaced p 0 (replicate p.entries (consumers p)) (replicate (consumers p) 0)
none_placed p limits = record {
  limits = limits;
  every = length-replicate p.entries (consumers p);
  one_each = length-replicate {A = ℕ} (consumers p) 0;
  placed = λ i lt. absurd (omega (arith, lt));
  waiting = λ i le lt. get_or-replicate p.entries i (consumers p) 0 lt;
  in_room = λ c lt. omega (arith, load_nowhere p.entries (consumers p) c lt);
  least = λ i lt. absurd (omega (arith, lt));
  low = λ c lt. omega (arith, get_or-replicate {A = ℕ} (consumers p) c 0 0 lt);
}

none_loads : (p : Transport) → AreLoads p (replicate p.entries (consumers p)) (replicate (consumers p) 0)
none_loads p = record {
  one_each = length-replicate {A = ℕ} (consumers p) 0;
  each = λ c lt. get_or-replicate {A = ℕ} (consumers p) c 0 0 lt ∙ sym (load_nowhere p.entries (consumers p) c lt);
}

none_members : (p : Transport) (w : ℕ) → AreWide p w
    → AreMembers p w (replicate p.entries (consumers p)) (replicate (consumers p * w) 0)
none_members p w wide =
    let none : (c : ℕ) → c < consumers p → load (replicate p.entries (consumers p)) c ≡ 0 =
    λ c lt. load_nowhere p.entries (consumers p) c lt in
    record {
      one_each = length-replicate {A = ℕ} (consumers p * w) 0;
      short = wide.short;
      counted = λ c lt.
          get_or-replicate {A = ℕ} (consumers p * w) (c * w) 0 0
          (omega (arith, mul-add-lt c w 0 (consumers p) lt wide.some))
          ∙ sym (none c lt);
      fits = λ c lt. omega (arith, none c lt, wide.some);
      stands = λ c j lt ltj. absurd (omega (arith, ltj, none c lt));
      apart = λ c lt j k ltk below. absurd (omega (arith, below, none c lt));
      each = λ c i lt at. absurd (none_at p i c at.0 lt at.1);
    }

-- prices of 0 are level with no loads
none_level : (p : Transport) (s : List Step)
    → AreLevel p s (replicate p.entries (consumers p)) (replicate (consumers p) 0)
none_level p s c lt =
    rw (load_nowhere p.entries (consumers p) c lt, get_or-replicate {A = ℕ} (consumers p) c 0 0 lt)
    (level_none (step_at s c) (room_of p c))

-- at the start no entry is placed, every load is 0, and no row has a member
pub none_stands : (p : Transport) (s : List Step) (placement : Placement)
    → IsWithinLimits p.rooms p.entries p.costs → AreSteps p.rooms s
    → placement.assign.items ≡ replicate p.entries (consumers p) → placement.prices.items ≡ replicate (consumers p) 0
    → placement.loads.items ≡ replicate (consumers p) 0
    → placement.members.items ≡ replicate (consumers p * placement.width) 0 → AreWide p placement.width
    → IsStanding p s 0 placement
none_stands p s placement limits steps assign prices loads members wide = record {
  placed = rw assign (rw prices (none_placed p limits));
  are_steps = steps;
  level = rw assign (rw prices (none_level p s));
  loads = rw assign (rw loads (none_loads p));
  wide = wide;
  members = rw assign (rw members (none_members p placement.width wide));
}

-- the path is short: its length has no price in it
pub end_near : (p : Transport) (s : List Step) (k : ℕ) (xs prices : List ℕ) (labels : List Label) (end : End)
    → AreSteps p.rooms s → IsEnd p s k xs prices labels end → end.dist ≤ greatest_rise
end_near p s k xs prices labels end steps found =
    let is = found.shortest in
    omega (
      arith,
      is.length,
      fee_small p.rooms s end.consumer (load xs end.consumer) steps is.consumer,
      found.search.few end.consumer is.consumer is.reached,
      found.search.long end.consumer is.consumer is.reached,
      steps.few,
    )

-- a consumer that an entry moves to and that is open is at the end of the path, and as far as that
end_open : (p : Transport) (s : List Step) (k : ℕ) (xs prices : List ℕ) (labels : List Label) (end : End)
    → AreLevel p s xs prices → IsEnd p s k xs prices labels end → (label_at labels end.consumer).closed ≡ false
    → ((label_at labels end.consumer).dist ≡ end.dist)
    × (next_fee s end.consumer (load xs end.consumer) ≡ get_or prices end.consumer 0)
end_open p s k xs prices labels end level found is_open =
    let is = found.shortest in
    let far = found.far end.consumer is.consumer is.reached is_open in
    let low = (level end.consumer is.consumer).next is.room in
    (omega (arith, far, low, is.length), omega (arith, far, low, is.length))

-- the entry that moves to a reached consumer is the new one, or placed
mover_within : (p : Transport) (k : ℕ) (xs prices : List ℕ) (labels : List Label) (c : ℕ)
    → IsWay p k xs prices labels c → (label_at labels c).mover ≤ k
mover_within p k xs prices labels c way =
    elim way.step [
      | inl first ↦ omega (arith, first.mover)
      | inr next ↦ omega (arith, next.earlier)
    ]

-- the way to a reached consumer as a step of a path
step_of_way : (p : Transport) (k : ℕ) (xs prices : List ℕ) (cutoff : Option ℕ) (labels : List Label) (c : ℕ)
    → k < p.entries → IsPlaced p k xs prices → IsRound p k xs prices cutoff labels → IsWay p k xs prices labels c
    → IsStep labels k c (get_or xs (label_at labels c).mover 0)
step_of_way p k xs prices cutoff labels c lt placed search way =
    elim way.step [
      | inl first ↦
          let at : get_or xs (label_at labels c).mover 0 ≡ length labels =
          ap (λ i. get_or xs i 0) first.mover ∙ placed.waiting k (omega arith) lt ∙ sym search.one_each in
          let past : label_at labels (get_or xs (label_at labels c).mover 0) ≡ no_label =
          get_or_past labels (get_or xs (label_at labels c).mover 0) no_label (omega (arith, at)) in
          let none : (label_at labels (get_or xs (label_at labels c).mover 0)).hops ≡ 0 = ap (λ l. l.hops) past in
          record { fewer = omega (arith, first.hops, none); from = inl (first.mover, at) }
      | inr next ↦
          let within = (placed.placed (label_at labels c).mover next.earlier).0 in
          record {
            fewer = next.hops;
            from = inr (
              omega (arith, within, search.one_each),
              next.closed,
              search.reached (get_or xs (label_at labels c).mover 0) within next.closed,
            );
          }
    ]

pub are_paths : (p : Transport) (k : ℕ) (xs prices : List ℕ) (cutoff : Option ℕ) (labels : List Label)
    → k < p.entries → IsPlaced p k xs prices → IsRound p k xs prices cutoff labels → ArePaths labels k xs
are_paths p k xs prices cutoff labels lt placed search =
    let way : (c : ℕ) → c < length labels → 0 < (label_at labels c).hops → IsWay p k xs prices labels c =
    λ c ltc above. search.way c (omega (arith, ltc, search.one_each)) above in
    record {
      new = placed.waiting k (omega arith) lt ∙ sym search.one_each;
      entry = λ c ltc above. omega (arith, mover_within p k xs prices labels c (way c ltc above), lt, placed.every);
      step = λ c ltc above. step_of_way p k xs prices cutoff labels c lt placed search (way c ltc above);
    }

-- what is known where the path was found, and the prices rose
record IsRising (p : Transport) (s : List Step) (k : ℕ) (xs prices : List ℕ) (labels : List Label) (end : End)
    (raised : List ℕ) : Type 0 where
  placed : IsPlaced p k xs prices
  level : AreLevel p s xs prices
  found : IsEnd p s k xs prices labels end
  rise : (c : ℕ) → c < consumers p
      → IsRaised end.dist (label_at labels c) (get_or prices c 0) (get_or raised c 0)

-- no price falls
no_price_falls : (p : Transport) (s : List Step) (k : ℕ) (xs prices : List ℕ) (labels : List Label) (end : End) (raised : List ℕ)
    → IsRising p s k xs prices labels end raised → (c : ℕ) → c < consumers p → get_or prices c 0 ≤ get_or raised c 0
no_price_falls p s k xs prices labels end raised rising c lt =
    elim (cases_bool (label_at labels c).closed) [
      | inl closed ↦
          omega (arith, (rising.rise c lt).closed closed, rising.found.shortest.passed c lt closed)
      | inr is_open ↦ omega (arith, (rising.rise c lt).stays is_open)
    ]

-- what is within reach of an entry, or beyond the end of the path, is no nearer after the rise than the end of the path
reach_raised : (p : Transport) (s : List Step) (k : ℕ) (xs prices : List ℕ) (labels : List Label) (end : End) (raised : List ℕ)
    → IsRising p s k xs prices labels end raised
    → (dist base i c : ℕ) → c < consumers p → IsCovered p prices (Some end.dist) labels dist base i c
    → base + end.dist ≤ dist + priced p raised i c
reach_raised p s k xs prices labels end raised rising dist base i c lt covered =
    elim covered [
      | inr beyond ↦ omega (arith, beyond, no_price_falls p s k xs prices labels end raised rising c lt)
      | inl within ↦ elim (cases_bool (label_at labels c).closed) [
        | inl closed ↦ omega (arith, (rising.rise c lt).closed closed, within.1)
        | inr is_open ↦
            omega (arith, (rising.rise c lt).stays is_open, within.1, rising.found.far c lt within.0 is_open)
      ]
    ]

-- an entry that is at x, closed or the end of the path, by a way that is as long as its reach allows, is at a least sum
least_raised : (p : Transport) (s : List Step) (k : ℕ) (xs prices : List ℕ) (labels : List Label) (end : End) (raised : List ℕ)
    → IsRising p s k xs prices labels end raised
    → (dist base i x : ℕ) → x < consumers p
    → ((c : ℕ) → IsAllowed p i c → IsCovered p prices (Some end.dist) labels dist base i c)
    → (label_at labels x).dist + base ≡ dist + priced p prices i x
    → ((label_at labels x).closed ≡ true) ⊎ (x ≡ end.consumer)
    → IsLeast p raised i x
least_raised p s k xs prices labels end raised rising dist base i x lt reach tight passed c allowed =
    let far = reach_raised p s k xs prices labels end raised rising dist base i c allowed.0 (reach c allowed) in
    elim (cases_bool (label_at labels x).closed) [
      | inl closed ↦ omega (arith, far, tight, (rising.rise x lt).closed closed)
      | inr is_open ↦ elim passed [
        | inl closed ↦ absurd (false≢true (sym is_open ∙ closed))
        | inr at_end ↦
            let there : (label_at labels end.consumer).closed ≡ false = rw at_end at is_open in
            let here : (label_at labels x).dist ≡ (label_at labels end.consumer).dist =
            ap (λ z. (label_at labels z).dist) at_end in
            let same = (end_open p s k xs prices labels end rising.level rising.found there).0 in
            omega (arith, far, tight, here, same, (rising.rise x lt).stays is_open)
      ]
    ]

-- an entry that moved
least_moved : (p : Transport) (s : List Step) (k : ℕ) (xs prices : List ℕ) (labels : List Label) (end : End) (raised : List ℕ)
    → IsRising p s k xs prices labels end raised
    → (i x : ℕ) → x < consumers p → (label_at labels x).mover ≡ i → IsWay p k xs prices labels x
    → ((label_at labels x).closed ≡ true) ⊎ (x ≡ end.consumer)
    → IsLeast p raised i x
least_moved p s k xs prices labels end raised rising i x lt mover way passed =
    elim way.step [
      | inl first ↦
          let new : i ≡ k = sym mover ∙ first.mover in
          rw new (
          least_raised p s k xs prices labels end raised rising 0 0 k x lt
          (λ c allowed. inl (rising.found.search.new_offered c allowed)) (omega (arith, first.dist)) passed
          )
      | inr next ↦
          let earlier : i < k = omega (arith, mover, next.earlier) in
          let closed : (label_at labels (get_or xs i 0)).closed ≡ true = rw (← mover) next.closed in
          let tight : (label_at labels x).dist + priced p prices i (get_or xs i 0) ≡ (label_at labels
          (get_or xs i 0)).dist + priced p prices i x =
          rw (← mover) next.dist in
          least_raised p s k xs prices labels end raised rising (label_at labels (get_or xs i 0)).dist
          (priced p prices i (get_or xs i 0)) i x lt
          (λ c allowed. rising.found.covered i c earlier closed allowed) tight passed
    ]

-- an entry that stays
least_stays : (p : Transport) (s : List Step) (k : ℕ) (xs prices : List ℕ) (labels : List Label) (end : End) (raised : List ℕ)
    → IsRising p s k xs prices labels end raised → (i : ℕ) → i < k → IsLeast p raised i (get_or xs i 0)
least_stays p s k xs prices labels end raised rising i lti =
    let lt = (rising.placed.placed i lti).0 in
    elim (cases_bool (label_at labels (get_or xs i 0)).closed) [
      | inl closed ↦
          least_raised p s k xs prices labels end raised rising (label_at labels (get_or xs i 0)).dist
          (priced p prices i (get_or xs i 0)) i
          (get_or xs i 0) lt (λ c allowed. rising.found.covered i c lti closed allowed) refl
          (inl closed)
      | inr is_open ↦
          λ c allowed.
          omega (
            arith,
            (rising.rise (get_or xs i 0) lt).stays is_open,
            rising.placed.least i lti c allowed,
            no_price_falls p s k xs prices labels end raised rising c allowed.0,
          )
    ]

-- the prices that rose are level with the loads from before
level_raised : (p : Transport) (s : List Step) (k : ℕ) (xs prices : List ℕ) (labels : List Label) (end : End)
    (raised : List ℕ)
    → IsRising p s k xs prices labels end raised
    → (c : ℕ) → c < consumers p → IsLevel (step_at s c) (room_of p c) (load xs c) (get_or raised c 0)
level_raised p s k xs prices labels end raised rising c lt =
    elim (cases_bool (label_at labels c).closed) [
      | inl closed ↦
          let up = rising.found.search.reached c lt closed in
          let rise = (rising.rise c lt).closed closed in
          record {
            next = λ room. omega (arith, rise, rising.found.shortest.least c lt up room);
            last = λ beyond.
                omega (arith, rise, (rising.level c lt).last beyond, rising.found.shortest.passed c lt closed);
          }
      | inr is_open ↦ let same = (rising.rise c lt).stays is_open in rw same (rising.level c lt)
    ]

-- and where the path ends the price is the fee of the next place
end_raised : (p : Transport) (s : List Step) (k : ℕ) (xs prices : List ℕ) (labels : List Label) (end : End)
    (raised : List ℕ)
    → IsRising p s k xs prices labels end raised
    → next_fee s end.consumer (load xs end.consumer) ≡ get_or raised end.consumer 0
end_raised p s k xs prices labels end raised rising =
    let is = rising.found.shortest in
    let rise = rising.rise end.consumer is.consumer in
    elim (cases_bool (label_at labels end.consumer).closed) [
      | inl closed ↦ omega (arith, rise.closed closed, is.length)
      | inr is_open ↦
          (end_open p s k xs prices labels end rising.level rising.found is_open).1 ∙ sym (rise.stays is_open)
    ]

-- where an entry is after the shift
placed_shifted : (p : Transport) (s : List Step) (k : ℕ) (xs prices : List ℕ) (labels : List Label) (end : End) (raised new : List ℕ)
    → IsRising p s k xs prices labels end raised → k < p.entries → AreShifted labels k end.consumer xs new
    → (i : ℕ) → i < k + 1 → IsAllowed p i (get_or new i 0) × IsLeast p raised i (get_or new i 0)
placed_shifted p s k xs prices labels end raised new rising ltk shifted i lt =
    let search = rising.found.search in
    elim (shifted.moved i) [
      | inr moved ↦
          let within : get_or new i 0 < consumers p = omega (arith, moved.consumer, search.one_each) in
          let way = search.way (get_or new i 0) within moved.reached in (
            (let P : ℕ → Type 0 = λ j. IsAllowed p j (get_or new i 0) in subst P moved.mover way.allowed),
            least_moved p s k xs prices labels end raised rising i (get_or new i 0) within moved.mover way moved.passed,
          )
      | inl same ↦
          let earlier : i < k =
          elim (cases_eq i k) [
            | inl e ↦
                let here : get_or new k 0 ≡ get_or xs k 0 = rw (← e) same in
                absurd (omega (arith, here, rising.placed.waiting k (omega arith) ltk, shifted.first, search.one_each))
            | inr ne ↦ omega (arith, lt, ne)
          ] in (
            rw same (rising.placed.placed i earlier),
            rw same (least_stays p s k xs prices labels end raised rising i earlier),
          )
    ]

-- the entries after the new one still wait
waiting_shifted : (p : Transport) (s : List Step) (k : ℕ) (xs prices : List ℕ) (labels : List Label) (end : End) (raised new : List ℕ)
    → IsRising p s k xs prices labels end raised → AreShifted labels k end.consumer xs new
    → (i : ℕ) → k + 1 ≤ i → i < p.entries → get_or new i 0 ≡ consumers p
waiting_shifted p s k xs prices labels end raised new rising shifted i later lt =
    elim (shifted.moved i) [
      | inl same ↦ same ∙ rising.placed.waiting i (omega arith) lt
      | inr moved ↦
          let within : get_or new i 0 < consumers p = omega (arith, moved.consumer, rising.found.search.one_each) in
          let way = rising.found.search.way (get_or new i 0) within moved.reached in
          absurd (omega (arith, moved.mover, mover_within p k xs prices labels (get_or new i 0) way))
    ]

-- what the path does to the loads
loads_shifted : (p : Transport) (s : List Step) (k : ℕ) (xs prices : List ℕ) (labels : List Label) (end : End)
    (new : List ℕ)
    → IsEnd p s k xs prices labels end → AreShifted labels k end.consumer xs new
    → (c : ℕ) → c < consumers p → load new c ≡ load xs c + one_at end.consumer c
loads_shifted p s k xs prices labels end new found shifted c lt =
    shifted.loads c (omega (arith, lt, found.search.one_each))

-- one more entry is placed
pub placed_more : (p : Transport) (s : List Step) (k : ℕ) (xs prices : List ℕ) (labels : List Label) (end : End)
    (raised new : List ℕ)
    → IsPlaced p k xs prices → AreSteps p.rooms s → AreLevel p s xs prices → IsEnd p s k xs prices labels end
    → k < p.entries
    → AreRaised end.dist labels prices raised → AreShifted labels k end.consumer xs new
    → IsPlaced p (k + 1) new raised
placed_more p s k xs prices labels end raised new placed steps level found ltk rise shifted =
    let rising : IsRising p s k xs prices labels end raised =
    record {
      placed = placed;
      level = level;
      found = found;
      rise = λ c lt. rise.each c (omega (arith, lt, placed.one_each));
    } in
    let loads = loads_shifted p s k xs prices labels end new found shifted in
    record {
      limits = placed.limits;
      every = shifted.every ∙ placed.every;
      one_each = rise.one_each ∙ placed.one_each;
      placed = λ i lt. (placed_shifted p s k xs prices labels end raised new rising ltk shifted i lt).0;
      waiting = λ i later lt. waiting_shifted p s k xs prices labels end raised new rising shifted i later lt;
      in_room = λ c lt. elim (cases_eq end.consumer c) [
        | inl e ↦
            let room : load xs c < room_of p c = rw (← e) found.shortest.room in
            omega (arith, loads c lt, one_at_same end.consumer c e, room)
        | inr ne ↦ omega (arith, loads c lt, one_at_other end.consumer c ne, placed.in_room c lt)
      ];
      least = λ i lt. (placed_shifted p s k xs prices labels end raised new rising ltk shifted i lt).1;
      low = λ c lt. elim (cases_bool (label_at labels c).closed) [
        | inl closed ↦
            omega (
              arith,
              (rising.rise c lt).closed closed,
              placed.low c lt,
              end_near p s k xs prices labels end steps found,
            )
        | inr is_open ↦ omega (arith, (rising.rise c lt).stays is_open, placed.low c lt)
      ];
    }

-- and the prices stay level
pub level_more_placed : (p : Transport) (s : List Step) (k : ℕ) (xs prices : List ℕ) (labels : List Label) (end : End)
    (raised new : List ℕ)
    → IsPlaced p k xs prices → AreLevel p s xs prices → IsEnd p s k xs prices labels end
    → AreRaised end.dist labels prices raised → AreShifted labels k end.consumer xs new
    → AreLevel p s new raised
level_more_placed p s k xs prices labels end raised new placed level found rise shifted c lt =
    let rising : IsRising p s k xs prices labels end raised =
    record {
      placed = placed;
      level = level;
      found = found;
      rise = λ c lt. rise.each c (omega (arith, lt, placed.one_each));
    } in
    let loads = loads_shifted p s k xs prices labels end new found shifted in
    elim (cases_eq end.consumer c) [
      | inl e ↦
          let more : load new c ≡ load xs c + 1 = omega (arith, loads c lt, one_at_same end.consumer c e) in
          let fee : next_fee s c (load xs c) ≡ get_or raised c 0 =
          rw e at (end_raised p s k xs prices labels end raised rising) in
          rw more (level_more (step_at s c) (room_of p c) (load xs c) (get_or raised c 0) fee)
      | inr ne ↦
          let same : load new c ≡ load xs c = omega (arith, loads c lt, one_at_other end.consumer c ne) in
          rw same (level_raised p s k xs prices labels end raised rising c lt)
    ]

-- the loads count it
pub loads_more : (p : Transport) (s : List Step) (k : ℕ) (xs prices loads : List ℕ) (labels : List Label) (end : End) (new : List ℕ)
    → AreLoads p xs loads → IsEnd p s k xs prices labels end → AreShifted labels k end.consumer xs new
    → AreLoads p new (set loads end.consumer (get_or loads end.consumer 0 + 1))
loads_more p s k xs prices loads labels end new counted found shifted =
    let at : ℕ = end.consumer in
    let in_loads : at < length loads = omega (arith, found.shortest.consumer, counted.one_each) in
    record {
      one_each = length-set loads at (get_or loads at 0 + 1) ∙ counted.one_each;
      each = λ c lt.
          let load_at : load new c ≡ load xs c + one_at at c =
          shifted.loads c (omega (arith, lt, found.search.one_each)) in
          elim (cases_eq c at) [
            | inl e ↦
                let here : get_or (set loads at (get_or loads at 0 + 1)) c 0 ≡ get_or loads at 0 + 1 =
                rw e (get_or-set_same loads at (get_or loads at 0 + 1) 0 in_loads) in
                let before : get_or loads at 0 ≡ load xs c = rw (← e) (counted.each c lt) in
                omega (arith, here, before, load_at, one_at_same at c (sym e))
            | inr ne ↦
                let here : get_or (set loads at (get_or loads at 0 + 1)) c 0 ≡ get_or loads c 0 =
                get_or-set_other loads at c (get_or loads at 0 + 1) 0 ne in
                let other : at ≡ c → ⊥ = λ e. ne (sym e) in
                omega (arith, here, counted.each c lt, load_at, one_at_other at c other)
          ];
    }

-- one more entry is within each room
pub end_in_room : (p : Transport) (s : List Step) (k : ℕ) (xs prices : List ℕ) (labels : List Label) (end : End)
    → IsPlaced p k xs prices → IsEnd p s k xs prices labels end
    → (c : ℕ) → c < length labels → load xs c + one_at end.consumer c ≤ room_of p c
end_in_room p s k xs prices labels end placed found c lt =
    elim (cases_eq end.consumer c) [
      | inl e ↦
          let room : load xs c < room_of p c = rw (← e) found.shortest.room in
          omega (arith, one_at_same end.consumer c e, room)
      | inr ne ↦ omega (arith, one_at_other end.consumer c ne, placed.in_room c (omega (arith, lt, found.search.one_each)))
    ]
