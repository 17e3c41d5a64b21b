-- The search: its start, a consumer that is closed, and one offer more.
use Rattle.std.proofs.Common.{◌≡◌, ℕ, ◌+◌, ◌<◌, ◌≤◌, true, false, List, length, get_or, Option, Some, None, refl, sym, ap, ◌∙◌, inl, inr}
use Rattle.std.proofs.Common.{arith}
use Rattle.std.proofs.Math.ListN.{set}
use Rattle.std.specs.Prelude.{IsSome, unwrap_or}
use Rattle.std.proofs.lemmas.Bool.{cases_eq, cases_lt, false≢true}
use Rattle.std.proofs.lemmas.List.{get_or_past, get_or-set_same, get_or-set_other}
use Rattle.sr_transport.specs.{greatest_price, Transport, consumers}
use Rattle.sr_transport.specs.Limits.{greatest_fee}
use Rattle.sr_solver.specs.Limits.{greatest_way, far}
use Rattle.sr_transport.specs.plain.Problem.{IsWithinLimits, cost_at, cost_of, IsAllowed}
pub use Rattle.sr_transport.proofs.PlainLimitLemmas.{cost_at_small, cost_small}
use Rattle.sr_solver.specs.declared.label.Label.{Label}
use Rattle.sr_solver.specs.declared.front.End.{End}
use Rattle.sr_solver.specs.declared.stepped.Step.{Step}
use Rattle.sr_solver.specs.Labels.{no_label, unreached, label_at, IsFirstLabel}
use Rattle.sr_solver.specs.Search.{IsFirstStep, IsRound, IsStarted}
use Rattle.sr_solver.specs.Cutoff.{IsCutoff, IsCut}
use Rattle.sr_solver.proofs.GapLemmas.{IsGap}
use Rattle.sr_solver.proofs.LabelLemmas.{open_count-le}
use Rattle.sr_solver.proofs.CutoffLemmas.{IsGapAt, cutoff_cut}

-- a consumer past the last has no label
past_label : (labels : List Label) (c : ℕ) → length labels ≤ c → label_at labels c ≡ no_label
past_label labels c past = get_or_past labels c no_label past

-- the label of a consumer to which the new entry alone was offered
record IsFresh (p : Transport) (k : ℕ) (prices : List ℕ) (label : Label) (c : ℕ) : Type 0 where
  still_open : label.closed ≡ false
  unreached : label.hops ≡ 0 → label.dist ≡ far
  reached : 0 < label.hops → IsAllowed p k c × IsFirstStep p k prices label c
  offered : IsAllowed p k c → 0 < label.hops

first_fresh : (p : Transport) (k : ℕ) (prices : List ℕ) (label : Label) (c : ℕ) (cost : Option ℕ) → c < consumers p
    → cost_at p k c ≡ cost → IsFirstLabel cost (get_or prices c 0) k label → IsFresh p k prices label c
first_fresh p k prices label c None lt is none = record {
  still_open = ap (λ l. l.closed) none;
  unreached = λ zero. ap (λ l. l.dist) none;
  reached = λ above. absurd (let hops : label.hops ≡ 0 = ap (λ l. l.hops) none in omega arith);
  offered = λ allowed. absurd (false≢true (rw is at allowed.1));
}
first_fresh p k prices label c (Some cost) lt is some =
    let hops : label.hops ≡ 1 = ap (λ l. l.hops) some in
    let same : cost_of p k c ≡ cost = ap (λ o. unwrap_or o 0) is in
    record {
      still_open = ap (λ l. l.closed) some;
      unreached = λ zero. absurd (omega (arith, hops, zero));
      reached = λ above. (
        (lt, rw is refl),
        record {
          mover = ap (λ l. l.mover) some;
          hops = hops;
          dist = let dist : label.dist ≡ cost + get_or prices c 0 = ap (λ l. l.dist) some in omega (arith, dist, same);
        },
      );
      offered = λ allowed. omega (arith, hops);
    }

fresh : (p : Transport) (k : ℕ) (prices : List ℕ) (label : Label) (c : ℕ) → c < consumers p
    → IsFirstLabel (cost_at p k c) (get_or prices c 0) k label → IsFresh p k prices label c
fresh p k prices label c lt is = first_fresh p k prices label c (cost_at p k c) lt refl is

-- nothing is guessed where entries were not offered
first_no_guess : (cost : Option ℕ) (price k : ℕ) (label : Label) → IsFirstLabel cost price k label → label.guess ≡ far
first_no_guess None price k label none = ap (λ l. l.guess) none
first_no_guess (Some cost) price k label some = ap (λ l. l.guess) some

pub started_no_guess : (p : Transport) (k : ℕ) (prices : List ℕ) (labels : List Label) → IsStarted p k prices labels
    → (c : ℕ) → c < length labels → (label_at labels c).guess ≡ far
started_no_guess p k prices labels started c lt =
    first_no_guess (cost_at p k c) (get_or prices c 0) k (label_at labels c)
    (started.each c (omega (arith, lt, started.one_each)))

-- the search starts between two rounds
pub started_round : (p : Transport) (k : ℕ) (xs prices : List ℕ) (cutoff : Option ℕ) (labels : List Label)
    → IsWithinLimits p.rooms p.entries p.costs → IsStarted p k prices labels → IsRound p k xs prices cutoff labels
started_round p k xs prices cutoff labels limits started =
    let each : (c : ℕ) → c < consumers p → IsFresh p k prices (label_at labels c) c =
    λ c lt. fresh p k prices (label_at labels c) c lt (started.each c lt) in
    let none_closed : (c : ℕ) → (label_at labels c).closed ≡ true → ⊥ =
    λ c is_closed. elim (cases_lt c (consumers p)) [
      | inl lt ↦ let still : (label_at labels c).closed ≡ false = (each c lt).still_open in cc
      | inr past ↦
          let none : label_at labels c ≡ no_label = past_label labels c (omega (arith, past, started.one_each)) in
          let still : (label_at labels c).closed ≡ false = ap (λ l. l.closed) none in cc
    ] in
    record {
      one_each = started.one_each;
      way = λ c lt above.
          let first = (each c lt).reached above in
          record { allowed = rw first.1.mover first.0; step = inl first.1 };
      long = λ c lt above.
          let first = ((each c lt).reached above).1 in
          omega (arith, first.dist, first.hops, cost_small p limits k c);
      few = λ c lt above. omega (arith, ((each c lt).reached above).1.hops, open_count-le labels, started.one_each);
      few_closed = λ c lt is_closed. absurd (none_closed c is_closed);
      reached = λ c lt is_closed. absurd (none_closed c is_closed);
      nearer = λ c d lt ltd is_closed not_closed above. absurd (none_closed c is_closed);
      ahead = λ c d lt ltd is_closed not_closed. absurd (none_closed c is_closed);
      hints = λ c lt. omega (arith, started_no_guess p k prices labels started c (omega (arith, lt, started.one_each)));
      unreached = λ c lt none. (each c lt).unreached none;
      new_offered = λ c allowed.
          let above = (each c allowed.0).offered allowed in
          let first = ((each c allowed.0).reached above).1 in
          (above, omega (arith, first.dist));
      offered = λ i c lt is_closed upto allowed. absurd (none_closed (get_or xs i 0) is_closed);
    }

-- the new entry was offered to one consumer more
pub offered_more : (p : Transport) (k n : ℕ) (prices : List ℕ) (labels : List Label) (label : Label) → n < length labels
    → ((c : ℕ) → c < n → IsFirstLabel (cost_at p k c) (get_or prices c 0) k (label_at labels c))
    → IsFirstLabel (cost_at p k n) (get_or prices n 0) k label
    → (c : ℕ) → c < n + 1
    → IsFirstLabel (cost_at p k c) (get_or prices c 0) k (label_at (set labels n label) c)
offered_more p k n prices labels label lt each offered c ltc =
    elim (cases_eq c n) [
      | inl e ↦ rw e (rw (get_or-set_same labels n label no_label lt) offered)
      | inr ne ↦ rw (get_or-set_other labels n c label no_label ne) (each c (omega (arith, ltc, ne)))
    ]

-- its way there is short
pub first_small : (p : Transport) (k c : ℕ) (prices : List ℕ) (label : Label) → IsWithinLimits p.rooms p.entries p.costs
    → get_or prices c 0 ≤ greatest_price → c < consumers p
    → IsFirstLabel (cost_at p k c) (get_or prices c 0) k label → 0 < label.hops
    → label.dist + greatest_fee ≤ greatest_way
first_small p k c prices label limits low lt offered above =
    let first = ((fresh p k prices label c lt offered).reached above).1 in
    omega (arith, first.dist, low, cost_small p limits k c)

-- and its label is open
first_open : (p : Transport) (k n : ℕ) (prices : List ℕ) (labels : List Label) → n ≤ consumers p
    → ((c : ℕ) → c < n → IsFirstLabel (cost_at p k c) (get_or prices c 0) k (label_at labels c))
    → (c : ℕ) → c < n → (label_at labels c).closed ≡ false
first_open p k n prices labels le each c lt =
    (fresh p k prices (label_at labels c) c (omega arith) (each c lt)).still_open

-- what the cutoff becomes
pub cutoff_more : (p : Transport) (s : List Step) (k n : ℕ) (xs prices : List ℕ) (labels : List Label) (label : Label)
    (gap : Option ℕ) (cutoff next : Option End)
    → IsWithinLimits p.rooms p.entries p.costs → n < length labels → n < consumers p
    → get_or prices n 0 ≤ greatest_price
    → ((c : ℕ) → c < n → IsFirstLabel (cost_at p k c) (get_or prices c 0) k (label_at labels c))
    → IsFirstLabel (cost_at p k n) (get_or prices n 0) k label → IsGapAt p s xs prices n gap
    → IsCut n label gap cutoff next → IsCutoff p s xs prices labels n cutoff
    → IsCutoff p s xs prices (set labels n label) (n + 1) next
cutoff_more p s k n xs prices labels label gap cutoff next limits lt ltn low each offered at cut is =
    let here : label_at (set labels n label) n ≡ label = get_or-set_same labels n label no_label lt in
    let still : (label_at (set labels n label) n).closed ≡ false =
    ap (λ l. l.closed) here ∙ (fresh p k prices label n ltn offered).still_open in
    let same : (c : ℕ) → (c ≡ n → ⊥) → label_at (set labels n label) c ≡ label_at labels c =
    λ c ne. get_or-set_other labels n c label no_label ne in
    cutoff_cut p s xs prices labels (set labels n label) n n (n + 1) gap cutoff next
    (record {
      same = same;
      nearer = λ below up. absurd (omega (arith, below));
      kept = λ now. absurd (false≢true (sym still ∙ now));
      near = λ is_open up c below was. elim (cases_eq c n) [
        | inl e ↦ absurd (false≢true (sym still ∙ rw e at was))
        | inr ne ↦ absurd (false≢true (
            sym (first_open p k n prices labels (omega arith) each c (omega (arith, below, ne)))
            ∙ sym (ap (λ l. l.closed) (same c ne)) ∙ was
            ))
      ];
    })
    (record { here = omega arith; more = omega arith; each = λ c below ne. omega (arith, below, ne) }) at
    (rw here (first_small p k n prices label limits low ltn offered)) (rw here cut) is

-- each consumer that is labelled as the new entry reaches it is open
pub first_opened : (p : Transport) (k : ℕ) (prices : List ℕ) (labels : List Label) → IsStarted p k prices labels
    → (c : ℕ) → c < length labels → (label_at labels c).closed ≡ false
first_opened p k prices labels started c lt =
    first_open p k (consumers p) prices labels (omega arith) started.each c (omega (arith, lt, started.one_each))

-- a label that is not reached is the first one of a consumer that is not allowed
first_none : (cost : Option ℕ) (price k : ℕ) (label : Label) → (IsSome cost → ⊥) → label ≡ unreached
    → IsFirstLabel cost price k label
first_none None price k label not none = none
first_none (Some cost) price k label not none = absurd (not refl)

-- the first labels over a gap
pub first_skips : (p : Transport) (k n m : ℕ) (prices : List ℕ) (labels : List Label) → m ≤ consumers p → IsGap p k n m
    → ((c : ℕ) → c < n → IsFirstLabel (cost_at p k c) (get_or prices c 0) k (label_at labels c))
    → ((c : ℕ) → n ≤ c → c < consumers p → label_at labels c ≡ unreached)
    → (c : ℕ) → c < m → IsFirstLabel (cost_at p k c) (get_or prices c 0) k (label_at labels c)
first_skips p k n m prices labels le gap each none c lt = elim (cases_lt c n) [
  | inl below ↦ each c below
  | inr above ↦
      first_none (cost_at p k c) (get_or prices c 0) k (label_at labels c)
      (λ some. gap.none c (omega arith) lt (omega arith, some)) (none c (omega arith) (omega arith))
]

-- the cutoff over consumers that are not reached
pub cutoff_skips : (p : Transport) (s : List Step) (xs prices : List ℕ) (labels : List Label) (n m : ℕ)
    (cutoff : Option End)
    → n ≤ m → ((c : ℕ) → n ≤ c → c < m → label_at labels c ≡ unreached) → IsCutoff p s xs prices labels n cutoff
    → IsCutoff p s xs prices labels m cutoff
cutoff_skips p s xs prices labels n m None le none full = λ c lt up. elim (cases_lt c n) [
  | inl below ↦ full c below up
  | inr above ↦ absurd (
      let hops : (label_at labels c).hops ≡ 0 = ap (λ l. l.hops) (none c (omega arith) lt) in omega arith
      )
]
cutoff_skips p s xs prices labels n m (Some end) le none is = record {
  small = is.small;
  consumer = omega (arith, is.consumer);
  reached = is.reached;
  room = is.room;
  length = is.length;
  least = λ c lt up room. elim (cases_lt c n) [
    | inl below ↦ is.least c below up room
    | inr above ↦ absurd (
        let hops : (label_at labels c).hops ≡ 0 = ap (λ l. l.hops) (none c (omega arith) lt) in omega arith
        )
  ];
  passed = λ c lt closed. elim (cases_lt c n) [
    | inl below ↦ is.passed c below closed
    | inr above ↦ absurd (false≢true (sym (ap (λ l. l.closed) (none c (omega arith) lt)) ∙ closed))
  ];
}
