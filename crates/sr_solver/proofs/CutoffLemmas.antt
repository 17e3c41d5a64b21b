-- The cutoff of a search: what lies beyond it, how it falls, and what it comes to in the end.
use Rattle.std.proofs.Common.{◌≡◌, ℕ, ◌+◌, ◌<◌, ◌≤◌, ◌⊎◌, Bool, true, false, List, get_or, Option, Some, None, refl}
use Rattle.std.proofs.Common.{sym, ap, ◌∙◌, inl, inr, arith}
use Rattle.std.specs.Prelude.{IfSome, IfNone}
use Rattle.std.proofs.lemmas.Bool.{cases_eq, false≢true}
use Rattle.sr_transport.specs.{Transport, consumers}
use Rattle.sr_transport.specs.Limits.{greatest_fee}
use Rattle.sr_transport.specs.plain.Problem.{room_of}
use Rattle.sr_transport.specs.plain.Assignment.{load}
use Rattle.sr_solver.specs.Limits.{greatest_way}
use Rattle.sr_solver.specs.declared.label.Label.{Label}
use Rattle.sr_solver.specs.declared.front.End.{End}
use Rattle.sr_solver.specs.declared.stepped.Step.{Step}
use Rattle.sr_solver.specs.Labels.{label_at, AreFarOrReached}
use Rattle.sr_solver.specs.Steps.{next_fee, AreSteps}
use Rattle.sr_solver.specs.Placed.{IsPlaced, AreLevel, AreLoads}
use Rattle.sr_solver.specs.Cutoff.{IsBeyond, IsNoLater, length_of, IsShortest, AreFull, IsCutoff, IsCut}
use Rattle.sr_solver.specs.Search.{IsSearch, IsRound, AreDoneOf, AreCovered, IsFound}
use Rattle.sr_transport.proofs.PlainLimitLemmas.{cost_small}
use Rattle.sr_solver.proofs.StepLemmas.{fee_small}

-- a path that is no shorter lies beyond, too
pub beyond_more : (cutoff : Option ℕ) (base sum base' sum' : ℕ) → base' + sum ≤ base + sum' → IsBeyond cutoff base sum
    → IsBeyond cutoff base' sum'
beyond_more None base sum base' sum' le beyond = beyond
beyond_more (Some dist) base sum base' sum' le beyond = omega (arith, le, beyond)

-- a shorter cutoff has more beyond it
beyond_less : (old : Option End) (dist : ℕ) → ((end : End) → old ≡ Some end → dist ≤ end.dist)
    → IsNoLater (length_of old) (Some dist)
beyond_less None dist less base sum beyond = absurd beyond
beyond_less (Some end) dist less base sum beyond = omega (arith, less end refl, beyond)

pub beyond_cut : (c : ℕ) (label : Label) (gap : Option ℕ) (old new : Option End) → IsCut c label gap old new
    → IsNoLater (length_of old) (length_of new)
beyond_cut c label None old new cut base sum beyond = rw cut beyond
beyond_cut c label (Some gap) old new cut base sum beyond =
    elim cut [
      | inl uncut ↦ rw uncut.same beyond
      | inr fallen ↦ rw fallen.falls (beyond_less old (label.dist + gap) fallen.nearer base sum beyond)
    ]

-- the same search with another cutoff
pub search_cut : (p : Transport) (k : ℕ) (xs prices : List ℕ) (old new : Option ℕ) (labels : List Label) (t upto : ℕ)
    → IsNoLater old new → IsSearch p k xs prices old labels t upto → IsSearch p k xs prices new labels t upto
search_cut p k xs prices old new labels t upto later search = record {
  one_each = search.one_each;
  way = search.way;
  long = search.long;
  few = search.few;
  few_closed = search.few_closed;
  reached = search.reached;
  nearer = search.nearer;
  ahead = search.ahead;
  hints = search.hints;
  unreached = search.unreached;
  new_offered = search.new_offered;
  offered = λ i c lt is_closed within allowed. elim (search.offered i c lt is_closed within allowed) [
    | inl (inl near) ↦ inl (inl near)
    | inl (inr beyond) ↦ inl (inr (later _ _ beyond))
    | inr guessed ↦ inr guessed
  ];
}

-- a cutoff is small
pub cutoff_small : (p : Transport) (s : List Step) (xs prices : List ℕ) (labels : List Label) (n : ℕ)
    (cutoff : Option End)
    → IsCutoff p s xs prices labels n cutoff → IfSome (length_of cutoff) (λ d. d ≤ greatest_way)
cutoff_small p s xs prices labels n None is = tt
cutoff_small p s xs prices labels n (Some end) is = is.small

pub cases_bool : (b : Bool) → (b ≡ true) ⊎ (b ≡ false)
cases_bool true = inl refl
cases_bool false = inr refl

-- the labels before and after that of consumer b alone was set, where those below m counted before
pub record IsRelabelled (old new : List Label) (b m n : ℕ) : Type 0 where
  pub same : (c : ℕ) → (c ≡ b → ⊥) → label_at new c ≡ label_at old c
  pub nearer : b < m → 0 < (label_at old b).hops
      → (0 < (label_at new b).hops) × ((label_at new b).dist ≤ (label_at old b).dist)
  pub kept : (label_at new b).closed ≡ true → (b < m) × (label_at new b ≡ label_at old b)
  pub near : (label_at new b).closed ≡ false → 0 < (label_at new b).hops → (c : ℕ) → c < n
      → (label_at new c).closed ≡ true → (label_at new c).dist ≤ (label_at new b).dist

-- what is known of the next place of consumer b
pub record IsGapAt (p : Transport) (s : List Step) (xs prices : List ℕ) (b : ℕ) (gap : Option ℕ) : Type 0 where
  pub some : IfSome gap
      (λ gap. (load xs b < room_of p b) × (gap + get_or prices b 0 ≡ next_fee s b (load xs b)) × (gap ≤ greatest_fee))
  pub none : IfNone gap (room_of p b ≤ load xs b)

-- each consumer is consumer b, or one that counted before
pub record IsOneMore (b m n : ℕ) : Type 0 where
  pub here : b < n
  pub more : m ≤ n
  pub each : (c : ℕ) → c < n → (c ≡ b → ⊥) → c < m

-- consumers other than b that are full stay so
full_more : (p : Transport) (xs : List ℕ) (old new : List Label) (b m n : ℕ) → IsRelabelled old new b m n
    → IsOneMore b m n → AreFull p xs old m → (0 < (label_at new b).hops → room_of p b ≤ load xs b)
    → AreFull p xs new n
full_more p xs old new b m n re one full here c lt up =
    elim (cases_eq c b) [
      | inl e ↦ rw e (here (rw (← e) up))
      | inr ne ↦ full c (one.each c lt ne) (let same = re.same c ne in rw same at up)
    ]

-- a shortest path stays one, where the path to b is no shorter
shortest_stays : (p : Transport) (s : List Step) (xs prices : List ℕ) (old new : List Label) (b m n : ℕ) (end : End)
    → IsRelabelled old new b m n → IsOneMore b m n → IsShortest p s xs prices old m end
    → (0 < (label_at new b).hops → load xs b < room_of p b
    → end.dist + get_or prices b 0 ≤ (label_at new b).dist + next_fee s b (load xs b))
    → IsShortest p s xs prices new n end
shortest_stays p s xs prices old new b m n end re one is here =
    record {
      small = is.small;
      consumer = omega (arith, is.consumer, one.more);
      reached = elim (cases_eq end.consumer b) [
        | inl e ↦
            let up : 0 < (label_at old b).hops = rw (← e) is.reached in
            rw e (re.nearer (rw (← e) is.consumer) up).0
        | inr ne ↦ rw (re.same end.consumer ne) is.reached
      ];
      room = is.room;
      length = elim (cases_eq end.consumer b) [
        | inl e ↦
            let was : end.dist + get_or prices b 0 ≡ (label_at old b).dist + next_fee s b (load xs b) =
            rw (← e) is.length in
            let near = re.nearer (rw (← e) is.consumer) (rw (← e) is.reached) in
            let there = here near.0 (rw (← e) is.room) in
            rw e (omega (arith, was, near.1, there))
        | inr ne ↦ rw (re.same end.consumer ne) is.length
      ];
      least = λ c lt up room. elim (cases_eq c b) [
        | inl e ↦ rw e (here (rw (← e) up) (rw (← e) room))
        | inr ne ↦
            let same = re.same c ne in
            rw same (is.least c (one.each c lt ne) (rw same at up) room)
      ];
      passed = λ c lt closed. elim (cases_eq c b) [
        | inl e ↦
            let now : (label_at new b).closed ≡ true = rw (← e) closed in
            let same = (re.kept now).1 in
            rw e (rw same (is.passed b (re.kept now).0 (rw same at now)))
        | inr ne ↦
            let same = re.same c ne in
            rw same (is.passed c (one.each c lt ne) (rw same at closed))
      ];
    }

-- or the path to b is a shortest one
shortest_falls : (p : Transport) (s : List Step) (xs prices : List ℕ) (old new : List Label) (b m n gap : ℕ)
    (cutoff : Option End)
    → IsRelabelled old new b m n → IsOneMore b m n → load xs b < room_of p b
    → gap + get_or prices b 0 ≡ next_fee s b (load xs b) → gap ≤ greatest_fee
    → 0 < (label_at new b).hops → (label_at new b).dist + greatest_fee ≤ greatest_way
    → ((end : End) → cutoff ≡ Some end → (label_at new b).dist + gap ≤ end.dist)
    → IsCutoff p s xs prices old m cutoff
    → IsShortest p s xs prices new n (record { consumer = b; dist = (label_at new b).dist + gap })
shortest_falls p s xs prices old new b m n gap None re one room is_gap small up low nearer is = record {
  small = omega arith;
  consumer = one.here;
  reached = up;
  room = room;
  length = omega (arith, is_gap);
  least = λ c lt upc roomc. elim (cases_eq c b) [
    | inl e ↦ rw e (omega (arith, is_gap))
    | inr ne ↦
        let same = re.same c ne in
        absurd (omega (arith, is c (one.each c lt ne) (rw same at upc), roomc))
  ];
  passed = λ c lt closed. elim (cases_bool (label_at new b).closed) [
    | inl now ↦
        let kept = re.kept now in
        let was : 0 < (label_at old b).hops = let same = kept.1 in rw same at up in
        absurd (omega (arith, is b kept.0 was, room))
    | inr is_open ↦ omega (arith, re.near is_open up c lt closed)
  ];
}
shortest_falls p s xs prices old new b m n gap (Some end) re one room is_gap small up low nearer is = record {
  small = omega arith;
  consumer = one.here;
  reached = up;
  room = room;
  length = omega (arith, is_gap);
  least = λ c lt upc roomc. elim (cases_eq c b) [
    | inl e ↦ rw e (omega (arith, is_gap))
    | inr ne ↦
        let same = re.same c ne in
        let before = is.least c (one.each c lt ne) (rw same at upc) roomc in
        rw same (omega (arith, before, nearer end refl))
  ];
  passed = λ c lt closed. elim (cases_bool (label_at new b).closed) [
    | inl now ↦
        let kept = re.kept now in
        let was : 0 < (label_at old b).hops = let same = kept.1 in rw same at up in
        let before = is.least b kept.0 was room in
        let dist : (label_at new b).dist ≡ (label_at old b).dist = ap (λ l. l.dist) kept.1 in
        elim (cases_eq c b) [
          | inl e ↦ rw e (omega arith)
          | inr ne ↦
              let same = re.same c ne in
              let far = is.passed c (one.each c lt ne) (rw same at closed) in
              rw same (omega (arith, far, before, dist, is_gap))
        ]
    | inr is_open ↦ omega (arith, re.near is_open up c lt closed)
  ];
}

-- what the cutoff becomes
pub cutoff_cut : (p : Transport) (s : List Step) (xs prices : List ℕ) (old new : List Label) (b m n : ℕ)
    (gap : Option ℕ) (cutoff next : Option End)
    → IsRelabelled old new b m n → IsOneMore b m n → IsGapAt p s xs prices b gap
    → (0 < (label_at new b).hops → (label_at new b).dist + greatest_fee ≤ greatest_way)
    → IsCut b (label_at new b) gap cutoff next → IsCutoff p s xs prices old m cutoff
    → IsCutoff p s xs prices new n next
cutoff_cut p s xs prices old new b m n None None next re one at low cut is =
    rw cut (full_more p xs old new b m n re one is (λ up. at.none))
cutoff_cut p s xs prices old new b m n None (Some end) next re one at low cut is =
    rw cut (
    shortest_stays p s xs prices old new b m n end re one is (λ up room. absurd (omega (arith, at.none, room)))
    )
cutoff_cut p s xs prices old new b m n (Some gap) None next re one at low cut is =
    elim cut [
      | inl uncut ↦ rw uncut.same (full_more p xs old new b m n re one is (λ up. absurd (uncut.far up)))
      | inr fallen ↦
          rw fallen.falls (
          shortest_falls p s xs prices old new b m n gap None re one at.some.0 at.some.1 at.some.2 fallen.reached
          (low fallen.reached) fallen.nearer is
          )
    ]
cutoff_cut p s xs prices old new b m n (Some gap) (Some end) next re one at low cut is =
    elim cut [
      | inl uncut ↦
          rw uncut.same (
          shortest_stays p s xs prices old new b m n end re one is
          (λ up room. omega (arith, uncut.far up, at.some.1))
          )
      | inr fallen ↦
          rw fallen.falls (
          shortest_falls p s xs prices old new b m n gap (Some end) re one at.some.0 at.some.1 at.some.2
          fallen.reached (low fallen.reached) fallen.nearer is
          )
    ]

-- where no guess is nearer than the cutoff, each entry that was offered is covered
covered_done : (p : Transport) (k : ℕ) (xs prices : List ℕ) (cutoff : Option ℕ) (labels : List Label)
    → IsPlaced p k xs prices → k ≤ p.entries → AreFarOrReached p labels
    → IsRound p k xs prices cutoff labels → AreDoneOf (consumers p) cutoff labels
    → AreCovered p k xs prices cutoff labels
covered_done p k xs prices cutoff labels placed le marked round done i c lt closed allowed =
    elim (round.offered i c lt closed (λ e. allowed.0) allowed) [
      | inl covered ↦ covered
      | inr guessed ↦ elim (done.guesses c allowed.0 guessed.0) [
        | inl none ↦ absurd (
            let from : ℕ = get_or xs i 0 in
            let ltf : from < consumers p = (placed.placed i lt).0 in
            let near : (label_at labels from).dist ≤ greatest_way = elim (marked from ltf) [
              | inl far ↦ absurd (omega (arith, round.reached from ltf closed, far.0))
              | inr reached ↦ reached.1
            ] in
            omega (
              arith,
              guessed.1,
              none,
              near,
              cost_small p placed.limits i c,
              placed.low c allowed.0,
              placed.limits.few_entries,
              le,
            )
            )
        | inr beyond ↦ inr (beyond_more cutoff 0 (label_at labels c).guess _ _ (omega (arith, guessed.1)) beyond)
      ]
    ]

-- the search ends where each consumer that is reached is closed, or no nearer than the cutoff
pub found_done : (p : Transport) (s : List Step) (k : ℕ) (xs prices : List ℕ) (labels : List Label)
    (cutoff : Option End)
    → IsPlaced p k xs prices → k ≤ p.entries → AreFarOrReached p labels
    → IsRound p k xs prices (length_of cutoff) labels → IsCutoff p s xs prices labels (consumers p) cutoff
    → AreDoneOf (consumers p) (length_of cutoff) labels → IsFound p s k xs prices labels cutoff
found_done p s k xs prices labels None placed le marked round is done = record {
  search = round;
  all_closed = λ c lt up. elim (done.reached c lt up) [
    | inl closed ↦ closed
    | inr beyond ↦ absurd beyond
  ];
  full = is;
  covered = covered_done p k xs prices None labels placed le marked round done;
}
found_done p s k xs prices labels (Some end) placed le marked round is done = record {
  search = round;
  shortest = is;
  far = λ c lt up is_open. elim (done.reached c lt up) [
    | inl closed ↦ absurd (false≢true (sym is_open ∙ closed))
    | inr beyond ↦ omega (arith, beyond)
  ];
  covered = covered_done p k xs prices (Some end.dist) labels placed le marked round done;
}

-- the price of a consumer with room is no greater than the fee of the next place, as the lists were read
pub level_read : (p : Transport) (s : List Step) (xs prices loads loads' prices' : List ℕ) (c : ℕ)
    → AreLevel p s xs prices → AreLoads p xs loads → loads' ≡ loads → prices' ≡ prices → c < consumers p
    → get_or loads' c 0 < room_of p c → get_or prices' c 0 ≤ next_fee s c (get_or loads' c 0)
level_read p s xs prices loads loads' prices' c level counted same_loads same_prices lt room =
    let count : get_or loads' c 0 ≡ load xs c = ap (λ l. get_or l c 0) same_loads ∙ counted.each c lt in
    let price : get_or prices' c 0 ≡ get_or prices c 0 = ap (λ l. get_or l c 0) same_prices in
    rw (count, price) ((level c lt).next (omega (arith, count, room)))

-- what the gap is, as the lists were read
gap_at : (p : Transport) (s : List Step) (xs prices : List ℕ) (b count price : ℕ) (gap : Option ℕ)
    → count ≡ load xs b → price ≡ get_or prices b 0 → next_fee s b count ≤ greatest_fee
    → IfSome gap (λ g. (count < room_of p b) × (g + price ≡ next_fee s b count)) → IfNone gap (room_of p b ≤ count)
    → IsGapAt p s xs prices b gap
gap_at p s xs prices b count price None same_load same_price small some none =
    record { some = tt; none = rw same_load at none }
gap_at p s xs prices b count price (Some gap) same_load same_price small some none = record {
  some = (rw same_load at some.0, rw same_load at (rw same_price at some.1), omega (arith, some.1, small));
  none = tt;
}

pub gap_read : (p : Transport) (s : List Step) (xs prices loads loads' prices' : List ℕ) (c : ℕ) (gap : Option ℕ)
    → AreSteps p.rooms s → AreLoads p xs loads → loads' ≡ loads → prices' ≡ prices → c < consumers p
    → IfSome gap (λ g. (get_or loads' c 0 < room_of p c) × (g + get_or prices' c 0 ≡ next_fee s c (get_or loads' c 0)))
    → IfNone gap (room_of p c ≤ get_or loads' c 0) → IsGapAt p s xs prices c gap
gap_read p s xs prices loads loads' prices' c gap are counted same_loads same_prices lt some none =
    gap_at p s xs prices c (get_or loads' c 0) (get_or prices' c 0) gap
    (ap (λ l. get_or l c 0) same_loads ∙ counted.each c lt) (ap (λ l. get_or l c 0) same_prices)
    (fee_small p.rooms s c (get_or loads' c 0) are lt) some none

-- it is small
pub gap_small : (p : Transport) (s : List Step) (xs prices : List ℕ) (b : ℕ) (gap : Option ℕ)
    → IsGapAt p s xs prices b gap → IfSome gap (λ g. g ≤ greatest_fee)
gap_small p s xs prices b None at = tt
gap_small p s xs prices b (Some gap) at = at.some.2
