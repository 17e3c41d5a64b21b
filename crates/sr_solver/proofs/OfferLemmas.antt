-- One consumer more is asked whether an entry of the closed one comes nearer.
use Rattle.std.proofs.Common.{◌≡◌, ℕ, ◌+◌, ◌-◌, ◌<◌, ◌≤◌, ◌⊎◌, min, true, false, List, length, get_or, Option, Some, None}
use Rattle.std.proofs.Common.{refl, sym, ap, ◌∙◌, subst, inl, inr, arith}
use Rattle.sr_transport.specs.{greatest_charge, greatest_price, most_tiers, Transport, consumers}
use Rattle.sr_transport.specs.Limits.{greatest_fee, most_consumers}
use Rattle.sr_solver.specs.Limits.{greatest_way, far}
use Rattle.std.proofs.lemmas.Bool.{cases_eq, cases_lt, false≢true}
use Rattle.sr_transport.specs.plain.Problem.{cost_of, IsAllowed}
use Rattle.sr_transport.specs.plain.Certificate.{IsLeast}
use Rattle.sr_solver.specs.declared.label.Label.{Label}
use Rattle.sr_solver.specs.declared.front.End.{End}
use Rattle.sr_solver.specs.declared.stepped.Step.{Step}
use Rattle.sr_solver.specs.Labels.{no_label, label_at, open_count, guess_count, priced, IsFarOrReached, AreFarOrReached}
use Rattle.sr_solver.specs.declared.table.Bound.{Bound}
use Rattle.sr_solver.specs.Table.{IsAt, IsKnown, IsTight, ArePairs}
use Rattle.sr_solver.specs.Placed.{IsPlaced}
use Rattle.sr_solver.specs.Search.{IsWithin, IsCovered, IsOffered, IsSearch, IsRound}
use Rattle.sr_solver.specs.Offers.{IsNewAt, IsAsked, IsGuessing, MayBeAsked, IsLatest, ComesAfter, IsClosed}
use Rattle.sr_solver.specs.declared.front.Exit.{Exit}
use Rattle.sr_solver.specs.Exits.{IsExit, IsNearer, IsMoved, IsGuess, AreNoNearer, AreComparable, HasNoMover}
use Rattle.sr_solver.proofs.ExitLemmas.{bound_no_nearer, covered_no_nearer}
use Rattle.std.specs.Prelude.{IfSome}
use Rattle.std.proofs.Math.ListN.{set, length-set}
use Rattle.std.proofs.lemmas.List.{get_or-set_same, get_or-set_other}
use Rattle.sr_solver.specs.Cutoff.{length_of, IsBeyond, IsNoLater, IsCutoff, IsCut}
use Rattle.sr_solver.proofs.CutoffLemmas.{search_cut, IsGapAt, cutoff_cut}
use Rattle.sr_solver.proofs.LabelLemmas.{open_count_same, guess_count_same, guess_count-set_far}
use Rattle.sr_solver.proofs.LabelLemmas.{IsSameWay, way_kept, same_way}
use Rattle.sr_solver.proofs.SearchLemmas.{cost_small}

-- an entry that stands at a consumer is placed
pub placed_at : (p : Transport) (k : ℕ) (xs prices : List ℕ) (t i : ℕ) → IsPlaced p k xs prices → t < consumers p
    → IsAt xs p.entries t i → i < k
placed_at p k xs prices t i placed ltt at =
    elim (cases_lt i k) [
      | inl early ↦ early
      | inr late ↦ absurd (omega (arith, placed.waiting i late at.0, at.1))
    ]

-- no entry at t comes nearer to consumer b, which keeps its label
pub asked_left : (p : Transport) (k : ℕ) (xs prices : List ℕ) (t b : ℕ) (cutoff : Option ℕ) (labels : List Label)
    (exit : Exit)
    → IsPlaced p k xs prices → k ≤ p.entries → b < consumers p
    → IsExit t (label_at labels t).dist (get_or prices t 0) cutoff exit → exit.dist ≤ greatest_way
    → IsFarOrReached (label_at labels b)
    → HasNoMover p (IsAt xs p.entries t) exit b (get_or prices b 0) (label_at labels b)
    → IsAsked p k xs prices cutoff t b labels labels
asked_left p k xs prices t b cutoff labels exit placed le ltb is near marked none = record {
  one_each = refl;
  here = inl (
      record {
        same = refl;
        no_nearer = λ i lti stands allowed.
            covered_no_nearer p prices t b i cutoff labels exit placed.limits is near
            (omega (arith, placed.low b ltb, placed.limits.few_entries, le)) marked
            (none i (omega (arith, lti, le), stands) allowed);
      }
      );
  others = λ d ne. refl;
}

-- the best of those at t moves to consumer b, since it comes nearer
pub asked_moved : (p : Transport) (k : ℕ) (xs prices : List ℕ) (t b : ℕ) (cutoff : Option ℕ) (labels : List Label)
    (label : Label) (exit : Exit) (known : Bound)
    → IsPlaced p k xs prices → k ≤ p.entries → t < consumers p → b < length labels
    → IsExit t (label_at labels t).dist (get_or prices t 0) cutoff exit
    → IsKnown p (IsAt xs p.entries t) t b known → known.best < p.entries
    → IsNearer exit known.low (get_or prices b 0) (label_at labels b)
    → IsMoved exit known (get_or prices b 0) (label_at labels t).hops (label_at labels b).guess label
    → IsAsked p k xs prices cutoff t b labels (set labels b label)
asked_moved p k xs prices t b cutoff labels label exit known placed le ltt ltb is is_known lt nearer moved =
    let new : List Label = set labels b label in
    let here : label_at new b ≡ label = get_or-set_same labels b label no_label ltb in
    let best : IsTight p (IsAt xs p.entries t) t b known.low known.best = is_known.best lt in
    record {
      one_each = length-set labels b label;
      here = inr (
          record {
            earlier = rw (here, moved.mover) (placed_at p k xs prices t known.best placed ltt best.stands);
            stands = rw (here, moved.mover) best.stands.1;
            allowed = rw (here, moved.mover) best.allowed;
            was_open = nearer.is_open;
            still_open = rw here moved.still_open;
            hops = rw here moved.hops;
            dist = rw (here, moved.mover) (omega (arith, moved.dist, is.dist, is.base, best.tight));
            nearer = λ up. rw here (omega (arith, moved.dist, nearer.nearer));
            guess = rw here moved.guess;
            least = λ i lti stands allowed. rw (here, moved.mover) (
                omega (arith, best.tight, is_known.below i (omega (arith, lti, le), stands) allowed)
                );
          }
          );
      others = λ d ne. get_or-set_other labels b d label no_label ne;
    }

-- the labels before and after consumer b was asked
record IsOffering (p : Transport) (k : ℕ) (xs prices : List ℕ) (t b : ℕ) (old new : List Label) : Type 0 where
  every : length new ≡ length old
  at : (c : ℕ) → (label_at new c ≡ label_at old c) ⊎ ((c ≡ b) × IsNewAt p k xs prices t old new c)
  kept : (c : ℕ) → (label_at old c).closed ≡ true → label_at new c ≡ label_at old c
  closed : (c : ℕ) → (label_at new c).closed ≡ (label_at old c).closed
  guess : (c : ℕ) → (label_at new c).guess ≡ (label_at old c).guess
  back : (c : ℕ) → (label_at new c).closed ≡ true → (label_at old c).closed ≡ true
  count : open_count new ≡ open_count old

offering : (p : Transport) (k : ℕ) (xs prices : List ℕ) (t b : ℕ) (cutoff : Option ℕ) (old new : List Label)
    → IsAsked p k xs prices cutoff t b old new → IsOffering p k xs prices t b old new
offering p k xs prices t b cutoff old new asked =
    let at : (c : ℕ) → (label_at new c ≡ label_at old c) ⊎ ((c ≡ b) × IsNewAt p k xs prices t old new c) =
    λ c. elim (cases_eq c b) [
      | inl e ↦ rw e (elim asked.here [ inl left ↦ inl left.same | inr fresh ↦ inr (refl, fresh) ])
      | inr ne ↦ inl (asked.others c ne)
    ] in
    let closed : (c : ℕ) → (label_at new c).closed ≡ (label_at old c).closed =
    λ c. elim (at c) [
      | inl same ↦ ap (λ l. l.closed) same
      | inr fresh ↦ fresh.1.still_open ∙ sym fresh.1.was_open
    ] in
    record {
      every = asked.one_each;
      at = at;
      kept = λ c was. elim (at c) [
        | inl same ↦ same
        | inr fresh ↦ absurd (false≢true (sym fresh.1.was_open ∙ was))
      ];
      closed = closed;
      guess = λ c. elim (at c) [
        | inl same ↦ ap (λ l. l.guess) same
        | inr fresh ↦ fresh.1.guess
      ];
      back = λ c now. sym (closed c) ∙ now;
      count = open_count_same new old asked.one_each (λ c lt. closed c);
    }

-- a consumer that is within reach stays so
within_kept : (p : Transport) (k : ℕ) (xs prices : List ℕ) (t b : ℕ) (old new : List Label)
    → IsOffering p k xs prices t b old new
    → (dist base j c : ℕ) → IsWithin p prices old dist base j c → IsWithin p prices new dist base j c
within_kept p k xs prices t b old new offering dist base j c within =
    elim (offering.at c) [
      | inl left ↦
          let same = same_way (label_at old c) (label_at new c) left in
          (omega (arith, within.0, same.hops), omega (arith, within.1, same.dist))
      | inr fresh ↦ (omega (arith, fresh.1.hops), omega (arith, within.1, fresh.1.nearer within.0))
    ]

covered_kept : (p : Transport) (k : ℕ) (xs prices : List ℕ) (t b : ℕ) (cutoff : Option ℕ) (old new : List Label)
    → IsOffering p k xs prices t b old new
    → (dist base j c : ℕ) → IsCovered p prices cutoff old dist base j c → IsCovered p prices cutoff new dist base j c
covered_kept p k xs prices t b cutoff old new offering dist base j c covered =
    elim covered [
      | inl within ↦ inl (within_kept p k xs prices t b old new offering dist base j c within)
      | inr beyond ↦ inr beyond
    ]

offered_kept : (p : Transport) (k : ℕ) (xs prices : List ℕ) (t b : ℕ) (cutoff : Option ℕ) (old new : List Label)
    → IsOffering p k xs prices t b old new
    → (dist base j c : ℕ) → IsOffered p prices cutoff old dist base j c → IsOffered p prices cutoff new dist base j c
offered_kept p k xs prices t b cutoff old new offering dist base j c offered =
    elim offered [
      | inl covered ↦ inl (covered_kept p k xs prices t b cutoff old new offering dist base j c covered)
      | inr guessed ↦ inr (offering.closed c ∙ guessed.0, omega (arith, guessed.1, offering.guess c))
    ]

-- no entry of the latest consumer comes nearer than a closed one is
pub after_latest : (p : Transport) (k : ℕ) (xs prices : List ℕ) (labels : List Label) (t b : ℕ) → IsPlaced p k xs prices
    → IsLatest p labels t → ComesAfter p k xs prices labels t b
after_latest p k xs prices labels t b placed latest i c lti stands allowed lt closed =
    let least : IsLeast p prices i t = rw (← stands) (placed.least i lti) in
    omega (arith, latest c lt closed, least b allowed)

-- a consumer that was asked is within the reach of each entry at t that it is allowed, or that one comes no nearer than
-- the cutoff
covered_asked : (p : Transport) (k : ℕ) (xs prices : List ℕ) (cutoff : Option ℕ) (old new : List Label) (t b upto s : ℕ)
    → IsSearch p k xs prices cutoff old s upto → ComesAfter p k xs prices old t b
    → IsAsked p k xs prices cutoff t b old new → IsOffering p k xs prices t b old new
    → (i : ℕ) → i < k → get_or xs i 0 ≡ t → IsAllowed p i b
    → IsCovered p prices cutoff new (label_at old t).dist (priced p prices i t) i b
covered_asked p k xs prices cutoff old new t b upto s search after asked offering i lti stands allowed =
    elim asked.here [
      | inr fresh ↦ inl (omega (arith, fresh.hops), omega (arith, fresh.dist, fresh.least i lti stands allowed))
      | inl left ↦
          let covered : IsCovered p prices cutoff old (label_at old t).dist (priced p prices i t) i b =
          elim (left.no_nearer i lti stands allowed) [
            | inl was ↦ inl (
              search.reached b allowed.0 was,
              after i b lti stands allowed allowed.0 was,
            )
            | inr covered ↦ covered
          ] in
          covered_kept p k xs prices t b cutoff old new offering (label_at old t).dist (priced p prices i t) i b covered
    ]

-- consumer b was asked by those at the closed consumer f, while those at s are offered to the consumers below `upto`,
-- and then to those below `next`
ask_search : (p : Transport) (k : ℕ) (xs prices : List ℕ) (cutoff : Option ℕ) (old new : List Label)
    (s f b upto next : ℕ)
    → ((c : ℕ) → c < next → (c ≡ b → ⊥) → c < upto) → (f ≡ s) ⊎ (b < upto)
    → IsPlaced p k xs prices → IsSearch p k xs prices cutoff old s upto → f < consumers p
    → (label_at old f).closed ≡ true → ComesAfter p k xs prices old f b
    → IsAsked p k xs prices cutoff f b old new → IsOffering p k xs prices f b old new
    → IsSearch p k xs prices cutoff new s next
ask_search p k xs prices cutoff old new s f b upto next more here placed search ltf closed after asked offering =
    let same : (c : ℕ) → label_at new c ≡ label_at old c → IsSameWay (label_at old c) (label_at new c) =
    λ c e. same_way (label_at old c) (label_at new c) e in
    let kept_same : (c : ℕ) → (label_at old c).closed ≡ true → IsSameWay (label_at old c) (label_at new c) =
    λ c was. same c (offering.kept c was) in
    let allowed_there : (d : ℕ) → d ≡ b → IsAllowed p (label_at new d).mover d → IsAllowed p (label_at new d).mover b =
    λ d e allowed. (let P : ℕ → Type 0 = λ x. IsAllowed p (label_at new d).mover x in subst P e allowed) in
    record {
      one_each = offering.every ∙ search.one_each;
      way = λ c lt up. elim (offering.at c) [
        | inl left ↦
            way_kept p k xs prices old new c (same c left)
            (λ x was. (kept_same x was, ap (λ l. l.closed) (offering.kept x was) ∙ was))
            (search.way c lt (omega (arith, up, (same c left).hops)))
        | inr fresh ↦ record {
          allowed = fresh.1.allowed;
          step = inr (
              rw fresh.1.stands (
              record {
                earlier = fresh.1.earlier;
                closed = ap (λ l. l.closed) (offering.kept f closed) ∙ closed;
                hops = omega (arith, fresh.1.hops, (kept_same f closed).hops);
                dist = rw fresh.1.stands (omega (arith, fresh.1.dist, (kept_same f closed).dist));
              }
              )
              );
        }
      ];
      long = λ c lt up. elim (offering.at c) [
        | inl left ↦
            omega (
              arith,
              search.long c lt (omega (arith, up, (same c left).hops)),
              (same c left).hops,
              (same c left).dist,
            )
        | inr fresh ↦
            omega (
              arith,
              search.long f ltf (search.reached f ltf closed),
              fresh.1.hops,
              fresh.1.dist,
              cost_small p placed.limits (label_at new c).mover c,
            )
      ];
      few = λ c lt up. elim (offering.at c) [
        | inl left ↦
            omega (arith, search.few c lt (omega (arith, up, (same c left).hops)), (same c left).hops, offering.count)
        | inr fresh ↦ omega (arith, search.few_closed f ltf closed, fresh.1.hops, offering.count)
      ];
      few_closed = λ c lt now.
          omega (
            arith,
            search.few_closed c lt (offering.back c now),
            (kept_same c (offering.back c now)).hops,
            offering.count,
          );
      reached = λ c lt now. omega (
        arith,
        search.reached c lt (offering.back c now),
        (kept_same c (offering.back c now)).hops,
      );
      nearer = λ c d lt ltd now not_now up.
          let was = offering.back c now in
          elim (offering.at d) [
            | inl left ↦
                let was_open : (label_at old d).closed ≡ false = sym (ap (λ l. l.closed) left) ∙ not_now in
                omega (
                  arith,
                  search.nearer c d lt ltd was was_open (omega (arith, up, (same d left).hops)),
                  (kept_same c was).dist,
                  (same d left).dist,
                )
            | inr fresh ↦
                omega (
                  arith,
                  after (label_at new d).mover c fresh.1.earlier fresh.1.stands (allowed_there d fresh.0 fresh.1.allowed)
                      lt was,
                  (kept_same c was).dist,
                  ap (λ x. priced p prices (label_at new d).mover x) fresh.0,
                  fresh.1.dist,
                )
          ];
      ahead = λ c d lt ltd now not_now.
          let was = offering.back c now in
          omega (
            arith,
            search.ahead c d lt ltd was (sym (offering.closed d) ∙ not_now),
            (kept_same c was).dist,
            offering.guess d,
          );
      hints = λ c lt. omega (arith, search.hints c lt, offering.guess c);
      unreached = λ c lt none. elim (offering.at c) [
        | inl left ↦
            omega (arith, search.unreached c lt (omega (arith, none, (same c left).hops)), (same c left).dist)
        | inr fresh ↦ absurd (omega (arith, fresh.1.hops, none))
      ];
      new_offered = λ c allowed. within_kept p k xs prices f b old new offering 0 0 k c (search.new_offered c allowed);
      offered = λ j c lt now below allowed.
          let was = offering.back (get_or xs j 0) now in
          let from = kept_same (get_or xs j 0) was in
          let before : (get_or xs j 0 ≡ s → c < upto)
          → IsOffered p prices cutoff new (label_at old (get_or xs j 0)).dist (priced p prices j (get_or xs j 0)) j c =
          λ early. offered_kept p k xs prices f b cutoff old new offering (label_at old (get_or xs j 0)).dist
          (priced p prices j (get_or xs j 0)) j c
          (search.offered j c lt was early allowed) in
          rw from.dist (
          elim (cases_eq c b) [
            | inr ne ↦ before (λ h. more c (below h) ne)
            | inl e ↦ elim (cases_eq (get_or xs j 0) f) [
              | inl stands ↦
                  let far = covered_asked p k xs prices cutoff old new f b upto s search after asked offering j lt
                  stands (rw (← e) allowed) in
                  inl (rw stands (rw e far))
              | inr ne ↦ before (λ h. elim here [
                | inl own ↦ absurd (ne (h ∙ sym own))
                | inr below_upto ↦ rw e below_upto
              ])
            ]
          ]
          );
    }

-- a closed consumer keeps its label
pub asked_stays : (p : Transport) (k : ℕ) (xs prices : List ℕ) (cutoff : Option ℕ) (old new : List Label) (t b c : ℕ)
    → IsAsked p k xs prices cutoff t b old new → (label_at old c).closed ≡ true → label_at new c ≡ label_at old c
asked_stays p k xs prices cutoff old new t b c asked closed =
    (offering p k xs prices t b cutoff old new asked).kept c closed

-- what the loop over the consumers keeps
pub closed_ask : (p : Transport) (k : ℕ) (xs prices : List ℕ) (cutoff : Option ℕ)
    (old before after : List Label) (t b upto next : ℕ)
    → ((c : ℕ) → c < next → (c ≡ b → ⊥) → c < upto)
    → IsPlaced p k xs prices → t < consumers p
    → IsClosed p k xs prices cutoff old before t upto
    → IsAsked p k xs prices cutoff t b before after
    → IsClosed p k xs prices cutoff old after t next
closed_ask p k xs prices cutoff old before after t b upto next more placed ltt closed asked =
    let done : IsOffering p k xs prices t b before after = offering p k xs prices t b cutoff before after asked in
    record {
      search = ask_search p k xs prices cutoff before after t t b upto next more (inl refl) placed closed.search ltt
          closed.closed (after_latest p k xs prices before t b placed closed.latest) asked done;
      closed = ap (λ l. l.closed) (done.kept t closed.closed) ∙ closed.closed;
      latest = λ c lt now.
          omega (
            arith,
            closed.latest c lt (done.back c now),
            ap (λ l. l.dist) (done.kept c (done.back c now)),
            ap (λ l. l.dist) (done.kept t closed.closed),
          );
      fewer = omega (arith, closed.fewer, done.count);
    }

-- the labels before and after something was guessed of consumer b
record IsSoft (old new : List Label) : Type 0 where
  every : length new ≡ length old
  same : (c : ℕ) → IsSameWay (label_at old c) (label_at new c)
  closed : (c : ℕ) → (label_at new c).closed ≡ (label_at old c).closed
  lower : (c : ℕ) → (label_at new c).guess ≤ (label_at old c).guess
  count : open_count new ≡ open_count old

soft : (p : Transport) (k : ℕ) (xs prices : List ℕ) (t b : ℕ) (old new : List Label)
    → IsGuessing p k xs prices t b old new → IsSoft old new
soft p k xs prices t b old new guessing =
    let closed : (c : ℕ) → (label_at new c).closed ≡ (label_at old c).closed =
    λ c. elim (cases_eq c b) [
      | inl e ↦ rw e (ap (λ l. l.closed) guessing.same)
      | inr ne ↦ ap (λ l. l.closed) (guessing.others c ne)
    ] in
    record {
      every = guessing.one_each;
      same = λ c. elim (cases_eq c b) [
        | inl e ↦
            rw e (record {
              hops = ap (λ l. l.hops) guessing.same;
              dist = ap (λ l. l.dist) guessing.same;
              mover = ap (λ l. l.mover) guessing.same;
            })
        | inr ne ↦ same_way (label_at old c) (label_at new c) (guessing.others c ne)
      ];
      closed = closed;
      lower = λ c. elim (cases_eq c b) [
        | inl e ↦ rw e guessing.lower
        | inr ne ↦ omega (arith, ap (λ l. l.guess) (guessing.others c ne))
      ];
      count = open_count_same new old guessing.one_each (λ c lt. closed c);
    }

-- what the search knows then
guess_search : (p : Transport) (k : ℕ) (xs prices : List ℕ) (cutoff : Option ℕ) (old new : List Label)
    (t b upto next : ℕ)
    → ((c : ℕ) → c < next → (c ≡ b → ⊥) → c < upto)
    → IsSearch p k xs prices cutoff old t upto → IsGuessing p k xs prices t b old new → IsSoft old new
    → IsSearch p k xs prices cutoff new t next
guess_search p k xs prices cutoff old new t b upto next more search guessing soft =
    let was : (c : ℕ) → (label_at new c).closed ≡ true → (label_at old c).closed ≡ true =
    λ c now. sym (soft.closed c) ∙ now in
    let up_was : (c : ℕ) → 0 < (label_at new c).hops → 0 < (label_at old c).hops =
    λ c up. omega (arith, up, (soft.same c).hops) in
    record {
      one_each = soft.every ∙ search.one_each;
      way = λ c lt up. way_kept p k xs prices old new c (soft.same c)
          (λ x closed. (soft.same x, soft.closed x ∙ closed)) (search.way c lt (up_was c up));
      long = λ c lt up. omega (arith, search.long c lt (up_was c up), (soft.same c).hops, (soft.same c).dist);
      few = λ c lt up. omega (arith, search.few c lt (up_was c up), (soft.same c).hops, soft.count);
      few_closed = λ c lt now. omega (arith, search.few_closed c lt (was c now), (soft.same c).hops, soft.count);
      reached = λ c lt now. omega (arith, search.reached c lt (was c now), (soft.same c).hops);
      nearer = λ c d lt ltd now not_now up.
          omega (
            arith,
            search.nearer c d lt ltd (was c now) (sym (soft.closed d) ∙ not_now) (up_was d up),
            (soft.same c).dist,
            (soft.same d).dist,
          );
      ahead = λ c d lt ltd now not_now. elim (cases_eq d b) [
        | inl e ↦ rw e (omega (arith, guessing.ahead c lt (was c now), (soft.same c).dist))
        | inr ne ↦
            omega (
              arith,
              search.ahead c d lt ltd (was c now) (sym (soft.closed d) ∙ not_now),
              (soft.same c).dist,
              ap (λ l. l.guess) (guessing.others d ne),
            )
      ];
      hints = λ c lt. omega (arith, search.hints c lt, soft.lower c);
      unreached = λ c lt none.
          omega (arith, search.unreached c lt (omega (arith, none, (soft.same c).hops)), (soft.same c).dist);
      new_offered = λ c allowed.
          let within = search.new_offered c allowed in
          (omega (arith, within.0, (soft.same c).hops), omega (arith, within.1, (soft.same c).dist));
      offered = λ j c lt now below allowed.
          let from : ℕ = get_or xs j 0 in
          let kept : (get_or xs j 0 ≡ t → c < upto)
          → IsOffered p prices cutoff new (label_at new (get_or xs j 0)).dist (priced p prices j (get_or xs j 0)) j c =
          λ early. rw (soft.same (get_or xs j 0)).dist (
          elim (search.offered j c lt (was (get_or xs j 0) now) early allowed) [
            | inl (inl within) ↦
                inl (inl (
                  omega (arith, within.0, (soft.same c).hops),
                  omega (arith, within.1, (soft.same c).dist),
                ))
            | inl (inr beyond) ↦ inl (inr beyond)
            | inr guessed ↦ inr (soft.closed c ∙ guessed.0, omega (arith, guessed.1, soft.lower c))
          ]) in
          elim (cases_eq c b) [
            | inr ne ↦ kept (λ h. more c (below h) ne)
            | inl e ↦ elim (cases_eq (get_or xs j 0) t) [
              | inr ne ↦ kept (λ h. absurd (ne h))
              | inl stands ↦
                  let covers = guessing.covers j lt stands (rw (← e) allowed) in
                  inr (rw (stands, e) (
                    soft.closed b ∙ guessing.was_open,
                    omega (arith, covers, (soft.same t).dist),
                  ))
            ]
          ];
    }

-- what the loop over the consumers keeps
pub closed_guess : (p : Transport) (k : ℕ) (xs prices : List ℕ) (cutoff : Option ℕ)
    (old before after : List Label) (t b upto next : ℕ)
    → ((c : ℕ) → c < next → (c ≡ b → ⊥) → c < upto)
    → IsClosed p k xs prices cutoff old before t upto
    → IsGuessing p k xs prices t b before after
    → IsClosed p k xs prices cutoff old after t next
closed_guess p k xs prices cutoff old before after t b upto next more closed guessing =
    let done : IsSoft before after = soft p k xs prices t b before after guessing in
    record {
      search = guess_search p k xs prices cutoff before after t b upto next more closed.search guessing done;
      closed = done.closed t ∙ closed.closed;
      latest = λ c lt now.
          omega (
            arith,
            closed.latest c lt (sym (done.closed c) ∙ now),
            (done.same c).dist,
            (done.same t).dist,
          );
      fewer = omega (arith, closed.fewer, done.count);
    }

-- the same where entries were asked, or something was guessed
pub closed_offer : (p : Transport) (k : ℕ) (xs prices : List ℕ) (cutoff : Option ℕ)
    (old before after : List Label) (t b upto next : ℕ)
    → ((c : ℕ) → c < next → (c ≡ b → ⊥) → c < upto)
    → IsPlaced p k xs prices → t < consumers p
    → IsClosed p k xs prices cutoff old before t upto
    → IsAsked p k xs prices cutoff t b before after ⊎ IsGuessing p k xs prices t b before after
    → IsClosed p k xs prices cutoff old after t next
closed_offer p k xs prices cutoff old before after t b upto next more placed ltt closed offered = elim offered [
  | inl asked ↦ closed_ask p k xs prices cutoff old before after t b upto next more placed ltt closed asked
  | inr guessing ↦ closed_guess p k xs prices cutoff old before after t b upto next more closed guessing
]

-- a closed consumer keeps its label
pub offered_stays : (p : Transport) (k : ℕ) (xs prices : List ℕ) (cutoff : Option ℕ) (old new : List Label) (t b c : ℕ)
    → IsAsked p k xs prices cutoff t b old new ⊎ IsGuessing p k xs prices t b old new
    → (label_at old c).closed ≡ true → label_at new c ≡ label_at old c
offered_stays p k xs prices cutoff old new t b c offered closed = elim offered [
  | inl asked ↦ asked_stays p k xs prices cutoff old new t b c asked closed
  | inr guessing ↦ elim (cases_eq c b) [
    | inl e ↦ absurd (false≢true (sym guessing.was_open ∙ rw e at closed))
    | inr ne ↦ guessing.others c ne
  ]
]

-- one consumer may have been asked before the others
pub closed_may : (p : Transport) (k : ℕ) (xs prices : List ℕ) (cutoff : Option ℕ) (old before after : List Label)
    (t : ℕ)
    → IsPlaced p k xs prices → t < consumers p → MayBeAsked p k xs prices cutoff t before after
    → IsClosed p k xs prices cutoff old before t 0
    → IsClosed p k xs prices cutoff old after t 0 × (label_at after t ≡ label_at before t)
closed_may p k xs prices cutoff old before after t placed ltt asked closed = elim asked [
  | inl same ↦ rw same (closed, refl)
  | inr some ↦ (
    closed_ask p k xs prices cutoff old before after t some.0 0 0 (λ c lt ne. lt) placed ltt closed some.1,
    asked_stays p k xs prices cutoff before after t some.0 t some.1 closed.closed,
  )
]

-- and where consumers are passed over to which no entry comes nearer
pub closed_passed : (p : Transport) (k : ℕ) (xs prices : List ℕ) (cutoff : Option ℕ) (old now : List Label)
    (pairs : List Bound) (t first upto : ℕ) (exit : Exit)
    → IsPlaced p k xs prices → k ≤ p.entries → t < consumers p → ArePairs p xs pairs
    → IsExit t (label_at now t).dist (get_or prices t 0) cutoff exit → exit.dist ≤ greatest_way
    → AreFarOrReached p now → AreNoNearer exit pairs prices now first upto
    → IsClosed p k xs prices cutoff old now t first → IsClosed p k xs prices cutoff old now t upto
closed_passed p k xs prices cutoff old now pairs t first upto exit placed le ltt are is near marked none closed =
    let search = closed.search in
    record {
      search = record {
        one_each = search.one_each;
        way = search.way;
        long = search.long;
        few = search.few;
        few_closed = search.few_closed;
        reached = search.reached;
        nearer = search.nearer;
        ahead = search.ahead;
        hints = search.hints;
        unreached = search.unreached;
        new_offered = search.new_offered;
        offered = λ i c lt is_closed within allowed. elim (cases_eq (get_or xs i 0) t) [
          | inr ne ↦ search.offered i c lt is_closed (λ h. absurd (ne h)) allowed
          | inl stands ↦ elim (cases_lt c first) [
            | inl before ↦ search.offered i c lt is_closed (λ h. before) allowed
            | inr past ↦
                let least : IsLeast p prices i t = rw (← stands) (placed.least i lt) in
                let no_nearer : HasNoMover p (IsAt xs p.entries t) exit c (get_or prices c 0) (label_at now c) =
                bound_no_nearer p (IsAt xs p.entries t) t c (get_or prices c 0) _ exit (label_at now c) is.consumer
                (are.each t c ltt allowed.0)
                (rw (is.consumer, placed.one_each) at (none c (omega (arith, past)) (within stands))) in
                let covered : IsCovered p prices cutoff now (label_at now t).dist (priced p prices i t) i c =
                elim (covered_no_nearer p prices t c i cutoff now exit placed.limits is near
                (omega (arith, placed.low c allowed.0, placed.limits.few_entries, le)) (marked c allowed.0)
                (no_nearer i (omega (arith, lt, le), stands) allowed)) [
                  | inl was ↦ inl (
                    search.reached c allowed.0 was,
                    omega (arith, closed.latest c allowed.0 was, least c allowed),
                  )
                  | inr far ↦ far
                ] in
                rw stands (inl covered)
          ]
        ];
      };
      closed = closed.closed;
      latest = closed.latest;
      fewer = closed.fewer;
    }

-- what the cutoff becomes
pub closed_cut : (p : Transport) (k : ℕ) (xs prices : List ℕ) (cutoff next : Option ℕ)
    (old now : List Label) (t upto : ℕ)
    → IsNoLater cutoff next → IsClosed p k xs prices cutoff old now t upto → IsClosed p k xs prices next old now t upto
closed_cut p k xs prices cutoff next old now t upto later closed = record {
  search = search_cut p k xs prices cutoff next now t upto later closed.search;
  closed = closed.closed;
  latest = closed.latest;
  fewer = closed.fewer;
}

-- prices and ways stay small
pub price_small : (p : Transport) (k : ℕ) (xs prices : List ℕ) → IsPlaced p k xs prices → k ≤ p.entries
    → (c : ℕ) → c < consumers p → get_or prices c 0 ≤ greatest_price
price_small p k xs prices placed le c lt = omega (arith, placed.low c lt, placed.limits.few_entries)

pub hops_small : (p : Transport) (k : ℕ) (xs prices : List ℕ) (cutoff : Option ℕ) (labels : List Label) (t upto : ℕ)
    → IsPlaced p k xs prices → IsSearch p k xs prices cutoff labels t upto
    → (c : ℕ) → c < consumers p → (label_at labels c).closed ≡ true → (label_at labels c).hops ≤ most_tiers
hops_small p k xs prices cutoff labels t upto placed search c lt closed =
    omega (arith, search.few_closed c lt closed, placed.limits.consumers)

pub dist_small : (p : Transport) (k : ℕ) (xs prices : List ℕ) (cutoff : Option ℕ) (labels : List Label) (t upto : ℕ)
    → IsPlaced p k xs prices → k ≤ p.entries → IsSearch p k xs prices cutoff labels t upto
    → (c : ℕ) → c < consumers p → (label_at labels c).closed ≡ true → (label_at labels c).dist ≤ greatest_way
dist_small p k xs prices cutoff labels t upto placed le search c lt closed =
    omega (
      arith,
      price_small p k xs prices placed le c lt,
      hops_small p k xs prices cutoff labels t upto placed search c lt closed,
      search.long c lt (search.reached c lt closed),
    )

-- a reached consumer is not far
pub way_small : (p : Transport) (k : ℕ) (xs prices : List ℕ) (cutoff : Option ℕ) (labels : List Label) (t upto : ℕ)
    → IsPlaced p k xs prices → k ≤ p.entries → IsSearch p k xs prices cutoff labels t upto
    → (c : ℕ) → c < consumers p → 0 < (label_at labels c).hops → (label_at labels c).dist + greatest_fee ≤ greatest_way
way_small p k xs prices cutoff labels t upto placed le search c lt up =
    omega (
      arith,
      price_small p k xs prices placed le c lt,
      search.few c lt up,
      placed.limits.consumers,
      search.long c lt up,
    )

-- each consumer is reached by a path that is not long, or its label is far
pub far_or_reached : (p : Transport) (k : ℕ) (xs prices : List ℕ) (cutoff : Option ℕ) (labels : List Label)
    (t upto : ℕ)
    → IsPlaced p k xs prices → k ≤ p.entries → IsSearch p k xs prices cutoff labels t upto → AreFarOrReached p labels
far_or_reached p k xs prices cutoff labels t upto placed le search c lt =
    elim (cases_eq (label_at labels c).hops 0) [
      | inl none ↦ inl (none, search.unreached c lt none)
      | inr some ↦
          let up : 0 < (label_at labels c).hops = omega arith in
          inr (up, omega (arith, way_small p k xs prices cutoff labels t upto placed le search c lt up))
    ]

-- the prices as they were read
pub prices_low : (p : Transport) (k : ℕ) (xs prices read : List ℕ) → IsPlaced p k xs prices → k < p.entries
    → read ≡ prices
    → (c : ℕ) → c < consumers p → get_or read c 0 ≤ greatest_way
prices_low p k xs prices read placed lt same c ltc =
    let low : get_or prices c 0 ≤ greatest_price = price_small p k xs prices placed (omega arith) c ltc in
    rw same (omega (arith, low))

-- an entry that stands at a consumer may stand there
pub stands_allowed : (p : Transport) (k : ℕ) (xs prices : List ℕ) (t : ℕ) → IsPlaced p k xs prices → t < consumers p
    → (i : ℕ) → IsAt xs p.entries t i → IsAllowed p i t
stands_allowed p k xs prices t placed ltt i at =
    rw at.1 at (placed.placed i (placed_at p k xs prices t i placed ltt at))

-- and costs least there
pub stands_least : (p : Transport) (k : ℕ) (xs prices read : List ℕ) (t i : ℕ) → IsPlaced p k xs prices
    → t < consumers p
    → read ≡ prices → IsAt xs p.entries t i → IsLeast p read i t
stands_least p k xs prices read t i placed ltt same at =
    rw same (rw at.1 at (placed.least i (placed_at p k xs prices t i placed ltt at)))

-- consumer b, once it was asked, is not far
pub asked_small : (p : Transport) (k : ℕ) (xs prices : List ℕ) (old new : List Label) (t b : ℕ) (cutoff : Option ℕ)
    → IsPlaced p k xs prices → k ≤ p.entries → t < consumers p → b < consumers p
    → IsSearch p k xs prices cutoff old t 0 → (label_at old t).closed ≡ true → ComesAfter p k xs prices old t b
    → IsAsked p k xs prices cutoff t b old new → 0 < (label_at new b).hops
    → (label_at new b).dist + greatest_fee ≤ greatest_way
asked_small p k xs prices old new t b cutoff placed le ltt ltb search closed after asked up =
    let done : IsOffering p k xs prices t b old new = offering p k xs prices t b cutoff old new asked in
    way_small p k xs prices cutoff new t 0 placed le
    (ask_search p k xs prices cutoff old new t t b 0 0 (λ c lt ne. lt) (inl refl) placed search ltt closed after asked
    done) b ltb up

-- what the cutoff becomes once consumer b was asked
pub cutoff_asked : (p : Transport) (s : List Step) (k : ℕ) (xs prices : List ℕ) (old new : List Label) (t b : ℕ)
    (gap : Option ℕ) (cutoff next : Option End)
    → IsPlaced p k xs prices → k ≤ p.entries → t < consumers p → b < consumers p
    → IsSearch p k xs prices (length_of cutoff) old t 0 → (label_at old t).closed ≡ true
    → ComesAfter p k xs prices old t b
    → IsAsked p k xs prices (length_of cutoff) t b old new → IsGapAt p s xs prices b gap
    → IsCut b (label_at new b) gap cutoff next
    → IsCutoff p s xs prices old (consumers p) cutoff → IsCutoff p s xs prices new (consumers p) next
cutoff_asked p s k xs prices old new t b gap cutoff next placed le ltt ltb search closed later asked at cut is =
    let done : IsOffering p k xs prices t b old new = offering p k xs prices t b (length_of cutoff) old new asked in
    let after : IsSearch p k xs prices (length_of cutoff) new t 0 =
    ask_search p k xs prices (length_of cutoff) old new t t b 0 0 (λ c lt ne. lt) (inl refl) placed search ltt closed
    later asked done in
    cutoff_cut p s xs prices old new b (consumers p) (consumers p) gap cutoff next
    (record {
      same = asked.others;
      nearer = λ lt up. elim (done.at b) [
        | inl same ↦ rw same (up, omega arith)
        | inr fresh ↦ (omega (arith, fresh.1.hops), fresh.1.nearer up)
      ];
      kept = λ now. (ltb, done.kept b (done.back b now));
      near = λ is_open up c lt was. after.nearer c b lt ltb was is_open up;
    })
    (record { here = ltb; more = omega arith; each = λ c lt ne. lt }) at
    (way_small p k xs prices (length_of cutoff) new t 0 placed le after b ltb) cut is

-- the cutoff is no nearer than a closed consumer
pub cutoff_no_nearer : (p : Transport) (s : List Step) (xs prices : List ℕ) (labels : List Label) (t : ℕ)
    (cutoff : Option End)
    → IsCutoff p s xs prices labels (consumers p) cutoff → t < consumers p → (label_at labels t).closed ≡ true
    → IfSome (length_of cutoff) (λ d. ((label_at labels t).dist ≤ d) × (d ≤ greatest_way))
cutoff_no_nearer p s xs prices labels t None is lt closed = tt
cutoff_no_nearer p s xs prices labels t (Some end) is lt closed = (is.passed t lt closed, is.small)

-- the same where both are read
pub read_no_nearer : (o cutoff : Option ℕ) (way dist : ℕ) → o ≡ cutoff → dist ≡ way
    → IfSome cutoff (λ d. (dist ≤ d) × (d ≤ greatest_way)) → IfSome o (λ d. (way ≤ d) × (d ≤ greatest_way))
read_no_nearer o cutoff way dist same is no_nearer = rw same (rw (← is) no_nearer)

-- what leaves a closed consumer can be compared with what is known of the others
pub comparable : (p : Transport) (k : ℕ) (xs prices : List ℕ) (cutoff : Option ℕ) (labels : List Label)
    (pairs : List Bound) (t upto : ℕ) (exit : Exit)
    → IsPlaced p k xs prices → k ≤ p.entries → t < consumers p → consumers p ≤ most_consumers
    → IsSearch p k xs prices cutoff labels t upto → (label_at labels t).closed ≡ true → ArePairs p xs pairs
    → IsExit t (label_at labels t).dist (get_or prices t 0) cutoff exit → AreComparable exit pairs prices labels
comparable p k xs prices cutoff labels pairs t upto exit placed le lt few search closed are is =
    let way : (label_at labels t).dist ≤ greatest_way =
    dist_small p k xs prices cutoff labels t upto placed le search t lt closed in
    let price : get_or prices t 0 ≤ greatest_price = price_small p k xs prices placed le t lt in
    record {
      consumer = rw (is.consumer, placed.one_each) lt;
      each_pair = rw placed.one_each are.each_pair;
      each_label = rw placed.one_each search.one_each;
      bounds = λ b ltb. rw (is.consumer, placed.one_each) ((are.each t b lt (rw placed.one_each at ltb)).small);
      low = λ b ltb. omega (arith, price_small p k xs prices placed le b (rw placed.one_each at ltb));
      near = λ b ltb.
          elim (far_or_reached p k xs prices cutoff labels t upto placed le search b (rw placed.one_each at ltb)) [
            | inl far ↦ omega (arith, far.1)
            | inr near ↦ omega (arith, near.1)
          ];
      way = omega (arith, is.dist, way);
      base = omega (arith, is.base, price);
      few = rw placed.one_each few;
    }

-- the cutoff stays where something is guessed
cutoff_kept : (p : Transport) (s : List Step) (xs prices : List ℕ) (old new : List Label) (cutoff : Option End)
    → ((c : ℕ) → IsSameWay (label_at old c) (label_at new c))
    → ((c : ℕ) → (label_at new c).closed ≡ (label_at old c).closed)
    → IsCutoff p s xs prices old (consumers p) cutoff → IsCutoff p s xs prices new (consumers p) cutoff
cutoff_kept p s xs prices old new None same closed full = λ c lt up. full c lt (omega (arith, up, (same c).hops))
cutoff_kept p s xs prices old new (Some end) same closed is = record {
  small = is.small;
  consumer = is.consumer;
  reached = omega (arith, is.reached, (same end.consumer).hops);
  room = is.room;
  length = omega (arith, is.length, (same end.consumer).dist);
  least = λ c lt up room. omega (arith, is.least c lt (omega (arith, up, (same c).hops)) room, (same c).dist);
  passed = λ c lt now. omega (arith, is.passed c lt (sym (closed c) ∙ now), (same c).dist);
}

pub cutoff_guessing : (p : Transport) (s : List Step) (k : ℕ) (xs prices : List ℕ) (t b : ℕ) (old new : List Label)
    (cutoff : Option End)
    → IsGuessing p k xs prices t b old new → IsCutoff p s xs prices old (consumers p) cutoff
    → IsCutoff p s xs prices new (consumers p) cutoff
cutoff_guessing p s k xs prices t b old new cutoff guessing is =
    let done : IsSoft old new = soft p k xs prices t b old new guessing in
    cutoff_kept p s xs prices old new cutoff done.same done.closed is

-- a guess by the bound covers the entries at t
guess_covers : (p : Transport) (k : ℕ) (xs prices : List ℕ) (t b way guess : ℕ) (cutoff : Option ℕ) (exit : Exit)
    (known : Bound)
    → IsPlaced p k xs prices → k ≤ p.entries → IsExit t way (get_or prices t 0) cutoff exit
    → IsKnown p (IsAt xs p.entries t) t b known → IsGuess exit known.low (get_or prices b 0) guess
    → (i : ℕ) → i < k → get_or xs i 0 ≡ t → IsAllowed p i b → guess + priced p prices i t ≤ way + priced p prices i b
guess_covers p k xs prices t b way guess cutoff exit known placed le is is_known is_guess i lti stands allowed =
    let here : ℕ = cost_of p i t in
    let there : ℕ = cost_of p i b in
    let least : IsLeast p prices i t = rw (← stands) (placed.least i lti) in
    let below : known.low + here ≤ there + greatest_charge =
    is_known.below i (omega (arith, lti, le), stands) allowed in
    let small : here ≤ greatest_charge = cost_small p placed.limits i t in
    let sum : ℕ = there + greatest_charge + get_or prices b 0 - here in
    let near = is_guess.lower sum (omega (arith, below, small)) (omega (arith, is.base, least b allowed, small)) in
    omega (arith, near, is.base, is.dist, small)

-- what is guessed of consumer b is noted
pub guess_noted : (p : Transport) (k : ℕ) (xs prices : List ℕ) (t b guess : ℕ) (cutoff : Option ℕ)
    (old new : List Label) (exit : Exit) (known : Bound)
    → IsPlaced p k xs prices → k ≤ p.entries → b < consumers p → IsSearch p k xs prices cutoff old t 0
    → IsLatest p old t → (label_at old b).closed ≡ false
    → IsExit t (label_at old t).dist (get_or prices t 0) cutoff exit
    → IsKnown p (IsAt xs p.entries t) t b known → IsGuess exit known.low (get_or prices b 0) guess
    → new ≡ set old b (record (label_at old b) { guess = min (label_at old b).guess guess })
    → IsGuessing p k xs prices t b old new
guess_noted p k xs prices t b guess cutoff old new exit known placed le ltb search latest still is is_known is_guess e =
    let label : Label = record (label_at old b) { guess = min (label_at old b).guess guess } in
    let lt : b < length old = omega (arith, ltb, search.one_each) in
    let here : label_at new b ≡ label = rw e (get_or-set_same old b label no_label lt) in
    let noted : (label_at new b).guess ≡ min (label_at old b).guess guess = ap (λ (l : Label). l.guess) here in
    record {
      one_each = rw e (length-set old b label);
      was_open = still;
      same = rw noted here;
      lower = omega (arith, noted);
      ahead = λ d ltd closed.
          omega (
            arith,
            noted,
            search.ahead d b ltd ltb closed still,
            is_guess.ahead,
            is.dist,
            latest d ltd closed,
          );
      covers = λ i lti stands allowed.
          omega (
            arith,
            noted,
            guess_covers p k xs prices t b (label_at old t).dist guess cutoff exit known placed le is is_known is_guess i
                lti stands allowed,
          );
      others = λ d ne. rw e (get_or-set_other old b d label no_label ne);
    }

-- what lies beyond the cutoff comes no nearer than a closed consumer is
beyond_passed : (p : Transport) (s : List Step) (xs prices : List ℕ) (labels : List Label) (cutoff : Option End)
    (c base sum : ℕ)
    → IsCutoff p s xs prices labels (consumers p) cutoff → c < consumers p → (label_at labels c).closed ≡ true
    → IsBeyond (length_of cutoff) base sum → (label_at labels c).dist + base ≤ sum
beyond_passed p s xs prices labels None c base sum is lt closed beyond = absurd beyond
beyond_passed p s xs prices labels (Some end) c base sum is lt closed beyond =
    omega (arith, is.passed c lt closed, beyond)

-- between two rounds no entry at a closed consumer comes nearer to an open one than any closed consumer is
pub after_settled : (p : Transport) (s : List Step) (k : ℕ) (xs prices : List ℕ) (labels : List Label)
    (cutoff : Option End) (f b : ℕ)
    → IsRound p k xs prices (length_of cutoff) labels → IsCutoff p s xs prices labels (consumers p) cutoff
    → (label_at labels f).closed ≡ true → (label_at labels b).closed ≡ false → ComesAfter p k xs prices labels f b
after_settled p s k xs prices labels cutoff f b round is closed still i c lti stands allowed lt now =
    let offered = round.offered i b lti (rw stands closed) (λ e. allowed.0) allowed in
    elim (rw stands at offered) [
      | inl (inl within) ↦ omega (arith, round.nearer c b lt allowed.0 now still within.0, within.1)
      | inl (inr beyond) ↦ beyond_passed p s xs prices labels cutoff c _ _ is lt now beyond
      | inr guessed ↦ omega (arith, round.ahead c b lt allowed.0 now still, guessed.1)
    ]

-- consumer b, of which something is guessed, is asked by those at the closed consumers below `upto`
pub record AreSettled (p : Transport) (k : ℕ) (xs prices : List ℕ) (cutoff : Option ℕ) (labels : List Label)
    (b upto : ℕ) : Type 0 where
  pub covered : (i : ℕ) → i < k → get_or xs i 0 < upto → (label_at labels (get_or xs i 0)).closed ≡ true
      → IsAllowed p i b
      → IsCovered p prices cutoff labels (label_at labels (get_or xs i 0)).dist (priced p prices i (get_or xs i 0)) i b

-- one more was asked, and the cutoff is no later
pub settled_more : (p : Transport) (s : List Step) (k : ℕ) (xs prices : List ℕ) (old new : List Label)
    (cutoff next : Option ℕ) (f b : ℕ)
    → IsPlaced p k xs prices → IsRound p k xs prices cutoff old → f < consumers p → b < consumers p
    → (label_at old f).closed ≡ true → ComesAfter p k xs prices old f b
    → IsAsked p k xs prices cutoff f b old new → IsNoLater cutoff next
    → AreSettled p k xs prices cutoff old b f
    → IsRound p k xs prices next new × AreSettled p k xs prices next new b (f + 1)
settled_more p s k xs prices old new cutoff next f b placed round ltf ltb closed after asked later are =
    let done : IsOffering p k xs prices f b old new = offering p k xs prices f b cutoff old new asked in (
      search_cut p k xs prices cutoff next new (consumers p) (consumers p) later (
          ask_search p k xs prices cutoff old new (consumers p) f b (consumers p) (consumers p) (λ c lt ne. lt) (inr ltb)
          placed round ltf closed after asked done
          ),
      record {
        covered = λ i lti below now allowed.
            let was = done.back (get_or xs i 0) now in
            let from = ap (λ l. l.dist) (done.kept (get_or xs i 0) was) in
            let covered : IsCovered p prices cutoff new (label_at old (get_or xs i 0)).dist
            (priced p prices i (get_or xs i 0)) i b =
            elim (cases_eq (get_or xs i 0) f) [
              | inl stands ↦
                  rw stands (
                  covered_asked p k xs prices cutoff old new f b (consumers p) (consumers p) round after asked done i
                  lti stands allowed
                  )
              | inr ne ↦
                  covered_kept p k xs prices f b cutoff old new done (label_at old (get_or xs i 0)).dist
                  (priced p prices i (get_or xs i 0)) i b
                  (are.covered i lti (omega (arith, below, ne)) was allowed)
            ] in
            rw from (elim covered [ inl within ↦ inl within | inr beyond ↦ inr (later _ _ beyond) ]);
      },
    )

-- a consumer that is closed entries were not offered by
pub settled_skip : (p : Transport) (k : ℕ) (xs prices : List ℕ) (cutoff : Option ℕ) (labels : List Label) (f b : ℕ)
    → (label_at labels f).closed ≡ false → AreSettled p k xs prices cutoff labels b f
    → AreSettled p k xs prices cutoff labels b (f + 1)
settled_skip p k xs prices cutoff labels f b is_open are = record {
  covered = λ i lti below now allowed. elim (cases_eq (get_or xs i 0) f) [
    | inl stands ↦ absurd (false≢true (sym is_open ∙ rw stands at now))
    | inr ne ↦ are.covered i lti (omega (arith, below, ne)) now allowed
  ];
}

-- what stays where consumers are asked
pub record IsSameFront (old new : List Label) : Type 0 where
  pub closed : (c : ℕ) → (label_at new c).closed ≡ (label_at old c).closed
  pub guess : (c : ℕ) → (label_at new c).guess ≡ (label_at old c).guess
  pub opened : open_count new ≡ open_count old
  pub guesses : guess_count new ≡ guess_count old

pub asked_same : (p : Transport) (k : ℕ) (xs prices : List ℕ) (cutoff : Option ℕ) (old new : List Label) (t b : ℕ)
    → IsAsked p k xs prices cutoff t b old new → IsSameFront old new
asked_same p k xs prices cutoff old new t b asked =
    let done : IsOffering p k xs prices t b old new = offering p k xs prices t b cutoff old new asked in
    record {
      closed = done.closed;
      guess = done.guess;
      opened = done.count;
      guesses = guess_count_same new old done.every (λ c lt. done.guess c);
    }

-- the labels before and after the guess of consumer b is forgotten
record IsForgotten (b : ℕ) (old new : List Label) : Type 0 where
  every : length new ≡ length old
  here : (label_at new b).guess ≡ far
  other : (c : ℕ) → (c ≡ b → ⊥) → label_at new c ≡ label_at old c
  same : (c : ℕ) → IsSameWay (label_at old c) (label_at new c)
  closed : (c : ℕ) → (label_at new c).closed ≡ (label_at old c).closed

forgotten : (old new : List Label) (b : ℕ) → b < length old
    → new ≡ set old b (record (label_at old b) { guess = far }) → IsForgotten b old new
forgotten old new b lt is =
    let label : Label = record (label_at old b) { guess = far } in
    let here : label_at new b ≡ label = rw is (get_or-set_same old b label no_label lt) in
    let other : (c : ℕ) → (c ≡ b → ⊥) → label_at new c ≡ label_at old c =
    λ c ne. rw is (get_or-set_other old b c label no_label ne) in
    record {
      every = rw is (length-set old b label);
      here = ap (λ (l : Label). l.guess) here;
      other = other;
      same = λ c. elim (cases_eq c b) [
        | inl e ↦
            rw e (record {
              hops = ap (λ (l : Label). l.hops) here;
              dist = ap (λ (l : Label). l.dist) here;
              mover = ap (λ (l : Label). l.mover) here;
            })
        | inr ne ↦ same_way (label_at old c) (label_at new c) (other c ne)
      ];
      closed = λ c. elim (cases_eq c b) [
        | inl e ↦ rw e (ap (λ (l : Label). l.closed) here)
        | inr ne ↦ ap (λ (l : Label). l.closed) (other c ne)
      ];
    }

pub settled_cutoff : (p : Transport) (s : List Step) (xs prices : List ℕ) (old new : List Label) (cutoff : Option End)
    (b : ℕ)
    → b < length old → new ≡ set old b (record (label_at old b) { guess = far })
    → IsCutoff p s xs prices old (consumers p) cutoff → IsCutoff p s xs prices new (consumers p) cutoff
settled_cutoff p s xs prices old new cutoff b lt e is =
    let done : IsForgotten b old new = forgotten old new b lt e in
    cutoff_kept p s xs prices old new cutoff done.same done.closed is

pub settled_counts : (old new : List Label) (b : ℕ) → b < length old → (label_at old b).guess < far
    → new ≡ set old b (record (label_at old b) { guess = far })
    → (open_count new ≡ open_count old) × (guess_count new + 1 ≡ guess_count old)
settled_counts old new b lt was e =
    let done : IsForgotten b old new = forgotten old new b lt e in (
      open_count_same new old done.every (λ c ltc. done.closed c),
      rw e (guess_count-set_far old b (record (label_at old b) { guess = far }) lt was refl),
    )

-- once all were asked, the guess is not needed
pub settled_round : (p : Transport) (k : ℕ) (xs prices : List ℕ) (cutoff : Option ℕ) (old new : List Label) (b : ℕ)
    → IsPlaced p k xs prices → k ≤ p.entries → b < length old → IsRound p k xs prices cutoff old
    → new ≡ set old b (record (label_at old b) { guess = far }) → AreSettled p k xs prices cutoff old b (consumers p)
    → IsRound p k xs prices cutoff new
settled_round p k xs prices cutoff old new b placed le ltb round is are =
    let done : IsForgotten b old new = forgotten old new b ltb is in
    let same = done.same in
    let closed = done.closed in
    let other = done.other in
    let every = done.every in
    let count : open_count new ≡ open_count old = open_count_same new old every (λ c lt. closed c) in
    let was : (c : ℕ) → (label_at new c).closed ≡ true → (label_at old c).closed ≡ true =
    λ c now. sym (closed c) ∙ now in
    let up_was : (c : ℕ) → 0 < (label_at new c).hops → 0 < (label_at old c).hops =
    λ c up. omega (arith, up, (same c).hops) in
    record {
      one_each = every ∙ round.one_each;
      way = λ c lt up. way_kept p k xs prices old new c (same c) (λ x now. (same x, closed x ∙ now))
          (round.way c lt (up_was c up));
      long = λ c lt up. omega (arith, round.long c lt (up_was c up), (same c).hops, (same c).dist);
      few = λ c lt up. omega (arith, round.few c lt (up_was c up), (same c).hops, count);
      few_closed = λ c lt now. omega (arith, round.few_closed c lt (was c now), (same c).hops, count);
      reached = λ c lt now. omega (arith, round.reached c lt (was c now), (same c).hops);
      nearer = λ c d lt ltd now not_now up.
          omega (
            arith,
            round.nearer c d lt ltd (was c now) (sym (closed d) ∙ not_now) (up_was d up),
            (same c).dist,
            (same d).dist,
          );
      ahead = λ c d lt ltd now not_now. elim (cases_eq d b) [
        | inl e ↦
            rw e (omega (
              arith,
              done.here,
              dist_small p k xs prices cutoff old (consumers p) (consumers p) placed le round c lt (was c now),
              (same c).dist,
            ))
        | inr ne ↦
            omega (
              arith,
              round.ahead c d lt ltd (was c now) (sym (closed d) ∙ not_now),
              (same c).dist,
              ap (λ l. l.guess) (other d ne),
            )
      ];
      hints = λ c lt. elim (cases_eq c b) [
        | inl e ↦ rw e (omega (arith, done.here))
        | inr ne ↦ omega (arith, round.hints c lt, ap (λ l. l.guess) (other c ne))
      ];
      unreached = λ c lt none. omega (arith, round.unreached c lt (omega (arith, none, (same c).hops)), (same c).dist);
      new_offered = λ c allowed.
          let within = round.new_offered c allowed in
          (omega (arith, within.0, (same c).hops), omega (arith, within.1, (same c).dist));
      offered = λ i c lt now below allowed.
          let from = get_or xs i 0 in
          let kept : IsCovered p prices cutoff old (label_at old (get_or xs i 0)).dist
          (priced p prices i (get_or xs i 0)) i c
          → IsCovered p prices cutoff new (label_at old (get_or xs i 0)).dist (priced p prices i (get_or xs i 0)) i c =
          λ covered. elim covered [
            | inl within ↦
                inl (omega (arith, within.0, (same c).hops), omega (arith, within.1, (same c).dist))
            | inr beyond ↦ inr beyond
          ] in
          rw (same (get_or xs i 0)).dist (elim (cases_eq c b) [
            | inl e ↦
                inl (kept (rw e (
                are.covered i lt (placed.placed i lt).0 (was (get_or xs i 0) now) (rw e at allowed)
                )))
            | inr ne ↦ elim (round.offered i c lt (was (get_or xs i 0) now) below allowed) [
              | inl covered ↦ inl (kept covered)
              | inr guessed ↦ inr (
                closed c ∙ guessed.0,
                omega (arith, guessed.1, ap (λ l. l.guess) (other c ne)),
              )
            ]
          ]);
    }
