-- A consumer is closed, and its entries are offered to one consumer after another.
use Rattle.std.proofs.Common.{◌≡◌, ℕ, ◌+◌, ◌<◌, ◌⊎◌, true, false, List, length, get_or, Option, Some, None, sym, ap, ◌∙◌, inl}
use Rattle.std.proofs.Common.{inr, arith}
use Rattle.std.proofs.Math.ListN.{set, length-set}
use Rattle.std.proofs.lemmas.Bool.{cases_eq, cases_lt}
use Rattle.std.proofs.lemmas.List.{get_or-set_same, get_or-set_other}
use Rattle.sr_transport.specs.{Transport, consumers}
use Rattle.sr_solver.specs.declared.label.Label.{Label}
use Rattle.sr_solver.specs.declared.front.End.{End}
use Rattle.sr_solver.specs.declared.stepped.Step.{Step}
use Rattle.sr_solver.specs.Labels.{no_label, label_at, open_count, priced}
use Rattle.sr_solver.specs.Search.{IsWithin, IsSearch, IsNearest, IsRound}
use Rattle.sr_solver.specs.Offers.{IsClosed}
use Rattle.sr_solver.specs.Cutoff.{length_of, IsBeyond, IsCutoff}
use Rattle.sr_solver.proofs.LabelLemmas.{open_count-set_closed, IsSameWay, way_kept, same_way}

-- the labels before and after consumer t is closed
record IsClosing (t : ℕ) (old new : List Label) : Type 0 where
  every : length new ≡ length old
  same : (c : ℕ) → IsSameWay (label_at old c) (label_at new c)
  guess : (c : ℕ) → (label_at new c).guess ≡ (label_at old c).guess
  here : (label_at new t).closed ≡ true
  kept : (c : ℕ) → (label_at old c).closed ≡ true → (label_at new c).closed ≡ true
  back : (c : ℕ) → (label_at new c).closed ≡ true → (c ≡ t) ⊎ ((label_at old c).closed ≡ true)
  still : (c : ℕ) → (label_at new c).closed ≡ false → (label_at old c).closed ≡ false
  others : (c : ℕ) → (c ≡ t → ⊥) → (label_at old c).closed ≡ false → (label_at new c).closed ≡ false
  fewer : open_count new + 1 ≡ open_count old

closing : (t : ℕ) (old : List Label) (label : Label) → t < length old → (label_at old t).closed ≡ false
    → IsSameWay (label_at old t) label → label.guess ≡ (label_at old t).guess → label.closed ≡ true
    → IsClosing t old (set old t label)
closing t old label lt was_open same guess is_closed =
    let at : label_at (set old t label) t ≡ label = get_or-set_same old t label no_label lt in
    let other : (c : ℕ) → (c ≡ t → ⊥) → label_at (set old t label) c ≡ label_at old c =
    λ c ne. get_or-set_other old t c label no_label ne in
    let here : (label_at (set old t label) t).closed ≡ true = ap (λ l. l.closed) at ∙ is_closed in
    record {
      every = length-set old t label;
      same = λ c. elim (cases_eq c t) [
        | inl e ↦ rw e (rw at same)
        | inr ne ↦ same_way (label_at old c) (label_at (set old t label) c) (other c ne)
      ];
      guess = λ c. elim (cases_eq c t) [
        | inl e ↦ rw e (ap (λ l. l.guess) at ∙ guess)
        | inr ne ↦ ap (λ l. l.guess) (other c ne)
      ];
      here = here;
      kept = λ c was. elim (cases_eq c t) [
        | inl e ↦ rw e here
        | inr ne ↦ ap (λ l. l.closed) (other c ne) ∙ was
      ];
      back = λ c now. elim (cases_eq c t) [
        | inl e ↦ inl e
        | inr ne ↦ inr (sym (ap (λ l. l.closed) (other c ne)) ∙ now)
      ];
      still = λ c now. elim (cases_eq c t) [
        | inl e ↦ rw e was_open
        | inr ne ↦ sym (ap (λ l. l.closed) (other c ne)) ∙ now
      ];
      others = λ c ne was. ap (λ l. l.closed) (other c ne) ∙ was;
      fewer = open_count-set_closed old t label lt was_open is_closed;
    }

-- a consumer that is closed: its entries are not offered yet
closing_search : (p : Transport) (k : ℕ) (xs prices : List ℕ) (cutoff : Option ℕ) (old new : List Label) (t : ℕ)
    → IsRound p k xs prices cutoff old → IsNearest p old t → IsClosing t old new
    → IsSearch p k xs prices cutoff new t 0
closing_search p k xs prices cutoff old new t search nearest closing =
    let above : (c : ℕ) → 0 < (label_at new c).hops → 0 < (label_at old c).hops =
    λ c up. omega (arith, up, (closing.same c).hops) in
    let within : (dist base i c : ℕ) → IsWithin p prices old dist base i c → IsWithin p prices new dist base i c =
    λ dist base i c w. (omega (arith, w.0, (closing.same c).hops), omega (arith, w.1, (closing.same c).dist)) in
    record {
      one_each = closing.every ∙ search.one_each;
      way = λ c lt up. way_kept p k xs prices old new c (closing.same c) (λ x was. (closing.same x, closing.kept x was))
          (search.way c lt (above c up));
      long = λ c lt up. omega (arith, search.long c lt (above c up), (closing.same c).dist, (closing.same c).hops);
      few = λ c lt up. omega (arith, search.few c lt (above c up), (closing.same c).hops, closing.fewer);
      few_closed = λ c lt now. elim (closing.back c now) [
        | inl e ↦
            rw e (omega (arith, search.few t nearest.consumer nearest.reached, (closing.same t).hops, closing.fewer))
        | inr was ↦ omega (arith, search.few_closed c lt was, (closing.same c).hops, closing.fewer)
      ];
      reached = λ c lt now. elim (closing.back c now) [
        | inl e ↦ rw e (omega (arith, nearest.reached, (closing.same t).hops))
        | inr was ↦ omega (arith, search.reached c lt was, (closing.same c).hops)
      ];
      nearer = λ c d lt ltd now not_now up. elim (closing.back c now) [
        | inl e ↦
            rw e (omega (
              arith,
              nearest.least d ltd (above d up) (closing.still d not_now),
              (closing.same t).dist,
              (closing.same d).dist,
            ))
        | inr was ↦
            omega (
              arith,
              search.nearer c d lt ltd was (closing.still d not_now) (above d up),
              (closing.same c).dist,
              (closing.same d).dist,
            )
      ];
      ahead = λ c d lt ltd now not_now. elim (closing.back c now) [
        | inl e ↦
            rw e (
            omega (arith, nearest.guesses d ltd (closing.still d not_now), (closing.same t).dist, closing.guess d)
            )
        | inr was ↦
            omega (arith, search.ahead c d lt ltd was (closing.still d not_now), (closing.same c).dist, closing.guess d)
      ];
      hints = λ c lt. omega (arith, search.hints c lt, closing.guess c);
      unreached = λ c lt none. omega (arith, search.unreached c lt (omega (arith, none, (closing.same c).hops)), (closing.same c).dist);
      new_offered = λ c allowed. within 0 0 k c (search.new_offered c allowed);
      offered = λ i c lt now upto allowed. elim (closing.back (get_or xs i 0) now) [
        | inl e ↦ absurd (omega (arith, upto e))
        | inr was ↦
            let far = search.offered i c lt was (λ e. allowed.0) allowed in
            let same = closing.same (get_or xs i 0) in
            rw same.dist (
            elim far [
              | inl (inl near) ↦
                  inl (inl (
                  within (label_at old (get_or xs i 0)).dist (priced p prices i (get_or xs i 0)) i c near
                  ))
              | inl (inr beyond) ↦ inl (inr beyond)
              | inr guessed ↦ elim (cases_eq c t) [
                | inl e ↦
                    inl (inl (rw e (
                      omega (arith, nearest.reached, (closing.same t).hops),
                      omega (
                        arith,
                        rw e at guessed.1,
                        nearest.guesses t nearest.consumer nearest.not_closed,
                        (closing.same t).dist,
                      ),
                    )))
                | inr ne ↦ inr (
                  closing.others c ne guessed.0,
                  omega (arith, guessed.1, closing.guess c),
                )
              ]
            ]
            )
      ];
    }

-- before its entries are offered to the first consumer
pub closed_start : (p : Transport) (k : ℕ) (xs prices : List ℕ) (cutoff : Option ℕ) (old : List Label)
    (t : ℕ) (label : Label)
    → IsRound p k xs prices cutoff old → IsNearest p old t
    → IsSameWay (label_at old t) label → label.guess ≡ (label_at old t).guess → label.closed ≡ true
    → IsClosed p k xs prices cutoff old (set old t label) t 0
closed_start p k xs prices cutoff old t label search nearest same guess is_closed =
    let done : IsClosing t old (set old t label) =
    closing t old label (omega (arith, nearest.consumer, search.one_each)) nearest.not_closed same guess is_closed in
    record {
      search = closing_search p k xs prices cutoff old (set old t label) t search nearest done;
      closed = done.here;
      latest = λ c lt now. elim (done.back c now) [
        | inl e ↦ rw e (omega arith)
        | inr was ↦
            omega (
              arith,
              search.nearer c t lt nearest.consumer was nearest.not_closed nearest.reached,
              (done.same c).dist,
              (done.same t).dist,
            )
      ];
      fewer = omega (arith, done.fewer);
    }

-- the cutoff stays when a consumer is closed that is nearer
pub cutoff_closing : (p : Transport) (s : List Step) (xs prices : List ℕ) (old : List Label) (t : ℕ) (label : Label)
    (cutoff : Option End)
    → t < length old → (label_at old t).closed ≡ false → IsSameWay (label_at old t) label
    → label.guess ≡ (label_at old t).guess → label.closed ≡ true
    → (IsBeyond (length_of cutoff) 0 (label_at old t).dist → ⊥)
    → IsCutoff p s xs prices old (consumers p) cutoff → IsCutoff p s xs prices (set old t label) (consumers p) cutoff
cutoff_closing p s xs prices old t label None lt was_open same guess is_closed nearer is =
    let done : IsClosing t old (set old t label) = closing t old label lt was_open same guess is_closed in
    λ c ltc up. is c ltc (omega (arith, up, (done.same c).hops))
cutoff_closing p s xs prices old t label (Some end) lt was_open same guess is_closed nearer is =
    let done : IsClosing t old (set old t label) = closing t old label lt was_open same guess is_closed in
    record {
      small = is.small;
      consumer = is.consumer;
      reached = omega (arith, is.reached, (done.same end.consumer).hops);
      room = is.room;
      length = omega (arith, is.length, (done.same end.consumer).dist);
      least = λ c ltc up room.
          omega (arith, is.least c ltc (omega (arith, up, (done.same c).hops)) room, (done.same c).dist);
      passed = λ c ltc now. elim (done.back c now) [
        | inl e ↦ rw e (
            elim (cases_lt (label_at old t).dist end.dist) [
              | inl below ↦ omega (arith, below, (done.same t).dist)
              | inr past ↦ absurd (nearer (omega (arith, past)))
            ]
            )
        | inr was ↦ omega (arith, is.passed c ltc was, (done.same c).dist)
      ];
    }

-- where entries were offered to some consumers, they were offered to none at least
pub search_none : (p : Transport) (k : ℕ) (xs prices : List ℕ) (cutoff : Option ℕ) (labels : List Label) (t upto : ℕ)
    → IsSearch p k xs prices cutoff labels t upto → IsSearch p k xs prices cutoff labels t 0
search_none p k xs prices cutoff labels t upto search = record {
  one_each = search.one_each;
  way = search.way;
  long = search.long;
  few = search.few;
  few_closed = search.few_closed;
  reached = search.reached;
  nearer = search.nearer;
  ahead = search.ahead;
  hints = search.hints;
  unreached = search.unreached;
  new_offered = search.new_offered;
  offered = λ i c lt now within allowed. search.offered i c lt now (λ here. absurd (omega (arith, within here))) allowed;
}

-- between two rounds all entries at closed consumers were offered to all
pub round_none : (p : Transport) (k : ℕ) (xs prices : List ℕ) (cutoff : Option ℕ) (labels : List Label) (t : ℕ)
    → IsRound p k xs prices cutoff labels → IsSearch p k xs prices cutoff labels t 0
round_none p k xs prices cutoff labels t round = record {
  one_each = round.one_each;
  way = round.way;
  long = round.long;
  few = round.few;
  few_closed = round.few_closed;
  reached = round.reached;
  nearer = round.nearer;
  ahead = round.ahead;
  hints = round.hints;
  unreached = round.unreached;
  new_offered = round.new_offered;
  offered = λ i c lt now within allowed. round.offered i c lt now (λ here. allowed.0) allowed;
}

-- once all consumers were asked, a round is over
pub closed_round : (p : Transport) (k : ℕ) (xs prices : List ℕ) (cutoff : Option ℕ) (labels : List Label) (t upto : ℕ)
    → upto ≡ consumers p → IsSearch p k xs prices cutoff labels t upto → IsRound p k xs prices cutoff labels
closed_round p k xs prices cutoff labels t upto all search = record {
  one_each = search.one_each;
  way = search.way;
  long = search.long;
  few = search.few;
  few_closed = search.few_closed;
  reached = search.reached;
  nearer = search.nearer;
  ahead = search.ahead;
  hints = search.hints;
  unreached = search.unreached;
  new_offered = search.new_offered;
  offered = λ i c lt now within allowed. search.offered i c lt now (λ here. rw all allowed.0) allowed;
}
