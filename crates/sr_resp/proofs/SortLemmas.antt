-- The items in some bytes, one after another.
use Rattle.std.proofs.Common.{◌≡◌, ℕ, ◌+◌, ◌-◌, ◌<◌, ◌≤◌, true, false, List, [], ◌∷◌, ◌++◌, length, take, drop, Some, None, Ok, Err, refl, sym, ap, subst, ◌∙◌, arith}
use Rattle.std.specs.Prelude.{All}
use Rattle.std.proofs.lemmas.List.{append_assoc, append-nil, map-append, length-append, length-take, take-append-le, take_rest, take-append-drop, take_all, length-drop, drop-drop, drop-append-le, drop_all}
use Rattle.std.proofs.Math.Seq.{take-append_seam}
use Rattle.std.proofs.lemmas.Grind.{common_steps}
use Rattle.std.proofs.lemmas.List.Elements.{All-append}
use Rattle.sr_resp.specs.declared.stage.WordBounds.{WordBounds}
use Rattle.sr_resp.specs.declared.stage.Stage.{Stage}
use Rattle.sr_resp.specs.declared.stage.Stage.TheVariants as stages
use Rattle.sr_resp.specs.declared.scan.Found.{Found}
use Rattle.sr_resp.specs.declared.scan.Found.TheVariants as founds
use Rattle.sr_resp.specs.Request.{Words}
use Rattle.sr_resp.specs.Reading.{More, item_at, Parses}
use Rattle.sr_resp.specs.Stages.{word_in, words_in, behind, goes_on, IsBefore}
use Rattle.sr_resp.specs.Scanning.{found_at, Scans, Standing, IsReaderAt, SortsOut, Sorting, Examined}
use Rattle.sr_resp.proofs.RequestGrammar.{item_exact}
use Rattle.sr_resp.proofs.ScanLemmas.{behind-nil, behind-append, before_more}
use Rattle.sr_resp.proofs.StageLemmas.{waits}
use Rattle.sr_resp.proofs.StreamLemmas.{Splits-request, Splits-empty, Splits-nothing, partial_from_more, fault_from_bad}

-- ---- one item

pub Examined-from : (item : List ℕ) (first at : ℕ) (stage : Stage) (old new : List WordBounds) (found : Found) → first ≤ length old → Standing item (drop first old) at stage → Scans item at stage old new found
    → Examined item (drop first new) found
Examined-from item first at stage old new found in_old st s =
    let P : List WordBounds = drop first old in
    let places : drop first new ≡ P ++ s.added = ap (drop first) s.whole ∙ drop-append-le first old s.added in_old in
    let before : All (IsBefore (length item)) (P ++ s.added) = All-append (IsBefore (length item)) P s.added (before_more at (length item) P st.within st.before) s.before in
    let whole : (more : List ℕ) → item ++ more ≡ take at item ++ (drop at item ++ more) = λ more. ap (λ (t : List ℕ). t ++ more) (sym (take-append-drop at item)) ∙ append_assoc (take at item) (drop at item) more in
    let joined : Examined item (P ++ s.added) found = record {
      before = before;
      sound = s.sound;
      reads = λ more.
          ap item_at (whole more)
          ∙ st.reads (drop at item ++ more)
          ∙ ap (behind (words_in item P)) (s.reads more)
          ∙ behind-append (words_in item P) (words_in item s.added) (found_at item found more)
          ∙ ap (λ (ws : Words). behind ws (found_at item found more)) (sym (map-append (word_in item) P s.added));
    } in
    subst (λ (ps : List WordBounds). Examined item ps found) (sym places) joined

-- what is read of the bytes that are there
alone : (item : List ℕ) (places : List WordBounds) (found : Found) → Examined item places found → item_at item ≡ behind (words_in item places) (found_at item found [])
alone item places found e = ap item_at (sym (append-nil item)) ∙ e.reads []

pub request_read : (item : List ℕ) (places : List WordBounds) (end : ℕ) → Examined item places (founds.Request end) → item_at item ≡ Ok (Some (words_in item places), drop end item)
request_read item places end e =
    let tail : behind (words_in item places) (Ok (Some [], drop end item ++ [])) ≡ Ok (Some (words_in item places), drop end item) =
    ap (λ (t : List ℕ). behind (words_in item places) (Ok (Some [], t))) (append-nil (drop end item)) ∙ ap (λ (ws : Words). Ok (Some ws, drop end item)) (append-nil (words_in item places)) in
    alone item places (founds.Request end) e ∙ tail

pub empty_read : (item : List ℕ) (places : List WordBounds) (end : ℕ) → Examined item places (founds.Empty end) → item_at item ≡ Ok (None, drop end item)
empty_read item places end e = alone item places (founds.Empty end) e ∙ ap (λ (t : List ℕ). Ok (None, t)) (append-nil (drop end item))

-- a request has a word
pub some_place : (item : List ℕ) (places : List WordBounds) (end : ℕ) → Examined item places (founds.Request end) → 0 < length places
some_place item places end e =
    let f = item_exact.reads item (Some (words_in item places)) (drop end item) (request_read item places end e) in
    let count : length (words_in item places) ≡ length places = grind (arith, common_steps) in
    omega (arith, f.is.some, count)

pub part_waits : (item : List ℕ) (places : List WordBounds) (stage : Stage) → Examined item places (founds.Part stage) → item_at item ≡ Err More
part_waits item places stage e = alone item places (founds.Part stage) e ∙ ap (behind (words_in item places)) (waits item (length item) stage e.sound)

pub part_stands : (item : List ℕ) (places : List WordBounds) (stage : Stage) → Examined item places (founds.Part stage) → Standing item places (length item) stage
part_stands item places stage e = record {
  before = e.before;
  within = omega arith;
  sound = e.sound;
  reads = λ more. ap (λ (t : List ℕ). item_at (t ++ more)) (take_all (length item) item (omega arith)) ∙ e.reads more;
}

-- the places from the first one on, as a slice
pub tail_examined : (item : List ℕ) (first : ℕ) (all new : List WordBounds) (found end : Found) → Examined item (drop first new) found → all ≡ new → found ≡ end
    → Examined item (take (length all - first) (drop first all)) end
tail_examined item first all new found end e same is =
    let tail : take (length all - first) (drop first all) ≡ drop first new = take_rest all first ∙ ap (drop first) same in
    subst (λ (ps : List WordBounds). Examined item ps end) (sym tail) (subst (λ (f : Found). Examined item (drop first new) f) is e)

-- old places stay
pub kept_more : (a b new added : List WordBounds) → take (length a) b ≡ a → new ≡ b ++ added → take (length a) new ≡ a
kept_more a b new added old whole =
    let long : length (take (length a) b) ≡ length a = ap length old in
    let le : length a ≤ length b = omega (arith, long, length-take (length a) b) in
    ap (take (length a)) whole ∙ take-append-le (length a) b added le ∙ old

pub kept_on : (a b new : List WordBounds) → take (length a) b ≡ a → take (length b) new ≡ b → take (length a) new ≡ a
kept_on a b new old more = grind (arith, common_steps)

pub waiting_kept : (before after requests : List Words) → after ≡ before ++ requests → take (length before) after ≡ before
waiting_kept before after requests is = ap (take (length before)) is ∙ take-append_seam before requests

pub in_more : (first : ℕ) (b new added : List WordBounds) → first ≤ length b → new ≡ b ++ added → first ≤ length new
in_more first b new added le whole =
    let len : length new ≡ length (b ++ added) = ap length whole in
    omega (arith, len, length-append b added)

pub found_is : (item : List ℕ) (places : List WordBounds) (found end : Found) → Examined item places found → found ≡ end → Examined item places end
found_is item places found end e is = subst (λ (f : Found). Examined item places f) is e

-- no byte is looked at twice
pub looked_on : (new old bound at end : ℕ) (item rest : List ℕ) → rest ≡ drop end item → new + (length item - end) ≤ old + (length item - at) → old + (length item - at) ≤ bound → new + (length rest - 0) ≤ bound
looked_on new old bound at end item rest tail one before =
    let len : length rest ≡ length (drop end item) = ap length tail in
    omega (arith, len, length-drop end item)

-- what is left of an item is shorter
pub shorter : (item rest : List ℕ) (end : ℕ) → 0 < end → end ≤ length item → rest ≡ drop end item → length rest < length item
shorter item rest end some within tail = omega (arith, ap length tail, length-drop end item)

-- ---- one item after another

-- an item that has not begun
pub Standing-start : (item : List ℕ) (places : List WordBounds) → places ≡ [] → Standing item places 0 stages.Start
unfolding goes_on
Standing-start item places none =
    let st : Standing item [] 0 stages.Start = record {
      before = λ k d lt. absurd (omega arith);
      within = omega arith;
      sound = tt;
      reads = λ more. sym (behind-nil (item_at more));
    } in
    subst (λ (ps : List WordBounds). Standing item ps 0 stages.Start) (sym none) st

pub Sorting-nothing : (bytes : List ℕ) (from : ℕ) (entered : Stage) (places : List WordBounds) (before : List Words) → Standing bytes places from entered
    → Sorting bytes bytes 0 from entered places before before
Sorting-nothing bytes from entered places before st = record {
  requests = [];
  waiting = sym (append-nil before);
  splits = Splits-nothing bytes;
  shorter = omega arith;
  rest = let none : length bytes - length bytes ≡ 0 = omega arith in rw none refl;
  first_in = omega arith;
  stands = st;
}

-- the next item begins
next_rest : (bytes item : List ℕ) (end : ℕ) → length item ≤ length bytes → item ≡ drop (length bytes - length item) bytes → end ≤ length item
    → drop end item ≡ drop (length bytes - length (drop end item)) bytes
next_rest bytes item end shorter rest within =
    let len : length (drop end item) ≡ length item - end = length-drop end item in
    let place : (length bytes - length item) + end ≡ length bytes - length (drop end item) = omega (arith, len) in
    ap (drop end) rest ∙ drop-drop end (length bytes - length item) bytes ∙ ap (λ (n : ℕ). drop n bytes) place

pub Sorting-request : (bytes item rest : List ℕ) (first at end next : ℕ) (stage : Stage) (old places new : List WordBounds) (before after later : List Words) (words : Words)
    → Sorting bytes item first at stage old before after → Examined item places (founds.Request end) → words ≡ words_in item places
    → rest ≡ drop end item → next ≡ length new → later ≡ after ++ words ∷ [] → Sorting bytes rest next 0 stages.Start new before later
Sorting-request bytes item rest first at end next stage old places new before after later words s e is tail count pushed =
    let read : item_at item ≡ Ok (Some words, drop end item) = request_read item places end e ∙ ap (λ (ws : Words). Ok (Some ws, drop end item)) (sym is) in
    let found : Sorting bytes (drop end item) next 0 stages.Start new before later = record {
      requests = s.requests ++ words ∷ [];
      waiting = pushed ∙ ap (λ (ws : List Words). ws ++ words ∷ []) s.waiting ∙ append_assoc before s.requests (words ∷ []);
      splits = Splits-request bytes s.requests item (Some words) words (drop end item) s.splits read refl;
      shorter = omega (arith, length-drop end item, s.shorter);
      rest = next_rest bytes item end s.shorter s.rest e.sound.1;
      first_in = omega arith;
      stands = Standing-start (drop end item) (drop next new) (drop_all next new (omega arith));
    } in
    subst (λ (t : List ℕ). Sorting bytes t next 0 stages.Start new before later) (sym tail) found

pub Sorting-empty : (bytes item rest : List ℕ) (first at end next : ℕ) (stage : Stage) (old places new : List WordBounds) (before after : List Words)
    → Sorting bytes item first at stage old before after → Examined item places (founds.Empty end)
    → rest ≡ drop end item → next ≡ length new → Sorting bytes rest next 0 stages.Start new before after
Sorting-empty bytes item rest first at end next stage old places new before after s e tail count =
    let found : Sorting bytes (drop end item) next 0 stages.Start new before after = record {
      requests = s.requests;
      waiting = s.waiting;
      splits = Splits-empty bytes s.requests item None (drop end item) s.splits (empty_read item places end e) refl;
      shorter = omega (arith, length-drop end item, s.shorter);
      rest = next_rest bytes item end s.shorter s.rest e.sound.1;
      first_in = omega arith;
      stands = Standing-start (drop end item) (drop next new) (drop_all next new (omega arith));
    } in
    subst (λ (t : List ℕ). Sorting bytes t next 0 stages.Start new before after) (sym tail) found

-- ---- the end of the bytes

pub SortsOut-part : (bytes item : List ℕ) (first at : ℕ) (stage ended : Stage) (old new : List WordBounds) (before after : List Words) → Sorting bytes item first at stage old before after
    → first ≤ length new → Examined item (drop first new) (founds.Part ended)
    → SortsOut bytes new before after (record { start = length bytes - length item; first = first; stage = ended; fault = false })
SortsOut-part bytes item first at stage ended old new before after s in_new e =
    let parses : Parses bytes s.requests item false = record { stream = s.splits; end = partial_from_more item (part_waits item (drop first new) ended e) } in
    record {
      requests = s.requests;
      waiting = s.waiting;
      start = omega arith;
      first = in_new;
      parses = subst (λ (t : List ℕ). Parses bytes s.requests t false) s.rest parses;
      stands = subst (λ (t : List ℕ). IsReaderAt false t (drop first new) ended) s.rest (part_stands item (drop first new) ended e);
    }

pub SortsOut-fault : (bytes item : List ℕ) (first at : ℕ) (stage ended : Stage) (old new : List WordBounds) (before after : List Words) → Sorting bytes item first at stage old before after
    → first ≤ length new → Examined item (drop first new) founds.Fault
    → SortsOut bytes new before after (record { start = length bytes - length item; first = first; stage = ended; fault = true })
SortsOut-fault bytes item first at stage ended old new before after s in_new e =
    let parses : Parses bytes s.requests item true = record { stream = s.splits; end = fault_from_bad item (alone item (drop first new) founds.Fault e) } in
    record {
      requests = s.requests;
      waiting = s.waiting;
      start = omega arith;
      first = in_new;
      parses = subst (λ (t : List ℕ). Parses bytes s.requests t true) s.rest parses;
      stands = tt;
    }
