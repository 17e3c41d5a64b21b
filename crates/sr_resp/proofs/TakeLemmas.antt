-- A piece more: what is known of the bytes before it stays.
use Rattle.std.proofs.Common.{◌≡◌, ℕ, suc, ◌+◌, ◌-◌, ◌≤◌, Bool, false, List, [], ◌∷◌, ◌++◌, length, take, drop, refl, sym, ap, subst, ◌∙◌, arith, Result, Ok, Err}
use Rattle.std.specs.Prelude.{All, IfOk}
use Rattle.std.specs.declared.alloc.AllocError.{AllocError}
use Rattle.std.specs.List.{slice_range}
use Rattle.std.proofs.lemmas.Bool.{MatchBool-at_false}
use Rattle.std.proofs.lemmas.List.{append-nil, length-append, length-drop, take-append-le, drop-append-le}
use Rattle.std.proofs.Math.Seq.{take-append_seam}
use Rattle.sr_resp.specs.declared.stage.WordBounds.{WordBounds}
use Rattle.sr_resp.specs.declared.stage.Stage.{Stage}
use Rattle.sr_resp.specs.declared.stage.Stage.TheVariants as stages
use Rattle.sr_resp.specs.declared.scan.Reached.{Reached}
use Rattle.sr_resp.specs.Request.{Words}
use Rattle.sr_resp.specs.Stream.{Progress}
use Rattle.sr_resp.specs.Reading.{item_at, Parses, Sorts}
use Rattle.sr_resp.specs.Stages.{word_in, words_in, behind, body_at, goes_on, IsStageAt, IsBefore}
use Rattle.sr_resp.specs.Scanning.{Standing, IsReaderAt, SortsOut}
use Rattle.sr_resp.proofs.SortLemmas.{Standing-start}

-- what follows the complete requests begins within the bytes
pub start_within : (bytes : List ℕ) (places : List WordBounds) (before after : List Words) (sorted : Result Reached AllocError)
    → IfOk sorted (λ reached. SortsOut bytes places before after reached) → IfOk sorted (λ reached. reached.start ≤ length bytes)
start_within bytes places before after (Ok reached) sorts = sorts.start
start_within bytes places before after (Err fault) sorts = tt

range_stays : (bytes piece : List ℕ) (start end : ℕ) → start ≤ end → end ≤ length bytes → slice_range (bytes ++ piece) start end ≡ slice_range bytes start end
range_stays bytes piece start end order within =
    ap (take (end - start)) (drop-append-le start bytes piece (omega arith))
    ∙ take-append-le (end - start) (drop start bytes) piece (omega (arith, length-drop start bytes))

words_stay : (bytes piece : List ℕ) (places : List WordBounds) → All (IsBefore (length bytes)) places → words_in (bytes ++ piece) places ≡ words_in bytes places
words_stay bytes piece [] all = refl
words_stay bytes piece (p ∷ ps) all =
    let b : IsBefore (length bytes) p = all 0 p (omega arith) in
    let others : All (IsBefore (length bytes)) ps = λ k d lt. all (suc k) d (omega (arith, lt)) in
    ap (λ (w : List ℕ). w ∷ words_in (bytes ++ piece) ps) (range_stays bytes piece p.start p.end b.order b.within)
    ∙ ap (λ (ws : Words). word_in bytes p ∷ ws) (words_stay bytes piece ps others)

stage_stays : (bytes piece : List ℕ) (stage : Stage) (more : List ℕ) → IsStageAt (length bytes) stage → goes_on (bytes ++ piece) (length bytes) stage more ≡ goes_on bytes (length bytes) stage more
unfolding goes_on
stage_stays bytes piece stages.Start more h = refl
stage_stays bytes piece stages.Kind more h = refl
stage_stays bytes piece (stages.NullArray read) more h = refl
stage_stays bytes piece (stages.Count digits value) more h = refl
stage_stays bytes piece (stages.CountEnd count) more h = refl
stage_stays bytes piece (stages.Word others room) more h = refl
stage_stays bytes piece (stages.Length others room digits value) more h = refl
stage_stays bytes piece (stages.LengthEnd others room len) more h = refl
stage_stays bytes piece (stages.Body others room start missing) more h =
    ap (λ (part : List ℕ). body_at others room part missing more) (range_stays bytes piece start (length bytes) h.1 (omega arith))
stage_stays bytes piece (stages.BodyEnd others room) more h = refl

pub Standing-piece : (rest piece : List ℕ) (places : List WordBounds) (stage : Stage) → Standing rest places (length rest) stage → Standing (rest ++ piece) places (length rest) stage
Standing-piece rest piece places stage st = record {
  before = st.before;
  within = omega (arith, length-append rest piece);
  sound = st.sound;
  reads = λ more.
      let whole : take (length rest) rest ≡ rest = ap (take (length rest)) (sym (append-nil rest)) ∙ take-append_seam rest [] in
      ap (λ (t : List ℕ). item_at (t ++ more)) (take-append_seam rest piece ∙ sym whole)
      ∙ st.reads more
      ∙ ap (λ (ws : Words). behind ws (goes_on rest (length rest) stage more)) (sym (words_stay rest piece places st.before))
      ∙ ap (behind (words_in (rest ++ piece) places)) (sym (stage_stays rest piece stage more st.sound));
}

-- told of the reader's fields
pub reader_stands : (failed : Bool) (rest piece bytes : List ℕ) (places : List WordBounds) (stage : Stage) (from : ℕ) → IsReaderAt failed rest places stage → failed ≡ false
    → bytes ≡ rest ++ piece → from ≡ length rest → Standing bytes places from stage
reader_stands failed rest piece bytes places stage from at working whole count =
    let st : Standing rest places (length rest) stage = MatchBool-at_false (Unit {0}) (Standing rest places (length rest) stage) working at in
    subst (λ (b : List ℕ). Standing b places from stage) (sym whole) (subst (λ (n : ℕ). Standing (rest ++ piece) places n stage) (sym count) (Standing-piece rest piece places stage st))

pub sorts_out : (old : Progress) (before after : List Words) (rest piece bytes left : List ℕ) (places : List WordBounds) (failed : Bool) (seen looked : ℕ) (reached : Reached)
    → record { waiting = before; rest = rest; failed = failed; looked = seen } ≡ old → bytes ≡ rest ++ piece → SortsOut bytes places before after reached → left ≡ drop reached.start bytes
    → Sorts (record old { rest = old.rest ++ piece }) (record { waiting = after; rest = left; failed = reached.fault; looked = looked })
sorts_out old before after rest piece bytes left places failed seen looked reached is whole s tail =
    let start : Progress = record { waiting = before; rest = rest; failed = failed; looked = seen } in
    let parses : Parses (rest ++ piece) s.requests left reached.fault =
    subst (λ (t : List ℕ). Parses (rest ++ piece) s.requests t reached.fault) (sym tail) (subst (λ (b : List ℕ). Parses b s.requests (drop reached.start bytes) reached.fault) whole s.parses) in
    let sorted : Sorts (record start { rest = rest ++ piece }) (record { waiting = after; rest = left; failed = reached.fault; looked = looked }) = record { requests = s.requests; waiting = s.waiting; found = parses } in
    subst (λ (o : Progress). Sorts (record o { rest = o.rest ++ piece }) (record { waiting = after; rest = left; failed = reached.fault; looked = looked })) is sorted

pub reader_new : IsReaderAt false [] [] stages.Start
reader_new = Standing-start [] [] refl

-- told of the reader's fields, as they are again
pub reader_still : (failed : Bool) (rest kept : List ℕ) (places left : List WordBounds) (stage : Stage) → kept ≡ rest → left ≡ places → IsReaderAt failed rest places stage → IsReaderAt failed kept left stage
reader_still failed rest kept places left stage same words at =
    subst (λ (ps : List WordBounds). IsReaderAt failed kept ps stage) (sym words) (subst (λ (b : List ℕ). IsReaderAt failed b places stage) (sym same) at)

pub view_still : (now : Progress) (waiting requests : List Words) (rest kept : List ℕ) (failed : Bool) (seen looked : ℕ) → requests ≡ waiting → kept ≡ rest
    → record { waiting = waiting; rest = rest; failed = failed; looked = seen } ≡ now → record { waiting = requests; rest = kept; failed = failed; looked = looked } ≡ record now { looked = looked }
view_still now waiting requests rest kept failed seen looked same bytes is =
    ap (λ (w : List Words). record { waiting = w; rest = kept; failed = failed; looked = looked }) same
    ∙ ap (λ (b : List ℕ). record { waiting = waiting; rest = b; failed = failed; looked = looked }) bytes
    ∙ ap (λ (p : Progress). record p { looked = looked }) is

-- only the bytes of the piece were looked at
pub looks_once : (now : Progress) (waiting : List Words) (rest piece bytes : List ℕ) (failed : Bool) (seen looked from : ℕ) → record { waiting = waiting; rest = rest; failed = failed; looked = seen } ≡ now
    → bytes ≡ rest ++ piece → from ≡ length rest → (seen ≤ looked) × (looked ≤ seen + (length bytes - from)) → (now.looked ≤ looked) × (looked ≤ now.looked + length piece)
looks_once now waiting rest piece bytes failed seen looked from is whole count bounds =
    let old : seen ≡ now.looked = ap (λ (p : Progress). p.looked) is in
    let len : length bytes ≡ length (rest ++ piece) = ap length whole in
    (omega (arith, old, bounds.0), omega (arith, old, len, count, bounds.1, length-append rest piece))

-- what was added is cut off again
pub cut_back : {A : Type 0} (old new cut : List A) (count : ℕ) → cut ≡ take count new → count ≡ length old → take (length old) new ≡ old → cut ≡ old
cut_back old new cut count is all kept = is ∙ ap (λ (n : ℕ). take n new) all ∙ kept

pub piece_cut : (rest piece bytes cut : List ℕ) (count : ℕ) → cut ≡ take count bytes → count ≡ length rest → bytes ≡ rest ++ piece → cut ≡ rest
piece_cut rest piece bytes cut count is all whole = cut_back rest bytes cut count is all (ap (take (length rest)) whole ∙ take-append_seam rest piece)
