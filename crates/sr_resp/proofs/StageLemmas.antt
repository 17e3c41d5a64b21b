-- One step of the reader's automaton, stage by stage, on lists alone.
use Rattle.std.proofs.Common.{◌≡◌, ℕ, suc, ◌+◌, ◌-◌, ◌*◌, ◌<◌, ◌≤◌, min, inl, inr, cond, eqb, List, [], ◌∷◌, ◌++◌, length, get_or, take, drop, Option, Some, None, Result, Ok, Err, codes, refl, sym, ap, subst, ◌∙◌, arith}
use Rattle.std.specs.Char.{digit_value}
use Rattle.std.specs.List.{slice_range}
use Rattle.std.proofs.lemmas.Bool.{cases_eq, cases_lt, eq-eqb, ne_eqb, lt-ltb, le-ltb}
use Rattle.std.proofs.lemmas.List.{append_assoc, append-nil, drop_more, length-append, length-take-le, length-drop, drop-drop}
use Rattle.std.proofs.Math.Seq.{take-append-add, drop-append-add, take-add}
use Rattle.sr_resp.specs.declared.stage.Number.TheVariants as numbers
use Rattle.sr_resp.specs.declared.stage.Stage.{Stage}
use Rattle.sr_resp.specs.declared.stage.Stage.TheVariants as stages
use Rattle.sr_resp.specs.declared.stage.Step.{Step}
use Rattle.sr_resp.specs.declared.stage.Step.TheVariants as steps
use Rattle.sr_resp.specs.Reply.{line_end}
use Rattle.sr_resp.specs.Request.{Words}
use Rattle.sr_resp.specs.Reading.{Halt, More, Bad, ◌>>=◌, literal_at, digits_at, bytes_at, word_at, words_at, counted_at, array_at, item_at}
use Rattle.sr_resp.specs.Numbers.{NumberGoesOn, CountGoesOn, LengthGoesOn}
use Rattle.sr_resp.specs.Stages.{behind, others_at, body_at, goes_on, leads_to, IsStageAt, IsStepAt, StepsTo, HasLineEnd, HasShortHeader}
use Rattle.sr_resp.proofs.ReadingSteps.{IsAt, at_place, step_digit, step_return}

-- ---- a byte

one_byte : (item : List ℕ) (at byte : ℕ) → IsAt item at byte → slice_range item at (at + 1) ≡ byte ∷ []
one_byte item at byte is =
    let one : at + 1 - at ≡ 1 = omega arith in
    rw (one, at_place item at byte is) refl

-- the byte at this place
abbrev pub byte_at : List ℕ → ℕ → ℕ
byte_at item at = get_or item at 0

pub byte_step : (item : List ℕ) (at : ℕ) (stage : Stage) (step : Step) → at < length item
    → ((more : List ℕ) → goes_on item at stage (byte_at item at ∷ more) ≡ leads_to item (at + 1) step more) → IsStepAt (at + 1) step → StepsTo item at stage (at + 1) step
byte_step item at stage step there reads sound =
    record {
      forward = omega arith;
      within = omega arith;
      reads = λ more. ap (λ (b : List ℕ). goes_on item at stage (b ++ more)) (one_byte item at (byte_at item at) (record { within = there; is = refl })) ∙ reads more;
      sound = sound;
    }

-- a byte that has to be this one
pub expected_step : (item : List ℕ) (at expected : ℕ) (stage : Stage) (step result : Step) → at < length item → result ≡ cond (eqb (byte_at item at) expected) step steps.Bad
    → ((more : List ℕ) → goes_on item at stage (expected ∷ more) ≡ leads_to item (at + 1) step more)
    → ((more : List ℕ) → (byte_at item at ≡ expected → ⊥) → goes_on item at stage (byte_at item at ∷ more) ≡ Err Bad)
    → IsStepAt (at + 1) step → StepsTo item at stage (at + 1) result
unfolding leads_to
expected_step item at expected stage step result there chosen good bad sound =
    let byte = byte_at item at in
    elim (cases_eq byte expected) [
      | inl same ↦
          let taken : result ≡ step = chosen ∙ rw (eq-eqb byte expected same) refl in
          let reads : (more : List ℕ) → goes_on item at stage (byte ∷ more) ≡ leads_to item (at + 1) step more = λ more. ap (λ (b : ℕ). goes_on item at stage (b ∷ more)) same ∙ good more in
          subst (λ (s : Step). StepsTo item at stage (at + 1) s) (sym taken) (byte_step item at stage step there reads sound)
      | inr other ↦
          let taken : result ≡ steps.Bad = chosen ∙ rw (ne_eqb byte expected other) refl in
          subst (λ (s : Step). StepsTo item at stage (at + 1) s) (sym taken) (byte_step item at stage steps.Bad there (λ more. bad more other) tt)
    ]

-- ---- one lemma for each stage

pub start_good : (item : List ℕ) (at next : ℕ) (more : List ℕ) → goes_on item at stages.Start (42 ∷ more) ≡ leads_to item next (steps.On stages.Kind) more
unfolding goes_on leads_to item_at
start_good item at next more = refl

pub start_bad : (item : List ℕ) (at byte : ℕ) (more : List ℕ) → (byte ≡ 42 → ⊥) → goes_on item at stages.Start (byte ∷ more) ≡ Err Bad
unfolding goes_on item_at
start_bad item at byte more other = rw (ne_eqb byte 42 other) refl

pub kind_null : (item : List ℕ) (at byte next : ℕ) (more : List ℕ) → byte ≡ 45 → goes_on item at stages.Kind (byte ∷ more) ≡ leads_to item next (steps.On (stages.NullArray 1)) more
unfolding goes_on leads_to array_at
kind_null item at byte next more same = rw same refl

pub kind_count : (item : List ℕ) (at byte : ℕ) (more : List ℕ) → (byte ≡ 45 → ⊥) → goes_on item at stages.Kind (byte ∷ more) ≡ goes_on item at (stages.Count 0 0) (byte ∷ more)
unfolding goes_on array_at
kind_count item at byte more other = rw (ne_eqb byte 45 other) refl

null_text : (read byte : ℕ) (more : List ℕ) → read < 4
    → literal_at (drop read (codes "-1\r\n")) (byte ∷ more) ≡ cond (eqb byte (get_or (codes "-1\r\n") read 0)) (literal_at (drop (read + 1) (codes "-1\r\n")) more) (Err Bad)
null_text read byte more few = ap (λ (t : List ℕ). literal_at t (byte ∷ more)) (drop_more (codes "-1\r\n") read 0 few)

pub null_bad : (item : List ℕ) (at read byte : ℕ) (more : List ℕ) → read < 4 → (byte ≡ get_or (codes "-1\r\n") read 0 → ⊥) → goes_on item at (stages.NullArray read) (byte ∷ more) ≡ Err Bad
unfolding goes_on
null_bad item at read byte more few other = rw (null_text read byte more few, ne_eqb byte (get_or (codes "-1\r\n") read 0) other) refl

pub null_good : (item : List ℕ) (at next read : ℕ) (more : List ℕ) → read < 4
    → goes_on item at (stages.NullArray read) (get_or (codes "-1\r\n") read 0 ∷ more) ≡ (literal_at (drop (read + 1) (codes "-1\r\n")) more >>= λ x. Ok (None, x.1))
unfolding goes_on
null_good item at next read more few =
    let byte = get_or (codes "-1\r\n") read 0 in
    rw (null_text read byte more few, eq-eqb byte byte refl) refl

pub null_on : (item : List ℕ) (at next read : ℕ) (more : List ℕ) → read < 3
    → goes_on item at (stages.NullArray read) (get_or (codes "-1\r\n") read 0 ∷ more) ≡ leads_to item next (steps.On (stages.NullArray (read + 1))) more
unfolding goes_on leads_to
null_on item at next read more few = null_good item at next read more (omega arith)

pub null_ends : (item : List ℕ) (at next read : ℕ) (more : List ℕ) → read < 4 → 3 ≤ read
    → goes_on item at (stages.NullArray read) (get_or (codes "-1\r\n") read 0 ∷ more) ≡ leads_to item next steps.Empty more
unfolding leads_to
null_ends item at next read more few last =
    let is : read ≡ 3 = omega arith in
    null_good item at next read more few ∙ rw is refl

pub count_end_empty : (item : List ℕ) (at next count : ℕ) (more : List ℕ) → count ≡ 0 → goes_on item at (stages.CountEnd count) (10 ∷ more) ≡ leads_to item next steps.Empty more
unfolding goes_on leads_to
count_end_empty item at next count more none = rw none refl

pub count_end_word : (item : List ℕ) (at next count : ℕ) (more : List ℕ) → (count ≡ 0 → ⊥)
    → goes_on item at (stages.CountEnd count) (10 ∷ more) ≡ leads_to item next (steps.On (stages.Word (count - 1) 16777216)) more
unfolding goes_on leads_to
count_end_word item at next count more some =
    let k : suc (count - 1) ≡ count = omega arith in
    rw (ne_eqb count 0 some) (ap (λ (n : ℕ). others_at n 16777216 more) (sym k))

pub count_end_bad : (item : List ℕ) (at count byte : ℕ) (more : List ℕ) → (byte ≡ 10 → ⊥) → goes_on item at (stages.CountEnd count) (byte ∷ more) ≡ Err Bad
unfolding goes_on
count_end_bad item at count byte more other = rw (ne_eqb byte 10 other) refl

pub word_bad : (item : List ℕ) (at others room byte : ℕ) (more : List ℕ) → (byte ≡ 36 → ⊥) → goes_on item at (stages.Word others room) (byte ∷ more) ≡ Err Bad
unfolding goes_on words_at word_at
word_bad item at others room byte more other = rw (ne_eqb byte 36 other) refl

-- the rest of a word's line, its bytes and the words after it
abbrev some_words : Result (Words × List ℕ) Halt → Result (Option Words × List ℕ) Halt
some_words read = read >>= λ words. Ok (Some words.0, words.1)

abbrev word_behind : ℕ × List ℕ → Result (List ℕ × List ℕ) Halt
word_behind len = do
  word ← bytes_at len.0 len.1
  end ← literal_at line_end word.1
  Ok (word.0, end.1)

abbrev words_behind : ℕ → ℕ → List ℕ × List ℕ → Result (Words × List ℕ) Halt
words_behind others room first = words_at others (room - length first.0) first.1 >>= λ rest. Ok (first.0 ∷ rest.0, rest.1)

first_word : (word : List ℕ) (read : Result (Words × List ℕ) Halt) → some_words (read >>= λ rest. Ok (word ∷ rest.0, rest.1)) ≡ behind (word ∷ []) (some_words read)
first_word word (Ok rest) = refl
first_word word (Err e) = refl

after_line_end : (others room n : ℕ) (word : List ℕ) (read : Result (Unit {0} × List ℕ) Halt) → length word ≡ n
    → some_words ((read >>= λ end. Ok (word, end.1)) >>= words_behind others room) ≡ (read >>= λ end. behind (word ∷ []) (others_at others (room - n) end.1))
after_line_end others room n word (Ok end) len = rw len (first_word word (words_at others (room - n) end.1))
after_line_end others room n word (Err e) len = refl

after_line : (others room n : ℕ) (bytes : List ℕ) → some_words (word_behind (n, bytes) >>= words_behind others room) ≡ body_at others (room - n) [] n bytes
after_line others room n bytes =
    elim (cases_lt (length bytes) n) [
      | inl short ↦ rw (lt-ltb (length bytes) n short) refl
      | inr long ↦ rw (le-ltb (length bytes) n long) (after_line_end others room n (take n bytes) (literal_at line_end (drop n bytes)) (length-take-le n bytes long))
    ]

after_mark : (others room : ℕ) (read : Result (ℕ × List ℕ) Halt) → some_words ((read >>= word_behind) >>= words_behind others room) ≡ (read >>= λ x. body_at others (room - x.0) [] x.0 x.1)
after_mark others room (Ok x) = after_line others room x.0 x.1
after_mark others room (Err e) = refl

pub word_good : (item : List ℕ) (at next others room : ℕ) (more : List ℕ)
    → goes_on item at (stages.Word others room) (36 ∷ more) ≡ leads_to item next (steps.On (stages.Length others room 0 0)) more
unfolding goes_on leads_to words_at word_at
word_good item at next others room more = after_mark others room (digits_at (min room 1048576) 0 0 more)

pub length_end_good : (item : List ℕ) (at next others room len : ℕ) (more : List ℕ)
    → goes_on item at (stages.LengthEnd others room len) (10 ∷ more) ≡ leads_to item next (steps.On (stages.Body others (room - len) next len)) more
unfolding goes_on leads_to
length_end_good item at next others room len more =
    let none : next - next ≡ 0 = omega arith in
    rw none refl

pub length_end_bad : (item : List ℕ) (at others room len byte : ℕ) (more : List ℕ) → (byte ≡ 10 → ⊥) → goes_on item at (stages.LengthEnd others room len) (byte ∷ more) ≡ Err Bad
unfolding goes_on
length_end_bad item at others room len byte more other = rw (ne_eqb byte 10 other) refl

pub body_end_whole : (item : List ℕ) (at next others room : ℕ) (more : List ℕ) → others ≡ 0 → goes_on item at (stages.BodyEnd others room) (10 ∷ more) ≡ leads_to item next steps.Whole more
unfolding goes_on leads_to words_at
body_end_whole item at next others room more none = rw none refl

pub body_end_word : (item : List ℕ) (at next others room : ℕ) (more : List ℕ) → (others ≡ 0 → ⊥)
    → goes_on item at (stages.BodyEnd others room) (10 ∷ more) ≡ leads_to item next (steps.On (stages.Word (others - 1) room)) more
unfolding goes_on leads_to
body_end_word item at next others room more some =
    let k : suc (others - 1) ≡ others = omega arith in
    ap (λ (n : ℕ). others_at n room more) (sym k)

pub body_end_bad : (item : List ℕ) (at others room byte : ℕ) (more : List ℕ) → (byte ≡ 10 → ⊥) → goes_on item at (stages.BodyEnd others room) (byte ∷ more) ≡ Err Bad
unfolding goes_on
body_end_bad item at others room byte more other = rw (ne_eqb byte 10 other) refl

-- ---- a word's bytes

-- none is missing
behind_then : (word : List ℕ) (read : Result (Unit {0} × List ℕ) Halt) (next : List ℕ → Result (Option Words × List ℕ) Halt)
    → (read >>= λ end. behind (word ∷ []) (next end.1)) ≡ behind (word ∷ []) (read >>= λ x. next x.1)
behind_then word (Ok end) next = refl
behind_then word (Err e) next = refl

body_line : (others room : ℕ) (part bytes : List ℕ) → body_at others room part 0 bytes ≡ (literal_at line_end bytes >>= λ end. behind (part ∷ []) (others_at others room end.1))
body_line others room part bytes =
    rw (le-ltb (length bytes) 0 (omega arith)) (ap (λ (word : List ℕ). literal_at line_end bytes >>= λ end. behind (word ∷ []) (others_at others room end.1)) (append-nil part))

pub body_good : (item : List ℕ) (at next others room start missing : ℕ) (more : List ℕ) → missing ≡ 0
    → goes_on item at (stages.Body others room start missing) (13 ∷ more) ≡ leads_to item next (steps.Word (record { start = start; end = at }) (stages.BodyEnd others room)) more
unfolding goes_on leads_to
body_good item at next others room start missing more none =
    ap (λ (n : ℕ). body_at others room (slice_range item start at) n (13 ∷ more)) none
    ∙ body_line others room (slice_range item start at) (13 ∷ more)
    ∙ behind_then (slice_range item start at) (literal_at (codes "\n") more) (others_at others room)

pub body_bad : (item : List ℕ) (at others room start missing byte : ℕ) (more : List ℕ) → missing ≡ 0 → (byte ≡ 13 → ⊥) → goes_on item at (stages.Body others room start missing) (byte ∷ more) ≡ Err Bad
unfolding goes_on
body_bad item at others room start missing byte more none other =
    ap (λ (n : ℕ). body_at others room (slice_range item start at) n (byte ∷ more)) none
    ∙ body_line others room (slice_range item start at) (byte ∷ more)
    ∙ rw (ne_eqb byte 13 other) refl

-- some are missing
body_more : (others room missing left : ℕ) (part run more : List ℕ) → missing ≡ length run + left
    → body_at others room part missing (run ++ more) ≡ body_at others room (part ++ run) left more
body_more others room missing left part run more is =
    let taken : take missing (run ++ more) ≡ run ++ take left more = rw is (take-append-add run more left) in
    let rest : drop missing (run ++ more) ≡ drop left more = rw is (drop-append-add run more left) in
    elim (cases_lt (length more) left) [
      | inl short ↦ rw (lt-ltb (length (run ++ more)) missing (omega (arith, length-append run more)), lt-ltb (length more) left short) refl
      | inr long ↦
          rw (le-ltb (length (run ++ more)) missing (omega (arith, length-append run more)), le-ltb (length more) left long, taken, rest)
          (ap (λ (word : List ℕ). literal_at line_end (drop left more) >>= λ end. behind (word ∷ []) (others_at others room end.1)) (sym (append_assoc part run (take left more))))
    ]

-- two parts of an item, one behind the other
pub range_more : (item : List ℕ) (start at next : ℕ) → start ≤ at → at ≤ next → slice_range item start at ++ slice_range item at next ≡ slice_range item start next
range_more item start at next le more =
    let whole : (at - start) + (next - at) ≡ next - start = omega arith in
    let place : start + (at - start) ≡ at = omega arith in
    let rest : drop (at - start) (drop start item) ≡ drop at item = drop-drop (at - start) start item ∙ ap (λ (n : ℕ). drop n item) place in
    sym (ap (λ (n : ℕ). take n (drop start item)) (sym whole) ∙ take-add (at - start) (next - at) (drop start item) ∙ ap (λ (t : List ℕ). take (at - start) (drop start item) ++ take (next - at) t) rest)

pub body_run : (item : List ℕ) (at others room start missing run : ℕ) → at + run ≤ length item → 0 < run → run ≤ missing → start ≤ at → room ≤ 16777216
    → StepsTo item at (stages.Body others room start missing) (at + run) (steps.On (stages.Body others room start (missing - run)))
unfolding goes_on leads_to
body_run item at others room start missing run within some few order small =
    let count : at + run - at ≡ run = omega arith in
    let len : length (slice_range item at (at + run)) ≡ run = rw count (length-take-le run (drop at item) (omega (arith, length-drop at item))) in
    record {
      forward = omega arith;
      within = within;
      reads = λ more.
          body_more others room missing (missing - run) (slice_range item start at) (slice_range item at (at + run)) more (omega (arith, len))
          ∙ ap (λ (part : List ℕ). body_at others room part (missing - run) more) (range_more item start at (at + run) order (omega arith));
      sound = (small, omega arith);
    }

-- ---- a short header, and the rest of a word with its line end

next_byte : (item : List ℕ) (at next byte : ℕ) → at < length item → get_or item at 0 ≡ byte → next ≡ at + 1 → drop at item ≡ byte ∷ drop next item
next_byte item at next byte there is behind =
    at_place item at byte (record { within = there; is = sym is }) ∙ ap (λ (n : ℕ). byte ∷ drop n item) (sym behind)

line_end_range : (item : List ℕ) (at next : ℕ) → HasLineEnd item at → next ≡ at + 2 → slice_range item at next ≡ 13 ∷ 10 ∷ []
line_end_range item at next end is =
    let two : next - at ≡ 2 = omega arith in
    let whole = end.whole in
    let first = next_byte item at (at + 1) 13 (omega arith) end.carriage_return refl in
    let second = next_byte item (at + 1) (at + 2) 10 (omega arith) end.line_feed (omega arith) in
    rw (two, first, second) refl

header_range : (item : List ℕ) (at room len : ℕ) → HasShortHeader item at room len → slice_range item at (at + 4) ≡ 36 ∷ get_or item (at + 1) 0 ∷ 13 ∷ 10 ∷ []
header_range item at room len header =
    let two : at + 2 - at ≡ 2 = omega arith in
    let whole = header.end.whole in
    let first = next_byte item at (at + 1) 36 (omega arith) header.mark refl in
    let second = next_byte item (at + 1) (at + 2) (get_or item (at + 1) 0) (omega arith) refl (omega arith) in
    let front : slice_range item at (at + 2) ≡ 36 ∷ get_or item (at + 1) 0 ∷ [] = rw (two, first, second) refl in
    let last = line_end_range item (at + 2) (at + 4) header.end (omega arith) in
    sym (range_more item at (at + 2) (at + 4) (omega arith) (omega arith)) ∙ rw (front, last) refl

header_digits : (most byte len : ℕ) (more : List ℕ) → digit_value byte ≡ len → len < 10 → len ≤ most → digits_at most 0 0 (byte ∷ 13 ∷ 10 ∷ more) ≡ Ok (len, more)
header_digits most byte len more is short fits =
    let digit : digit_value byte < 10 = omega (arith, is) in
    let small : 0 * 10 + digit_value byte ≤ most = omega (arith, is) in
    let value : 0 * 10 + digit_value byte ≡ len = omega (arith, is) in
    step_digit most 0 0 byte (13 ∷ 10 ∷ more) digit (omega arith) small
    ∙ ap (λ (v : ℕ). digits_at most 1 v (13 ∷ 10 ∷ more)) value
    ∙ step_return most 1 len 13 (10 ∷ more) (omega arith) refl (omega arith)

pub header_step : (item : List ℕ) (at others room len : ℕ) → HasShortHeader item at room len → room ≤ 16777216
    → StepsTo item at (stages.Word others room) (at + 4) (steps.On (stages.Body others (room - len) (at + 4) len))
unfolding goes_on leads_to
header_step item at others room len header small =
    let byte = get_or item (at + 1) 0 in
    let whole = header.end.whole in
    let short = header.short in
    let fits = header.fits in
    let none : at + 4 - (at + 4) ≡ 0 = omega arith in
    record {
      forward = omega arith;
      within = omega arith;
      reads = λ more.
          ap (λ (b : List ℕ). goes_on item at (stages.Word others room) (b ++ more)) (header_range item at room len header)
          ∙ word_good item at (at + 1) others room (byte ∷ 13 ∷ 10 ∷ more)
          ∙ ap (λ (read : Result (ℕ × List ℕ) Halt). read >>= λ x. body_at others (room - x.0) [] x.0 x.1) (header_digits (min room 1048576) byte len more header.digit short (omega arith))
          ∙ rw none refl;
      sound = (omega arith, omega arith);
    }

pub word_step : (item : List ℕ) (at others room start missing : ℕ) → HasLineEnd item (at + missing) → (others ≡ 0 → ⊥) → start ≤ at → room ≤ 16777216
    → StepsTo item at (stages.Body others room start missing) (at + missing + 2) (steps.Word (record { start = start; end = at + missing }) (stages.Word (others - 1) room))
unfolding goes_on leads_to
word_step item at others room start missing line some order small =
    let whole = line.whole in
    let run = slice_range item at (at + missing) in
    let part = slice_range item start at in
    let word = slice_range item start (at + missing) in
    let count : at + missing - at ≡ missing = omega arith in
    let len : length run ≡ missing = rw count (length-take-le missing (drop at item) (omega (arith, length-drop at item))) in
    let last = line_end_range item (at + missing) (at + missing + 2) line refl in
    let split : slice_range item at (at + missing + 2) ≡ run ++ 13 ∷ 10 ∷ [] =
    sym (range_more item at (at + missing) (at + missing + 2) (omega arith) (omega arith)) ∙ ap (λ (b : List ℕ). run ++ b) last in
    let k : suc (others - 1) ≡ others = omega arith in
    record {
      forward = omega arith;
      within = whole;
      reads = λ more.
          ap (λ (b : List ℕ). body_at others room part missing (b ++ more)) split
          ∙ ap (λ (b : List ℕ). body_at others room part missing b) (append_assoc run (13 ∷ 10 ∷ []) more)
          ∙ body_more others room missing 0 part run (13 ∷ 10 ∷ more) (omega (arith, len))
          ∙ ap (λ (p : List ℕ). body_at others room p 0 (13 ∷ 10 ∷ more)) (range_more item start at (at + missing) order (omega arith))
          ∙ body_line others room word (13 ∷ 10 ∷ more)
          ∙ ap (λ (n : ℕ). behind (word ∷ []) (others_at n room more)) (sym k);
      sound = (record { order = omega arith; within = omega arith }, small);
    }

-- ---- the bytes end

pub waits : (item : List ℕ) (at : ℕ) (stage : Stage) → IsStageAt at stage → goes_on item at stage [] ≡ Err More
unfolding goes_on item_at array_at digits_at words_at word_at
waits item at stages.Start h = refl
waits item at stages.Kind h = refl
waits item at (stages.NullArray read) h = rw (drop_more (codes "-1\r\n") read 0 h) refl
waits item at (stages.Count digits value) h = refl
waits item at (stages.CountEnd count) h = refl
waits item at (stages.Word others room) h = refl
waits item at (stages.Length others room digits value) h = refl
waits item at (stages.LengthEnd others room len) h = refl
waits item at (stages.Body others room start missing) h =
    elim (cases_eq missing 0) [
      | inl none ↦ rw none refl
      | inr some ↦ rw (lt-ltb 0 missing (omega arith)) refl
    ]
waits item at (stages.BodyEnd others room) h = refl

-- ---- numbers

number_ends : {X : Type 0} (value : ℕ) (read : Result (ℕ × List ℕ) Halt) (end : Result (Unit {0} × List ℕ) Halt) (next : ℕ → List ℕ → Result (X × List ℕ) Halt)
    → read ≡ (end >>= λ x. Ok (value, x.1)) → (read >>= λ x. next x.0 x.1) ≡ (end >>= λ x. next value x.1)
number_ends value read (Ok x) next e = rw e refl
number_ends value read (Err h) next e = rw e refl

pub count_on : (digits value byte digits' value' : ℕ) → NumberGoesOn 4096 digits value byte (numbers.Digit digits' value') → CountGoesOn digits value byte (steps.On (stages.Count digits' value'))
unfolding goes_on leads_to
count_on digits value byte digits' value' h = record {
  reads = λ item at next more. rw (h.1 more) refl;
  sound = λ next. h.0;
}

pub count_ends : (digits value byte : ℕ) → NumberGoesOn 4096 digits value byte numbers.End → CountGoesOn digits value byte (steps.On (stages.CountEnd value))
unfolding goes_on leads_to
count_ends digits value byte h = record {
  reads = λ item at next more. number_ends value (digits_at 4096 digits value (byte ∷ more)) (literal_at (codes "\n") more) counted_at (h more);
  sound = λ next. tt;
}

pub count_bad : (digits value byte : ℕ) → NumberGoesOn 4096 digits value byte numbers.Bad → CountGoesOn digits value byte steps.Bad
unfolding goes_on leads_to
count_bad digits value byte h = record { reads = λ item at next more. rw (h more) refl; sound = λ next. tt }

pub length_on : (others room most digits value byte digits' value' : ℕ) → most ≡ min room 1048576 → room ≤ 16777216 → NumberGoesOn most digits value byte (numbers.Digit digits' value')
    → LengthGoesOn others room digits value byte (steps.On (stages.Length others room digits' value'))
unfolding goes_on leads_to
length_on others room most digits value byte digits' value' is small h = record {
  reads = λ item at next more. rw (← is, h.1 more) refl;
  sound = λ next. (small, rw (← is) h.0);
}

pub length_ends : (others room most digits value byte : ℕ) → most ≡ min room 1048576 → room ≤ 16777216 → value ≤ min room 1048576 → NumberGoesOn most digits value byte numbers.End
    → LengthGoesOn others room digits value byte (steps.On (stages.LengthEnd others room value))
unfolding goes_on leads_to
length_ends others room most digits value byte is small fits h = record {
  reads = λ item at next more.
      number_ends value (digits_at (min room 1048576) digits value (byte ∷ more)) (literal_at (codes "\n") more) (λ len. body_at others (room - len) [] len) (rw (← is) (h more));
  sound = λ next. (small, omega arith);
}

pub length_bad : (others room most digits value byte : ℕ) → most ≡ min room 1048576 → NumberGoesOn most digits value byte numbers.Bad → LengthGoesOn others room digits value byte steps.Bad
unfolding goes_on leads_to
length_bad others room most digits value byte is h = record { reads = λ item at next more. rw (← is, h more) refl; sound = λ next. tt }
