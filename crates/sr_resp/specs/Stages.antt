-- What is still read of an item from the bytes to come, once some of its bytes have been examined: what Reading reads
-- there, seen from the middle. Only private clauses cite this.

use Rattle.std.specs.Prelude.{◌≡◌, ℕ, suc, ◌+◌, ◌-◌, ◌<◌, ◌≤◌, List, [], ◌∷◌, ◌++◌, length, map, drop, Option, Some}
use Rattle.std.specs.Prelude.{None, Result, Ok, Err, codes, min, slice_index}
use Rattle.std.specs.Char.{digit_value}
use Rattle.std.specs.List.{slice_range}
use Rattle.sr_resp.specs.declared.stage.WordBounds.{WordBounds}
use Rattle.sr_resp.specs.declared.stage.Stage.{Stage}
use Rattle.sr_resp.specs.declared.stage.Stage.TheVariants as stages
use Rattle.sr_resp.specs.declared.stage.Step.{Step}
use Rattle.sr_resp.specs.declared.stage.Step.TheVariants as steps
use Rattle.sr_resp.specs.Reply.{line_end}
use Rattle.sr_resp.specs.Request.{Words}
use Rattle.sr_resp.specs.Reading.{Halt, Bad, ◌>>=◌, literal_at, digits_at, bytes_at, words_at, counted_at, array_at}
use Rattle.sr_resp.specs.Reading.{item_at}

-- the word at a place of an item, and the words at some places
abbrev pub word_in : List ℕ → WordBounds → List ℕ
word_in item place = slice_range item place.start place.end

abbrev pub words_in : List ℕ → List WordBounds → Words
words_in item places = map (word_in item) places

-- a line feed, and then what follows it
abbrev pub line_feed_then : {X : Type 0} → (List ℕ → Result (X × List ℕ) Halt) → List ℕ → Result (X × List ℕ) Halt
line_feed_then next bytes = literal_at (codes "\n") bytes >>= λ x. next x.1

-- what is read, after the words in front
abbrev pub after_words : Words → Option Words → Option Words
after_words front None = None
after_words front (Some words) = Some (front ++ words)

abbrev pub behind : Words → Result (Option Words × List ℕ) Halt → Result (Option Words × List ℕ) Halt
behind front read = read >>= λ x. Ok (after_words front x.0, x.1)

-- this many words of a request
abbrev pub others_at : ℕ → ℕ → List ℕ → Result (Option Words × List ℕ) Halt
others_at others room bytes = words_at others room bytes >>= λ words. Ok (Some words.0, words.1)

-- the bytes that are missing of a word, its line end, and the words after it
abbrev pub body_at : ℕ → ℕ → List ℕ → ℕ → List ℕ → Result (Option Words × List ℕ) Halt
body_at others room part missing bytes = do
  word ← bytes_at missing bytes
  end ← literal_at line_end word.1
  behind ((part ++ word.0) ∷ []) (others_at others room end.1)

-- what is still read from the bytes to come, at a place of an item and in a stage: the words that are not yet whole
unfoldable pub goes_on : List ℕ → ℕ → Stage → List ℕ → Result (Option Words × List ℕ) Halt
goes_on item at stages.Start more = item_at more
goes_on item at stages.Kind more = array_at more
goes_on item at (stages.NullArray read) more = literal_at (drop read (codes "-1\r\n")) more >>= λ x. Ok (None, x.1)
goes_on item at (stages.Count digits value) more = digits_at 4096 digits value more >>= λ x. counted_at x.0 x.1
goes_on item at (stages.CountEnd count) more = line_feed_then (counted_at count) more
goes_on item at (stages.Word others room) more = others_at (suc others) room more
goes_on item at (stages.Length others room digits value) more =
    digits_at (min room 1048576) digits value more >>= λ x. body_at others (room - x.0) [] x.0 x.1
goes_on item at (stages.LengthEnd others room len) more = line_feed_then (body_at others (room - len) [] len) more
goes_on item at (stages.Body others room start missing) more = body_at others room (slice_range item start at) missing
    more
goes_on item at (stages.BodyEnd others room) more = line_feed_then (others_at others room) more

-- the same after a step that ended at this place
unfoldable pub leads_to : List ℕ → ℕ → Step → List ℕ → Result (Option Words × List ℕ) Halt
leads_to item at (steps.On stage) more = goes_on item at stage more
leads_to item at (steps.Word place stage) more = behind (word_in item place ∷ []) (goes_on item at stage more)
leads_to item at steps.Whole more = Ok (Some [], more)
leads_to item at steps.Empty more = Ok (None, more)
leads_to item at steps.Bad more = Err Bad

-- numbers that a stage can have at a place of an item
abbrev pub IsStageAt : ℕ → Stage → Type 0
IsStageAt at stages.Start = Unit {0}
IsStageAt at stages.Kind = Unit {0}
IsStageAt at (stages.NullArray read) = read < 4
IsStageAt at (stages.Count digits value) = value ≤ 4096
IsStageAt at (stages.CountEnd count) = Unit {0}
IsStageAt at (stages.Word others room) = room ≤ 16777216
IsStageAt at (stages.Length others room digits value) = (room ≤ 16777216) × (value ≤ min room 1048576)
IsStageAt at (stages.LengthEnd others room len) = (room ≤ 16777216) × (len ≤ room)
IsStageAt at (stages.Body others room start missing) = (room ≤ 16777216) × (start ≤ at)
IsStageAt at (stages.BodyEnd others room) = room ≤ 16777216

-- a place before this one
pub record IsBefore (at : ℕ) (place : WordBounds) : Type 0 where
  pub order : place.start ≤ place.end
  pub within : place.end ≤ at

abbrev pub IsStepAt : ℕ → Step → Type 0
IsStepAt at (steps.On stage) = IsStageAt at stage
IsStepAt at (steps.Word place stage) = IsBefore at place × IsStageAt at stage
IsStepAt at steps.Whole = Unit {0}
IsStepAt at steps.Empty = Unit {0}
IsStepAt at steps.Bad = Unit {0}

-- from one place of an item to the next, the step tells what is read
pub record StepsTo (item : List ℕ) (at : ℕ) (stage : Stage) (next : ℕ) (step : Step) : Type 0 where
  pub forward : at < next
  pub within : next ≤ length item
  pub reads : (more : List ℕ) → goes_on item at stage (slice_range item at next ++ more) ≡ leads_to item next step more
  pub sound : IsStepAt next step

-- a line end at a place of an item
pub record HasLineEnd (item : List ℕ) (at : ℕ) : Type 0 where
  pub whole : at + 2 ≤ length item
  pub carriage_return : slice_index item at ≡ 13
  pub line_feed : slice_index item (at + 1) ≡ 10

-- the header of a word at a place of an item, with one digit: the number of its bytes, within the room
pub record HasShortHeader (item : List ℕ) (at room len : ℕ) : Type 0 where
  pub mark : slice_index item at ≡ 36
  pub digit : digit_value (slice_index item (at + 1)) ≡ len
  pub short : len < 10
  pub fits : len ≤ room
  pub end : HasLineEnd item (at + 2)
