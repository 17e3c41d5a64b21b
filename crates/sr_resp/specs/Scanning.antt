-- Items in some bytes, examined from where the reader stopped. Only private clauses and the invariant of a Reader cite
-- this.

use Rattle.std.specs.Prelude.{◌≡◌, ℕ, ◌-◌, ◌<◌, ◌≤◌, List, [], ◌++◌, length, take, drop, Option, Some, None, Result}
use Rattle.std.specs.Prelude.{Ok, Err, All, Bool, MatchBool}
use Rattle.sr_resp.specs.declared.stage.WordBounds.{WordBounds}
use Rattle.sr_resp.specs.declared.stage.Stage.{Stage}
use Rattle.sr_resp.specs.declared.scan.Found.{Found}
use Rattle.sr_resp.specs.declared.scan.Reached.{Reached}
use Rattle.sr_resp.specs.declared.scan.Found.TheVariants as founds
use Rattle.sr_resp.specs.Request.{Words}
use Rattle.sr_resp.specs.Stream.{Splits}
use Rattle.sr_resp.specs.Reading.{Halt, Bad, item_at, Parses}
use Rattle.sr_resp.specs.Stages.{words_in, behind, goes_on, IsStageAt, IsBefore}

-- what is still read once the bytes of an item, as far as they have come, were examined
abbrev pub found_at : List ℕ → Found → List ℕ → Result (Option Words × List ℕ) Halt
found_at item (founds.Request end) more = Ok (Some [], drop end item ++ more)
found_at item (founds.Empty end) more = Ok (None, drop end item ++ more)
found_at item founds.Fault more = Err Bad
found_at item (founds.Part stage) more = goes_on item (length item) stage more

-- the item ends after this place, or the stage is sound at its end
abbrev pub IsFoundIn : List ℕ → Found → Type 0
IsFoundIn item (founds.Request end) = (0 < end) × (end ≤ length item)
IsFoundIn item (founds.Empty end) = (0 < end) × (end ≤ length item)
IsFoundIn item founds.Fault = Unit {0}
IsFoundIn item (founds.Part stage) = IsStageAt (length item) stage

-- the number of bytes after it
abbrev pub unseen_in : List ℕ → Found → ℕ
unseen_in item (founds.Request end) = length item - end
unseen_in item (founds.Empty end) = length item - end
unseen_in item founds.Fault = 0
unseen_in item (founds.Part stage) = 0

-- from a place and a stage on, the bytes up to another place have these words, and lead to another stage
pub record Scanning (item : List ℕ) (from : ℕ) (entered : Stage) (old new : List WordBounds) (at : ℕ)
    (stage : Stage) : Type 0 where
  pub added : List WordBounds
  pub whole : new ≡ old ++ added
  pub before : All (IsBefore at) added
  pub within : at ≤ length item
  pub sound : IsStageAt at stage
  pub reads : (more : List ℕ)
      → goes_on item from entered (drop from item ++ more)
      ≡ behind (words_in item added) (goes_on item at stage (drop at item ++ more))

-- all bytes were examined, or the item has ended
pub record Scans (item : List ℕ) (from : ℕ) (entered : Stage) (old new : List WordBounds) (found : Found) : Type 0 where
  pub added : List WordBounds
  pub whole : new ≡ old ++ added
  pub before : All (IsBefore (length item)) added
  pub sound : IsFoundIn item found
  pub reads : (more : List ℕ) → goes_on item from entered (drop from item ++ more)
      ≡ behind (words_in item added) (found_at item found more)

-- the bytes of an item up to a place have the words at these places, and lead to a stage
pub record Standing (item : List ℕ) (places : List WordBounds) (at : ℕ) (stage : Stage) : Type 0 where
  pub before : All (IsBefore at) places
  pub within : at ≤ length item
  pub sound : IsStageAt at stage
  pub reads : (more : List ℕ) → item_at (take at item ++ more)
      ≡ behind (words_in item places) (goes_on item at stage more)

-- a reader that works stands at the end of its bytes
abbrev pub IsReaderAt : Bool → List ℕ → List WordBounds → Stage → Type 0
IsReaderAt failed rest places stage = MatchBool failed (Unit {0}) (Standing rest places (length rest) stage)

-- the requests at the front of some bytes wait now after the others, and the reader stands at the end of the rest
pub record SortsOut (bytes : List ℕ) (places : List WordBounds) (before after : List Words) (reached : Reached) : Type 0
  where
    pub requests : List Words
    pub waiting : after ≡ before ++ requests
    pub start : reached.start ≤ length bytes
    pub first : reached.first ≤ length places
    pub parses : Parses bytes requests (drop reached.start bytes) reached.fault
    pub stands : IsReaderAt reached.fault (drop reached.start bytes) (drop reached.first places) reached.stage

-- some items were whole, and the next one is under way
pub record Sorting (bytes item : List ℕ) (first at : ℕ) (stage : Stage) (places : List WordBounds)
    (before after : List Words) : Type 0 where
  pub requests : List Words
  pub waiting : after ≡ before ++ requests
  pub splits : Splits bytes requests item
  pub shorter : length item ≤ length bytes
  pub rest : item ≡ drop (length bytes - length item) bytes
  pub first_in : first ≤ length places
  pub stands : Standing item (drop first places) at stage

-- all bytes of an item that are there were examined
pub record Examined (item : List ℕ) (places : List WordBounds) (found : Found) : Type 0 where
  pub before : All (IsBefore (length item)) places
  pub sound : IsFoundIn item found
  pub reads : (more : List ℕ) → item_at (item ++ more) ≡ behind (words_in item places) (found_at item found more)
