-- The options of commands by name: the text of each, which sets have it, and what it asks for if it has no word or one
-- number; and signs.
-- Source: Redis documentation, the page of each command.

use Rattle.std.specs.Prelude.{◌≡◌, ℕ, List, map, codes, Bool, true, false, Some, None}
use Rattle.std.specs.Char.{to_ascii_lowercase}
use Rattle.sr_args.specs.declared.commands.xclaim.TimeAsked.TheVariants as times
use Rattle.sr_args.specs.declared.name.Choice.{Choice}
use Rattle.sr_args.specs.declared.name.Flag.{Flag}
use Rattle.sr_args.specs.declared.name.Flag.TheVariants.{NoMkStream, MkStream, JustId, NoAck}
use Rattle.sr_args.specs.declared.name.Measure.TheVariants.{MaxLen, MinId}
use Rattle.sr_args.specs.declared.name.Numbered.{Numbered}
use Rattle.sr_args.specs.declared.name.Numbered.TheVariants.{Idle, Time, RetryCount, Block}
use Rattle.sr_args.specs.declared.name.OptionName.{OptionName}
use Rattle.sr_args.specs.declared.name.OptionName.TheVariants as options
use Rattle.sr_args.specs.declared.name.OptionSet.{OptionSet}
use Rattle.sr_args.specs.declared.name.OptionSet.TheVariants as sets
use Rattle.sr_args.specs.declared.name.Sign.{Sign}
use Rattle.sr_args.specs.declared.name.Sign.TheVariants.{Exact, Nearly}

-- the words are the same but for the case of ASCII letters
abbrev pub IsSameName : List ℕ → List ℕ → Type 0
IsSameName word name = map to_ascii_lowercase word ≡ map to_ascii_lowercase name

abbrev pub option_text : OptionName → List ℕ
option_text (options.Flag NoMkStream) = codes "NOMKSTREAM"
option_text (options.Flag MkStream) = codes "MKSTREAM"
option_text (options.Flag JustId) = codes "JUSTID"
option_text (options.Flag NoAck) = codes "NOACK"
option_text (options.Numbered Idle) = codes "IDLE"
option_text (options.Numbered Time) = codes "TIME"
option_text (options.Numbered RetryCount) = codes "RETRYCOUNT"
option_text (options.Numbered Block) = codes "BLOCK"
option_text options.Count = codes "COUNT"
option_text (options.Trim MaxLen) = codes "MAXLEN"
option_text (options.Trim MinId) = codes "MINID"
option_text options.Limit = codes "LIMIT"
option_text options.Group = codes "GROUP"
option_text options.Force = codes "FORCE"
option_text options.LastId = codes "LASTID"
option_text options.Streams = codes "STREAMS"
option_text options.Tries = codes "TRIES"
option_text options.Dead = codes "DEAD"

-- the names in each set, with those inside an option: LIMIT
abbrev pub is_of : OptionSet → OptionName → Bool
is_of sets.Range options.Count = true
is_of sets.Range name = false
is_of sets.Xadd (options.Flag NoMkStream) = true
is_of sets.Xadd (options.Trim MaxLen) = true
is_of sets.Xadd (options.Trim MinId) = true
is_of sets.Xadd options.Limit = true
is_of sets.Xadd name = false
is_of sets.XgroupCreate (options.Flag MkStream) = true
is_of sets.XgroupCreate name = false
is_of sets.Xread options.Count = true
is_of sets.Xread (options.Numbered Block) = true
is_of sets.Xread name = false
is_of sets.Xreadgroup options.Count = true
is_of sets.Xreadgroup (options.Numbered Block) = true
is_of sets.Xreadgroup options.Group = true
is_of sets.Xreadgroup (options.Flag NoAck) = true
is_of sets.Xreadgroup name = false
is_of sets.Xautoclaim options.Count = true
is_of sets.Xautoclaim (options.Flag JustId) = true
is_of sets.Xautoclaim name = false
is_of sets.Xclaim (options.Numbered Idle) = true
is_of sets.Xclaim (options.Numbered Time) = true
is_of sets.Xclaim (options.Numbered RetryCount) = true
is_of sets.Xclaim (options.Flag JustId) = true
is_of sets.Xclaim name = false

-- what is asked for if no option is written
abbrev pub nothing : Choice
nothing = record {
  add_makes = true;
  create_makes = false;
  trim = None;
  count = None;
  just_ids = false;
  time = times.Now;
  delivered = None;
  no_ack = false;
  block = None;
}

-- what is asked for after an option without a word
abbrev pub with_flag : Flag → Choice → Choice
with_flag NoMkStream before = record before { add_makes = false }
with_flag MkStream before = record before { create_makes = true }
with_flag JustId before = record before { just_ids = true }
with_flag NoAck before = record before { no_ack = true }

-- what is asked for after an option with this number
abbrev pub with_number : Numbered → ℕ → Choice → Choice
with_number Idle n before = record before { time = times.Idle n }
with_number Time n before = record before { time = times.At n }
with_number RetryCount n before = record before { delivered = Some n }
with_number Block n before = record before { block = Some n }

abbrev pub sign_text : Sign → List ℕ
sign_text Exact = codes "="
sign_text Nearly = codes "~"
