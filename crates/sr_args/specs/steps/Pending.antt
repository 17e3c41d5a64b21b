-- The words of XPENDING in their places. No public clause cites this module.

use Rattle.std.specs.Prelude.{ℤ, List, Option}
use Rattle.sr_args.specs.declared.name.Numbered.TheVariants.{Idle}
use Rattle.sr_args.specs.declared.name.OptionName.{OptionName}
use Rattle.sr_args.specs.declared.name.OptionName.TheVariants as names
use Rattle.sr_args.specs.FormWord.{Word, FormWord, int}
use Rattle.sr_args.specs.Form.{Reading, IsNamedFirst, IsMaybeNumber}
use Rattle.sr_args.specs.commands.Xpending.{listing}
use Rattle.sr_args.specs.steps.Numbers.{IsPastNumber}

abbrev pub listing_reading : Option Word → (start until most : Word) → Option Word → Reading listing
listing_reading least_idle start until most consumer = (least_idle, (start, (until, (most, consumer))))

-- IDLE
abbrev pub idle_name : OptionName
idle_name = names.Numbered Idle

-- IDLE does not name the first of these places if it is left out
abbrev pub IsBeforeStart : Option Word → List FormWord → Type 0
IsBeforeStart word places = IsNamedFirst idle_name word places

-- nor does it name the next word then
abbrev pub IsPastIdle : Option Word → List Word → Type 0
IsPastIdle word left = IsPastNumber idle_name word left

abbrev pub IsMaybeInt : Option Word → Option ℤ → Type 0
IsMaybeInt word z = IsMaybeNumber int word z
