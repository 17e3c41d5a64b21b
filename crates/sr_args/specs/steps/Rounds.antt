-- The words of RECOVER.PLAN and RECOVER.RUN after their group. No public clause cites this module.

use Rattle.std.specs.Prelude.{ℕ, List, Option, unwrap_or}
use Rattle.sr_args.specs.declared.commands.recover.Rounds.{Rounds}
use Rattle.sr_args.specs.declared.name.OptionName.TheVariants as names
use Rattle.sr_args.specs.FormWord.{Word, tries}
use Rattle.sr_args.specs.Form.{Form, before, texts_after, Values, IsMaybeNumber}
use Rattle.sr_args.specs.commands.RecoverRun.{usual_tries}

-- DEAD consumer [consumer ..]
abbrev pub dead_form : Form
dead_form = texts_after names.Dead

abbrev pub dead_of : Values dead_form → List Word
dead_of dead = dead

-- [TRIES number] DEAD consumer [consumer ..]
abbrev pub rounds_form : Form
rounds_form = before names.Tries tries dead_form

abbrev pub rounds_of : Values rounds_form → Rounds
rounds_of (many, dead) = record { tries = unwrap_or many usual_tries; dead = dead }

abbrev pub IsMaybeTries : Option Word → Option ℕ → Type 0
IsMaybeTries word n = IsMaybeNumber tries word n
