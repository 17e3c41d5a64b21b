-- The form that XRANGE and XREVRANGE share. No public clause cites this module.

use Rattle.std.specs.Prelude.{List}
use Rattle.sr_ids.specs.declared.id.Id.{Id}
use Rattle.sr_args.specs.declared.commands.xrange.Asked.{Asked}
use Rattle.sr_args.specs.declared.commands.xrange.Bound.{Bound}
use Rattle.sr_args.specs.declared.commands.xrange.Bound.TheVariants as bounds
use Rattle.sr_args.specs.declared.name.OptionSet.TheVariants as sets
use Rattle.sr_args.specs.FormWord.{Word, IdForm, IdOf, range_start, range_end}
use Rattle.sr_args.specs.Options.{Written}
use Rattle.sr_args.specs.Form.{Form, end, text, id, options, Reading, Values}

-- key id id [COUNT int]
abbrev pub range_form : IdForm → IdForm → Form
range_form first second = text (id first (id second (options sets.Range end)))

abbrev pub range_reading : (key left right : Word) → List Written → (first second : IdForm) →
    Reading (range_form first second)
range_reading key left right written first second = (key, (left, (right, (written, tt))))

-- how an end of a range is spelled
abbrev pub spelling_of : Bound → IdForm
spelling_of bounds.Start = range_start
spelling_of bounds.End = range_end

-- the id at an end of a range
abbrev pub id_at : (bound : Bound) → IdOf (spelling_of bound) → Id
id_at bounds.Start written = written
id_at bounds.End written = written

-- what is asked for, where the ids are these ends of a range
abbrev pub asked_of : (first second : Bound) → Values (range_form (spelling_of first) (spelling_of second)) → Asked
asked_of first second (key, (i, (j, (chosen, nothing_more)))) =
    record { key = key; first = id_at first i; second = id_at second j; count = chosen.count }
