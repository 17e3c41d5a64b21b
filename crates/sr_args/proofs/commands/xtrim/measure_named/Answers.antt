use Rattle.sr_args.specs.declared.name.OptionName.TheVariants.{Trim}
use Rattle.sr_args.proofs.OptionLemmas.{name-one}
use Rattle.sr_args.proofs.commands.xtrim.measure_named.Goals as goal

pub returns-in_err-by-clause-none : goal.returns-in_err-by-clause-none
returns-in_err-by-clause-none c = rw c.from_residual.ensures (λ measure. c.in_err-by.ensures.none (Trim measure))

pub returns-in_default-clause-none : goal.returns-in_default-clause-none
returns-in_default-clause-none c = λ measure same.
    c.in_default.not-Trim measure (name-one c.args.word.now c.in_ok-by.field-0 (Trim measure) c.in_ok-by.ensures.found same)
