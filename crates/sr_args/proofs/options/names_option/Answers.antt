use Rattle.std.proofs.Common.{◌∙◌, sym, ap}
use Rattle.std.proofs.lemmas.Bool.{false≢true}
use Rattle.sr_args.specs.Name.{is_of}
use Rattle.sr_args.proofs.OptionLemmas.{name-one}
use Rattle.sr_args.proofs.options.names_option.Goals as goal

pub returns-in-Some-clause-yes : goal.returns-in-Some-clause-yes
returns-in-Some-clause-yes c = λ yes. (c.in-Some.name, sym c.has_option.ensures ∙ yes, c.in-Some.ensures.found)

pub returns-in-Some-clause-no : goal.returns-in-Some-clause-no
returns-in-Some-clause-no c = λ no other of same.
    false≢true (sym (sym c.has_option.ensures ∙ no) ∙ ap (is_of c.args.set) (name-one c.args.word.now c.in-Some.name other c.in-Some.ensures.found same) ∙ of)

pub returns-in-None-clause-no : goal.returns-in-None-clause-no
returns-in-None-clause-no c = λ no name of. c.in-None.ensures.none name
