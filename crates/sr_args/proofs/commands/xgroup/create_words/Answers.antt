use Rattle.std.proofs.Common.{◌≡◌, List, [], ◌∷◌, refl}
use Rattle.sr_args.specs.declared.name.OptionSet.TheVariants as sets
use Rattle.sr_args.specs.FormWord.{Word}
use Rattle.sr_args.specs.Options.{Written}
use Rattle.sr_args.specs.Form.{Reading, Reads}
use Rattle.sr_args.specs.commands.XgroupCreate.{form}
use Rattle.sr_args.specs.steps.Options.{EndsOptions, BeginsNoOptions}
use Rattle.sr_args.proofs.OptionLemmas.{IsPast-end}
use Rattle.sr_args.proofs.commands.xgroup.create_words.Goals as goal

create-reads : (words after rest options_rest left : List Word) (key group from : Word) (written : List Written) → words ≡ key ∷ after → after ≡ group ∷ rest → rest ≡ from ∷ options_rest → EndsOptions sets.XgroupCreate options_rest written left → left ≡ [] → Reads form words (key, (group, (from, (written, tt))))
create-reads words after rest options_rest left key group from written d e f ends none = record {
  fits = rw d (refl, (rw e (refl, (rw f (refl, ends.fits [] (rw none tt))))));
  fit = (ends.right, IsPast-end sets.XgroupCreate, tt);
}

create-no_options : (words after rest options_rest : List Word) (key group from : Word) → words ≡ key ∷ after → after ≡ group ∷ rest → rest ≡ from ∷ options_rest → BeginsNoOptions sets.XgroupCreate options_rest → (reading : Reading form) → Reads form words reading → ⊥
create-no_options words after rest options_rest key group from d e f none reading r =
    let fits = rw f at (rw e at (rw d at r.fits)).1 in
    none reading.1.1.1.0 [] r.fit.0 r.fit.1 fits.1.1

create-word_left : (words after rest options_rest left behind : List Word) (key group from word : Word) (written : List Written) → words ≡ key ∷ after → after ≡ group ∷ rest → rest ≡ from ∷ options_rest → EndsOptions sets.XgroupCreate options_rest written left → left ≡ word ∷ behind → (reading : Reading form) → Reads form words reading → ⊥
create-word_left words after rest options_rest left behind key group from word written d e f ends g reading r =
    let fits = rw f at (rw e at (rw d at r.fits)).1 in
    rw g at (ends.only reading.1.1.1.0 [] r.fit.0 r.fit.1 fits.1.1).1

pub returns-in_err-judged-clause-none : goal.returns-in_err-judged-clause-none
returns-in_err-judged-clause-none c =
    rw c.from_residual-in_err-judged.ensures (create-no_options c.args.words c.next.new.self c.next-2.new.self c.next-3.new.self c.in_ok-key.key.now c.in_ok-group.group.now c.in_ok-from.from.now c.in_ok-key.ensures.some c.in_ok-group.ensures.some c.in_ok-from.ensures.some c.in_err-judged.ensures.none)

pub returns-in-Some-clause-none : goal.returns-in-Some-clause-none
returns-in-Some-clause-none c =
    let read = c.in_ok-judged.ensures.found in
    create-word_left c.args.words c.next.new.self c.next-2.new.self c.next-3.new.self c.read_options.new.words c.next-4.new.self c.in_ok-key.key.now c.in_ok-group.group.now c.in_ok-from.from.now c.in-Some.field-0.now read.0 c.in_ok-key.ensures.some c.in_ok-group.ensures.some c.in_ok-from.ensures.some read.1 c.in-Some.ensures.some

pub returns-clause-found : goal.returns-clause-found
returns-clause-found c =
    let read = c.in_ok-judged.ensures.found in
    (read.0, read.2, create-reads c.args.words c.next.new.self c.next-2.new.self c.next-3.new.self c.read_options.new.words c.in_ok-key.key.now c.in_ok-group.group.now c.in_ok-from.from.now read.0 c.in_ok-key.ensures.some c.in_ok-group.ensures.some c.in_ok-from.ensures.some read.1 c.in_default.ensures.none)
