use Rattle.std.proofs.Common.{◌≡◌, List, [], ◌∷◌, refl}
use Rattle.sr_args.specs.declared.name.OptionSet.TheVariants as sets
use Rattle.sr_args.specs.FormWord.{Word}
use Rattle.sr_args.specs.Options.{Written}
use Rattle.sr_args.specs.Form.{Reading, Reads}
use Rattle.sr_args.specs.commands.Xautoclaim.{form}
use Rattle.sr_args.specs.steps.Claims.{autoclaim_reading}
use Rattle.sr_args.specs.steps.Options.{EndsOptions, BeginsNoOptions}
use Rattle.sr_args.proofs.NamedLemmas.{consumer-none}
use Rattle.sr_args.proofs.OptionLemmas.{IsPast-end}
use Rattle.sr_args.proofs.commands.xautoclaim.autoclaim_words.Goals as goal

autoclaim-reads : (words after rest options_rest left : List Word) (key group consumer least_idle start : Word) (written : List Written) → words ≡ key ∷ group ∷ consumer ∷ after → after ≡ least_idle ∷ rest → rest ≡ start ∷ options_rest → EndsOptions sets.Xautoclaim options_rest written left → left ≡ [] → Reads form words (autoclaim_reading key group consumer least_idle start written)
autoclaim-reads words after rest options_rest left key group consumer least_idle start written d e f ends none = record {
  fits = rw d (refl, (refl, (refl, (rw e (refl, (rw f (refl, ends.fits [] (rw none tt))))))));
  fit = (ends.right, IsPast-end sets.Xautoclaim, tt);
}

autoclaim-no_options : (words after rest options_rest : List Word) (key group consumer least_idle start : Word) → words ≡ key ∷ group ∷ consumer ∷ after → after ≡ least_idle ∷ rest → rest ≡ start ∷ options_rest → BeginsNoOptions sets.Xautoclaim options_rest → (reading : Reading form) → Reads form words reading → ⊥
autoclaim-no_options words after rest options_rest key group consumer least_idle start d e f none reading r =
    let fits = rw f at (rw e at (rw d at r.fits)).1.1.1 in
    none reading.1.1.1.1.1.0 [] r.fit.0 r.fit.1 fits.1.1

autoclaim-word_left : (words after rest options_rest left behind : List Word) (key group consumer least_idle start word : Word) (written : List Written) → words ≡ key ∷ group ∷ consumer ∷ after → after ≡ least_idle ∷ rest → rest ≡ start ∷ options_rest → EndsOptions sets.Xautoclaim options_rest written left → left ≡ word ∷ behind → (reading : Reading form) → Reads form words reading → ⊥
autoclaim-word_left words after rest options_rest left behind key group consumer least_idle start word written d e f ends g reading r =
    let fits = rw f at (rw e at (rw d at r.fits)).1.1.1 in
    rw g at (ends.only reading.1.1.1.1.1.0 [] r.fit.0 r.fit.1 fits.1.1).1

pub returns-in_err-named-clause-none : goal.returns-in_err-named-clause-none
returns-in_err-named-clause-none c = rw c.from_residual.ensures (λ reading r. consumer-none c.args.words reading.0 reading.1.0 reading.1.1.0 _ r.fits c.in_err-named.ensures.none)

pub returns-in_err-judged-clause-none : goal.returns-in_err-judged-clause-none
returns-in_err-judged-clause-none c =
    let named = c.in_ok-named.named in
    rw c.from_residual-in_err-judged.ensures (autoclaim-no_options c.args.words c.consumer_words.new.words c.next.new.self c.next-2.new.self named.key.now named.group.now named.consumer.now c.in_ok-least_idle.least_idle.now c.in_ok-start.start.now c.in_ok-named.ensures.found c.in_ok-least_idle.ensures.some c.in_ok-start.ensures.some c.in_err-judged.ensures.none)

pub returns-in-Some-clause-none : goal.returns-in-Some-clause-none
returns-in-Some-clause-none c =
    let named = c.in_ok-named.named in
    let read = c.in_ok-judged.ensures.found in
    autoclaim-word_left c.args.words c.consumer_words.new.words c.next.new.self c.next-2.new.self c.read_options.new.words c.next-3.new.self named.key.now named.group.now named.consumer.now c.in_ok-least_idle.least_idle.now c.in_ok-start.start.now c.in-Some.field-0.now read.0 c.in_ok-named.ensures.found c.in_ok-least_idle.ensures.some c.in_ok-start.ensures.some read.1 c.in-Some.ensures.some

pub returns-clause-found : goal.returns-clause-found
returns-clause-found c =
    let named = c.in_ok-named.named in
    let read = c.in_ok-judged.ensures.found in
    (read.0, read.2, autoclaim-reads c.args.words c.consumer_words.new.words c.next.new.self c.next-2.new.self c.read_options.new.words named.key.now named.group.now named.consumer.now c.in_ok-least_idle.least_idle.now c.in_ok-start.start.now read.0 c.in_ok-named.ensures.found c.in_ok-least_idle.ensures.some c.in_ok-start.ensures.some read.1 c.in_default.ensures.none)
