-- What XRANGE and XREVRANGE answer, over the words of a range with its ids in either order.
use Rattle.std.proofs.Common.{◌≡◌, List, [], ◌∷◌, refl, Ok, Err}
use Rattle.std.specs.List.{flat_map}
use Rattle.sr_args.specs.declared.name.Choice.{Choice}
use Rattle.sr_args.specs.declared.name.OptionSet.TheVariants as sets
use Rattle.sr_args.specs.declared.options.ValueFault.{ValueFault}
use Rattle.sr_args.specs.declared.options.ValueFault.TheVariants as faults
use Rattle.sr_args.specs.FormWord.{Word, IdForm, HasNumbers}
use Rattle.sr_args.specs.Name.{nothing}
use Rattle.sr_args.specs.Options.{Written, option_places}
use Rattle.sr_args.specs.Form.{Reading, Values, places, Reads}
use Rattle.sr_args.specs.steps.Gives.{Gives}
use Rattle.sr_args.specs.steps.Options.{EndsOptions, BeginsNoOptions, AreJudged, fault_of}
use Rattle.sr_args.specs.steps.Ranges.{range_form, range_reading}
use Rattle.sr_args.proofs.ChoiceLemmas.{HasNumbers-append, HasNumbers-front, HasIds-front, Choose-numbers}
use Rattle.sr_args.proofs.OptionLemmas.{IsPast-end}

pub range-reads : (words after rest options_rest left : List Word) (key a b : Word) (written : List Written) → words ≡ key ∷ after → after ≡ a ∷ rest → rest ≡ b ∷ options_rest → EndsOptions sets.Range options_rest written left → left ≡ [] → (first second : IdForm) → Reads (range_form first second) words (range_reading key a b written first second)
range-reads words after rest options_rest left key a b written d e f ends none first second = record {
  fits = rw d (refl, (rw e (refl, (rw f (refl, ends.fits [] (rw none tt))))));
  fit = (ends.right, IsPast-end sets.Range, tt);
}

pub range-no_options : (words after rest options_rest : List Word) (key a b : Word) → words ≡ key ∷ after → after ≡ a ∷ rest → rest ≡ b ∷ options_rest → BeginsNoOptions sets.Range options_rest → (first second : IdForm) (reading : Reading (range_form first second)) → Reads (range_form first second) words reading → ⊥
range-no_options words after rest options_rest key a b d e f none first second reading r =
    let fits = rw f at (rw e at (rw d at r.fits)).1 in
    none reading.1.1.1.0 [] r.fit.0 r.fit.1 fits.1.1

pub range-word_left : (words after rest options_rest left behind : List Word) (key a b word : Word) (written : List Written) → words ≡ key ∷ after → after ≡ a ∷ rest → rest ≡ b ∷ options_rest → EndsOptions sets.Range options_rest written left → left ≡ word ∷ behind → (first second : IdForm) (reading : Reading (range_form first second)) → Reads (range_form first second) words reading → ⊥
range-word_left words after rest options_rest left behind key a b word written d e f ends g first second reading r =
    let fits = rw f at (rw e at (rw d at r.fits)).1 in
    rw g at (ends.only reading.1.1.1.0 [] r.fit.0 r.fit.1 fits.1.1).1

-- a fault of the options is that of the command
pub range-fault : {C : Type 0} (first second : IdForm) (call_of : Values (range_form first second) → C) (words : List Word) (key a b : Word) (written : List Written) (fault : ValueFault) → Reads (range_form first second) words (range_reading key a b written first second) → AreJudged written (Err fault) → Gives (range_form first second) call_of words (Err (fault_of fault))
range-fault first second call_of words key a b written faults.Number reads judged =
    (range_reading key a b written first second, reads, λ h. judged (HasNumbers-front (flat_map option_places written) [] h.1.1.1))
range-fault first second call_of words key a b written faults.BadId reads judged =
    (range_reading key a b written first second, reads, (tt, (tt, (tt, HasNumbers-append (flat_map option_places written) [] judged.0 tt))), λ h. judged.1 (HasIds-front (flat_map option_places written) [] h.1.1.1))

pub range-numbers : (first second : IdForm) (key a b : Word) (written : List Written) (choice : Choice) → AreJudged written (Ok choice) → HasNumbers (places (range_form first second) (range_reading key a b written first second))
range-numbers first second key a b written choice judged =
    (tt, (tt, (tt, HasNumbers-append (flat_map option_places written) [] (Choose-numbers written nothing choice judged) tt)))
