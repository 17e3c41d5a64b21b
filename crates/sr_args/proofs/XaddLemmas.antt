-- The words of XADD once its options are read.
use Rattle.std.proofs.Common.{◌≡◌, ◌≢◌, ℕ, ◌*◌, ◌%◌, ◌/◌, ◌-◌, suc, zero, List, [], ◌∷◌, length, Err, refl, sym, arith, subst}
use Rattle.std.specs.List.{flat_map}
use Rattle.sr_ids.specs.declared.spec.Spec.{Spec}
use Rattle.sr_ids.specs.{IsSpec}
use Rattle.sr_args.specs.declared.name.Choice.{Choice}
use Rattle.sr_args.specs.declared.name.OptionSet.TheVariants as sets
use Rattle.sr_args.specs.declared.options.ValueFault.{ValueFault}
use Rattle.sr_args.specs.declared.options.ValueFault.TheVariants as faults
use Rattle.sr_args.specs.FormWord.{Word, Fits, HasNumbers, HasIds, spelled, new_id}
use Rattle.sr_args.specs.Form.{Reading, Reads, pair_places, places}
use Rattle.sr_args.specs.Name.{nothing}
use Rattle.sr_args.specs.Options.{Written, option_places, Choose}
use Rattle.sr_args.specs.commands.Xadd.{form, call}
use Rattle.sr_args.specs.steps.Gives.{Gives, GivesCall}
use Rattle.sr_args.specs.steps.Options.{AreJudged, EndsOptions, fault_of}
use Rattle.sr_bytes.specs.PackedWords.{paired}
use Rattle.sr_args.proofs.ChoiceLemmas.{HasNumbers-append, HasNumbers-front, HasIds-front, HasIds-back, Choose-numbers}
use Rattle.sr_args.proofs.FormLemmas.{pairs-numbers}
use Rattle.sr_args.proofs.OptionLemmas.{IsPast-id}

-- words two by two
Fits-pairs : (n : ℕ) (words : List Word) → length words ≡ 2 * n → Fits words (flat_map pair_places (paired words))
Fits-pairs n [] e = tt
Fits-pairs n (w ∷ []) e = absurd (omega arith)
Fits-pairs zero (w ∷ v ∷ words) e = absurd (omega arith)
Fits-pairs (suc n) (w ∷ v ∷ words) e = (refl, (refl, Fits-pairs n words (omega arith)))

some-pair : (words : List Word) (n : ℕ) → length words ≡ 2 * suc n → paired words ≢ []
some-pair [] n e = λ none. omega arith
some-pair (w ∷ []) n e = λ none. omega arith
some-pair (w ∷ v ∷ words) n e = λ none. cc

length-pairs : (words : List Word) (fields : List (Word × Word)) → Fits words (flat_map pair_places fields) → length words ≡ 2 * length fields
length-pairs [] [] f = refl
length-pairs (w ∷ words) [] f = absurd f
length-pairs [] (p ∷ fields) f = absurd f
length-pairs (w ∷ []) (p ∷ fields) f = absurd f.1
length-pairs (w ∷ v ∷ words) (p ∷ fields) f = omega (arith, length-pairs words fields f.1.1)

-- an id, and at least one field with its value
pub record AreIdAndFields (words : List Word) : Type 0 where
  pub id : Word
  pub rest : List Word
  pub fields : ℕ
  pub are : words ≡ id ∷ rest
  pub paired : length rest ≡ 2 * suc fields

id_and_fields : (words : List Word) (id : Word) (fields : List (Word × Word)) → Fits words (spelled new_id id ∷ flat_map pair_places fields) → fields ≢ [] → AreIdAndFields words
id_and_fields words id [] f some = absurd (some refl)
id_and_fields [] id (p ∷ fields) f some = absurd f
id_and_fields (word ∷ rest) id (p ∷ fields) f some = record {
  id = word;
  rest = rest;
  fields = length fields;
  are = refl;
  paired = length-pairs rest (p ∷ fields) f.1;
}

pub xadd-rest : (words : List Word) (key : Word) (rest : List Word) (written : List Written) (left : List Word) → words ≡ key ∷ rest → EndsOptions sets.Xadd rest written left → (reading : Reading form) → Reads form words reading → AreIdAndFields left
xadd-rest words key rest written left e ends reading r =
    let fits : Fits (key ∷ rest) (places form reading) = subst (λ (ws : List Word). Fits ws (places form reading)) e r.fits in
    let one = ends.only reading.1.0 (spelled new_id reading.1.1.0 ∷ flat_map pair_places reading.1.1.1) r.fit.0 r.fit.1 fits.1 in
    id_and_fields left reading.1.1.0 reading.1.1.1 one.1 r.fit.2

pub fields-paired : (words : List Word) (id : Word) (rest : List Word) → words ≡ id ∷ rest → AreIdAndFields words → (n : ℕ) × (length rest ≡ 2 * suc n)
fields-paired words id rest e i = let one : rest ≡ i.rest = let are = i.are in cc in (i.fields, subst (λ (ws : List Word). length ws ≡ 2 * suc i.fields) (sym one) i.paired)

pub even-some : (words : List Word) (many : ℕ) → (words ≡ [] → ⊥) → many ≡ length words → many % 2 ≡ 0 → length words ≡ 2 * suc (length words / 2 - 1)
even-some [] many some e even = absurd (some refl)
even-some (word ∷ words) many some e even = omega arith

pub xadd-reads : (words : List Word) (key : Word) (rest : List Word) (written : List Written) (left : List Word) (id : Word) (fields : List Word) (n : ℕ) → words ≡ key ∷ rest → EndsOptions sets.Xadd rest written left → left ≡ id ∷ fields → length fields ≡ 2 * suc n → Reads form words (key, (written, (id, paired fields)))
xadd-reads words key rest written left id fields n e ends at even =
    let here : Fits (id ∷ fields) (spelled new_id id ∷ flat_map pair_places (paired fields)) = (refl, Fits-pairs (suc n) fields even) in
    let fits : Fits left (spelled new_id id ∷ flat_map pair_places (paired fields)) = subst (λ (ws : List Word). Fits ws (spelled new_id id ∷ flat_map pair_places (paired fields))) (sym at) here in
    record {
      fits = subst (λ (ws : List Word). Fits ws (places form (key, (written, (id, paired fields))))) (sym e) (refl, ends.fits (spelled new_id id ∷ flat_map pair_places (paired fields)) fits);
      fit = (ends.right, IsPast-id sets.Xadd new_id id (flat_map pair_places (paired fields)) (ends.past id fields at), some-pair fields n even);
    }

xadd-numbers : (key : Word) (written : List Written) (id : Word) (fields : List (Word × Word)) → HasNumbers (flat_map option_places written) → HasNumbers (places form (key, (written, (id, fields))))
xadd-numbers key written id fields n =
    (tt, HasNumbers-append (flat_map option_places written) (spelled new_id id ∷ flat_map pair_places fields) n (tt, pairs-numbers fields))

-- the fault of the options, or of the id, is that of the command
pub Gives-from_options : (words : List Word) (key : Word) (written : List Written) (id : Word) (fields : List (Word × Word)) (fault : ValueFault) → Reads form words (key, (written, (id, fields))) → AreJudged written (Err fault) → Gives form call words (Err (fault_of fault))
Gives-from_options words key written id fields faults.Number r j =
    ((key, (written, (id, fields))), r, λ n. j (HasNumbers-front (flat_map option_places written) (spelled new_id id ∷ flat_map pair_places fields) n.1))
Gives-from_options words key written id fields faults.BadId r j =
    ((key, (written, (id, fields))), r, xadd-numbers key written id fields j.0, λ i. j.1 (HasIds-front (flat_map option_places written) (spelled new_id id ∷ flat_map pair_places fields) i.1))

pub xadd-bad_id : (words : List Word) (key : Word) (written : List Written) (id : Word) (fields : List (Word × Word)) (choice : Choice) → Reads form words (key, (written, (id, fields))) → Choose written nothing choice → ((spec : Spec) → IsSpec id spec → ⊥) → (reading : Reading form) × Reads form words reading × HasNumbers (places form reading) × (HasIds (places form reading) → ⊥)
xadd-bad_id words key written id fields choice r chosen none = (
  (key, (written, (id, fields))),
  r,
  xadd-numbers key written id fields (Choose-numbers written nothing choice chosen),
  λ i.
      let last = (HasIds-back (flat_map option_places written) (spelled new_id id ∷ flat_map pair_places fields) i.1).0 in
      none last.0 last.1,
)

pub xadd-gives : (words : List Word) (key copy : Word) (written : List Written) (id : Word) (fields copied : List (Word × Word)) (choice : Choice) (spec : Spec) → Reads form words (key, (written, (id, fields))) → copy ≡ key → Choose written nothing choice → IsSpec id spec → copied ≡ fields → GivesCall form call words (call (copy, (choice, (spec, copied))))
xadd-gives words key copy written id fields copied choice spec r same chosen spells e =
    record { reading = (key, (written, (id, fields))); reads = r; values = (copy, (choice, (spec, copied))); means = (same, (chosen, (spells, e))); is = refl }
