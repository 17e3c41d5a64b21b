-- What a command with streams answers, over its options, keys and ids.
use Rattle.std.proofs.Common.{◌≡◌, List, ◌∷◌, ◌++◌, map, Option, Some, IsSome, Ok, Err, refl}
use Rattle.std.specs.List.{flat_map}
use Rattle.sr_args.specs.declared.name.OptionName.TheVariants.{Streams}
use Rattle.sr_args.specs.declared.name.Choice.{Choice}
use Rattle.sr_args.specs.declared.name.OptionSet.{OptionSet}
use Rattle.sr_args.specs.declared.options.ValueFault.{ValueFault}
use Rattle.sr_args.specs.declared.options.ValueFault.TheVariants as faults
use Rattle.sr_args.specs.FormWord.{Word, FormWord, IdForm, any, option, spelled, HasNumbers, HasIds}
use Rattle.sr_args.specs.Name.{nothing}
use Rattle.sr_args.specs.Options.{Written, option_places, group_in}
use Rattle.sr_args.specs.Form.{streams, Values, Reads, places}
use Rattle.sr_args.specs.steps.Gives.{Gives}
use Rattle.sr_args.specs.steps.Options.{AreJudged, EndsOptions, fault_of}
use Rattle.sr_args.specs.steps.Streams.{streams_form, streams_reading, grouped_form, grouped_reading}
use Rattle.sr_args.proofs.ChoiceLemmas.{HasNumbers-append, HasNumbers-front, HasIds-front, HasIds-back, Choose-numbers}
use Rattle.sr_args.proofs.FormLemmas.{ids-numbers}
use Rattle.sr_args.proofs.OptionLemmas.{IsPast-streams}
use Rattle.sr_args.proofs.StreamsLemmas.{keys-numbers, ids-from_streams}

abbrev streams_places : IdForm → (keys ids : List Word) → List FormWord
streams_places spelling keys ids = option Streams ∷ map any keys ++ map (spelled spelling) ids

pub read-reads : (set : OptionSet) (spelling : IdForm) (words left : List Word) (written : List Written) (keys ids : List Word) → EndsOptions set words written left → Reads (streams spelling) left (keys, ids) → Reads (streams_form set spelling) words (streams_reading set spelling written keys ids)
read-reads set spelling words left written keys ids ends r = record {
  fits = ends.fits (streams_places spelling keys ids) r.fits;
  fit = (ends.right, IsPast-streams set (map any keys ++ map (spelled spelling) ids), r.fit);
}

streams-numbers : (spelling : IdForm) (keys ids : List Word) → HasNumbers (streams_places spelling keys ids)
streams-numbers spelling keys ids = (tt, keys-numbers keys (map (spelled spelling) ids) (ids-numbers spelling ids))

-- a fault of the options is that of the command
pub read-fault : {C : Type 0} (set : OptionSet) (spelling : IdForm) (call_of : Values (streams_form set spelling) → C) (words : List Word) (written : List Written) (keys ids : List Word) (fault : ValueFault) → Reads (streams_form set spelling) words (streams_reading set spelling written keys ids) → AreJudged written (Err fault) → Gives (streams_form set spelling) call_of words (Err (fault_of fault))
read-fault set spelling call_of words written keys ids faults.Number reads judged =
    (streams_reading set spelling written keys ids, reads, λ h. judged (HasNumbers-front (flat_map option_places written) (streams_places spelling keys ids) h))
read-fault set spelling call_of words written keys ids faults.BadId reads judged =
    (streams_reading set spelling written keys ids, reads, HasNumbers-append (flat_map option_places written) (streams_places spelling keys ids) judged.0 (streams-numbers spelling keys ids), λ h. judged.1 (HasIds-front (flat_map option_places written) (streams_places spelling keys ids) h))

pub read-numbers : (set : OptionSet) (spelling : IdForm) (written : List Written) (keys ids : List Word) (choice : Choice) → AreJudged written (Ok choice) → HasNumbers (places (streams_form set spelling) (streams_reading set spelling written keys ids))
read-numbers set spelling written keys ids choice judged =
    HasNumbers-append (flat_map option_places written) (streams_places spelling keys ids) (Choose-numbers written nothing choice judged) (streams-numbers spelling keys ids)

pub read-ids : (set : OptionSet) (spelling : IdForm) (written : List Written) (keys ids : List Word) → HasIds (places (streams_form set spelling) (streams_reading set spelling written keys ids)) → HasIds (map (spelled spelling) ids)
read-ids set spelling written keys ids h =
    ids-from_streams keys (map (spelled spelling) ids) (HasIds-back (flat_map option_places written) (streams_places spelling keys ids) h).1

-- the same of a command whose options name a group and a consumer
some-from_is : (named : Option (Word × Word)) (found : Word × Word) → named ≡ Some found → IsSome named
some-from_is named found e = rw e refl

pub grouped-reads : (set : OptionSet) (spelling : IdForm) (words left : List Word) (written : List Written) (keys ids : List Word) (found : Word × Word) → EndsOptions set words written left → group_in written ≡ Some found → Reads (streams spelling) left (keys, ids) → Reads (grouped_form set spelling) words (grouped_reading set spelling written keys ids)
grouped-reads set spelling words left written keys ids found ends named r = record {
  fits = ends.fits (streams_places spelling keys ids) r.fits;
  fit = (ends.right, IsPast-streams set (map any keys ++ map (spelled spelling) ids), some-from_is (group_in written) found named, r.fit);
}

pub grouped-fault : {C : Type 0} (set : OptionSet) (spelling : IdForm) (call_of : Values (grouped_form set spelling) → C) (words : List Word) (written : List Written) (keys ids : List Word) (fault : ValueFault) → Reads (grouped_form set spelling) words (grouped_reading set spelling written keys ids) → AreJudged written (Err fault) → Gives (grouped_form set spelling) call_of words (Err (fault_of fault))
grouped-fault set spelling call_of words written keys ids faults.Number reads judged =
    (grouped_reading set spelling written keys ids, reads, λ h. judged (HasNumbers-front (flat_map option_places written) (streams_places spelling keys ids) h))
grouped-fault set spelling call_of words written keys ids faults.BadId reads judged =
    (grouped_reading set spelling written keys ids, reads, HasNumbers-append (flat_map option_places written) (streams_places spelling keys ids) judged.0 (streams-numbers spelling keys ids), λ h. judged.1 (HasIds-front (flat_map option_places written) (streams_places spelling keys ids) h))
