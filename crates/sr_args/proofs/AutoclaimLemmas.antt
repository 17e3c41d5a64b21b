-- What XAUTOCLAIM answers, over its words.
use Rattle.std.proofs.Common.{◌≡◌, ℤ, List, [], Ok, Err, ap, to_z, of_z, w64}
use Rattle.std.specs.List.{flat_map}
use Rattle.sr_ids.specs.declared.id.Id.{Id}
use Rattle.sr_ids.specs.{IsStart}
use Rattle.sr_args.specs.declared.call.Call.TheVariants.{Xautoclaim}
use Rattle.sr_args.specs.declared.commands.named.ConsumerNamed.{ConsumerNamed}
use Rattle.sr_args.specs.declared.name.Choice.{Choice}
use Rattle.sr_args.specs.declared.options.ValueFault.{ValueFault}
use Rattle.sr_args.specs.declared.options.ValueFault.TheVariants as faults
use Rattle.sr_args.specs.Number.{IsInt}
use Rattle.sr_args.specs.FormWord.{Word, HasNumbers}
use Rattle.sr_args.specs.Name.{nothing}
use Rattle.sr_args.specs.Options.{Written, option_places}
use Rattle.sr_args.specs.Form.{Reads, places}
use Rattle.sr_args.specs.commands.Xautoclaim.{form, call}
use Rattle.sr_args.specs.steps.Claims.{autoclaim_reading}
use Rattle.sr_args.specs.steps.Gives.{Gives, GivesCall}
use Rattle.sr_args.specs.steps.Options.{AreJudged, fault_of}
use Rattle.sr_args.proofs.ChoiceLemmas.{HasNumbers-append, HasNumbers-front, HasIds-front, Choose-numbers, count-back}

-- a fault of the options is that of the command
pub autoclaim-fault : (words : List Word) (key group consumer least_idle start : Word) (written : List Written) (z : ℤ) (fault : ValueFault) → Reads form words (autoclaim_reading key group consumer least_idle start written) → IsInt least_idle z → AreJudged written (Err fault) → Gives form call words (Err (fault_of fault))
autoclaim-fault words key group consumer least_idle start written z faults.Number reads i judged =
    (autoclaim_reading key group consumer least_idle start written, reads, λ h. judged (HasNumbers-front (flat_map option_places written) [] h.1.1.1.1.1))
autoclaim-fault words key group consumer least_idle start written z faults.BadId reads i judged =
    (autoclaim_reading key group consumer least_idle start written, reads, (tt, (tt, (tt, ((z, i), (tt, HasNumbers-append (flat_map option_places written) [] judged.0 tt))))), λ h. judged.1 (HasIds-front (flat_map option_places written) [] h.1.1.1.1.1))

pub autoclaim-numbers : (key group consumer least_idle start : Word) (written : List Written) (z : ℤ) (choice : Choice) → IsInt least_idle z → AreJudged written (Ok choice) → HasNumbers (places form (autoclaim_reading key group consumer least_idle start written))
autoclaim-numbers key group consumer least_idle start written z choice i judged =
    (tt, (tt, (tt, ((z, i), (tt, HasNumbers-append (flat_map option_places written) [] (Choose-numbers written nothing choice judged) tt)))))

pub autoclaim-gives : (words : List Word) (key group consumer least_idle start : Word) (written : List Written) (named : ConsumerNamed) (z : ℤ) (from : Id) (choice : Choice) → Reads form words (autoclaim_reading key group consumer least_idle start written) → named.key ≡ key → named.group ≡ group → named.consumer ≡ consumer → IsInt least_idle z → IsStart start from → AreJudged written (Ok choice)
    → GivesCall form call words (Xautoclaim (record { key = named.key; group = named.group; consumer = named.consumer; least_idle = to_z w64 (of_z w64 z); start = from; count = choice.count; just_ids = choice.just_ids }))
autoclaim-gives words key group consumer least_idle start written named z from choice reads same_key same_group same_consumer i spells judged = record {
  reading = autoclaim_reading key group consumer least_idle start written;
  reads = reads;
  values = (named.key, (named.group, (named.consumer, (z, (from, (choice, tt))))));
  means = (same_key, (same_group, (same_consumer, (i, (spells, (judged, tt))))));
  is = ap (λ (n : ℤ). Xautoclaim (record { key = named.key; group = named.group; consumer = named.consumer; least_idle = n; start = from; count = choice.count; just_ids = choice.just_ids })) (count-back least_idle z i);
}
