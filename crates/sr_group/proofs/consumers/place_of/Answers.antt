use Rattle.std.proofs.Common.{rules, ◌≡◌, ◌≤◌, ◌<◌, Bool, true, false, Some, None, length, slice_get, get_or, sym, ◌∙◌, refl}
use Rattle.std.proofs.lemmas.Option.{slice_get_past, slice_get_read}
use Rattle.sr_bytes.specs.{comes_before}
use Rattle.sr_pending.specs.{is_same_name}
use Rattle.sr_pending.proofs.Splitting.{Splits-counted}
use Rattle.sr_group.specs.declared.consumer.Consumer.{Consumer}
use Rattle.sr_group.specs.steps.Consumers.{before}
use Rattle.sr_group.proofs.ConsumerLemmas.{before_first, has_consumer-no_place}
use Rattle.sr_group.proofs.NameLemmas.{is_same_name-refl, is_same_name-true}
use Rattle.sr_group.proofs.consumers.place_of.Goals as goal

pub returns-in-None-clause-none : goal.returns-in-None-clause-none
returns-in-None-clause-none c =
    let consumers = c.args.consumers.now in
    let name = c.args.name.now in
    let first : Consumer → Bool = λ x. comes_before x.name name in
    let place = before name consumers in
    let past : length consumers ≤ c.count_before-place.result = search rules in
    let nothing : slice_get consumers place ≡ None = rw c.count_before-place.ensures at (slice_get_past consumers c.count_before-place.result past) in
    has_consumer-no_place name consumers place c.requires (Splits-counted first consumers (before_first consumers name c.requires)) (λ x here same. absurd (let both = sym nothing ∙ here in cc))

pub returns-then-eq-clause-found : goal.returns-then-eq-clause-found
returns-then-eq-clause-found c =
    let consumers = c.args.consumers.now in
    let place = c.count_before-place.result in
    let consumer = c.in-Some.consumer.now in
    let within : place < length consumers = search rules in
    let read : consumer ≡ get_or consumers place consumer = search rules in
    record {
      consumer = consumer;
      here = slice_get_read consumers (length consumers) place consumer refl within read;
      same = is_same_name-true consumer.name c.args.name.now (sym c.eq.ensures.value ∙ c.if-eq.true);
    }

pub returns-else-eq-clause-none : goal.returns-else-eq-clause-none
returns-else-eq-clause-none c =
    let consumers = c.args.consumers.now in
    let name = c.args.name.now in
    let first : Consumer → Bool = λ x. comes_before x.name name in
    let place = before name consumers in
    let consumer = c.in-Some.consumer.now in
    let within : c.count_before-place.result < length consumers = search rules in
    let read : consumer ≡ get_or consumers c.count_before-place.result consumer = search rules in
    let here : slice_get consumers place ≡ Some consumer = rw c.count_before-place.ensures at (slice_get_read consumers (length consumers) c.count_before-place.result consumer refl within read) in
    let apart : is_same_name consumer.name name ≡ false = sym c.eq.ensures.value ∙ c.if-eq.false in
    has_consumer-no_place name consumers place c.requires (Splits-counted first consumers (before_first consumers name c.requires)) (λ x there same.
    let one : consumer ≡ x = let both = sym here ∙ there in cc in
    let test : is_same_name consumer.name name ≡ true = rw (one, same) (is_same_name-refl name) in
    absurd (let both = sym apart ∙ test in cc))
