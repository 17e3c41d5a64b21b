use Rattle.std.proofs.Common.{rules, ◌≡◌, ◌≤◌, ◌<◌, ◌∙◌, ap, sym, cond, length, get_or, option_map, Some, None, refl}
use Rattle.std.proofs.lemmas.Option.{slice_get_past, slice_get_read}
use Rattle.sr_policy.proofs.NameLemmas.{held_by, value_at-place}
use Rattle.sr_policy.proofs.numbers.place_of.Goals as goal

pub returns-in_err-other-clause-value : goal.returns-in_err-other-clause-value
returns-in_err-other-clause-value g c =
    let name = c.args.name.now in
    let pairs = c.args.pairs.now in
    let place = c.place_for-place.result in
    let decides = value_at-place name pairs place c.requires c.place_for-place.ensures.bound c.place_for-place.ensures.place in
    let past : length pairs ≤ place = search rules in
    rw c.from_residual.ensures (decides ∙ ap (held_by name) (slice_get_past pairs place past))

pub returns-then-eq-clause-value : goal.returns-then-eq-clause-value
returns-then-eq-clause-value g c =
    let name = c.args.name.now in
    let pairs = c.args.pairs.now in
    let place = c.place_for-place.result in
    let pair = c.in_ok-other.field-0.now in
    let decides = value_at-place name pairs place c.requires c.place_for-place.ensures.bound c.place_for-place.ensures.place in
    let within : place < length pairs = search rules in
    let read : pair ≡ get_or pairs place pair = search rules in
    let here = slice_get_read pairs (length pairs) place pair refl within read in
    decides ∙ ap (held_by name) here
    ∙ ap (λ same. cond same (Some pair.1) None) (sym c.eq.ensures ∙ c.if-eq.true)
    ∙ sym (ap (option_map (λ other. other.1)) here)

pub returns-else-eq-clause-value : goal.returns-else-eq-clause-value
returns-else-eq-clause-value g c =
    let name = c.args.name.now in
    let pairs = c.args.pairs.now in
    let place = c.place_for-place.result in
    let pair = c.in_ok-other.field-0.now in
    let decides = value_at-place name pairs place c.requires c.place_for-place.ensures.bound c.place_for-place.ensures.place in
    let within : place < length pairs = search rules in
    let read : pair ≡ get_or pairs place pair = search rules in
    let here = slice_get_read pairs (length pairs) place pair refl within read in
    decides ∙ ap (held_by name) here
    ∙ ap (λ same. cond same (Some pair.1) None) (sym c.eq.ensures ∙ c.if-eq.false)
