use Rattle.std.proofs.Common.{◌≡◌, ◌<◌, ◌∙◌, ap, get_or, length, map, option_map, refl, rules, slice_get, Some, subst, sym}
use Rattle.std.proofs.lemmas.Option.{slice_get_read}
use Rattle.sr_bytes.specs.{AreInOrder, ComesBefore}
use Rattle.sr_policy.specs.steps.Rows.{RowState}
use Rattle.sr_policy.proofs.policy.Policy.row_for.Goals as goal

pub place_of-requires : goal.place_of-requires
place_of-requires c =
    subst (λ classes. AreInOrder ComesBefore (map (λ class. class.0) classes)) (sym c.as_slice.ensures.value)
    c.self.invariant.2.classes

pub returns-clause-rates : goal.returns-clause-rates
returns-clause-rates c =
    let rates = c.self.inside.rates.items in
    let place = c.in_ok-place.place in
    let pair = c.index.result.now in
    let within : place < length rates = search rules in
    let read : pair ≡ get_or rates place pair = search rules in
    let here = slice_get_read rates (length rates) place pair refl within read in
    let second : option_map (λ other. other.1) (slice_get rates place) ≡ Some pair.1 =
    ap (option_map (λ other. other.1)) here in
    let value = rw c.as_slice.ensures.value at c.in_ok-place.ensures.value in
    rw (← c.self.view_is) (ap Some (ap (λ (row : RowState). row.rates) c.new.ensures) ∙ sym (value ∙ second))

pub returns-clause-consumers : goal.returns-clause-consumers
returns-clause-consumers c =
    rw (← c.self.view_is)
    (ap (λ (row : RowState). row.consumers) c.new.ensures ∙ c.as_slice-2.ensures.value ∙ c.self.invariant.0)
