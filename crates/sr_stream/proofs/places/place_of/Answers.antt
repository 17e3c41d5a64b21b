use Rattle.std.proofs.Common.{rules, ◌≡◌, ℕ, ◌≤◌, ◌<◌, Bool, true, false, List, Some, None, length, slice_get, get_or, sym, ap, ◌∙◌, refl}
use Rattle.std.proofs.lemmas.Option.{slice_get_past, slice_get_read}
use Rattle.sr_bytes.specs.{comes_before}
use Rattle.sr_group.specs.{KeptGroup}
use Rattle.sr_pending.specs.{is_same_name}
use Rattle.sr_pending.proofs.Splitting.{Splits-counted}
use Rattle.sr_group.proofs.NameLemmas.{is_same_name-refl, is_same_name-true}
use Rattle.sr_stream.specs.steps.Places.{before}
use Rattle.sr_stream.proofs.GroupsLemmas.{before_first, has_group-no_place}
use Rattle.sr_stream.proofs.places.place_of.Goals as goal

pub returns-in-None-clause-none : goal.returns-in-None-clause-none
returns-in-None-clause-none c =
    let groups = c.args.groups.now in
    let name = c.args.name.now in
    let first : List ℕ × KeptGroup → Bool = λ x. comes_before x.0 name in
    let place = before name groups in
    let past : length groups ≤ c.count_before-place.result = search rules in
    let nothing : slice_get groups place ≡ None = rw c.count_before-place.ensures at (slice_get_past groups c.count_before-place.result past) in
    has_group-no_place name groups place c.requires (Splits-counted first groups (before_first groups name c.requires)) (λ x here same. absurd (let both = sym nothing ∙ here in cc))

pub returns-then-eq-clause-found : goal.returns-then-eq-clause-found
returns-then-eq-clause-found c =
    let groups = c.args.groups.now in
    let place = c.count_before-place.result in
    let named = c.in-Some.named.now in
    let within : place < length groups = search rules in
    let read : named ≡ get_or groups place named = search rules in
    let same : named.0 ≡ c.args.name.now = sym c.name.ensures ∙ is_same_name-true c.name.result.now c.args.name.now (sym c.eq.ensures.value ∙ c.if-eq.true) in
    record {
      group = named.1;
      here = slice_get_read groups (length groups) place named refl within read ∙ ap (λ (n : List ℕ). Some (n, named.1)) same;
    }

pub returns-else-eq-clause-none : goal.returns-else-eq-clause-none
returns-else-eq-clause-none c =
    let groups = c.args.groups.now in
    let name = c.args.name.now in
    let first : List ℕ × KeptGroup → Bool = λ x. comes_before x.0 name in
    let place = before name groups in
    let named = c.in-Some.named.now in
    let within : c.count_before-place.result < length groups = search rules in
    let read : named ≡ get_or groups c.count_before-place.result named = search rules in
    let here : slice_get groups place ≡ Some named = rw c.count_before-place.ensures at (slice_get_read groups (length groups) c.count_before-place.result named refl within read) in
    let apart : is_same_name named.0 name ≡ false = ap (λ (n : List ℕ). is_same_name n name) (sym c.name.ensures) ∙ sym c.eq.ensures.value ∙ c.if-eq.false in
    has_group-no_place name groups place c.requires (Splits-counted first groups (before_first groups name c.requires)) (λ x there same.
    let one : named ≡ x = let both = sym here ∙ there in cc in
    let test : is_same_name named.0 name ≡ true = rw (one, same) (is_same_name-refl name) in
    absurd (let both = sym apart ∙ test in cc))
