use Rattle.std.proofs.Common.{◌≡◌, ℕ, List, true, false, ap, sym, ◌∙◌}
use Rattle.std.proofs.lemmas.Result.{on_ok_weaker}
use Rattle.std.specs.List.{insert}
use Rattle.sr_policy.specs.{is_among}
use Rattle.sr_bytes.specs.{with_name}
use Rattle.sr_space.specs.steps.Snapping.{count_before}
use Rattle.sr_space.proofs.NameOrderLemmas.{names_rise, with_name-among, with_name-insert}
use Rattle.sr_space.proofs.snap.names.add_name.Goals as goal

pub returns-then-is_at : goal.returns-then-is_at
returns-then-is_at c =
    let names = c.args.names.now.items in
    let name = c.args.name.now in
    let there : is_among names name ≡ true = rw c.as_slice-2.ensures.value at (sym c.is_at.ensures ∙ c.if-is_at.true) in
    with_name-among name names (names_rise names c.requires) there

pub returns : goal.returns
returns c =
    let names = c.args.names.now.items in
    let name = c.args.name.now in
    let absent : is_among names name ≡ false = rw c.as_slice-2.ensures.value at (sym c.is_at.ensures ∙ c.if-is_at.false) in
    let place : c.place_for-place.result ≡ count_before name names = rw c.as_slice.ensures.value at c.place_for-place.ensures.value in
    let Put : Type 0 = c.put_at.new.names.items ≡ insert names c.place_for-place.result c.in_ok-name.name in
    let Added : Type 0 = c.put_at.new.names.items ≡ with_name name names in
    on_ok_weaker {P = Put} {Q = Added} c.put_at.result (λ put. put
    ∙ ap (λ (n : ℕ). insert names n c.in_ok-name.name) place
    ∙ ap (λ (t : List ℕ). insert names (count_before name names) t) c.in_ok-name.ensures
    ∙ with_name-insert name names (names_rise names c.requires) absent) c.put_at.ensures
