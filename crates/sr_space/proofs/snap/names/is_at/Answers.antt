use Rattle.std.proofs.Common.{rules, ◌≡◌, ◌≤◌, ◌<◌, Bool, List, ℕ, None, length, slice_get, get_or, sym, ◌∙◌, refl, subst}
use Rattle.std.proofs.lemmas.Option.{slice_get_past, slice_get_read}
use Rattle.sr_bytes.specs.{comes_before}
use Rattle.sr_pending.proofs.Splitting.{Splits}
use Rattle.sr_space.proofs.NameOrderLemmas.{among-place, names_rise, not_among-no_place, splits_before}
use Rattle.sr_space.proofs.snap.names.is_at.Goals as goal

pub returns-in-None : goal.returns-in-None
returns-in-None c =
    let names = c.args.names.now in
    let name = c.args.name.now in
    let first : List ℕ → Bool = λ other. comes_before other name in
    let splits : Splits first names c.args.place = subst (λ n. Splits first names n) (sym c.requires.place) (splits_before names name (names_rise names c.requires.order)) in
    let past : length names ≤ c.args.place = search rules in
    sym (not_among-no_place name names c.args.place splits (slice_get_past names c.args.place past))

pub returns-in-Some : goal.returns-in-Some
returns-in-Some c =
    let names = c.args.names.now in
    let name = c.args.name.now in
    let other = c.in-Some.other.now in
    let rises = names_rise names c.requires.order in
    let first : List ℕ → Bool = λ o. comes_before o name in
    let splits : Splits first names c.args.place = subst (λ n. Splits first names n) (sym c.requires.place) (splits_before names name rises) in
    let within : c.args.place < length names = search rules in
    let read : other ≡ get_or names c.args.place other = search rules in
    c.eq.ensures.value ∙ sym (among-place name names c.args.place other rises splits (slice_get_read names (length names) c.args.place other refl within read))
