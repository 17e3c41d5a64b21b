use Rattle.std.proofs.Common.{rules, ◌≡◌, ◌≤◌, ◌<◌, ◌∙◌, ap, sym, length, get_or, refl}
use Rattle.std.proofs.lemmas.Option.{slice_get_past, slice_get_read}
use Rattle.sr_policy.proofs.NameLemmas.{is_held, is_among-place}
use Rattle.sr_policy.proofs.snapshot_rules.is_among.Goals as goal

pub returns-in-Some : goal.returns-in-Some
returns-in-Some c =
    let name = c.args.name.now in
    let names = c.args.names.now in
    let place = c.place_for.result in
    let other = c.in-Some.other.now in
    let decides = is_among-place name names place c.requires c.place_for.ensures.bound c.place_for.ensures.place in
    let within : place < length names = search rules in
    let read : other ≡ get_or names place other = search rules in
    c.eq.ensures
    ∙ sym (decides ∙ ap (is_held name) (slice_get_read names (length names) place other refl within read))

pub returns-in-None : goal.returns-in-None
returns-in-None c =
    let name = c.args.name.now in
    let names = c.args.names.now in
    let place = c.place_for.result in
    let decides = is_among-place name names place c.requires c.place_for.ensures.bound c.place_for.ensures.place in
    let past : length names ≤ place = search rules in
    sym (decides ∙ ap (is_held name) (slice_get_past names place past))
