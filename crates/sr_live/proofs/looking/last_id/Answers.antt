use Rattle.std.proofs.Common.{◌-◌, ◌<◌, ◌∙◌, None, ap, length, map, sym, arith}
use Rattle.std.proofs.lemmas.List.{get_or-map, length-map}
use Rattle.sr_live.specs.declared.looked.Row.{Row}
use Rattle.sr_live.proofs.ListingLemmas.{last_of-last}
use Rattle.sr_live.proofs.looking.last_id.Goals as goal

pub returns-in-Some : goal.returns-in-Some
returns-in-Some c =
    let rows = c.args.rows.now in
    let row = c.in-Some.row.now in
    let item = c.in-Some.ensures.item in
    let some : 0 < length rows = omega arith in
    let count = length-map rows (λ (row : Row). row.id) in
    let read = ap (λ (row : Row). row.id) item.1
    ∙ sym (get_or-map (λ (row : Row). row.id) rows (length rows - 1) row row.id (omega (arith, some))) in
    sym (last_of-last (map (λ (row : Row). row.id) rows) None (length rows - 1) row.id (omega (arith, some, count)) read)
