use Rattle.std.proofs.Common.{◌-◌, ◌<◌, ◌∙◌, ap, length, sym, arith}
use Rattle.std.proofs.lemmas.List.{get_or-map, length-map}
use Rattle.sr_live.specs.Looking.{ids_in}
use Rattle.sr_live.specs.Said.{Delivered}
use Rattle.sr_live.proofs.ListingLemmas.{last_of-last}
use Rattle.sr_live.proofs.listing.last_after.Goals as goal

pub returns-in-Some : goal.returns-in-Some
returns-in-Some c =
    let page = c.args.page.now in
    let entry = c.in-Some.entry.now in
    let item = c.in-Some.ensures.item in
    let some : 0 < length page = omega arith in
    let count = length-map page (λ (one : Delivered). one.0) in
    let read = ap (λ (one : Delivered). one.0) item.1
    ∙ sym (get_or-map (λ (one : Delivered). one.0) page (length page - 1) entry entry.0 (omega (arith, some))) in
    sym (last_of-last (ids_in page) c.args.before (length page - 1) entry.0 (omega (arith, some, count)) read)
