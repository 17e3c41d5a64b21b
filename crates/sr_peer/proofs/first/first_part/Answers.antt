use Rattle.std.proofs.Common.{rules, ◌≡◌, ◌<◌, ℕ, length, get_or, take, subst, sym, arith}
use Rattle.sr_resp.specs.steps.Decoding.{IsLine}
use Rattle.sr_resp.proofs.DecodingLemmas.{IsLine-take}
use Rattle.sr_peer.proofs.FormLemmas.{IsLine-all, nothing-begun}
use Rattle.sr_peer.proofs.first.first_part.Goals as goal

pub returns-in_default : goal.returns-in_default
returns-in_default c = nothing-begun c.args.bytes.now (search rules)

pub part_of_line-requires-clause-line : goal.part_of_line-requires-clause-line
part_of_line-requires-clause-line c =
    let text = c.in-Some.text.now in
    let end = c.in-Some-position.end in
    let within : end < length text = search rules in
    let first : (k : ℕ) → k < end → get_or text k 0 ≡ 13 → ⊥ = search rules in
    let front : c.split_at.result.0.now ≡ take end text = c.split_at.ensures.front in
    subst IsLine (sym front) (IsLine-take text end first (omega arith))

pub begun_part-requires : goal.begun_part-requires
begun_part-requires c =
    let text = c.in-Some.text.now in
    let none : (k : ℕ) → k < length text → get_or text k 0 ≡ 13 → ⊥ = search rules in
    IsLine-all text none
