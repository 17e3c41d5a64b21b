use Rattle.std.proofs.Common.{rules, ◌≡◌, ℕ, ◌<◌, List, ◌∷◌, length, get_or, take, drop, subst, sym, arith}
use Rattle.sr_resp.specs.steps.Decoding.{IsLine}
use Rattle.sr_resp.proofs.DecodingLemmas.{IsLine-take, no_line, other_line}
use Rattle.sr_resp.proofs.decoding.first_line.Goals as goal

pub returns-in_err-end-clause-none : goal.returns-in_err-end-clause-none
returns-in_err-end-clause-none c = rw c.from_residual.ensures (λ front after has.
    let text = c.args.bytes.now in
    let none : (k : ℕ) → k < length text → get_or text k 0 ≡ 13 → ⊥ = search rules in
    no_line text front after none has)

pub returns-in_err-strip_prefix-clause-none : goal.returns-in_err-strip_prefix-clause-none
returns-in_err-strip_prefix-clause-none c = rw c.from_residual-in_err-strip_prefix.ensures (λ front after has.
    let text = c.args.bytes.now in
    let end = c.in_ok-end.end in
    let within : end < length text = search rules in
    let at : get_or text end 0 ≡ 13 = search rules in
    let first : (k : ℕ) → k < end → get_or text k 0 ≡ 13 → ⊥ = search rules in
    let other : (rest : List ℕ) → drop end text ≡ 13 ∷ 10 ∷ rest → ⊥ = search rules in
    other_line text end front after within at first other has)

pub returns-clause-found : goal.returns-clause-found
returns-clause-found c =
    let text = c.args.bytes.now in
    let end = c.in_ok-end.end in
    let within : end < length text = search rules in
    let first : (k : ℕ) → k < end → get_or text k 0 ≡ 13 → ⊥ = search rules in
    let front : c.split_at.result.0.now ≡ take end text = c.split_at.ensures.front in
    record {
      whole = search rules;
      one = subst IsLine (sym front) (IsLine-take text end first (omega arith));
    }
