use Rattle.std.proofs.Common.{rules, ◌≡◌, ℕ, ◌+◌, ◌-◌, ◌<◌, inl, inr, refl, length, get_or, take, drop}
use Rattle.std.proofs.lemmas.List.{take_rest}
use Rattle.sr_ids.proofs.ReadingLemmas.{SpellsId-at_dash, SpellsId-no_dash, cut_at_dash}
use Rattle.sr_ids.proofs.parse.parse_written.Goals as goal

pub returns-in_err-ms-in-Some-clause-none : goal.returns-in_err-ms-in-Some-clause-none
returns-in_err-ms-in-Some-clause-none c = rw c.from_residual-in_err-ms-in-Some.ensures (λ id s.
    let text = c.args.text.now in
    let dash = c.in-Some.dash in
    let within : dash < length text = rw c.iter.ensures.rest at c.in-Some.ensures.bound in
    let at : get_or text dash 0 ≡ 45 = search rules in
    let first : (k : ℕ) → k < dash → get_or text k 0 ≡ 45 → ⊥ = search rules in
    let parts = SpellsId-at_dash c.args.missing text dash id within at first s in
    c.in_err-ms-in-Some.ensures.none id.ms s.valid.ms parts.0)

pub returns-in_err-seq-in-Some-clause-none : goal.returns-in_err-seq-in-Some-clause-none
returns-in_err-seq-in-Some-clause-none c = rw c.from_residual-in_err-seq-in-Some.ensures (λ id s.
    let text = c.args.text.now in
    let dash = c.in-Some.dash in
    let within : dash < length text = rw c.iter.ensures.rest at c.in-Some.ensures.bound in
    let at : get_or text dash 0 ≡ 45 = search rules in
    let first : (k : ℕ) → k < dash → get_or text k 0 ≡ 45 → ⊥ = search rules in
    let parts = SpellsId-at_dash c.args.missing text dash id within at first s in
    c.in_err-seq-in-Some.ensures.none id.seq s.valid.seq (rw take_rest parts.1))

pub returns-in_err-ms-in-None-clause-none : goal.returns-in_err-ms-in-None-clause-none
returns-in_err-ms-in-None-clause-none c = rw c.from_residual.ensures (λ id s.
    let text = c.args.text.now in
    let none : (k : ℕ) → k < length text → get_or text k 0 ≡ 45 → ⊥ = search rules in
    c.in_err-ms-in-None.ensures.none id.ms s.valid.ms (SpellsId-no_dash c.args.missing text id none s))

pub returns-in_ok-ms-in-None-clause-found : goal.returns-in_ok-ms-in-None-clause-found
returns-in_ok-ms-in-None-clause-found c = record {
  valid = search rules;
  written = inr (record { ms = c.in_ok-ms-in-None.ensures.found; seq = refl });
}

pub returns-in_ok-seq-in-Some-clause-found : goal.returns-in_ok-seq-in-Some-clause-found
returns-in_ok-seq-in-Some-clause-found c =
    let text = c.args.text.now in
    let dash = c.in-Some.dash in
    let within : dash < length text = rw c.iter.ensures.rest at c.in-Some.ensures.bound in
    let at : get_or text dash 0 ≡ 45 = search rules in
    record {
      valid = search rules;
      written = inl (record {
        before = take dash text;
        behind = take (length text - (dash + 1)) (drop (dash + 1) text);
        ms = c.in_ok-ms-in-Some.ensures.found;
        seq = c.in_ok-seq-in-Some.ensures.found;
        spelled = cut_at_dash text dash within at;
      });
    }
