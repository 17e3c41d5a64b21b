use Rattle.std.proofs.Common.{rules, ◌≡◌, Option, None, ℕ, ◌<◌, List, ◌∷◌, length, get_or, drop, subst, sym, arith}
use Rattle.std.proofs.lemmas.Option.{MatchOption-from_none}
use Rattle.std.specs.Option.{IfNone}
use Rattle.sr_resp.specs.steps.Decoding.{IsLine}
use Rattle.sr_resp.proofs.DecodingLemmas.{IsLine-take, no_line, other_line}
use Rattle.sr_check.proofs.read.first_line.Goals as goal

none_is : {X : Type 0} (o : Option X) (P : Type 0) → o ≡ None → P → IfNone o P
none_is o P e p = subst (λ r. IfNone r P) (sym e) p

pub returns-in_err-end-clause-none : goal.returns-in_err-end-clause-none
returns-in_err-end-clause-none c = none_is _ _ c.from_residual.ensures (λ front after has.
    let text = c.args.bytes.now in
    let none : (k : ℕ) → k < length text → get_or text k 0 ≡ 13 → ⊥ = search rules in
    no_line text front after none has)

pub returns-in_err-strip_prefix-clause-none : goal.returns-in_err-strip_prefix-clause-none
returns-in_err-strip_prefix-clause-none c = none_is _ _ c.from_residual-in_err-strip_prefix.ensures (λ front after has.
    let text = c.args.bytes.now in
    let end = c.in_ok-end.end in
    let within : end < length text =
    subst (λ (t : List ℕ). end < length t) c.iter.ensures.rest c.in_ok-end.ensures.bound in
    let at : get_or text end 0 ≡ 13 = search rules in
    let first : (k : ℕ) → k < end → get_or text k 0 ≡ 13 → ⊥ = search rules in
    let other : (rest : List ℕ) → drop end text ≡ 13 ∷ 10 ∷ rest → ⊥ = search rules in
    other_line text end front after within at first other has)

pub returns-clause-found : goal.returns-clause-found
returns-clause-found c =
    let text = c.args.bytes.now in
    let end = c.in_ok-end.end in
    let within : end < length text =
    subst (λ (t : List ℕ). end < length t) c.iter.ensures.rest c.in_ok-end.ensures.bound in
    let first : (k : ℕ) → k < end → get_or text k 0 ≡ 13 → ⊥ = search rules in
    record {
      whole = search rules;
      one = subst IsLine (sym c.split_at.ensures.front) (IsLine-take text end first (omega (arith, within)));
    }

pub returns-in_err-end-clause-found : goal.returns-in_err-end-clause-found
returns-in_err-end-clause-found c = MatchOption-from_none _ _ c.from_residual.ensures

pub returns-in_err-strip_prefix-clause-found : goal.returns-in_err-strip_prefix-clause-found
returns-in_err-strip_prefix-clause-found c = MatchOption-from_none _ _ c.from_residual-in_err-strip_prefix.ensures

pub returns-clause-none : goal.returns-clause-none
returns-clause-none c = tt
