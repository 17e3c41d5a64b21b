use Rattle.std.proofs.Common.{rules, ◌≡◌, ◌≢◌, ℕ, List, Some, None, ◌++◌, refl, arith}
use Rattle.std.specs.Prelude.{codes}
use Rattle.std.proofs.lemmas.Bool.Decides.{Decides-eqb}
use Rattle.std.proofs.lemmas.Slice.Eq.{strip_suffix_is}
use Rattle.sr_ids.specs.Spec.IsSpec.{in_millisecond, written}
use Rattle.sr_ids.proofs.SpecLemmas.{IsSpec-in_millisecond, IsSpec-written}
use Rattle.sr_ids.proofs.parse.parse_spec.Goals as goal

pub returns-in_err-read_decimal-in-Some-clause-none : goal.returns-in_err-read_decimal-in-Some-clause-none
returns-in_err-read_decimal-in-Some-clause-none c = rw c.from_residual.ensures (λ spec asks.
    let text = c.args.text.now in
    let digits = c.in-Some.digits.now in
    let whole : text ≡ digits ++ codes "-*" = strip_suffix_is Decides-eqb text (codes "-*") (Some c.in-Some.digits) c.in-Some.ensures.cases in
    let other = IsSpec-in_millisecond text digits spec whole asks in
    c.in_err-read_decimal-in-Some.ensures.none other.0 other.2 other.1)

pub returns-in_err-parse_strict-in-None-clause-none : goal.returns-in_err-parse_strict-in-None-clause-none
returns-in_err-parse_strict-in-None-clause-none c = rw c.from_residual-in_err-parse_strict-in-None.ensures (λ spec asks.
    let text = c.args.text.now in
    let no_star : text ≡ codes "*" → ⊥ = search rules in
    let no_dash_star : (digits : List ℕ) → text ≢ digits ++ codes "-*" = strip_suffix_is Decides-eqb text (codes "-*") None c.in-None.ensures.cases in
    let other = IsSpec-written text spec no_star no_dash_star asks in
    c.in_err-parse_strict-in-None.ensures.none other.0 other.1)

pub returns-in_ok-read_decimal-in-Some-clause-found : goal.returns-in_ok-read_decimal-in-Some-clause-found
returns-in_ok-read_decimal-in-Some-clause-found c =
    let text = c.args.text.now in
    let digits = c.in-Some.digits.now in
    let whole : text ≡ digits ++ codes "-*" = strip_suffix_is Decides-eqb text (codes "-*") (Some c.in-Some.digits) c.in-Some.ensures.cases in
    in_millisecond digits c.in_ok-read_decimal-in-Some.field-0 whole c.in_ok-read_decimal-in-Some.ensures.found (omega arith) refl

pub returns-in_ok-parse_strict-in-None-clause-found : goal.returns-in_ok-parse_strict-in-None-clause-found
returns-in_ok-parse_strict-in-None-clause-found c = written c.in_ok-parse_strict-in-None.field-0 c.in_ok-parse_strict-in-None.ensures.found refl
