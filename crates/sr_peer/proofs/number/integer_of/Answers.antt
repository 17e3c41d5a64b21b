use Rattle.std.proofs.Common.{rules, ◌≡◌, ◌∙◌, ◌^◌, ◌<◌, ◌∷◌, drop, arith}
use Rattle.std.proofs.lemmas.List.{take_rest}
use Rattle.sr_resp.proofs.DecodingLemmas.{negative-none, negative-one, plain-one}
use Rattle.sr_peer.proofs.number.integer_of.Goals as goal

pub returns-in_err-number_of-in-45-clause-none : goal.returns-in_err-number_of-in-45-clause-none
returns-in_err-number_of-in-45-clause-none c = rw c.from_residual.ensures (λ n small e.
    let text = c.args.text.now in
    let minus : text ≡ 45 ∷ drop 1 text = search rules in
    negative-none (drop 1 text) n (λ k few is. c.in_err-number_of-in-45.ensures.none k few (rw take_rest is)) small
    (e ∙ minus))

pub returns-in_err-above-in-45-clause-none : goal.returns-in_err-above-in-45-clause-none
returns-in_err-above-in-45-clause-none c = rw c.from_residual-in_err-above-in-45.ensures (λ n small e.
    let text = c.args.text.now in
    let m = c.in_ok-number_of-in-45.field-0 in
    let minus : text ≡ 45 ∷ drop 1 text = search rules in
    let fits : m < 2 ^ 64 = search rules in
    let is = negative-one (drop 1 text) m n fits (rw take_rest at c.in_ok-number_of-in-45.ensures.found) small
    (e ∙ minus) in
    omega (arith, is.0, c.in_err-above-in-45.ensures))

pub returns-then-above-clause-none : goal.returns-then-above-clause-none
returns-then-above-clause-none c = λ n small e.
    let text = c.args.text.now in
    let m = c.in_ok-number_of-in-45.field-0 in
    let minus : text ≡ 45 ∷ drop 1 text = search rules in
    let fits : m < 2 ^ 64 = search rules in
    let is = negative-one (drop 1 text) m n fits (rw take_rest at c.in_ok-number_of-in-45.ensures.found) small
    (e ∙ minus) in
    omega (arith, is.1, c.if-above.true, c.in_ok-above-in-45.ensures)

pub returns-then-n-clause-none : goal.returns-then-n-clause-none
returns-then-n-clause-none c = λ n small e.
    let m = c.in_ok-n-in_default.n in
    let fits : m < 2 ^ 64 = search rules in
    let is = plain-one c.args.text.now m n fits c.in_ok-n-in_default.ensures.found small e in
    omega (arith, is, c.if-n.true)
