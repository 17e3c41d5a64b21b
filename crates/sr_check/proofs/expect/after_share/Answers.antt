use Rattle.std.proofs.Common.{rules, ◌++◌, pos, ℕ, List}
use Rattle.sr_resp.specs.{array_header, bulk_string, integer}
use Rattle.sr_resp.proofs.DecodingLemmas.{none-weaker}
use Rattle.sr_check.specs.steps.Read.{Begins}
use Rattle.sr_check.proofs.BeginsLemmas.{Begins-front, Begins-rest}
use Rattle.sr_check.proofs.expect.after_share.Goals as goal

pub returns-in_err-items-clause-none : goal.returns-in_err-items-clause-none
returns-in_err-items-clause-none c = rw c.from_residual.ensures (λ after is.
    c.in_err-items.ensures.none _
    (Begins-front c.args.bytes.now after (array_header 2) (bulk_string c.args.name.now ++ integer (pos c.args.n)) is))

pub returns-in_err-number-clause-none : goal.returns-in_err-number-clause-none
returns-in_err-number-clause-none c = rw c.from_residual-in_err-number.ensures (λ after is.
    let items = c.in_ok-items.items.now in
    let name = c.args.name.now in
    let none : (others : List ℕ) → Begins items (bulk_string name) others → ⊥ = search rules in
    let rest = Begins-rest c.args.bytes.now items after (array_header 2) (bulk_string name ++ integer (pos c.args.n))
    c.in_ok-items.ensures.found is in
    none _ (Begins-front items after (bulk_string name) (integer (pos c.args.n)) rest))

pub returns-clause-none : goal.returns-clause-none
returns-clause-none c =
    let items = c.in_ok-items.items.now in
    let number = c.in_ok-number.number.now in
    let name = c.args.name.now in
    let named : Begins items (bulk_string name) number = search rules in
    none-weaker c.after_integer.result (λ none after is.
    let rest = Begins-rest c.args.bytes.now items after (array_header 2) (bulk_string name ++ integer (pos c.args.n))
    c.in_ok-items.ensures.found is in
    none after (Begins-rest items number after (bulk_string name) (integer (pos c.args.n)) named rest))
    c.after_integer.ensures.none
