use Rattle.std.proofs.Common.{rules, ◌≡◌, ◌+◌, ℕ, List, true, false, ap}
use Rattle.std.specs.Option.{is_none}
use Rattle.sr_resp.specs.{bulk_string}
use Rattle.sr_check.specs.steps.Read.{Begins}
use Rattle.sr_check.proofs.PriceLemmas.{one_tier, two_tiers, no_prices-header, no_prices-name, no_prices-first}
use Rattle.sr_check.proofs.PriceLemmas.{no_prices-second, HasPrices-one_tier, HasPrices-two_tiers}
use Rattle.sr_check.proofs.plan.first_prices.Goals as goal

pub returns-in_err-name-clause-none : goal.returns-in_err-name-clause-none
returns-in_err-name-clause-none c = rw c.from_residual.ensures (λ prices after has.
    no_prices-header c.args.consumer.now c.args.bytes.now prices after (c.tiers.result + 1)
    (ap (λ (n : ℕ). n + 1) c.tiers.ensures) c.in_err-name.ensures.none has)

pub returns-in_err-first-clause-none : goal.returns-in_err-first-clause-none
returns-in_err-first-clause-none c = rw c.from_residual-in_err-first.ensures (λ prices after has.
    let consumer = c.args.consumer.now in
    let name = c.in_ok-name.name.now in
    let none : (others : List ℕ) → Begins name (bulk_string consumer.name) others → ⊥ = search rules in
    no_prices-name consumer c.args.bytes.now name prices after (c.tiers.result + 1)
    (ap (λ (n : ℕ). n + 1) c.tiers.ensures)
    c.in_ok-name.ensures.found none has)

pub returns-in_err-price-clause-none : goal.returns-in_err-price-clause-none
returns-in_err-price-clause-none c = rw c.from_residual-in_err-price.ensures (λ prices after has.
    let consumer = c.args.consumer.now in
    let name = c.in_ok-name.name.now in
    let first = c.in_ok-first.first.now in
    let named : Begins name (bulk_string consumer.name) first = search rules in
    no_prices-first consumer c.args.bytes.now name first prices after (c.tiers.result + 1)
    (ap (λ (n : ℕ). n + 1) c.tiers.ensures) c.in_ok-name.ensures.found named c.in_err-price.ensures.none has)

pub returns-then-is_none-clause-found : goal.returns-then-is_none-clause-found
returns-then-is_none-clause-found c =
    let consumer = c.args.consumer.now in
    let name = c.in_ok-name.name.now in
    let first = c.in_ok-first.first.now in
    let named : Begins name (bulk_string consumer.name) first = search rules in
    let none : is_none consumer.tier ≡ true = search rules in
    HasPrices-one_tier consumer c.args.bytes.now name first c.in_ok-price.second.now (c.tiers.result + 1)
    c.in_ok-price.price (ap (λ (n : ℕ). n + 1) c.tiers.ensures) c.in_ok-name.ensures.found named
    c.in_ok-price.ensures.found (one_tier consumer none)

pub returns-in_err-next-clause-none : goal.returns-in_err-next-clause-none
returns-in_err-next-clause-none c = rw c.from_residual-in_err-next.ensures (λ prices after has.
    let consumer = c.args.consumer.now in
    let name = c.in_ok-name.name.now in
    let first = c.in_ok-first.first.now in
    let named : Begins name (bulk_string consumer.name) first = search rules in
    let some : is_none consumer.tier ≡ false = search rules in
    no_prices-second consumer c.args.bytes.now name first c.in_ok-price.second.now prices after (c.tiers.result + 1)
    c.in_ok-price.price (ap (λ (n : ℕ). n + 1) c.tiers.ensures) c.in_ok-name.ensures.found named
    c.in_ok-price.ensures.found (two_tiers consumer some) c.in_err-next.ensures.none has)

pub returns-clause-found : goal.returns-clause-found
returns-clause-found c =
    let consumer = c.args.consumer.now in
    let name = c.in_ok-name.name.now in
    let first = c.in_ok-first.first.now in
    let named : Begins name (bulk_string consumer.name) first = search rules in
    let some : is_none consumer.tier ≡ false = search rules in
    HasPrices-two_tiers consumer c.args.bytes.now name first c.in_ok-price.second.now c.in_ok-next.after.now
    (c.tiers.result + 1) c.in_ok-price.price c.in_ok-next.next (ap (λ (n : ℕ). n + 1) c.tiers.ensures)
    c.in_ok-name.ensures.found named c.in_ok-price.ensures.found c.in_ok-next.ensures.found (two_tiers consumer some)
