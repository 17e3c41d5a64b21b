use Rattle.std.proofs.Common.{rules, ◌≡◌, ◌∷◌, ◌++◌, [], Some, None}
use Rattle.std.specs.Option.{option_to_list}
use Rattle.std.proofs.lemmas.Result.{IfOk-from_err}
use Rattle.sr_check.proofs.PriceLemmas.{ArePriced-start, ArePriced-more, ArePriced-all, ArePriced-stuck, grown_one}
use Rattle.sr_check.proofs.PriceLemmas.{grown_two}
use Rattle.sr_check.proofs.plan.prices_of.Goals as goal
use Rattle.sr_check.proofs.plan.prices_of.Goals.{in-Some-next+in_ok-push-2, in_default-next}

pub returns-in_default-first_prices-clause-none : goal.returns-in_default-first_prices-clause-none
returns-in_default-first_prices-clause-none c = λ prices after has.
    ArePriced-stuck c.args.live.now c.loop-consumer.consumer-index c.args.bytes.now c.in-Some.items.now
    c.loop-consumer.prices.items c.loop-consumer.left.now c.consumer-item.result c.in-Some.ensures.found
    c.loop-consumer-test.true c.consumer-item.is c.loop-consumer.invariant c.in_default-first_prices.ensures.none prices
    after has

pub loop-consumer-preserved : goal.loop-consumer-preserved
loop-consumer-preserved c =
    let live = c.args.live.now in
    let i = c.loop-consumer.consumer-index in
    let start = c.in-Some.items.now in
    let old = c.loop-consumer.prices.items in
    let price = c.in-Some-first_prices.price in
    let next = c.in-Some-first_prices.next in
    let after = c.in-Some-first_prices.after.now in
    let all = c.match-next.prices.items in
    let more = λ (grown : all ≡ old ++ (price ∷ option_to_list next)).
    ArePriced-more live i start old (price ∷ option_to_list next) all c.loop-consumer.left.now after
    c.consumer-item.result
    c.loop-consumer-test.true c.consumer-item.is grown c.loop-consumer.invariant c.in-Some-first_prices.ensures.found in
    let one : c.push.new.self.items ≡ old ++ price ∷ [] = search rules in
    elim c.match-next.branch [
      | in-Some-next+in_ok-push-2 w ↦
          let n = w.in-Some-next.next in
          let two : all ≡ c.push.new.self.items ++ n ∷ [] = search rules in
          let is : next ≡ Some n = search rules in
          rw w.left-is (more (grown_two old c.push.new.self.items all price n next is one two))
      | in_default-next w ↦
          let kept : all ≡ c.push.new.self.items = search rules in
          let none : next ≡ None = search rules in
          rw w.left-is (more (grown_one old c.push.new.self.items all price next none one kept))
    ]

pub returns-in_default-clause-found : goal.returns-in_default-clause-found
returns-in_default-clause-found c = tt

pub returns-in_default-clause-none : goal.returns-in_default-clause-none
returns-in_default-clause-none c = λ prices after has. c.in_default.ensures.none has.shares.items has.shares.header

pub returns-in_err-prices-clause-found : goal.returns-in_err-prices-clause-found
returns-in_err-prices-clause-found c = IfOk-from_err _ _ c.from_residual.ensures.0

pub returns-in_err-prices-clause-none : goal.returns-in_err-prices-clause-none
returns-in_err-prices-clause-none c = IfOk-from_err _ _ c.from_residual.ensures.0

pub returns-in_err-push-clause-found : goal.returns-in_err-push-clause-found
returns-in_err-push-clause-found c = IfOk-from_err _ _ c.from_residual-in_err-push.ensures.0

pub returns-in_err-push-clause-none : goal.returns-in_err-push-clause-none
returns-in_err-push-clause-none c = IfOk-from_err _ _ c.from_residual-in_err-push.ensures.0

pub returns-in_default-first_prices-clause-found : goal.returns-in_default-first_prices-clause-found
returns-in_default-first_prices-clause-found c = tt

pub loop-consumer-init : goal.loop-consumer-init
loop-consumer-init c = ArePriced-start c.in-Some.items.now c.in_ok-prices.prices.items c.in_ok-prices.ensures.items

pub returns-clause-found : goal.returns-clause-found
returns-clause-found c =
    ArePriced-all c.args.live.now c.loop-consumer.consumer-index c.args.bytes.now c.in-Some.items.now
    c.loop-consumer.prices.items c.loop-consumer.left.now c.loop-consumer-test.false c.in-Some.ensures.found
    c.loop-consumer.invariant

pub returns-clause-none : goal.returns-clause-none
returns-clause-none c = tt
