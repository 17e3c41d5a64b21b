use Rattle.std.proofs.Common.{rules, ◌≡◌, ◌≢◌, ◌∙◌, ℕ, sym, ap, below_more}
use Rattle.sr_policy.specs.declared.live.Live.{Live}
use Rattle.sr_check.specs.PlanAnswer.{name_at}
use Rattle.sr_check.proofs.OrderLemmas.{name_at-is}
use Rattle.sr_check.proofs.plan.consumer_of.Goals as goal

pub returns-then-eq-clause-found : goal.returns-then-eq-clause-found
returns-then-eq-clause-found c =
    let consumer = c.index-live-number.result in
    let named : consumer.name ≡ c.args.name.now = search rules in
    name_at-is c.args.live.now c.loop-number.number consumer c.loop-number-test.true
    ∙ ap (λ (other : Live). other.name) (sym c.index-live-number.is) ∙ named

pub loop-number-preserved : goal.loop-number-preserved
loop-number-preserved c =
    let live = c.args.live.now in
    let consumer = c.index-live-number.result in
    let other : consumer.name ≢ c.args.name.now = search rules in
    below_more (λ (k : ℕ). name_at live k ≡ c.args.name.now → ⊥) c.loop-number.number c.loop-number.invariant
    (λ same. other (ap (λ (one : Live). one.name) c.index-live-number.is
    ∙ sym (name_at-is live c.loop-number.number consumer c.loop-number-test.true) ∙ same))
