use Rattle.std.proofs.Common.{rules, ◌≡◌, ◌∙◌, ◌<◌, ◌^◌, true, length, sym, true≢false}
use Rattle.sr_check.specs.declared.verified.Reason.TheVariants as reasons
use Rattle.sr_check.proofs.VerifiedLemmas.{plan-unread, plan-unshown, plan-shown}
use Rattle.sr_check.proofs.verified.plan_worth.Goals as goal

pub returns-in-Err : goal.returns-in-Err
returns-in-Err c = λ reply word.
    let bytes = c.args.bytes.now in
    let small : length bytes < 2 ^ 64 = search rules in
    let none = rw c.in-Err.is at c.in_ok-plan.ensures.none in
    plan-unread c.args.snapshot.now reply bytes c.args.done c.in-Err.reason word small none

pub returns-then-not-check : goal.returns-then-not-check
returns-then-not-check c = λ reply word.
    let bytes = c.args.bytes.now in
    let small : length bytes < 2 ^ 64 = search rules in
    let plan = c.in-Ok.plan in
    let found = rw c.in-Ok.is at c.in_ok-plan.ensures.found in
    plan-unshown c.args.snapshot.now c.in_ok-problem.problem reply bytes plan.assign.items plan.prices.items plan.total
    c.args.done reasons.Prices c.in_ok-problem.ensures.ok c.sound.ensures.names.live word small found
    (λ shows. let yes : c.check.result ≡ true = c.check.ensures.exact.1 shows in true≢false
    (sym yes ∙ c.if-not-check.true))

pub returns : goal.returns
returns c = λ reply word.
    let plan = c.in-Ok.plan in
    let found = rw c.in-Ok.is at c.in_ok-plan.ensures.found in
    plan-shown c.args.snapshot.now c.in_ok-problem.problem reply c.args.bytes.now plan.assign.items plan.prices.items
    plan.total c.args.done c.in_ok-problem.ensures.ok word found
    (c.check.ensures.exact.0 c.if-not-check.false)
