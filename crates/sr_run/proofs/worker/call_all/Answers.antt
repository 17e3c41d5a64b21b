use Rattle.std.proofs.Common.{◌≡◌, ◌∙◌, arith}
use Rattle.std.proofs.lemmas.List.{take_all}
use Rattle.sr_run.proofs.WorkedLemmas.{made_before, made_number, made_share, one_more_has, one_more_pushed}
use Rattle.sr_run.proofs.worker.call_all.Goals as goal

pub returns-clause-receipts : goal.returns-clause-receipts
returns-clause-receipts g c =
    let here = c.loop-call.invariant in
    record { caller = c.args.session; calls = here.calls ∙ take_all _ _ (omega arith); seats = here.seats; sessions = here.sessions }

pub loop-call-preserved : goal.loop-call-preserved
loop-call-preserved g c =
    let here = c.loop-call.invariant in
    let receipt = c.in_ok-receipt.receipt in
    let old = c.loop-call.receipts.items in
    let new = c.push_reserved.new.self.items in
    let made = c.in_ok-receipt.ensures.ok in
    let of = c.in_ok-receipt.ensures.receipt in
    let pushed = c.push_reserved.ensures.items in
    record {
      calls = one_more_pushed (λ receipt. receipt.call) c.args.script.now c.loop-call.call-index c.call-item.result old new receipt c.loop-call-test.true pushed (of.call ∙ c.call-item.is) here.calls;
      seats = one_more_has (λ receipt. receipt.seat ≡ c.args.seat.now.number) old new receipt pushed here.seats (of.seat ∙ here.number);
      sessions = one_more_has (λ receipt. receipt.session ≡ c.args.session) old new receipt pushed here.sessions of.session;
      number = made_number receipt.index c.loop-call.seat c.exchange.new.seat made ∙ here.number;
      share = omega (arith, made_share receipt.index c.loop-call.seat c.exchange.new.seat made, here.share);
      before = made_before receipt.index c.loop-call.seat c.exchange.new.seat made ∙ here.before;
      many = omega (arith, c.push_reserved.ensures.len, here.many);
      room = omega (arith, c.push_reserved.ensures.capacity, here.room);
    }
