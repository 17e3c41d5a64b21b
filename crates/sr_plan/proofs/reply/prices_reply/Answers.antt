use Rattle.std.proofs.Common.{◌∷◌, ◌∙◌}
use Rattle.std.specs.List.{All}
use Rattle.std.proofs.lemmas.List.Elements.{All-head, All-tail}
use Rattle.sr_check.specs.{AreTold, price_answer}
use Rattle.sr_plan.proofs.ArrayLemmas.{map-written}
use Rattle.sr_plan.proofs.PlanReplyLemmas.{IsReply-prices, prices-more}
use Rattle.sr_plan.proofs.reply.prices_reply.Goals as goal

pub write_prices-requires : goal.write_prices-requires
write_prices-requires c =
    let told : All (λ own. AreTold own.1) ((c.in-Some.consumer.now, c.in-Some.own.now) ∷ c.next.new.self) =
    rw c.in-Some.ensures.some at c.loop-consumer.invariant.told in
    All-head (λ own. AreTold own.1) (c.in-Some.consumer.now, c.in-Some.own.now) c.next.new.self told

pub loop-consumer-preserved : goal.loop-consumer-preserved
loop-consumer-preserved c =
    let told : All (λ own. AreTold own.1) ((c.in-Some.consumer.now, c.in-Some.own.now) ∷ c.next.new.self) =
    rw c.in-Some.ensures.some at c.loop-consumer.invariant.told in
    record {
      written = prices-more c.loop-consumer.prices c.next.new.self c.in-Some.consumer.now c.in-Some.own.now
          c.loop-consumer.draft
          _ _ _ _ c.in-Some.ensures.some c.loop-consumer.invariant.written c.in_ok-header.ensures.ok
          (rw c.as_slice.ensures at c.in_ok-bulk.ensures.ok)
          c.in_ok-write_prices.ensures;
      told = All-tail (λ own. AreTold own.1) (c.in-Some.consumer.now, c.in-Some.own.now) c.next.new.self told;
    }

pub finish-requires : goal.finish-requires
finish-requires c =
    rw (map-written price_answer c.args.prices c.loop-consumer.prices c.loop-consumer.draft c.in_default.ensures.none
    c.loop-consumer.invariant.written)
    (IsReply-prices c.args.prices)

pub returns : goal.returns
returns c =
    c.finish.ensures
    ∙ map-written price_answer c.args.prices c.loop-consumer.prices c.loop-consumer.draft c.in_default.ensures.none
    c.loop-consumer.invariant.written
