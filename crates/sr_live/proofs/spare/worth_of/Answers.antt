use Rattle.std.proofs.Common.{ℕ, List, map}
use Rattle.std.proofs.lemmas.List.{at_drop_all}
use Rattle.sr_policy.specs.declared.live.Live.{Live}
use Rattle.sr_live.specs.Spare.{worth_of}
use Rattle.sr_live.proofs.SpareLemmas.{worth-all}
use Rattle.sr_live.proofs.spare.worth_of.Goals as goal

pub returns : goal.returns
returns c =
    let left : List Live → ℕ = λ live. worth_of c.args.acks (map (λ move. (move.0, move.1.now)) c.args.moves.now) live
    c.loop-consumer.prices in
    worth-all c.loop-consumer.worth _ _ c.loop-consumer.invariant.fits
    (at_drop_all left c.args.live.now c.loop-consumer.consumer-index c.loop-consumer-test.false)
    c.loop-consumer.invariant.left
