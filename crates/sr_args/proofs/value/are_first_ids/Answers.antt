use Rattle.std.proofs.Common.{◌<◌, arith, rules}
use Rattle.sr_args.specs.FormWord.{strict_id, spelled, HasId}
use Rattle.sr_args.proofs.IdsLemmas.{HasIds-next, HasIds-with}
use Rattle.sr_args.proofs.value.are_first_ids.Goals as goal

pub returns-then-is_none : goal.returns-then-is_none
returns-then-is_none c =
    let more : 0 < c.loop-left.left = omega arith in
    let unspelled : HasId (spelled strict_id c.in-Some.word.now) → ⊥ = search rules in
    (λ e. absurd (search rules), λ has. absurd (unspelled (HasIds-next c.loop-left.left c.loop-left.words c.next.new.self c.in-Some.word.now more c.in-Some.ensures.some (c.loop-left.invariant.forth has)).0))

pub loop-left-preserved : goal.loop-left-preserved
loop-left-preserved c =
    let more : 0 < c.loop-left.left = omega arith in
    let one : HasId (spelled strict_id c.in-Some.word.now) = search rules in
    record {
      back = λ has. c.loop-left.invariant.back (HasIds-with c.loop-left.left c.loop-left.words c.next.new.self c.in-Some.word.now more c.in-Some.ensures.some one has);
      forth = λ has. (HasIds-next c.loop-left.left c.loop-left.words c.next.new.self c.in-Some.word.now more c.in-Some.ensures.some (c.loop-left.invariant.forth has)).1;
    }
