use Rattle.std.proofs.Common.{◌<◌, ◌-◌, take, refl}
use Rattle.std.proofs.lemmas.Bool.{false≢true}
use Rattle.sr_args.specs.Different.{IsAmong}
use Rattle.sr_args.proofs.StreamsLemmas.{AreDifferent-next, AreDifferent-with}
use Rattle.sr_args.proofs.streams.are_different_by_pairs.Goals as goal

pub returns-then-is_among : goal.returns-then-is_among
returns-then-is_among c =
    let more : 0 < c.loop-left.left = c.loop-left-test.true in
    let among : IsAmong c.in-Some.word.now (take (c.loop-left.left - 1) c.next.new.self) = (rw c.again.ensures at c.if-is_among.ensures).0 refl in
    (λ e. absurd (false≢true e), λ different. absurd ((AreDifferent-next c.loop-left.left c.loop-left.words c.next.new.self c.in-Some.word.now more c.in-Some.ensures.some (c.loop-left.invariant.forth different)).0 among))

pub loop-left-preserved : goal.loop-left-preserved
loop-left-preserved c =
    let more : 0 < c.loop-left.left = c.loop-left-test.true in
    let new : IsAmong c.in-Some.word.now (take (c.loop-left.left - 1) c.next.new.self) → ⊥ = λ a. false≢true ((rw c.again.ensures at c.if-is_among.ensures).1 a) in
    record {
      back = λ different. c.loop-left.invariant.back (AreDifferent-with c.loop-left.left c.loop-left.words c.next.new.self c.in-Some.word.now more c.in-Some.ensures.some new different);
      forth = λ different. (AreDifferent-next c.loop-left.left c.loop-left.words c.next.new.self c.in-Some.word.now more c.in-Some.ensures.some (c.loop-left.invariant.forth different)).1;
    }
