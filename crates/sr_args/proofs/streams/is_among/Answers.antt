use Rattle.std.proofs.Common.{◌≡◌, ◌<◌, inl, inr, arith, rules}
use Rattle.sr_args.proofs.StreamsLemmas.{IsAmong-next, IsAmong-with, IsAmong-none}
use Rattle.sr_args.proofs.streams.is_among.Goals as goal

pub returns-in_default : goal.returns-in_default
returns-in_default c =
    (λ e. absurd (search rules), λ among. absurd (IsAmong-none c.args.word.now c.loop-left.left c.loop-left.words (inr c.in_default.ensures.none) (c.loop-left.invariant.forth among)))

pub returns-then-eq : goal.returns-then-eq
returns-then-eq c =
    let more : 0 < c.loop-left.left = omega arith in
    let same : c.args.word.now ≡ c.in-Some.other.now = search rules in
    (λ e. c.loop-left.invariant.back (IsAmong-with c.args.word.now c.loop-left.left c.loop-left.words c.next.new.self c.in-Some.other.now more c.in-Some.ensures.some (inl same)), λ among. search rules)

pub loop-left-preserved : goal.loop-left-preserved
loop-left-preserved c =
    let more : 0 < c.loop-left.left = omega arith in
    let differs : c.args.word.now ≡ c.in-Some.other.now → ⊥ = search rules in
    record {
      back = λ among. c.loop-left.invariant.back (IsAmong-with c.args.word.now c.loop-left.left c.loop-left.words c.next.new.self c.in-Some.other.now more c.in-Some.ensures.some (inr among));
      forth = λ among. IsAmong-next c.args.word.now c.loop-left.left c.loop-left.words c.next.new.self c.in-Some.other.now more c.in-Some.ensures.some differs (c.loop-left.invariant.forth among);
    }

pub returns : goal.returns
returns c =
    let none : c.loop-left.left ≡ 0 = omega arith in
    (λ e. absurd (search rules), λ among. absurd (IsAmong-none c.args.word.now c.loop-left.left c.loop-left.words (inl none) (c.loop-left.invariant.forth among)))
