use Rattle.std.proofs.Common.{rules, ◌≡◌, [], ℕ, length, drop, subst, sym, ap, arith}
use Rattle.sr_resp.proofs.DecodingLemmas.{empty-true, true-empty}
use Rattle.sr_peer.specs.Shown.{part_of}
use Rattle.sr_peer.specs.steps.Reading.{AreAlike}
use Rattle.sr_peer.proofs.AnswerLemmas.{alike-after, alike-through, left-over, wrong-whole}
use Rattle.sr_peer.proofs.ReadLemmas.{suffix-after, outgrown-items, outgrown-part, reached, begun-left, none-left}
use Rattle.sr_peer.proofs.answers.read_on.Goals as goal

pub returns-in_default : goal.returns-in_default
returns-in_default c =
    outgrown-items c.args.from.due c.loop-due.due (drop c.args.from.at c.args.text.now) c.args.text.now
    c.loop-due.left.now c.in-Whole.after.now (part_of c.in-Whole.part) c.loop-due.invariant.alike
    c.loop-due.invariant.suffix c.loop-due-test.true c.in-Whole.ensures c.in_default.ensures.none

pub loop-due-preserved : goal.loop-due-preserved
loop-due-preserved c =
    let part = part_of c.in-Whole.part in
    let after = c.in-Whole.after.now in
    let start = drop c.args.from.at c.args.text.now in
    let next : AreAlike c.loop-due.due c.loop-due.left.now c.in-Some.next after =
    subst (λ (n : ℕ). AreAlike c.loop-due.due c.loop-due.left.now n after) (sym c.in-Some.ensures.found)
    (alike-after c.loop-due.due c.loop-due.left.now after part c.loop-due-test.true c.in-Whole.ensures) in
    record {
      suffix = suffix-after c.args.text.now c.loop-due.left.now after part c.loop-due.invariant.suffix
          c.in-Whole.ensures;
      alike = alike-through c.args.from.due c.loop-due.due c.in-Some.next start c.loop-due.left.now after
          c.loop-due.invariant.alike next;
    }

pub returns-then-least-text : goal.returns-then-least-text
returns-then-least-text c =
    outgrown-part c.args.from.due c.loop-due.due c.in-Begun.least (drop c.args.from.at c.args.text.now) c.args.text.now
    c.loop-due.left.now c.loop-due.invariant.alike c.loop-due-test.true c.in-Begun.ensures c.requires.short
    c.if-least-text.true

pub returns-in-Begun : goal.returns-in-Begun
returns-in-Begun c =
    reached c.args.from.due c.loop-due.due _ (drop c.args.from.at c.args.text.now) c.args.text.now c.loop-due.left.now
    c.loop-due.invariant.alike c.loop-due.invariant.suffix
    (begun-left c.loop-due.due c.loop-due.left.now c.in-Begun.least c.loop-due-test.true c.in-Begun.ensures)
    (search rules)

pub returns-in-Wrong : goal.returns-in-Wrong
returns-in-Wrong c = λ more whole.
    wrong-whole c.loop-due.due c.loop-due.left.now c.loop-due-test.true c.in-Wrong.ensures more
    ((c.loop-due.invariant.alike more).0 whole)

pub returns-then-is_empty : goal.returns-then-is_empty
returns-then-is_empty c =
    let none : c.loop-due.due ≡ 0 = omega (arith, c.loop-due-test.false) in
    let empty : c.loop-due.left.now ≡ [] =
    empty-true c.loop-due.left.now c.is_empty.result c.is_empty.ensures c.if-is_empty.true in
    reached c.args.from.due c.loop-due.due _ (drop c.args.from.at c.args.text.now) c.args.text.now c.loop-due.left.now
    c.loop-due.invariant.alike c.loop-due.invariant.suffix (none-left c.loop-due.due c.loop-due.left.now none empty)
    (omega (arith, ap length empty))

pub returns-else-is_empty : goal.returns-else-is_empty
returns-else-is_empty c = λ more whole.
    let none : c.loop-due.due ≡ 0 = omega (arith, c.loop-due-test.false) in
    left-over c.loop-due.due c.loop-due.left.now none
    (λ empty.
    absurd (cc (true-empty c.loop-due.left.now c.is_empty.result c.is_empty.ensures empty, c.if-is_empty.false)))
    more ((c.loop-due.invariant.alike more).0 whole)
