use Rattle.std.proofs.Common.{rules, inl, inr, ◌≡◌, ℕ, ◌+◌, ◌-◌, ◌^◌, ◌⊎◌, ◌<◌, List, length, refl, arith}
use Rattle.std.proofs.lemmas.Bool.{cases_lt}
use Rattle.sr_resp.specs.Reply.{Part, items_of}
use Rattle.sr_resp.specs.steps.Decoding.{HasPart}
use Rattle.sr_resp.specs.steps.Pieces.{part_of}
use Rattle.sr_resp.proofs.DecodingLemmas.{too_many, none-due, replies-step, none-left, some-left, empty-true, true-empty, part-shorter}
use Rattle.sr_resp.proofs.decoding.are_replies.Goals as goal

pub returns-then-due-left : goal.returns-then-due-left
returns-then-due-left c = (λ never. absurd (cc never), λ are. absurd (too_many c.loop-due.due c.loop-due.left.now (omega (arith, c.if-due-left.true)) (c.loop-due.invariant.same.1 are)))

pub returns-in_default : goal.returns-in_default
returns-in_default c =
    let none : (part : Part) (after : List ℕ) → HasPart c.loop-due.left.now part after → ⊥ = c.in_default.ensures.none in
    (λ never. absurd (cc never), λ are. absurd (none-due c.loop-due.due c.loop-due.left.now (omega (arith, c.loop-due-test.true)) none (c.loop-due.invariant.same.1 are)))

pub loop-due-preserved : goal.loop-due-preserved
loop-due-preserved c =
    let due = c.loop-due.due in
    let text = c.loop-due.left.now in
    let after = c.in-Some.after.now in
    let part = part_of c.in-Some.piece in
    let left = c.saturating_add-due.result in
    let has : HasPart text part after = c.in-Some.ensures.found in
    let shorter = part-shorter text after part has in
    let whole : length c.args.bytes.now < 2 ^ 64 = search rules in
    let short : length text < 2 ^ 64 = omega (arith, whole, c.loop-due.invariant.within) in
    let count : (left ≡ items_of part + (due - 1)) ⊎ ((length after < left) × (length after < items_of part + (due - 1))) =
    elim (cases_lt (items_of part + (due - 1)) (2 ^ 64)) [
      | inl few ↦ inl (omega (arith, c.items_after.ensures, c.saturating_add-due.ensures, few))
      | inr many ↦ inr (omega (arith, c.items_after.ensures, c.saturating_add-due.ensures, many, shorter, short), omega (arith, many, shorter, short))
    ]
    in
    let step = replies-step due left text after part (omega (arith, c.loop-due-test.true)) has count in
    record {
      same = (λ are. c.loop-due.invariant.same.0 (step.1 are), λ are. step.0 (c.loop-due.invariant.same.1 are));
      within = omega (arith, shorter, c.loop-due.invariant.within);
    }

pub returns : goal.returns
returns c =
    let none : c.loop-due.due ≡ 0 = omega (arith, c.loop-due-test.false) in
    let text = c.loop-due.left.now in
    let invariant = rw none at c.loop-due.invariant.same in
    (λ yes. invariant.0 (none-left text (empty-true text c.is_empty.result c.is_empty.ensures yes)), λ are. true-empty text c.is_empty.result c.is_empty.ensures (some-left 0 text refl (invariant.1 are)))
