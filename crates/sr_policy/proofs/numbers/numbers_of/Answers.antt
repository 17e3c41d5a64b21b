use Rattle.std.proofs.Common.{◌∙◌, ap, map, subst, sym, unwrap_or}
use Rattle.sr_bytes.specs.{AreInOrder, ComesBefore}
use Rattle.sr_policy.proofs.FileLemmas.{names_in_order, numbers_more, numbers_all}
use Rattle.sr_policy.proofs.numbers.numbers_of.Goals as goal

pub loop-key-preserved : goal.loop-key-preserved
loop-key-preserved c =
    numbers_more c.args.table.now.entries c.loop-key.key-iterator c.next.new.self c.in-Some.key.now c.in-Some.value.now
    c.loop-key.pairs.items c.push.new.self.items _ _ c.in-Some.ensures.steps
    (c.in_ok-name_of.ensures ∙ c.as_str.ensures.value)
    (c.unwrap_or.ensures ∙ ap (λ found. unwrap_or found 0) c.natural_of.ensures) c.loop-key.invariant
    c.in_ok-push.ensures.items

pub invariant_of-result : goal.invariant_of-result
invariant_of-result c =
    let is = numbers_all c.args.table.now.entries c.loop-key.key-iterator c.loop-key.pairs.items
    c.in-None.ensures.steps.0 c.loop-key.invariant in
    subst (λ pairs. AreInOrder ComesBefore (map (λ pair. pair.0) pairs)) (sym is)
    (names_in_order c.args.table.now.entries c.len.ensures.ordered)

pub returns-clause-value : goal.returns-clause-value
returns-clause-value c = numbers_all c.args.table.now.entries c.loop-key.key-iterator c.loop-key.pairs.items
    c.in-None.ensures.steps.0 c.loop-key.invariant

pub returns-clause-order : goal.returns-clause-order
returns-clause-order c =
    let is = numbers_all c.args.table.now.entries c.loop-key.key-iterator c.loop-key.pairs.items
    c.in-None.ensures.steps.0 c.loop-key.invariant in
    subst (λ pairs. AreInOrder ComesBefore (map (λ pair. pair.0) pairs)) (sym is)
    (names_in_order c.args.table.now.entries c.len.ensures.ordered)
