use Rattle.std.proofs.Common.{◌≡◌, ◌-◌, not, length, ap, ◌∙◌, arith}
use Rattle.sr_ids.specs.{is_one_of}
use Rattle.sr_group.specs.Group.{KeptGroup, with_ids}
use Rattle.sr_group.proofs.GroupLemmas.{IsGroup-filter, with_ids-count, without_ids-fewer}
use Rattle.sr_group.proofs.group.Group.ack.Goals as goal

pub overflow_sub-result : goal.overflow_sub-result
overflow_sub-result c =
    let fewer = without_ids-fewer c.args.ids.now c.self.inside.pending.nacks c.remove_all.new.pending.nacks c.remove_all.ensures in
    omega (arith, fewer, c.len.ensures.value, c.len-before.ensures.value)

pub invariant_of-self : goal.invariant_of-self
invariant_of-self c =
    let group = c.self.inside in
    IsGroup-filter (λ n. not (is_one_of c.args.ids.now n.id)) group.last group.consumers.items group.pending.nacks c.remove_all.new.pending.nacks c.self.invariant c.remove_all.ensures

pub returns-clause-count : goal.returns-clause-count
returns-clause-count c =
    let nacks = c.self.inside.pending.nacks in
    let left = c.remove_all.new.pending.nacks in
    let count : c.len-before.result - c.len.result ≡ length nacks - length left = omega (arith, c.len.ensures.value, c.len-before.ensures.value) in
    count ∙ with_ids-count c.args.ids.now nacks left c.remove_all.ensures ∙ ap (λ (k : KeptGroup). length (with_ids c.args.ids.now k.shown.nacks)) c.self.view_is
