use Rattle.std.proofs.Common.{◌≡◌, true, refl, sym, ◌∙◌}
use Rattle.sr_entries.specs.{has_id}
use Rattle.sr_group.proofs.JudgeLemmas.{moves-late, stays-early}
use Rattle.sr_group.proofs.claim.weigh.Goals as goal

pub returns-then-saturating_sub-call-clause-act : goal.returns-then-saturating_sub-call-clause-act
returns-then-saturating_sub-call-clause-act c =
    let call = c.args.call.now in
    let there : has_id c.args.id call.entries.now.entries ≡ true = sym c.is_there.ensures ∙ c.if-not-is_there.false in
    stays-early call.claim call.claimer.now call.moment call.entries.now.entries c.args.id c.args.delivery c.saturating_sub.result there c.saturating_sub.ensures c.if-saturating_sub-call.true

pub returns-clause-act : goal.returns-clause-act
returns-clause-act c =
    let call = c.args.call.now in
    let there : has_id c.args.id call.entries.now.entries ≡ true = sym c.is_there.ensures ∙ c.if-not-is_there.false in
    moves-late call.claim call.claimer.now call.moment call.entries.now.entries c.args.id c.args.delivery c.saturating_sub.result c.time_given.result c.count_given.result there c.saturating_sub.ensures c.if-saturating_sub-call.false c.time_given.ensures.value c.count_given.ensures.value

pub returns-clause-own : goal.returns-clause-own
returns-clause-own c = (refl, (c.time_given.ensures.bound, c.count_given.ensures.bound))
