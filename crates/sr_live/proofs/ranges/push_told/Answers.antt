use Rattle.std.proofs.Common.{rules, ◌≡◌, ◌<◌, ◌∙◌, ℕ, length, subst, sym, arith}
use Rattle.sr_live.proofs.LookingLemmas.{AreTold, AreTold-next, AreTold-none}
use Rattle.sr_live.proofs.ranges.push_told.Goals as goal

pub loop-at-init : goal.loop-at-init
loop-at-init c =
    AreTold-none c.args.range.first c.args.range.last c.args.range.count c.args.entries.now c.args.listed.now
    c.args.found.now.rows.items c.args.found.now.wanted c.requires

pub loop-at-preserved : goal.loop-at-preserved
loop-at-preserved c =
    let some : 0 < c.loop-at.found.wanted = search rules in
    AreTold-next c.args.range.first c.args.range.last c.args.range.count c.args.entries.now c.args.listed.now
    c.args.found.now.rows.items c.args.found.now.wanted c.loop-at.at c.index-listed-at.result
    c.index-listed-at-in-loop-at.result c.loop-at.found.rows.items c.push_row.new.found.rows.items c.loop-at.found.wanted
    c.push_row.new.found.wanted c.loop-at-test.true c.index-listed-at-in-loop-at.is some (sym c.reaches.ensures ∙ c.if-not-reaches.false)
    c.loop-at.invariant c.in_ok-push_row.ensures

pub returns-clause-told : goal.returns-clause-told
returns-clause-told c =
    let whole : c.loop-at.at ≡ length c.args.listed.now = omega (arith, c.loop-at-test.false, c.loop-at.auto.at-end) in
    subst (λ (n : ℕ). AreTold c.args.range.first c.args.range.last c.args.range.count c.args.entries.now c.args.listed.now n
    c.args.found.now.rows.items c.loop-at.found.rows.items c.args.found.now.wanted c.loop-at.found.wanted) whole
    c.loop-at.invariant
