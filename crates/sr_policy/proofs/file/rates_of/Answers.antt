use Rattle.std.proofs.Common.{◌≡◌, ◌∙◌, ap, map, subst, sym, unwrap_or}
use Rattle.std.proofs.lemmas.Result.{IfOk-from_err}
use Rattle.toml.specs.Data.{no_members, as_table}
use Rattle.toml.specs.View.{view}
use Rattle.sr_bytes.specs.{AreInOrder, ComesBefore}
use Rattle.sr_policy.specs.File.{numbers_of}
use Rattle.sr_policy.proofs.FileLemmas.{classes_in_order, table_found, no_table, rates_more, rates_all}
use Rattle.sr_policy.proofs.file.rates_of.Goals as goal
use Rattle.sr_policy.proofs.file.rates_of.Goals.{in-Some-as_table+in_ok-numbers-in-Some-as_table, in-None-as_table}

pub returns-in_err-rates-clause-value : goal.returns-in_err-rates-clause-value
returns-in_err-rates-clause-value c = IfOk-from_err _ _ c.from_residual.ensures.0

pub returns-in_err-rates-clause-order : goal.returns-in_err-rates-clause-order
returns-in_err-rates-clause-order c = IfOk-from_err _ _ c.from_residual.ensures.0

pub loop-class-preserved : goal.loop-class-preserved
loop-class-preserved c =
    let counted : c.match-as_table.numbers ≡ numbers_of (unwrap_or (as_table (view c.in-Some.value.now)) no_members) =
    elim c.match-as_table.branch [
      | in-Some-as_table+in_ok-numbers-in-Some-as_table w ↦
          w.numbers-is ∙ w.in_ok-numbers-in-Some-as_table.ensures.value
          ∙ ap numbers_of
          (table_found _ c.as_table.result _ w.in-Some-as_table.numbers c.as_table.ensures w.in-Some-as_table.is)
      | in-None-as_table w ↦
          w.numbers-is ∙ w.none-numbers.ensures
          ∙ ap numbers_of (no_table _ c.as_table.result _ c.as_table.ensures w.in-None-as_table.is)
    ] in
    rates_more c.args.classes.now.entries c.loop-class.class-iterator c.next.new.self c.in-Some.class.now
    c.in-Some.value.now
    c.loop-class.rates.items c.push.new.self.items _ _ c.in-Some.ensures.steps
    (c.in_ok-name_of.ensures ∙ c.as_str.ensures.value)
    counted c.loop-class.invariant c.in_ok-push.ensures.items

pub returns-clause-value : goal.returns-clause-value
returns-clause-value c = rates_all c.args.classes.now.entries c.loop-class.class-iterator c.loop-class.rates.items
    c.in-None.ensures.steps.0 c.loop-class.invariant

pub returns-clause-order : goal.returns-clause-order
returns-clause-order c =
    let is = rates_all c.args.classes.now.entries c.loop-class.class-iterator c.loop-class.rates.items
    c.in-None.ensures.steps.0 c.loop-class.invariant in
    subst (λ classes. AreInOrder ComesBefore (map (λ class. class.0) classes)) (sym is)
    (classes_in_order c.args.classes.now.entries c.len.ensures.ordered)
