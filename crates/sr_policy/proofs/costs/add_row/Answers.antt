use Rattle.std.proofs.Common.{map, subst, sym}
use Rattle.sr_policy.specs.Snapshot.{AreInOrder, ComesBefore}
use Rattle.sr_policy.proofs.NameLemmas.{names_in_order}
use Rattle.sr_policy.proofs.ProblemLemmas.{found_are_rates, no_costs}
use Rattle.sr_policy.proofs.costs.add_row.Goals as goal

pub found-requires : goal.found-requires
found-requires c =
    subst (λ classes. AreInOrder ComesBefore (map (λ class. class.0) classes)) (sym c.rates.ensures)
    (names_in_order (λ class. class.0) c.args.snapshot.now.rates c.sound.ensures.names.rates)

pub add_costs-requires-clause-rates : goal.add_costs-requires-clause-rates
add_costs-requires-clause-rates c =
    rw c.as_slice.ensures
    (found_are_rates _ _ _ _ _ c.rates.ensures c.in-Some.ensures c.sound.ensures.bounds.rates).small

pub returns-in-None : goal.returns-in-None
returns-in-None c =
    rw (← no_costs c.args.snapshot.now c.args.entry.now _ _ c.rates.ensures c.in-None.ensures c.live.ensures)
    c.add_none.ensures
