use Rattle.std.proofs.Common.{◌≡◌, ◌*◌, ◌∙◌, ap}
use Rattle.std.proofs.Math.ListN.{replicate}
use Rattle.sr_solver.specs.declared.table.Bound.{Bound}
use Rattle.sr_solver.specs.Table.{unknown}
use Rattle.sr_solver.specs.Groups.{IsAt}
use Rattle.sr_solver.proofs.TableLemmas.{unknown_pairs}
use Rattle.sr_solver.proofs.GroupLemmas.{lows_unknown}
use Rattle.sr_solver.proofs.table.unknown_table.Goals as goal

pub returns : goal.returns
returns c = λ xs.
    let p = c.args.problem.now in
    let many = c.consumers-consumers.ensures.count in
    let limits = c.consumers-consumers.ensures.limits in
    let is : c.in_ok-pairs.pairs.items ≡ replicate (c.consumers-consumers.result * c.consumers-consumers.result) unknown =
    c.in_ok-pairs.ensures.items_if_clones_equal (λ y e. e)
    ∙ ap (λ (b : Bound). replicate (c.consumers-consumers.result * c.consumers-consumers.result) b) c.unknown.ensures in
    record {
      pairs = rw is (
          unknown_pairs p xs (c.consumers-consumers.result * c.consumers-consumers.result) limits (ap (λ n. n * n) many)
          );
      lows = lows_unknown p (IsAt xs p.entries) c.groups_of-groups.result _ c.in_ok-lows.lows.items limits
          c.groups_of-groups.ensures (c.in_ok-lows.ensures.items_if_clones_equal (λ y e. e))
          (ap (λ n. n * c.groups_of-groups.result.span * c.groups_of-groups.result.count) many);
    }
