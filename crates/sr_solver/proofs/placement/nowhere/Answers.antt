use Rattle.std.proofs.Common.{ℕ, ◌*◌, ap, ◌∙◌}
use Rattle.std.proofs.Math.ListN.{replicate}
use Rattle.sr_solver.proofs.PlaceLemmas.{none_stands}
use Rattle.sr_solver.proofs.placement.nowhere.Goals as goal

pub returns : goal.returns
returns c =
    let p = c.args.problem.now.columns in
    let many = c.consumers-consumers.ensures.count in
    none_stands p c.args.problem.now.steps.now _ c.consumers-consumers.ensures.limits c.requires
    (c.in_ok-assign.ensures.items_if_clones_equal (λ y e. e)
    ∙ ap (λ (n : ℕ). replicate n c.consumers-consumers.result) c.entries.ensures
    ∙ ap (λ (n : ℕ). replicate p.entries n) many)
    (c.in_ok-prices.ensures.items_if_clones_equal (λ y e. e) ∙ ap (λ (n : ℕ). replicate n 0) many)
    (c.in_ok-loads.ensures.items_if_clones_equal (λ y e. e) ∙ ap (λ (n : ℕ). replicate n 0) many)
    (c.in_ok-members.ensures.items_if_clones_equal (λ y e. e)
    ∙ ap (λ (n : ℕ). replicate (n * c.row_width-width.result) 0) many)
    c.row_width-width.ensures
