use Rattle.sr_solver.proofs.ShownLemmas.{picked_costs, picked_shown}
use Rattle.sr_solver.proofs.costs.Source.picked.Goals as goal

pub invariant_of-result : goal.invariant_of-result
invariant_of-result c =
    picked_costs _ _ c.args.rooms.now c.args.order.now _ _ c.self.invariant c.self.view_is c.requires c.as_ref.ensures.value

pub returns : goal.returns
returns c = picked_shown _ _ c.args.rooms.now c.args.order.now c.self.view_is c.requires
