use Rattle.std.proofs.Common.{◌≡◌, ℕ, ◌+◌, ◌*◌, ◌<◌, Option, List, get_or, refl, sym, ap, ◌∙◌, inr, arith}
use Rattle.std.specs.Prelude.{unwrap_or}
use Rattle.sr_transport.specs.plain.Problem.{cost_of}
use Rattle.sr_transport.specs.plain.Assignment.{load}
use Rattle.sr_transport.proofs.PlainLimitLemmas.{cost_at_small, cost_small}
use Rattle.sr_solver.specs.Members.{AreMembers}
use Rattle.sr_solver.specs.Table.{IsAt}
use Rattle.sr_solver.proofs.TableLemmas.{lowered_is, none_known, found_lowered}
use Rattle.sr_solver.proofs.MembersLemmas.{row_in, first_in, other_in, seen_more, seen_all}
use Rattle.sr_solver.proofs.table.find.Goals as goal

pub loop-place-preserved : goal.loop-place-preserved
loop-place-preserved c =
    let row : ℕ = c.args.from * c.args.placement.now.width in
    let xs : List ℕ = c.args.placement.now.assign.items in
    let members : List ℕ = c.as_slice-members.result.now in
    let are_members : AreMembers c.args.problem.now c.args.placement.now.width xs members =
    rw c.as_slice-members.ensures.value c.requires.members in
    let other : ℕ = get_or members (row + 1 + c.loop-place.place) 0 in
    let cost : Option ℕ → ℕ = λ o. unwrap_or o 0 in
    let same : cost_of c.args.problem.now other c.args.from ≡ c.unwrap-here.result =
    ap cost (sym c.cost.ensures ∙ c.unwrap-here.ensures) in
    let placed : c.loop-place.place < get_or members row 0 = c.loop-place-test.true in
    let stands : IsAt xs c.args.problem.now.entries c.args.from other =
    are_members.stands c.args.from c.loop-place.place c.requires.from
    (omega (arith, placed, are_members.counted c.args.from c.requires.from)) in
    record {
      known =
          seen_more c.args.problem.now xs members row c.loop-place.place other c.args.from c.args.to c.loop-place.found
          c.lowered-found.result c.requires.limits c.requires.to stands.0 stands.1 refl c.loop-place.invariant.known
          (lowered_is other _ _ _ _ _ _ same (sym c.cost-there.ensures) c.lowered-found.ensures);
      found = found_lowered c.args.problem.now other _ _ _ _ stands.0 c.lowered-found.ensures c.loop-place.invariant.found;
    }

pub returns-clause-known : goal.returns-clause-known
returns-clause-known c =
    let members : List ℕ = c.as_slice-members.result.now in
    let are_members : AreMembers c.args.problem.now c.args.placement.now.width
    c.args.placement.now.assign.items members =
    rw c.as_slice-members.ensures.value c.requires.members in
    seen_all c.args.problem.now c.args.placement.now.width c.args.placement.now.assign.items members
    (c.args.from * c.args.placement.now.width) c.loop-place.place
    c.args.from c.args.to c.loop-place.found c.requires.from are_members refl (omega arith)
    c.loop-place.invariant.known

pub bounds-members-row : goal.bounds-members-row
bounds-members-row c =
    (first_in _ _ _ _ (row_in c.args.problem.now c.args.placement.now.width c.args.from _ _ _ c.requires.limits
    c.as_slice-members.ensures.value c.requires.members c.requires.from)).0

pub offset_bounds-members-row : goal.offset_bounds-members-row
offset_bounds-members-row c =
    (first_in _ _ _ _ (row_in c.args.problem.now c.args.placement.now.width c.args.from _ _ _ c.requires.limits
    c.as_slice-members.ensures.value c.requires.members c.requires.from)).1

pub overflow_mul-row : goal.overflow_mul-row
overflow_mul-row c =
    (first_in _ _ _ _ (row_in c.args.problem.now c.args.placement.now.width c.args.from _ _ _ c.requires.limits
    c.as_slice-members.ensures.value c.requires.members c.requires.from)).2

pub bounds-members-row-in-loop-place : goal.bounds-members-row-in-loop-place
bounds-members-row-in-loop-place c =
    (other_in _ _ _ _ _ (row_in c.args.problem.now c.args.placement.now.width c.args.from _ _ _ c.requires.limits
    c.as_slice-members.ensures.value c.requires.members c.requires.from) c.loop-place-test.true).0

pub offset_bounds-members-row-in-loop-place : goal.offset_bounds-members-row-in-loop-place
offset_bounds-members-row-in-loop-place c =
    (other_in _ _ _ _ _ (row_in c.args.problem.now c.args.placement.now.width c.args.from _ _ _ c.requires.limits
    c.as_slice-members.ensures.value c.requires.members c.requires.from) c.loop-place-test.true).1

pub overflow_add-other-in-loop-place : goal.overflow_add-other-in-loop-place
overflow_add-other-in-loop-place c =
    (other_in _ _ _ _ _ (row_in c.args.problem.now c.args.placement.now.width c.args.from _ _ _ c.requires.limits
    c.as_slice-members.ensures.value c.requires.members c.requires.from) c.loop-place-test.true).2

pub overflow_add-other : goal.overflow_add-other
overflow_add-other c =
    (other_in _ _ _ _ _ (row_in c.args.problem.now c.args.placement.now.width c.args.from _ _ _ c.requires.limits
    c.as_slice-members.ensures.value c.requires.members c.requires.from) c.loop-place-test.true).3

pub loop-place-init : goal.loop-place-init
loop-place-init c = record {
  known = rw c.none-found.ensures (
      none_known c.args.problem.now _ c.args.from c.args.to c.requires.limits (λ i seen. omega (arith, seen.1.1))
      );
  found = rw c.none-found.ensures (inr (omega arith));
}

pub cost-requires-clause-entry : goal.cost-requires-clause-entry
cost-requires-clause-entry c =
    let xs : List ℕ = c.args.placement.now.assign.items in
    let members : List ℕ = c.as_slice-members.result.now in
    let are : AreMembers c.args.problem.now c.args.placement.now.width xs members =
    rw c.as_slice-members.ensures.value c.requires.members in
    let counted : c.loop-place.place < load xs c.args.from =
    omega (arith, c.loop-place-test.true, are.counted c.args.from c.requires.from) in
    (are.stands c.args.from c.loop-place.place c.requires.from counted).0

pub cost-requires-clause-consumer : goal.cost-requires-clause-consumer
cost-requires-clause-consumer c = c.requires.from

pub unwrap-here-requires : goal.unwrap-here-requires
unwrap-here-requires c =
    let xs : List ℕ = c.args.placement.now.assign.items in
    let members : List ℕ = c.as_slice-members.result.now in
    let are : AreMembers c.args.problem.now c.args.placement.now.width xs members =
    rw c.as_slice-members.ensures.value c.requires.members in
    let counted : c.loop-place.place < load xs c.args.from =
    omega (arith, c.loop-place-test.true, are.counted c.args.from c.requires.from) in
    rw c.cost.ensures (c.requires.placed _ (are.stands c.args.from c.loop-place.place c.requires.from counted)).1

pub cost-there-requires-clause-entry : goal.cost-there-requires-clause-entry
cost-there-requires-clause-entry c =
    let xs : List ℕ = c.args.placement.now.assign.items in
    let members : List ℕ = c.as_slice-members.result.now in
    let are : AreMembers c.args.problem.now c.args.placement.now.width xs members =
    rw c.as_slice-members.ensures.value c.requires.members in
    let counted : c.loop-place.place < load xs c.args.from =
    omega (arith, c.loop-place-test.true, are.counted c.args.from c.requires.from) in
    (are.stands c.args.from c.loop-place.place c.requires.from counted).0

pub cost-there-requires-clause-consumer : goal.cost-there-requires-clause-consumer
cost-there-requires-clause-consumer c = c.requires.to

pub lowered-found-requires-clause-here : goal.lowered-found-requires-clause-here
lowered-found-requires-clause-here c =
    let cost : Option ℕ → ℕ = λ o. unwrap_or o 0 in
    let other : ℕ =
    get_or c.as_slice-members.result.now (c.args.from * c.args.placement.now.width + 1 + c.loop-place.place) 0 in
    let same : cost_of c.args.problem.now other c.args.from ≡ c.unwrap-here.result =
    ap cost (sym c.cost.ensures ∙ c.unwrap-here.ensures) in
    omega (arith, same, cost_small c.args.problem.now c.requires.limits other c.args.from)

pub lowered-found-requires-clause-there : goal.lowered-found-requires-clause-there
lowered-found-requires-clause-there c =
    rw c.cost-there.ensures (cost_at_small c.args.problem.now c.requires.limits _ c.args.to)

pub returns-clause-found : goal.returns-clause-found
returns-clause-found c = c.loop-place.invariant.found
