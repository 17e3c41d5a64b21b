use Rattle.sr_solver.proofs.MembersLemmas.{row_in, first_in}
use Rattle.sr_solver.proofs.table.is_narrow.Goals as goal

pub bounds-members-row : goal.bounds-members-row
bounds-members-row c =
    (first_in _ _ _ _ (row_in c.args.problem.now c.args.placement.now.width c.args.consumer _ _ _ c.requires.limits
    c.as_slice-members.ensures.value c.requires.members c.requires.consumer)).0

pub offset_bounds-members-row : goal.offset_bounds-members-row
offset_bounds-members-row c =
    (first_in _ _ _ _ (row_in c.args.problem.now c.args.placement.now.width c.args.consumer _ _ _ c.requires.limits
    c.as_slice-members.ensures.value c.requires.members c.requires.consumer)).1

pub overflow_mul-row : goal.overflow_mul-row
overflow_mul-row c =
    (first_in _ _ _ _ (row_in c.args.problem.now c.args.placement.now.width c.args.consumer _ _ _ c.requires.limits
    c.as_slice-members.ensures.value c.requires.members c.requires.consumer)).2
