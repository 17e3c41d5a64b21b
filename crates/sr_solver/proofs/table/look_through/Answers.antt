use Rattle.std.proofs.Common.{ℕ, ◌+◌, ◌*◌, ◌<◌, List, get_or, refl, arith}
use Rattle.sr_solver.specs.Members.{AreMembers}
use Rattle.sr_solver.specs.Table.{IsAt}
use Rattle.sr_solver.proofs.MembersLemmas.{row_in, first_in, other_in, looked_more, looked_all}
use Rattle.sr_solver.proofs.table.look_through.Goals as goal

pub loop-place-preserved : goal.loop-place-preserved
loop-place-preserved c =
    let row : ℕ = c.args.from * c.args.placement.now.width in
    let xs : List ℕ = c.args.placement.now.assign.items in
    let members : List ℕ = c.as_slice-members.result.now in
    let are_members : AreMembers c.args.problem.now c.args.placement.now.width xs members =
    rw c.as_slice-members.ensures.value c.requires.members in
    let entry : ℕ = get_or members (row + 1 + c.loop-place.place) 0 in
    let placed : c.loop-place.place < get_or members row 0 = c.loop-place-test.true in
    let stands : IsAt xs c.args.problem.now.entries c.args.from entry =
    are_members.stands c.args.from c.loop-place.place c.requires.from
    (omega (arith, placed, are_members.counted c.args.from c.requires.from)) in
    looked_more c.args.problem.now xs members row c.loop-place.place entry c.args.from c.args.pairs.now
    c.loop-place.pairs c.arrive.new.pairs c.requires.limits stands.0 stands.1 refl c.loop-place.invariant
    c.arrive.ensures

pub returns : goal.returns
returns c =
    let members : List ℕ = c.as_slice-members.result.now in
    let are_members : AreMembers c.args.problem.now c.args.placement.now.width
    c.args.placement.now.assign.items members =
    rw c.as_slice-members.ensures.value c.requires.members in
    looked_all c.args.problem.now c.args.placement.now.width c.args.placement.now.assign.items members
    (c.args.from * c.args.placement.now.width) c.loop-place.place c.args.from c.args.pairs.now c.loop-place.pairs
    c.requires.from are_members refl (omega arith) c.requires.pairs c.loop-place.invariant

pub bounds-members-row : goal.bounds-members-row
bounds-members-row c =
    (first_in _ _ _ _ (row_in c.args.problem.now c.args.placement.now.width c.args.from _ _ _ c.requires.limits
    c.as_slice-members.ensures.value c.requires.members c.requires.from)).0

pub bounds-members-row-in-loop-place : goal.bounds-members-row-in-loop-place
bounds-members-row-in-loop-place c =
    (other_in _ _ _ _ _ (row_in c.args.problem.now c.args.placement.now.width c.args.from _ _ _ c.requires.limits
    c.as_slice-members.ensures.value c.requires.members c.requires.from) c.loop-place-test.true).0

pub offset_bounds-members-row-in-loop-place : goal.offset_bounds-members-row-in-loop-place
offset_bounds-members-row-in-loop-place c =
    (other_in _ _ _ _ _ (row_in c.args.problem.now c.args.placement.now.width c.args.from _ _ _ c.requires.limits
    c.as_slice-members.ensures.value c.requires.members c.requires.from) c.loop-place-test.true).1
