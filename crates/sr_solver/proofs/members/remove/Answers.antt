use Rattle.std.proofs.Common.{arith, ◌-◌, get_or}
use Rattle.sr_solver.proofs.MembersLemmas.{removed_last, removed_at}
use Rattle.sr_solver.proofs.members.remove.Goals as goal

pub returns-then-members-row : goal.returns-then-members-row
returns-then-members-row c =
    removed_at c.args.row c.args.entry c.args.members.now c.loop-place.members
    (get_or c.args.members.now c.args.row 0 - 1) c.loop-place.place
    c.loop-place.invariant.same c.requires.room
    (omega (arith, c.requires.member.1)) c.requires.apart c.loop-place-test.true c.if-members-row.true

pub returns : goal.returns
returns c =
    removed_last c.args.row c.args.entry c.args.members.now c.loop-place.members
    (get_or c.args.members.now c.args.row 0 - 1)
    c.loop-place.invariant.same (omega (arith, c.requires.room))
    (omega (arith, c.requires.member.1)) c.requires.member c.requires.apart
    (λ j lt. c.loop-place.invariant.passed j (omega (arith, lt, c.loop-place-test.false)))
