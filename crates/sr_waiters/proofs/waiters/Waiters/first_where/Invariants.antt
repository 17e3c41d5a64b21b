use Rattle.std.proofs.Common.{◌≡◌, Bool}
use Rattle.sr_args.specs.declared.call.Call.{Call}
use Rattle.sr_waiters.specs.Calls.{ComputesTest}
use Rattle.sr_waiters.specs.Layout.{shown_reads}
use Rattle.sr_waiters.specs.Waiters.{first_that}
use Rattle.sr_waiters.proofs.waiters.Waiters.first_where.Given as goal

abbrev pub invariant-loop-session : goal.invariant-loop-session
invariant-loop-session g l =
    (test : Call → Bool) → ComputesTest g.F.Fn test l.fn.passes → first_that test (shown_reads l.session-iterator) ≡ first_that test l.self.list
