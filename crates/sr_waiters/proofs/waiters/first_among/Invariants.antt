use Rattle.std.proofs.Common.{◌≡◌, Bool}
use Rattle.std.specs.Map.{keys_of}
use Rattle.sr_args.specs.declared.call.Call.{Call}
use Rattle.sr_waiters.specs.Calls.{ComputesTest}
use Rattle.sr_waiters.specs.Index.{reads_of}
use Rattle.sr_waiters.specs.Layout.{shown_reads}
use Rattle.sr_waiters.specs.Waiters.{first_that}
use Rattle.sr_waiters.proofs.waiters.first_among.Given as goal

abbrev pub invariant-loop-session : goal.invariant-loop-session
invariant-loop-session g l =
    (test : Call → Bool) → ComputesTest g.F.Fn test l.fn.passes
    → first_that test (reads_of (keys_of l.session-iterator) (shown_reads l.reads.entries)) ≡ first_that test (reads_of (keys_of l.sessions.entries) (shown_reads l.reads.entries))
