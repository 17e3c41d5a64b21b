-- What a closure over calls answers.
use Rattle.std.specs.Prelude.{◌≡◌, Bool}
use Rattle.std.specs.Borrow.{Bor}
use Rattle.std.specs.Fn.{Shared}
use Rattle.sr_args.specs.declared.call.Call.{Call}

-- the closure answers at each call what the test gives
abbrev pub ComputesTest : {F : Type 0} → Shared F (Bor Call × Unit {0}) Bool → (Call → Bool) → F → Type 0
ComputesTest g test passes =
    (call : Bor Call) (answer : Bool) → g.post passes (call, tt) answer → answer ≡ test call.now
