-- A command as a session takes it.
use Rattle.std.proofs.Common.{◌≡◌, Bool, false, sym, ap, subst}
use Rattle.sr_args.specs.{without_block}
use Rattle.sr_args.specs.declared.call.Call.{Call}
use Rattle.sr_args.specs.declared.call.Command.{Command}
use Rattle.sr_args.specs.declared.call.Command.TheVariants as commands
use Rattle.sr_session.specs.Answered.{taken_as}

-- a call that may not wait
pub taken_as-call : (blocking : Bool) (command : Command) (call made : Call) → command ≡ commands.Call call → blocking ≡ false → made ≡ without_block call
    → commands.Call made ≡ taken_as blocking command
taken_as-call blocking command call made is_call may_not is =
    subst (λ (b : Bool). commands.Call made ≡ taken_as b command) (sym may_not) (subst (λ (k : Command). commands.Call made ≡ taken_as false k) (sym is_call) (ap commands.Call is))
