-- What every command leaves.
use Rattle.std.proofs.Common.{◌≡◌, ℕ}
use Rattle.std.specs.Prelude.{IsSome}
use Rattle.sr_resp.specs.declared.code.ErrCode.{ErrCode}
use Rattle.sr_resp.specs.{error_reply}
use Rattle.sr_args.specs.declared.call.Call.{Call}
use Rattle.sr_space.specs.Keys.{Key, Keys, stream_at, AreStreams}
use Rattle.sr_space.specs.Effect.{at_once}
use Rattle.sr_space.proofs.CommandLaws.{at_once-keeps}

pub AreStreams-at_once : (keys : Keys) (moment : ℕ) (call : Call) → AreStreams keys → AreStreams (at_once keys moment call).keys
AreStreams-at_once keys moment call = (at_once-keeps keys moment call).sound

pub at_once-error : (keys : Keys) (moment : ℕ) (call : Call) (code : ErrCode) → (at_once keys moment call).outcome ≡ error_reply code → (at_once keys moment call).keys ≡ keys
at_once-error keys moment call = (at_once-keeps keys moment call).errors

pub IsSome-at_once : (keys : Keys) (moment : ℕ) (call : Call) (key : Key) → IsSome (stream_at keys key) → IsSome (stream_at (at_once keys moment call).keys key)
IsSome-at_once keys moment call = (at_once-keeps keys moment call).stay
