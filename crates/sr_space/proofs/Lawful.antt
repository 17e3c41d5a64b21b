-- A command on one stream that leaves it sound, and writes nothing if it replies an error.
use Rattle.std.proofs.Common.{◌≡◌, ℤ, Option, None, refl, arith}
use Rattle.std.specs.Prelude.{IfSome}
use Rattle.sr_resp.specs.declared.code.ErrCode.{ErrCode}
use Rattle.sr_resp.specs.{ReplyParts, error_reply, integer}
use Rattle.sr_stream.specs.{StreamState, IsStream, empty_stream}
use Rattle.sr_space.specs.Touched.{Touched, replies}

pub record IsLawful (f : Option StreamState → Touched) : Type 0 where
  pub sound : (found : Option StreamState) → IfSome found IsStream → IfSome (f found).written IsStream
  pub errors : (found : Option StreamState) (code : ErrCode) → (f found).outcome ≡ error_reply code → (f found).written ≡ None

-- a number is no error
pub integer_no_error : (n : ℤ) (code : ErrCode) → integer n ≡ error_reply code → ⊥
integer_no_error n code e = cc

-- a command that writes nothing
pub IsLawful-replies : (answer : Option StreamState → ReplyParts) → IsLawful (λ found. replies (answer found))
IsLawful-replies answer = record { sound = λ found is. tt; errors = λ found code e. refl }

-- a new stream
pub IsStream-empty : IsStream empty_stream
IsStream-empty = record { rising = tt; up_to = tt; few = omega arith; in_order = tt }
