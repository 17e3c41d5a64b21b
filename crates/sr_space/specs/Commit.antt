-- What carrying out calls one after another leaves, at one moment.
-- Source: Redis documentation, the page of each command.

use Rattle.std.specs.Prelude.{ℕ, List, [], ◌∷◌}
use Rattle.sr_args.specs.declared.call.Call.{Call}
use Rattle.sr_space.specs.Effect.{at_once}
use Rattle.sr_space.specs.Keys.{Keys}

-- the keys after these calls, one after another
abbrev pub after_calls : ℕ → List Call → Keys → Keys
after_calls moment [] keys = keys
after_calls moment (call ∷ calls) keys = after_calls moment calls (at_once keys moment call).keys
