-- What accepting comes to: a connection, none for now, or none ever again.

use Rattle.std.specs.Prelude.{◌≡◌, ◌≢◌, ◌<◌, ◌⊎◌, Option, Some, None, Result, Ok, Err}
use Rattle.sr_events.specs.declared.acceptor.Waiting.{Waiting}
use Rattle.sr_events.specs.declared.acceptor.Waiting.TheVariants as waiting
use Rattle.sr_events.specs.declared.acceptor.Acceptor.{Acceptor}

-- after a connection more may wait; there is none for now only once it was noted that none waits or that it has to be
-- tried later, or the pass is over
abbrev pub Accepts : {S E : Type 0} → Acceptor → Result (Option S) E → Acceptor → Type 0
Accepts old (Ok (Some stream)) new = (new.waiting ≡ waiting.Maybe) × (new.left < old.left)
Accepts old (Ok None) new = (new.left ≡ 0) ⊎ (new.waiting ≢ waiting.Maybe)
Accepts old (Err ended) new = new.waiting ≡ waiting.Maybe

-- what the next pass tries: that which was put off too
abbrev pub tried_again : Waiting → Waiting
tried_again waiting.Nobody = waiting.Nobody
tried_again waiting.Maybe = waiting.Maybe
tried_again waiting.Later = waiting.Maybe
