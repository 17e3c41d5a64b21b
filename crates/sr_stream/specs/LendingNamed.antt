-- What a group under its name ends as, once the `&mut` to the group has ended. No public clause cites it.

use Rattle.std.specs.Prelude.{ℕ, List}
use Rattle.std.specs.Borrow.{Lends, MutBor, Fml}
use Rattle.sr_group.specs.{KeptGroup}
use Rattle.sr_group.specs.contracts.group.Group as group
use Rattle.sr_stream.specs.contracts.named.NamedGroup as named

-- the group ends as the last value behind r, under the same name
abbrev pub LendsGroup : MutBor (List ℕ × KeptGroup) → MutBor KeptGroup → Fml
LendsGroup s r = Lends named.the_row group.the_row s r (λ w. (s.now.0, w))
