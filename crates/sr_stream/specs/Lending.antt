-- What a stream ends as, once the `&mut` to one of its groups has ended.

use Rattle.std.specs.Prelude.{ℕ, List, Option}
use Rattle.std.specs.Borrow.{follows, LendsIf, MutBor, Bor, Fml}
use Rattle.sr_entries.specs.Entries.{Kept}
use Rattle.sr_group.specs.{KeptGroup}
use Rattle.sr_group.specs.contracts.group.Group as group
use Rattle.sr_stream.specs.Stream.{KeptStream, kept_with_group}
use Rattle.sr_stream.specs.contracts.stream.Stream as stream

-- the stream s has the last value written through r as its group of this name, and at `None` it stays
abbrev pub LendsGroup : MutBor KeptStream → List ℕ → Option (MutBor KeptGroup) → Fml
LendsGroup s name r = LendsIf stream.the_row group.the_row s r (λ w. kept_with_group name w s.now) s.now

-- the same for a group that is lent beside the entries
abbrev pub LendsGroupBeside : MutBor KeptStream → List ℕ → Bor Kept × MutBor KeptGroup → Fml
LendsGroupBeside s name r =
    follows stream.the_row group.the_row s.ghost_name r.1.ghost_name (λ w. kept_with_group name w s.now)
