-- What is pending in the groups of a server: words for laws about commands.
-- Source: Redis documentation, "Streams", section "Consumer groups", and the page of XREADGROUP.

use Rattle.std.specs.Prelude.{⊤, ◌≡◌, ℕ, List, [], ◌∷◌, Option, Some, None}
use Rattle.sr_args.specs.declared.reads.ReadAsked.{ReadAsked}
use Rattle.sr_args.specs.declared.reads.ReadAsked.TheVariants as asked
use Rattle.sr_group.specs.{GroupState}
use Rattle.sr_pending.specs.declared.nack.Nack.{Nack}
use Rattle.sr_stream.specs.{group_with, StreamState}
use Rattle.sr_space.specs.Keys.{Key, Keys, stream_at}

-- what is pending in a group that was found
abbrev pub nacks_of : Option GroupState → List Nack
nacks_of None = []
nacks_of (Some group) = group.nacks

-- what is pending in the group of this name, in a stream that was found
abbrev pub pending_of : List ℕ → Option StreamState → List Nack
pending_of name None = []
pending_of name (Some stream) = nacks_of (group_with name stream.groups)

-- what is pending in the group of this name at a key: nothing if there is no such group
abbrev pub pending_at : Keys → Key → List ℕ → List Nack
pending_at keys key name = pending_of name (stream_at keys key)

-- of each stream, new entries are asked for
abbrev pub AskForNew : List (Key × ReadAsked) → Type 0
AskForNew [] = ⊤
AskForNew (stream ∷ streams) = (stream.1 ≡ asked.New) × AskForNew streams
