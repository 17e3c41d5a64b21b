-- Names with a star. In a policy a name that ends in a star stands for each consumer whose name has the beginning that
-- is before the star. A whole name goes first, and a longer beginning before a shorter one.
-- Source: docs/POLICY.md.

use Rattle.std.specs.Prelude.{◌≡◌, ◌⊎◌, ℕ, ◌<◌, ◌≤◌, List, ◌++◌, length, slice_index_or, codes, [], Option, Some, None}
use Rattle.sr_policy.specs.{Text}

-- the name ends in a star, and the consumer's begins with what is before it
abbrev pub StandsFor : Text → Text → Type 0
StandsFor key consumer =
    (start : Text) × (rest : Text) × (key ≡ start ++ codes "*") × (consumer ≡ start ++ rest)

-- the name with this number
abbrev pub key_at : List Text → ℕ → Text
key_at keys at = slice_index_or keys at []

-- no name is the consumer's own
abbrev pub NoneIs : List Text → Text → Type 0
NoneIs keys consumer = (k : ℕ) → k < length keys → key_at keys k ≡ consumer → ⊥

-- of the first so many names none stands for the consumer; or this one does, and none of those that do is longer
abbrev pub IsLongest : List Text → Text → ℕ → Option ℕ → Type 0
IsLongest keys consumer many None = (k : ℕ) → k < many → StandsFor (key_at keys k) consumer → ⊥
IsLongest keys consumer many (Some at) =
    (at < many) × StandsFor (key_at keys at) consumer
    × ((k : ℕ) → k < many → StandsFor (key_at keys k) consumer → length (key_at keys k) ≤ length (key_at keys at))

-- this name is for the consumer: its own; or, if none is, the longest that stands for it. None is if none does
abbrev pub IsFor : List Text → Text → Option ℕ → Type 0
IsFor keys consumer None = NoneIs keys consumer × IsLongest keys consumer (length keys) None
IsFor keys consumer (Some at) =
    (at < length keys) × ((key_at keys at ≡ consumer)
    ⊎ (NoneIs keys consumer × IsLongest keys consumer (length keys) (Some at)))
