-- The bytes that pass through a connection, where they are known.

use Rattle.std.specs.Prelude.{◌≡◌, ⊤, ℕ, List, [], ◌++◌, take, Option, Some, None, Result, Ok, Err}

-- these may be the bytes, by what is known of them
abbrev pub MayBe : Option (List ℕ) → List ℕ → Type 0
MayBe None bytes = ⊤
MayBe (Some known) bytes = bytes ≡ known

-- what is known once more passed
abbrev pub more : List ℕ → Option (List ℕ) → Option (List ℕ)
more bytes None = None
more bytes (Some known) = Some (known ++ bytes)

-- the same after a read or a write of that many of these bytes, or one that failed
abbrev pub after : {E : Type 0} → Result ℕ E → List ℕ → Option (List ℕ) → Option (List ℕ)
after (Ok count) bytes known = more (take count bytes) known
after (Err error) bytes known = known

-- nothing was read from a connection and nothing written to it
abbrev pub IsUnused : Option (List ℕ) → Option (List ℕ) → Type 0
IsUnused gave got = MayBe gave [] × MayBe got []

-- what is known of the connection in a place, if there is one
abbrev pub known_of : {S : Type 0} → (S → Option (List ℕ)) → Option S → Option (List ℕ)
known_of known None = None
known_of known (Some stream) = known stream
