-- The greatest numbers of a policy and of a snapshot.
-- Source: docs/POLICY.md.

use Rattle.std.specs.Prelude.{ℕ, ◌^◌}

-- consumers of a policy
abbrev pub most_consumers : ℕ
most_consumers = 64

-- tables of rates in a policy
abbrev pub most_classes : ℕ
most_classes = 1024

-- how many entries may be pending for one consumer
abbrev pub most_limit : ℕ
most_limit = 1000000000

-- what each entry beyond a soft limit costs beside
abbrev pub most_fee : ℕ
most_fee = 2 ^ 40

-- a rate
abbrev pub most_rate : ℕ
most_rate = 2 ^ 20

-- the weight of an entry
abbrev pub most_weight : ℕ
most_weight = 2 ^ 20

-- stranded entries of a snapshot
abbrev pub most_stranded : ℕ
most_stranded = 4096
