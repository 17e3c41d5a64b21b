-- The names of a board, consumer by consumer of the group. No public clause cites it.

use Rattle.std.specs.Prelude.{⊤, ℕ, IsTrue, List, [], ◌∷◌, ◌++◌, filter}
use Rattle.std.specs.List.{flat_map}
use Rattle.sr_bytes.specs.{comes_before}
use Rattle.sr_group.specs.declared.consumer.Consumer.{Consumer}
use Rattle.sr_group.specs.{GroupState}
use Rattle.sr_policy.specs.{Text}
use Rattle.sr_policy.specs.Rules.{Rules, has_tiers}
use Rattle.sr_dash.specs.Board.{line, row_of}

-- the name comes before all of these
abbrev pub AreAbove : Text → List Text → Type 0
AreAbove name [] = ⊤
AreAbove name (other ∷ others) = IsTrue (comes_before name other) × AreAbove name others

-- each name comes before those after it
abbrev pub AreRising : List Text → Type 0
AreRising [] = ⊤
AreRising (name ∷ names) = AreAbove name names × AreRising names

-- the names of the consumers and these, each once: before each consumer those that come before it
abbrev pub merged : List Consumer → List Text → List Text
merged [] names = names
merged (consumer ∷ consumers) names =
    filter (λ other. comes_before other consumer.name) names
    ++ consumer.name ∷ merged consumers (filter (λ other. comes_before consumer.name other) names)

-- the lines of these names
abbrev pub lines_of : GroupState → ℕ → Rules → List Text → List ℕ
lines_of group moment rules names = flat_map (λ name. line (has_tiers rules) (row_of group moment rules name)) names
