-- The parts that pieces are, and parts of which the first is a piece and the others are text. Only private clauses cite
-- this.

use Rattle.std.specs.Prelude.{◌≡◌, ℕ, List, ◌∷◌}
use Rattle.sr_resp.specs.declared.piece.Piece.{Piece}
use Rattle.sr_resp.specs.declared.piece.Piece.TheVariants as pieces
use Rattle.sr_resp.specs.Reply.{Part, Simple, Error, Int, Bulk, NullBulk, NullArray, Array}
use Rattle.sr_resp.specs.Spelled.{Spells}

-- the part that a piece is
abbrev pub part_of : Piece → Part
part_of (pieces.Simple word) = Simple word
part_of (pieces.Error code) = Error code
part_of (pieces.Int n) = Int n
part_of (pieces.Bulk bytes) = Bulk bytes.now
part_of pieces.NullBulk = NullBulk
part_of pieces.NullArray = NullArray
part_of (pieces.Array items) = Array items

-- the parts are this one, and then those that the text spells
pub record AreHeldAs (parts : List Part) (first : Part) (text : List ℕ) : Type 0 where
  pub others : List Part
  pub whole : parts ≡ first ∷ others
  pub spells : Spells text others
