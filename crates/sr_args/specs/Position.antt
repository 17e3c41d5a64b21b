-- From where a stream is read, as a word of XGROUP or of XREAD says it, and which entries a consumer of a group reads,
-- as a word of XREADGROUP says it.
-- Source: Redis documentation, commands XGROUP CREATE, XGROUP SETID, XREAD and XREADGROUP.

use Rattle.std.specs.Prelude.{◌≡◌, ℕ, List, codes}
use Rattle.sr_ids.specs.{SpellsId}
use Rattle.sr_args.specs.declared.call.Position.{Position}
use Rattle.sr_args.specs.declared.call.Position.TheVariants as positions
use Rattle.sr_args.specs.declared.reads.ReadAsked.{ReadAsked}
use Rattle.sr_args.specs.declared.reads.ReadAsked.TheVariants as reads

-- the word says from where: "$" alone is after the last id that the stream gave, and every other word is the id that it
-- spells
abbrev pub SpellsPosition : List ℕ → Position → Type 0
SpellsPosition word positions.Last = word ≡ codes "$"
SpellsPosition word (positions.At id) = SpellsId 0 word id

-- the word says which entries: ">" alone is those that the group has not delivered yet, and every other word is the
-- consumer's own pending entries above the id that it spells
abbrev pub SpellsRead : List ℕ → ReadAsked → Type 0
SpellsRead word reads.New = word ≡ codes ">"
SpellsRead word (reads.PendingAfter id) = SpellsId 0 word id
