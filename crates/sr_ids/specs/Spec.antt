-- Which id a word of XADD asks for.
-- Source: Redis documentation, command XADD, "Specifying a Stream ID as an argument".

use Rattle.std.specs.Prelude.{◌≡◌, ℕ, ◌^◌, ◌<◌, List, ◌++◌, codes}
use Rattle.sr_bytes.specs.{IsDecimal}
use Rattle.sr_ids.specs.declared.id.Id.{Id}
use Rattle.sr_ids.specs.declared.spec.Spec.{Spec}
use Rattle.sr_ids.specs.declared.spec.Spec.TheVariants.{Auto, Ms, Written}
use Rattle.sr_ids.specs.Spelling.{SpellsId}

-- the text asks for an id: "*" for any, "5-*" for one in that millisecond (at most 20 digits), and otherwise for the id
-- that it spells, whose sequence number is 0 if it is missing
pub data IsSpec (text : List ℕ) (spec : Spec) : Type 0 where
  auto : text ≡ codes "*" → spec ≡ Auto → IsSpec text spec
  in_millisecond : (digits : List ℕ) (ms : ℕ) → text ≡ digits ++ codes "-*" → IsDecimal 20 digits ms → ms < 2 ^ 64
      → spec ≡ Ms ms → IsSpec text spec
  written : (id : Id) → SpellsId 0 text id → spec ≡ Written id → IsSpec text spec
