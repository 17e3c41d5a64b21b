-- How ids are spelled: in the words of a command, as the ends of a range, and in replies.
-- Source: Redis documentation, "Streams", section "Entry IDs", and the page of XRANGE, sections "- and +
-- special IDs", "Incomplete IDs" and "Exclusive ranges".

use Rattle.std.specs.Prelude.{◌≡◌, ℕ, ◌⊎◌, List, ◌++◌, codes, decimal}
use Rattle.sr_bytes.specs.{IsDecimal}
use Rattle.sr_ids.specs.declared.id.Id.{Id}
use Rattle.sr_ids.specs.Id.{IsId, IsNext, least_id, greatest_id}

-- "5-1": the milliseconds, a dash and the sequence number, each in at most 20 digits
pub record IsWhole (text : List ℕ) (id : Id) : Type 0 where
  pub before : List ℕ
  pub behind : List ℕ
  pub ms : IsDecimal 20 before id.ms
  pub seq : IsDecimal 20 behind id.seq
  pub spelled : text ≡ before ++ codes "-" ++ behind

-- "5": the milliseconds alone; the sequence number is then this one
pub record IsShort (missing : ℕ) (text : List ℕ) (id : Id) : Type 0 where
  pub ms : IsDecimal 20 text id.ms
  pub seq : id.seq ≡ missing

-- the text spells the id, whole or short
pub record SpellsId (missing : ℕ) (text : List ℕ) (id : Id) : Type 0 where
  pub valid : IsId id
  pub written : IsWhole text id ⊎ IsShort missing text id

-- as the start of a range, the text is this id: "-" is the least id, "+" the greatest, a spelling its id, and "("
-- before a spelling the id after that one
pub data IsStart (text : List ℕ) (id : Id) : Type 0 where
  at_least : text ≡ codes "-" → id ≡ least_id → IsStart text id
  at_greatest : text ≡ codes "+" → id ≡ greatest_id → IsStart text id
  at_written : SpellsId 0 text id → IsStart text id
  after_written : (digits : List ℕ) (written : Id) → text ≡ codes "(" ++ digits → SpellsId 0 digits written
      → IsNext written id → IsStart text id

-- as the end of a range, the text is this id: like a start, but a missing sequence number is the greatest, and "("
-- before a spelling is the id before that one
pub data IsEnd (text : List ℕ) (id : Id) : Type 0 where
  at_least : text ≡ codes "-" → id ≡ least_id → IsEnd text id
  at_greatest : text ≡ codes "+" → id ≡ greatest_id → IsEnd text id
  at_written : SpellsId 0xffff_ffff_ffff_ffff text id → IsEnd text id
  before_written : (digits : List ℕ) (written : Id) → text ≡ codes "(" ++ digits
      → SpellsId 0xffff_ffff_ffff_ffff digits written → IsId id → IsNext id written → IsEnd text id

-- the one spelling of an id in replies: no leading zeros, and both parts
abbrev pub spelling : Id → List ℕ
spelling id = decimal id.ms ++ codes "-" ++ decimal id.seq
