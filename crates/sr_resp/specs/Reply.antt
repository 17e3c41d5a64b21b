-- Replies, and how RESP2 spells them.
-- Source: RESP2 protocol specification, "RESP protocol description".

use Rattle.std.specs.Prelude.{◌≡◌, ℕ, zero, suc, ◌+◌, ℤ, List, [], ◌∷◌, ◌++◌, length, codes, decimal}
use Rattle.std.specs.Fmt.{signed_decimal}
use Rattle.std.specs.List.{flat_map}
use Rattle.sr_resp.specs.declared.code.Word.{Word}
use Rattle.sr_resp.specs.declared.code.ErrCode.{ErrCode}
use Rattle.sr_resp.specs.Code.{word_text, error_text}

-- one part of a reply, as it is sent; an array is a header followed by its items
pub data Part : Type 0 where
  Simple : Word → Part
  Error : ErrCode → Part
  Int : ℤ → Part
  Bulk : List ℕ → Part
  NullBulk : Part
  NullArray : Part
  Array : ℕ → Part

-- what a reply says: its parts in the order in which they are sent
abbrev pub ReplyParts : Type 0
ReplyParts = List Part

-- how many replies have to follow a part: the items of an array, and none after any other part
abbrev pub items_of : Part → ℕ
items_of (Array items) = items
items_of _ = 0

-- the parts are this many replies, one after another, and each array has its items
abbrev pub AreReplies : ℕ → List Part → Type 0
AreReplies n [] = n ≡ 0
AreReplies zero (part ∷ parts) = ⊥
AreReplies (suc n) (part ∷ parts) = AreReplies (items_of part + n) parts

-- the parts are one reply
abbrev pub IsReply : ReplyParts → Type 0
IsReply parts = AreReplies 1 parts

abbrev pub simple_string : Word → ReplyParts
simple_string word = Simple word ∷ []

abbrev pub error_reply : ErrCode → ReplyParts
error_reply code = Error code ∷ []

abbrev pub integer : ℤ → ReplyParts
integer n = Int n ∷ []

abbrev pub bulk_string : List ℕ → ReplyParts
bulk_string bytes = Bulk bytes ∷ []

abbrev pub null_string : ReplyParts
null_string = NullBulk ∷ []

abbrev pub null_array : ReplyParts
null_array = NullArray ∷ []

-- the header of an array with this many items
abbrev pub array_header : ℕ → List Part
array_header items = Array items ∷ []

-- the array of these replies
abbrev pub array_of : List ReplyParts → ReplyParts
array_of items = Array (length items) ∷ flat_map (λ item. item) items

-- the reply is an array
abbrev pub IsArray : ReplyParts → Type 0
IsArray reply = (items : List ReplyParts) × (reply ≡ array_of items)

abbrev pub line_end : List ℕ
line_end = codes "\r\n"

-- how a part is spelled
abbrev pub part_text : Part → List ℕ
part_text (Simple word) = codes "+" ++ word_text word ++ line_end
part_text (Error code) = codes "-" ++ error_text code ++ line_end
part_text (Int n) = codes ":" ++ signed_decimal n ++ line_end
part_text (Bulk bytes) = codes "$" ++ decimal (length bytes) ++ line_end ++ bytes ++ line_end
part_text NullBulk = codes "$-1\r\n"
part_text NullArray = codes "*-1\r\n"
part_text (Array items) = codes "*" ++ decimal items ++ line_end

-- how a reply is spelled: part by part
abbrev pub reply_text : ReplyParts → List ℕ
reply_text parts = flat_map part_text parts
