-- What the crates above cite of replies and of their spelling.
use Rattle.std.proofs.Common.{◌≡◌, List, [], ◌∷◌, ◌++◌, length, refl, ap, ◌∙◌}
use Rattle.std.proofs.lemmas.List.Concat.{flat_map-append}
use Rattle.std.specs.List.{flat_map}
use Rattle.sr_resp.specs.Reply.{Array}
use Rattle.sr_resp.specs.Reply.{ReplyParts, array_of, part_text, reply_text}
pub use Rattle.sr_resp.specs.Equality.{same_reply-Decides}
pub use Rattle.sr_resp.proofs.ReplyLemmas.{IsReply-array_of, IsReply-array_of_map}

-- replies that follow one another are spelled one after another
pub reply_text-flat_map : (items : List ReplyParts) → reply_text (flat_map (λ item. item) items) ≡ flat_map reply_text items
reply_text-flat_map [] = refl
reply_text-flat_map (item ∷ items) = flat_map-append part_text item (flat_map (λ item. item) items) ∙ ap (λ text. reply_text item ++ text) (reply_text-flat_map items)

-- an array is spelled as its header, and then its items
pub reply_text-array_of : (items : List ReplyParts) → reply_text (array_of items) ≡ part_text (Array (length items)) ++ flat_map reply_text items
reply_text-array_of items = ap (λ text. part_text (Array (length items)) ++ text) (reply_text-flat_map items)
