-- What the records say of a session's bytes: the text of each request is that of the one reply that the records address
-- to the session for it, or that of an error, and then they address none.
-- Source: docs/DEFINITIONS.md, "The one-thread server".

use Rattle.std.specs.Prelude.{◌≡◌, ℕ, List, [], ◌∷◌, drop, length}
use Rattle.std.specs.List.{flat_map}
use Rattle.sr_resp.specs.{Words}
use Rattle.sr_resp.specs.Reply.{ReplyParts, error_reply, reply_text}
use Rattle.sr_resp.specs.declared.code.ErrCode.{ErrCode}
use Rattle.sr_book.specs.{BookState}
use Rattle.sr_book.specs.Records.{addressed}

-- what a request is told: a reply that is in the records, or an error that is in none
pub data Response : Type 0 where
  reply : ReplyParts → Response
  error : ErrCode → Response

abbrev pub text_of : Response → List ℕ
text_of (reply parts) = reply_text parts
text_of (error code) = reply_text (error_reply code)

-- those that are in the records, in their order
abbrev pub replies_in : List Response → List ReplyParts
replies_in [] = []
replies_in (reply parts ∷ told) = parts ∷ replies_in told
replies_in (error code ∷ told) = replies_in told

-- each request is told one thing, the text is what they are told, in order, and what of it is in records is exactly
-- what the records that were added address to the session
pub record AreRecordedResponses (session : ℕ) (old : BookState) (requests : List Words) (text : List ℕ)
    (new : BookState) : Type 0 where
  pub told : List Response
  pub each : length told ≡ length requests
  pub spelled : text ≡ flat_map text_of told
  pub recorded : addressed session (drop (length old.records) new.records) ≡ replies_in told
