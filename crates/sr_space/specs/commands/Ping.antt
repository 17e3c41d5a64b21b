-- PING replies PONG, or its message.
-- Source: Redis documentation, the page of PING.

use Rattle.std.specs.Prelude.{ℕ, List, Option, Some, None}
use Rattle.sr_resp.specs.declared.code.Word.TheVariants.{Pong}
use Rattle.sr_resp.specs.{ReplyParts, bulk_string}
use Rattle.sr_resp.specs.Reply.{simple_string}

abbrev pub ping : Option (List ℕ) → ReplyParts
ping None = simple_string Pong
ping (Some message) = bulk_string message
