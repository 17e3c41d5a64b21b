-- The replies that the code's own type holds. No public clause cites this.
use Rattle.std.specs.Prelude.{ℕ, List, [], ◌∷◌}
use Rattle.sr_resp.specs.{ReplyParts}
use Rattle.sr_book.specs.declared.replies.Replies.{Replies}
use Rattle.sr_book.specs.declared.replies.Replies.TheVariants as replies

abbrev pub replies_in : Replies → List (ℕ × ReplyParts)
replies_in replies.Nobody = []
replies_in (replies.One reply) = reply ∷ []
replies_in (replies.Several several) = several.items
