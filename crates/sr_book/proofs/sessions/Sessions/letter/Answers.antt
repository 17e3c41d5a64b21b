use Rattle.std.proofs.Common.{List, ap, ◌∙◌}
use Rattle.sr_book.specs.Server.{Session, letter_of}
use Rattle.sr_book.proofs.sessions.Sessions.letter.Goals as goal

pub returns : goal.returns
returns c = c.letter_in.ensures ∙ ap (λ (l : List Session). letter_of c.args.number l) (c.as_slice.ensures.value ∙ c.self.view_is)
