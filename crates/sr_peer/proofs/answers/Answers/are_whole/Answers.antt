use Rattle.sr_peer.proofs.AnswerLemmas.{read-whole}
use Rattle.sr_peer.proofs.answers.Answers.are_whole.Goals as goal

pub returns : goal.returns
returns c =
    rw (← c.self.view_is)
    (read-whole c.self.inside.count c.self.inside.place.at c.self.inside.place.due c.self.inside.text.items
    c.self.invariant)
