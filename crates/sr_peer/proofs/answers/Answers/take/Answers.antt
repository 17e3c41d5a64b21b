use Rattle.sr_peer.proofs.ReadLemmas.{read-on, read-may, refused-malformed, refused-too_long}
use Rattle.sr_peer.proofs.answers.Answers.take.Goals as goal

pub invariant_of-self : goal.invariant_of-self
invariant_of-self c =
    let inside = c.self.inside in
    read-on inside.count inside.place.at inside.place.due inside.text.items c.args.piece.now _ c.in-Ok.place
    c.self.invariant c.in-Ok.ensures.ok c.in-Ok.ensures.short c.in-Ok.ensures.reads

pub returns-in-Ok-clause-possible : goal.returns-in-Ok-clause-possible
returns-in-Ok-clause-possible c =
    let inside = c.self.inside in
    read-may inside.count c.in-Ok.place.at c.in-Ok.place.due c.grow.new.text.items
    (read-on inside.count inside.place.at inside.place.due inside.text.items c.args.piece.now _ c.in-Ok.place
    c.self.invariant c.in-Ok.ensures.ok c.in-Ok.ensures.short c.in-Ok.ensures.reads)

pub returns-in-Err-clause-malformed : goal.returns-in-Err-clause-malformed
returns-in-Err-clause-malformed c = λ e.
    let inside = c.self.inside in
    rw (← c.self.view_is)
    (refused-malformed inside.count inside.place.at inside.place.due inside.text.items c.args.piece.now c.in-Err.fault
    c.self.invariant c.in-Err.ensures.reads (cc e))

pub returns-in-Err-clause-too_long : goal.returns-in-Err-clause-too_long
returns-in-Err-clause-too_long c = λ e.
    let inside = c.self.inside in
    rw (← c.self.view_is)
    (refused-too_long inside.count inside.place.at inside.place.due inside.text.items c.args.piece.now c.in-Err.fault
    c.self.invariant c.in-Err.ensures.reads (cc e))
