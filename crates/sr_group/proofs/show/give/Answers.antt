use Rattle.std.proofs.Common.{rules, sym, ◌∙◌}
use Rattle.sr_group.proofs.ShowLemmas.{moved-with_nack}
use Rattle.sr_group.proofs.show.give.Goals as goal

pub returns-then-contains-clause-nacks : goal.returns-then-contains-clause-nacks
returns-then-contains-clause-nacks c =
    c.move_to.ensures.nacks ∙ moved-with_nack c.args.nack c.args.pending.now.nacks c.sound.ensures.rising (sym c.contains.ensures ∙ c.if-contains.true)

pub returns-then-contains-clause-rooms : goal.returns-then-contains-clause-rooms
returns-then-contains-clause-rooms c = search rules
