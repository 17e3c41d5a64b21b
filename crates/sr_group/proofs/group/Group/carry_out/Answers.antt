use Rattle.std.proofs.Common.{map}
use Rattle.sr_group.specs.declared.moving.Wanted.{Wanted}
use Rattle.sr_group.proofs.MovingLemmas.{IsGroup-moved}
use Rattle.sr_group.proofs.group.Group.carry_out.Goals as goal

pub invariant_of-self : goal.invariant_of-self
invariant_of-self c =
    let ready = c.ready.inside in
    let group = c.self.inside in
    IsGroup-moved ready.claim ready.claimer c.args.moment c.args.entries.now.entries (map (λ (w : Wanted). w.id) ready.wanted.items) group.last group.consumers.items c.see.new.consumers.items group.pending.nacks c.take_all.new.pending.nacks
    c.self.invariant c.requires.moment c.see.ensures.items c.take_all.ensures.nacks c.take_all.ensures.rising c.take_all.ensures.countable
