use Rattle.sr_group.proofs.GroupLemmas.{IsGroup-shown}
use Rattle.sr_group.proofs.group.Group.show.Goals as goal

pub invariant_of-self : goal.invariant_of-self
invariant_of-self c =
    let shown = c.shown.inside in
    let group = c.self.inside in
    IsGroup-shown shown.consumer shown.moment shown.acts.items group.last shown.last group.consumers.items c.see.new.consumers.items group.pending.nacks c.apply_all.new.pending.nacks
    c.self.invariant c.shown.invariant.moment c.shown.invariant.acts c.see.ensures.items c.apply_all.ensures.nacks c.apply_all.ensures.rising c.apply_all.ensures.countable
