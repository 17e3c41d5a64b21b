use Rattle.sr_group.proofs.GroupLemmas.{IsGroup-without}
use Rattle.sr_group.proofs.group.Group.del_consumer.Goals as goal

pub invariant_of-self : goal.invariant_of-self
invariant_of-self c =
    let group = c.self.inside in
    IsGroup-without c.args.name.now group.last group.consumers.items c.remove.new.consumers.items group.pending.nacks c.drop_owner-owned.new.self.nacks c.self.invariant c.remove.ensures c.drop_owner-owned.ensures.nacks
