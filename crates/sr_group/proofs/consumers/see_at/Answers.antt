use Rattle.sr_group.proofs.ConsumerLemmas.{seen_at-set}
use Rattle.sr_group.proofs.consumers.see_at.Goals as goal

pub returns-clause-items : goal.returns-clause-items
returns-clause-items c =
    let at = c.requires.place in
    seen_at-set c.args.name c.args.moment c.args.consumers.now.items c.args.place at.consumer c.requires.order at.here at.same
