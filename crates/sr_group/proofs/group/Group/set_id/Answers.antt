use Rattle.std.proofs.Common.{ap}
use Rattle.sr_group.specs.Group.{GroupState, KeptGroup}
use Rattle.sr_group.proofs.group.Group.set_id.Goals as goal

pub returns : goal.returns
returns c =
    ap (λ (k : KeptGroup). let group : GroupState = record { last = c.args.id; consumers = k.shown.consumers; nacks = k.shown.nacks } in group) c.self.view_is
