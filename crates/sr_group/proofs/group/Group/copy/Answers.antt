use Rattle.std.proofs.Common.{ap, ◌∙◌}
use Rattle.sr_group.specs.Group.{KeptGroup}
use Rattle.sr_group.proofs.MovingLemmas.{shown-same}
use Rattle.sr_group.proofs.group.Group.copy.Goals as goal

pub returns : goal.returns
returns c =
    let group = c.self.inside in
    shown-same group.last group.consumers.items c.in_ok-consumers.consumers.items group.pending.nacks c.in_ok-pending.pending.nacks c.args.self.now.shown (c.in_ok-consumers.ensures ∙ c.as_slice.ensures.value) c.in_ok-pending.ensures.nacks
    (ap (λ (k : KeptGroup). k.shown) c.self.view_is)
