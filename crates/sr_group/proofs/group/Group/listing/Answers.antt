use Rattle.std.proofs.Common.{List, take, ap, ◌∙◌}
use Rattle.std.specs.Option.{option_copied}
use Rattle.sr_pending.specs.declared.nack.Nack.{Nack}
use Rattle.sr_pending.specs.Pending.{owned_by_named, pending_between}
use Rattle.sr_group.specs.Group.{KeptGroup, idle_for}
use Rattle.sr_group.proofs.group.Group.listing.Goals as goal

pub returns : goal.returns
returns c =
    c.new.ensures.value
    ∙ ap (λ (l : List Nack). take c.args.count (idle_for c.args.least_idle c.args.moment l))
    (c.range-rest.ensures ∙ ap (λ (k : KeptGroup). owned_by_named (option_copied c.args.owner) (pending_between c.args.start c.args.end k.shown.nacks)) c.self.view_is)
