use Rattle.std.proofs.Common.{List, length, ap, ◌∙◌}
use Rattle.sr_group.specs.declared.shown.Listed.{Listed}
use Rattle.sr_group.proofs.ShowLemmas.{length-listed_of}
use Rattle.sr_group.proofs.shown.ListedIter.len.Goals as goal

pub returns : goal.returns
returns c = length-listed_of c.self.inside.rest.now ∙ ap (λ (l : List Listed). length l) c.self.view_is
