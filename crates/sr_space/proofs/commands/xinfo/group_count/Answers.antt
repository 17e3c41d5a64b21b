use Rattle.std.proofs.Common.{length, ap, sym, ◌∙◌}
use Rattle.sr_space.proofs.InfoLemmas.{length-shown_groups}
use Rattle.sr_space.proofs.commands.xinfo.group_count.Goals as goal

pub returns-clause-value : goal.returns-clause-value
returns-clause-value c = sym (length-shown_groups c.groups.result.now) ∙ ap length c.groups.ensures.shown
