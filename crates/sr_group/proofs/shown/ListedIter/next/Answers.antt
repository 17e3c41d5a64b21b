use Rattle.sr_group.proofs.ShowLemmas.{listed_of-first}
use Rattle.sr_group.proofs.shown.ListedIter.next.Goals as goal

pub returns-clause-some : goal.returns-clause-some
returns-clause-some c =
    listed_of-first c.in_ok-act.act.now c.self.inside.rest.now c.in_ok-act.rest.now c.listed_by.result c.args.self.now c.in_ok-act.ensures.cases.0 c.listed_by.ensures c.self.view_is
