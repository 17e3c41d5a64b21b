use Rattle.std.proofs.Common.{rules, ◌≡◌}
use Rattle.sr_live.proofs.SaidLemmas.{entry-named}
use Rattle.sr_live.proofs.said.fields_said.Goals as goal

pub returns-clause-ok : goal.returns-clause-ok
returns-clause-ok c =
    let same : c.in_ok-found.found ≡ c.args.id = search rules in
    entry-named c.args.id (c.in_ok-found.found, c.in_ok-found.fields) c.args.parts.now c.listed_said.new.parts same c.in_ok-found.ensures.ok
