use Rattle.std.proofs.Common.{ap, subst}
use Rattle.sr_resp.specs.{Progress}
use Rattle.sr_hub.specs.Line.{ConnectionState}
use Rattle.sr_hub.specs.steps.Telling.{FeedsNot}
use Rattle.sr_hub.proofs.connection.Connection.feed.Goals as goal

pub returns-in-Err-clause-err : goal.returns-in-Err-clause-err
returns-in-Err-clause-err c =
    let with : Progress → ConnectionState = λ r. record { session = c.self.inside.session; requests = r; unsent = c.self.inside.unsent; stage = c.self.inside.stage } in
    let P : ConnectionState → Type 0 = λ line. FeedsNot line (with c.feed.new.requests) in
    subst P c.self.view_is (record { looked = c.feed.new.requests.looked; same = ap with c.in-Err.ensures.err })
