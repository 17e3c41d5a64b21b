use Rattle.std.proofs.Common.{rules}
use Rattle.sr_resp.proofs.StreamLemmas.{Stands-given}
use Rattle.sr_resp.proofs.reader.Reader.next_request.Goals as goal

pub returns-clause-some : goal.returns-clause-some
returns-clause-some c = search rules

pub returns-clause-given : goal.returns-clause-given
returns-clause-given c = λ taken given. Stands-given _ _ _ taken given (search rules)
