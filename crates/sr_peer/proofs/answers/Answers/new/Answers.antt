use Rattle.std.proofs.Common.{rules}
use Rattle.sr_peer.proofs.AnswerLemmas.{read-new}
use Rattle.sr_peer.proofs.answers.Answers.new.Goals as goal

pub invariant_of-result : goal.invariant_of-result
invariant_of-result c = read-new c.args.count c.new.result.items (search rules)
