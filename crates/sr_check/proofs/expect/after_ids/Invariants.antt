use Rattle.std.proofs.Common.{map, drop}
use Rattle.sr_check.specs.PlanReply.{id_answer}
use Rattle.sr_check.proofs.ListLemmas.{AreLeft}
use Rattle.sr_check.proofs.expect.after_ids.Given as goal

abbrev pub invariant-loop-id : goal.invariant-loop-id
invariant-loop-id l =
    AreLeft (map (λ entry. id_answer entry.0) l.entries) l.initial.left
    (map (λ entry. id_answer entry.0) (drop l.id-index l.entries)) l.left
