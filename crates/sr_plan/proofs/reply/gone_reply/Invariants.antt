use Rattle.std.proofs.Common.{◌≡◌, ◌++◌, length, drop}
use Rattle.std.specs.List.{flat_map}
use Rattle.sr_resp.specs.{array_header}
use Rattle.sr_check.specs.{id_answer}
use Rattle.sr_plan.proofs.reply.gone_reply.Given as goal

abbrev pub invariant-loop-id : goal.invariant-loop-id
invariant-loop-id l =
    l.draft ++ flat_map (λ pair. id_answer pair.0) (drop l.id-index l.gone)
    ≡ array_header (length l.gone) ++ flat_map (λ pair. id_answer pair.0) l.gone
