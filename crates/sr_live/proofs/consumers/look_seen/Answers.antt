use Rattle.std.proofs.Common.{rules}
use Rattle.std.proofs.lemmas.Result.{IfOk-weaker}
use Rattle.sr_live.proofs.ConsumersLemmas.{idle-asked, idle-unasked}
use Rattle.sr_live.proofs.consumers.look_seen.Goals as goal

pub returns-in-Some-clause-ok : goal.returns-in-Some-clause-ok
returns-in-Some-clause-ok g c =
    let asked = c.args.asked.now in
    IfOk-weaker c.look_idles.result _ _ (λ idles said. idle-asked _ _ _ _ asked.key asked.group asked.seen_within
    c.in-Some._within idles.items c.in-Some.is said) c.look_idles.ensures.ok

pub returns-in-None-clause-ok : goal.returns-in-None-clause-ok
returns-in-None-clause-ok g c =
    let asked = c.args.asked.now in
    idle-unasked _ _ asked.key asked.group asked.seen_within _ c.in-None.is (search rules)
