use Rattle.std.proofs.Common.{arith, ◌∙◌}
use Rattle.sr_resp.proofs.SendLemmas.{Appends-more}
use Rattle.sr_resp.proofs.send.send_all.Goals as goal

pub loop-sent-preserved : goal.loop-sent-preserved
loop-sent-preserved g c =
    let within = c.in-Ok.ensures.bound in
    (omega (arith, within), Appends-more _ _ _ c.args.bytes.now c.loop-sent.sent c.in-Ok.count c.loop-sent.invariant.1 c.in-Ok.ensures.bytes, c.in-Ok.ensures.ok ∙ c.loop-sent.invariant.2)
