use Rattle.std.proofs.Common.{◌≡◌, length, map, ap, ◌∙◌, arith}
use Rattle.std.proofs.lemmas.List.{take_all}
use Rattle.sr_run.proofs.WorkedLemmas.{one_more_mapped}
use Rattle.sr_run.proofs.workers.sizes_of.Goals as goal

pub loop-script-preserved : goal.loop-script-preserved
loop-script-preserved c =
    let here = c.loop-script.invariant in
    let script = c.script-item.result in
    let size : c.len.result ≡ length script.items = omega (arith, c.len.ensures, script.ok.0) in
    record {
      sizes = one_more_mapped (λ script. length script.items) c.args.scripts.now c.loop-script.script-index script c.len.result c.loop-script.sizes.items c.push_reserved.new.self.items
          c.loop-script-test.true c.script-item.is size c.push_reserved.ensures.items here.sizes;
      many = omega (arith, c.push_reserved.ensures.len, here.many);
      room = omega (arith, c.push_reserved.ensures.capacity, here.room);
    }

pub returns : goal.returns
returns c = c.loop-script.invariant.sizes ∙ ap (λ scripts. map (λ script. length script.items) scripts) (take_all _ _ c.loop-script-test.false)
