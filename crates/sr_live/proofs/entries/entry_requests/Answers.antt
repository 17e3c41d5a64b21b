use Rattle.std.proofs.Common.{[]}
use Rattle.sr_ids.specs.declared.id.Id.{Id}
use Rattle.sr_policy.specs.{Text}
use Rattle.sr_peer.specs.{request_text}
use Rattle.sr_live.specs.Looking.{entry_call}
use Rattle.sr_live.proofs.LookingLemmas.{written-all, written-next}
use Rattle.sr_live.proofs.entries.entry_requests.Goals as goal

pub loop-id-preserved : goal.loop-id-preserved
loop-id-preserved c =
    written-next (λ (entry : Id × Text). request_text (entry_call c.args.key.now entry.0)) c.args.listed.now
    c.loop-id.id-index c.loop-id-item.result [] c.loop-id.requests.items c.append_entry_call.new.out.items
    c.loop-id-test.true c.loop-id-item.is c.loop-id.invariant c.in_ok-append_entry_call.ensures

pub returns : goal.returns
returns c =
    written-all (λ (entry : Id × Text). request_text (entry_call c.args.key.now entry.0)) c.args.listed.now
    c.loop-id.id-index [] c.loop-id.requests.items c.loop-id-test.false c.loop-id.invariant
