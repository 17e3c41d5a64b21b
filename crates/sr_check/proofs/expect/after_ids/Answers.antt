use Rattle.std.proofs.Common.{◌+◌, ◌∷◌, length, map, drop}
use Rattle.sr_ids.specs.declared.id.Id.{Id}
use Rattle.sr_policy.specs.{Text}
use Rattle.sr_resp.specs.{ReplyParts}
use Rattle.sr_check.specs.PlanReply.{id_answer}
use Rattle.sr_check.proofs.ListLemmas.{AreLeft-same, AreLeft-more, AreLeft-stuck, array-items, no_array, next_of}
use Rattle.sr_check.proofs.ListLemmas.{count_of}
use Rattle.sr_check.proofs.expect.after_ids.Goals as goal

abbrev item : Id × Text → ReplyParts
item entry = id_answer entry.0

pub returns-in_err-left-clause-none : goal.returns-in_err-left-clause-none
returns-in_err-left-clause-none c = rw c.from_residual.ensures (λ after is.
    let entries = c.args.entries.now in
    no_array (map item entries) (length entries) c.args.bytes.now after
    (count_of item entries) c.in_err-left.ensures.none is)

pub returns-in_err-left-2-clause-none : goal.returns-in_err-left-2-clause-none
returns-in_err-left-2-clause-none c = rw c.from_residual-in_err-left-2.ensures (λ after is.
    let entries = c.args.entries.now in
    let i = c.loop-id.id-index in
    let entry = c.loop-id-item.result in
    let left = c.loop-id.left.now in
    let start = c.in_ok-left.left.now in
    let items = array-items (map item entries) (length entries) c.args.bytes.now start after (count_of item entries)
    c.in_ok-left.ensures.found is in
    let next = next_of item entries i entry c.loop-id-test.true c.loop-id-item.is in
    AreLeft-stuck (map item entries) (map item (drop (i + 1) entries)) start left after (item entry)
    (AreLeft-same (map item entries) (map item (drop i entries))
    (item entry ∷ map item (drop (i + 1) entries)) start left next c.loop-id.invariant)
    c.in_err-left-2.ensures.none items)

pub loop-id-preserved : goal.loop-id-preserved
loop-id-preserved c =
    let entries = c.args.entries.now in
    let i = c.loop-id.id-index in
    let entry = c.loop-id-item.result in
    let left = c.loop-id.left.now in
    let start = c.in_ok-left.left.now in
    let next = next_of item entries i entry c.loop-id-test.true c.loop-id-item.is in
    AreLeft-more (map item entries) (map item (drop (i + 1) entries)) start left c.in_ok-left-2.left.now (item entry)
    (AreLeft-same (map item entries) (map item (drop i entries))
    (item entry ∷ map item (drop (i + 1) entries)) start left next c.loop-id.invariant) c.in_ok-left-2.ensures.found
