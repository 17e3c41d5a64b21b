use Rattle.std.proofs.Common.{List, map, ap, ◌∙◌}
use Rattle.std.specs.List.{All}
use Rattle.sr_pending.specs.{IsCountable}
use Rattle.sr_pending.specs.declared.nack.Nack.{Nack}
use Rattle.sr_resp.specs.{array_of}
use Rattle.sr_space.specs.commands.Xpending.{nack_answer}
use Rattle.sr_space.proofs.PendingLemmas.{All-listing, IsReply-listing, listing-begun, listing-count, listing-ended, listing-next}
use Rattle.sr_space.proofs.commands.xpending.listing_reply.Goals as goal

pub loop-nack-init : goal.loop-nack-init
loop-nack-init c =
    let countable : All IsCountable c.listing_for-listing.result = rw c.listing_for-listing.ensures (All-listing c.args.moment c.args.asked.now c.args.group.now.shown.nacks c.sound.ensures.countable) in
    rw (c.array-draft.ensures, c.len.ensures) (listing-begun c.args.moment c.listing_for-listing.result countable)

pub write_nack-requires-clause-count : goal.write_nack-requires-clause-count
write_nack-requires-clause-count c =
    listing-count c.args.moment c.listing_for-listing.result c.loop-nack.listing c.next.new.self c.in-Some.nack.now c.loop-nack.draft
    c.loop-nack.invariant c.in-Some.ensures.some

pub loop-nack-preserved : goal.loop-nack-preserved
loop-nack-preserved c =
    listing-next c.args.moment c.listing_for-listing.result c.loop-nack.listing c.next.new.self c.in-Some.nack.now c.loop-nack.draft c.write_nack.new.draft c.loop-nack.invariant c.in-Some.ensures.some c.in_ok-write_nack.ensures

pub finish-requires : goal.finish-requires
finish-requires c =
    rw (listing-ended c.args.moment c.listing_for-listing.result c.loop-nack.listing c.loop-nack.draft c.loop-nack.invariant c.in_default.ensures.none) (IsReply-listing c.args.moment c.listing_for-listing.result)

pub returns : goal.returns
returns c = c.finish.ensures ∙ listing-ended c.args.moment c.listing_for-listing.result c.loop-nack.listing c.loop-nack.draft c.loop-nack.invariant c.in_default.ensures.none ∙ ap (λ (l : List Nack). array_of (map (nack_answer c.args.moment) l)) c.listing_for-listing.ensures
