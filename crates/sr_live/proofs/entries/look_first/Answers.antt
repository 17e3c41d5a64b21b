use Rattle.std.proofs.Common.{rules, List, refl, take}
use Rattle.sr_ids.specs.declared.id.Id.{Id}
use Rattle.sr_policy.specs.{Text}
use Rattle.sr_live.proofs.LookingLemmas.{AreFound-next, AreFound-none, parted-at}
use Rattle.sr_live.proofs.ReadingLemmas.{LooksEntries-reads, breaks-later, breaks-passed, reads-whole}
use Rattle.sr_live.proofs.entries.look_first.Goals as goal

pub loop-left-init : goal.loop-left-init
loop-left-init g c =
    AreFound-none c.args.asked.now.key (g.P.Peer.sent c.args.peer.now) (g.P.Peer.got c.args.peer.now)
    c.args.found.now.rows.items c.args.found.now.wanted c.args.listed.now c.requires.some

pub loop-left-preserved : goal.loop-left-preserved
loop-left-preserved g c =
    let together : List (Id × Text) = take c.in_ok-count.count c.loop-left.left.now in
    AreFound-next c.args.asked.now.key (g.P.Peer.sent c.args.peer.now) (g.P.Peer.got c.args.peer.now)
    (g.P.Peer.sent c.loop-left.peer) (g.P.Peer.got c.loop-left.peer) (g.P.Peer.sent c.look_next.new.peer)
    (g.P.Peer.got c.look_next.new.peer) c.args.found.now.rows.items c.loop-left.found.rows.items
    c.look_next.new.found.rows.items c.args.found.now.wanted c.loop-left.found.wanted c.look_next.new.found.wanted
    c.loop-left.left.now together c.split_at.result.1.now c.args.listed.now
    (parted-at c.in_ok-count.count c.loop-left.left.now together c.split_at.result.1.now refl c.split_at.ensures.back)
    (search rules) c.loop-left.invariant c.in_ok-count.ensures.ok

pub returns-in_err-count-clause-err : goal.returns-in_err-count-clause-err
returns-in_err-count-clause-err g c =
    let before = c.loop-left.invariant in
    let broken = c.in_err-count.ensures.err in
    breaks-passed c.from_residual.result _ _ _ _ _ c.from_residual.ensures.1
    (breaks-later _ _ _ _ _ _ before.0 _ before.2 (LooksEntries-reads c.args.asked.now.key _ _ before.3) broken)

pub returns-then-len-ge-MAX_ROWS-clause-err : goal.returns-then-len-ge-MAX_ROWS-clause-err
returns-then-len-ge-MAX_ROWS-clause-err g c =
    let before = c.loop-left.invariant in
    record {
      looking = tt;
      read = reads-whole _ _ _ _ before.0 before.2 (LooksEntries-reads c.args.asked.now.key _ _ before.3);
      told = tt;
    }
