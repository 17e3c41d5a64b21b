use Rattle.std.proofs.Common.{rules, ◌≡◌, ◌++◌, ◌<◌, ◌∙◌, [], None, ap, length, map, refl, subst, sym, true}
use Rattle.std.proofs.lemmas.List.{nil_from_length}
use Rattle.std.proofs.lemmas.Result.{IfErr-weaker, IfOk-weaker}
use Rattle.sr_live.specs.declared.fault.LiveFault.{LiveFault}
use Rattle.sr_live.specs.declared.looking.Seen.{Seen}
use Rattle.sr_live.specs.Reading.{BreaksOff}
use Rattle.sr_live.specs.steps.Listing.{are_sure, unlisted_of}
use Rattle.sr_live.proofs.FirstLemmas.{wanted_at_first}
use Rattle.sr_live.proofs.ListingLemmas.{looked-found, looked-whole, under-way-first, under-way-next, under-way-reads}
use Rattle.sr_live.proofs.ReadingLemmas.{breaks-later, breaks-passed, reads-whole}
use Rattle.sr_live.proofs.TalkLemmas.{Talks-none, Talks-trans}
use Rattle.sr_live.proofs.looking.look_rows.Goals as goal

pub loop-init : goal.loop-init
loop-init g c =
    let asked = c.args.asked.now in
    let seen : Seen = record {
      listings = c.in_ok-unlisted.field-0;
      ahead = c.new.result;
      found = record { rows = c.new-2.result; wanted = c.max.result; pace = c.first.result };
    } in
    let listings : c.in_ok-unlisted.field-0.items ≡ map unlisted_of asked.dead.items =
    c.in_ok-unlisted.ensures ∙ ap (map unlisted_of) c.as_slice.ensures.value in
    let wanted : c.max.result ≡ wanted_at_first c.args.at_most = search rules in
    let some : 0 < c.max.result = search rules in (
      [],
      Talks-none _ _,
      under-way-first asked.key asked.group asked.claimable asked.dead.items c.args.at_most seen listings c.new.ensures.items
          c.new-2.ensures.items wanted,
      some,
    )

pub returns-in_err-seen-clause-err : goal.returns-in_err-seen-clause-err
returns-in_err-seen-clause-err g c =
    let asked = c.args.asked.now in
    let before = c.loop.invariant in
    let broken = c.in_err-seen.ensures.err in
    breaks-passed c.from_residual-in_err-seen.result _ _ _ _ _ c.from_residual-in_err-seen.ensures.1
    (breaks-later _ _ _ _ _ _ before.0 _ before.1
    (under-way-reads asked.key asked.group asked.claimable asked.dead.items c.args.at_most before.0 c.loop.seen before.2)
    broken)

pub returns-then-seen-eq0-clause-ok : goal.returns-then-seen-eq0-clause-ok
returns-then-seen-eq0-clause-ok g c =
    let asked = c.args.asked.now in
    let before = c.loop.invariant in
    let pass = c.in_ok-seen.ensures.ok in
    let way = under-way-next asked.key asked.group asked.claimable asked.dead.items c.args.at_most before.0 pass.0 c.loop.seen
    c.in_ok-seen.seen before.3 before.2 pass.2 in
    let talks = Talks-trans (g.P.Peer.sent c.args.peer.now) (g.P.Peer.got c.args.peer.now) (g.P.Peer.sent c.loop.peer)
    (g.P.Peer.got c.loop.peer) (g.P.Peer.sent c.look_pass.new.peer) (g.P.Peer.got c.look_pass.new.peer) before.0 pass.0
    before.1 pass.1 in
    IfOk-weaker c.up_to_last.result _ _ (λ seen (rows, given, last). (
      before.0 ++ pass.0,
      talks,
      looked-found asked.key asked.group asked.claimable asked.dead.items c.args.at_most (before.0 ++ pass.0) c.in_ok-seen.seen
          seen.0.items seen.1 way c.if-seen-eq0.true given rows last,
    ))
    c.up_to_last.ensures.ok

pub returns-then-seen-eq0-clause-err : goal.returns-then-seen-eq0-clause-err
returns-then-seen-eq0-clause-err g c =
    let asked = c.args.asked.now in
    let before = c.loop.invariant in
    let pass = c.in_ok-seen.ensures.ok in
    let way = under-way-next asked.key asked.group asked.claimable asked.dead.items c.args.at_most before.0 pass.0 c.loop.seen
    c.in_ok-seen.seen before.3 before.2 pass.2 in
    let talks = Talks-trans (g.P.Peer.sent c.args.peer.now) (g.P.Peer.got c.args.peer.now) (g.P.Peer.sent c.loop.peer)
    (g.P.Peer.got c.loop.peer) (g.P.Peer.sent c.look_pass.new.peer) (g.P.Peer.got c.look_pass.new.peer) before.0 pass.0
    before.1 pass.1 in
    IfErr-weaker c.up_to_last.result _ _
    (λ fault is. subst (λ (f : LiveFault). BreaksOff (g.P.Peer.sent c.args.peer.now) (g.P.Peer.got c.args.peer.now)
    (g.P.Peer.sent c.look_pass.new.peer) (g.P.Peer.got c.look_pass.new.peer) f)
    (sym is)
    (record {
      looking = tt;
      read = reads-whole _ _ _ _ (before.0 ++ pass.0) talks
          (under-way-reads asked.key asked.group asked.claimable asked.dead.items c.args.at_most (before.0 ++ pass.0)
          c.in_ok-seen.seen way);
      told = tt;
    }))
    c.up_to_last.ensures.err

pub returns-then-are_listed-clause-ok : goal.returns-then-are_listed-clause-ok
returns-then-are_listed-clause-ok g c =
    let asked = c.args.asked.now in
    let before = c.loop.invariant in
    let pass = c.in_ok-seen.ensures.ok in
    let way = under-way-next asked.key asked.group asked.claimable asked.dead.items c.args.at_most before.0 pass.0 c.loop.seen
    c.in_ok-seen.seen before.3 before.2 pass.2 in
    let some : 0 < c.in_ok-seen.seen.found.wanted = search rules in
    let empty : length c.in_ok-seen.seen.ahead.items ≡ 0 = search rules in
    let none : c.in_ok-seen.seen.ahead.items ≡ [] = nil_from_length c.in_ok-seen.seen.ahead.items empty in
    let sure : are_sure c.in_ok-seen.seen.listings.items None ≡ true = search rules in (
      before.0 ++ pass.0,
      Talks-trans (g.P.Peer.sent c.args.peer.now) (g.P.Peer.got c.args.peer.now) (g.P.Peer.sent c.loop.peer)
          (g.P.Peer.got c.loop.peer) (g.P.Peer.sent c.look_pass.new.peer) (g.P.Peer.got c.look_pass.new.peer) before.0
          pass.0 before.1 pass.1,
      looked-whole asked.key asked.group asked.claimable asked.dead.items c.args.at_most (before.0 ++ pass.0) c.in_ok-seen.seen
          c.in_ok-seen.seen.found.rows.items way some none sure refl,
    )

pub loop-preserved : goal.loop-preserved
loop-preserved g c =
    let asked = c.args.asked.now in
    let before = c.loop.invariant in
    let pass = c.in_ok-seen.ensures.ok in
    let some : 0 < c.in_ok-seen.seen.found.wanted = search rules in (
      before.0 ++ pass.0,
      Talks-trans (g.P.Peer.sent c.args.peer.now) (g.P.Peer.got c.args.peer.now) (g.P.Peer.sent c.loop.peer)
          (g.P.Peer.got c.loop.peer) (g.P.Peer.sent c.look_pass.new.peer) (g.P.Peer.got c.look_pass.new.peer) before.0
          pass.0 before.1 pass.1,
      under-way-next asked.key asked.group asked.claimable asked.dead.items c.args.at_most before.0 pass.0 c.loop.seen
          c.in_ok-seen.seen before.3 before.2 pass.2,
      some,
    )

pub returns-clause-err : goal.returns-clause-err
returns-clause-err g c =
    let asked = c.args.asked.now in
    let before = c.loop.invariant in
    record {
      looking = tt;
      read = reads-whole _ _ _ _ before.0 before.1
          (under-way-reads asked.key asked.group asked.claimable asked.dead.items c.args.at_most before.0 c.loop.seen before.2);
      told = tt;
    }
