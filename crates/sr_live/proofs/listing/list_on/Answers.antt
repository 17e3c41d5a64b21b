use Rattle.std.proofs.Common.{rules, ◌≡◌, ◌++◌, ◌∷◌, ◌∙◌, [], List, ap, append_assoc, append-nil, get_or, map, sym}
use Rattle.sr_ids.specs.declared.id.Id.{Id}
use Rattle.sr_policy.specs.{Text}
use Rattle.sr_live.proofs.ListingLemmas.{on-reads, widens-all, widens-next, widens-none}
use Rattle.sr_live.proofs.ReadingLemmas.{breaks-later, breaks-memory, breaks-passed, reads-later, reads-whole}
use Rattle.sr_live.proofs.TalkLemmas.{Talks-none, Talks-trans}
use Rattle.sr_live.proofs.listing.list_on.Goals as goal

pub loop-one-init : goal.loop-one-init
loop-one-init g c = (
  [],
  [],
  Talks-none _ _,
  widens-none c.args.asked.now.key c.args.asked.now.group c.args.asked.now.claimable c.args.listings.now c.in_ok-wider.wider.items
      c.in_ok-wider.ensures.items,
  sym (append-nil c.args.ahead.now.items),
)

pub loop-one-preserved : goal.loop-one-preserved
loop-one-preserved g c =
    let was = c.loop-one.invariant in
    let on = c.in_ok-list_one.ensures.ok in
    let one = c.one-item.result in
    let read : one ≡ get_or c.args.listings.now c.loop-one.one-index one = search rules in
    let pushed : c.push.new.self.items ≡ c.loop-one.wider.items ++ c.in_ok-list_one.field-0 ∷ [] = search rules in (
      was.0 ++ on.0,
      was.1 ++ map (λ id. (id, one.name)) on.1,
      Talks-trans (g.P.Peer.sent c.args.peer.now) (g.P.Peer.got c.args.peer.now) (g.P.Peer.sent c.loop-one.peer)
          (g.P.Peer.got c.loop-one.peer) (g.P.Peer.sent c.list_one.new.peer) (g.P.Peer.got c.list_one.new.peer) was.0
          on.0 was.2 on.2,
      widens-next c.args.asked.now.key c.args.asked.now.group c.args.asked.now.claimable c.args.listings.now
          c.loop-one.wider.items c.push.new.self.items c.loop-one.one-index one c.in_ok-list_one.field-0 was.0 on.0 was.1
          on.1 c.loop-one-test.true read pushed was.3 on.3,
      on.4 ∙ ap (λ (l : List (Id × Text)). l ++ map (λ id. (id, one.name)) on.1) was.4
          ∙ append_assoc c.args.ahead.now.items was.1 (map (λ id. (id, one.name)) on.1),
    )

pub returns-in_err-push-clause-err : goal.returns-in_err-push-clause-err
returns-in_err-push-clause-err g c =
    let was = c.loop-one.invariant in
    let on = c.in_ok-list_one.ensures.ok in
    breaks-memory c.from_residual-in_err-push.result _ _ _ _ c.from_residual-in_err-push.ensures.1
    (reads-later _ _ _ _ _ was.0 was.2 was.3.reads
    (reads-whole _ _ _ _ on.0 on.2
    (on-reads c.args.asked.now.key c.args.asked.now.group c.args.asked.now.claimable c.one-item.result
    c.in_ok-list_one.field-0 on.0 on.1 on.3)))

pub returns-in_err-list_one-clause-err : goal.returns-in_err-list_one-clause-err
returns-in_err-list_one-clause-err g c =
    let was = c.loop-one.invariant in
    let broken = c.in_err-list_one.ensures.err in
    breaks-passed c.from_residual-in_err-list_one.result _ _ _ _ _ c.from_residual-in_err-list_one.ensures.1
    (breaks-later _ _ _ _ _ _ was.0 _ was.2 was.3.reads broken)

pub returns-clause-ok : goal.returns-clause-ok
returns-clause-ok g c =
    let was = c.loop-one.invariant in (
      was.0,
      was.1,
      was.2,
      widens-all c.args.asked.now.key c.args.asked.now.group c.args.asked.now.claimable c.args.listings.now
          c.loop-one.wider.items c.loop-one.one-index was.0 was.1 c.loop-one-test.false was.3,
      was.4,
    )
