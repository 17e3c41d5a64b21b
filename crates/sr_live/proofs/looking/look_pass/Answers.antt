use Rattle.std.proofs.Common.{rules, ◌≡◌, ◌++◌, ◌∙◌, ◌+◌, ◌-◌, ℕ, All, List, Some, ap, length, subst, take, true, arith}
use Rattle.std.proofs.lemmas.List.{length-append}
use Rattle.sr_ids.specs.declared.id.Id.{Id}
use Rattle.sr_policy.specs.{Text}
use Rattle.sr_live.specs.declared.listing.Listing.{Listing}
use Rattle.sr_live.specs.declared.looked.Row.{Row}
use Rattle.sr_live.specs.declared.looking.Seen.{Seen}
use Rattle.sr_live.specs.steps.Listing.{Follow, Widens, are_sure}
use Rattle.sr_live.proofs.ListingLemmas.{passes-from}
use Rattle.sr_live.proofs.ReadingLemmas.{LooksEntries-reads, breaks-later, breaks-memory, breaks-passed, reads-later}
use Rattle.sr_live.proofs.ReadingLemmas.{reads-whole}
use Rattle.sr_live.proofs.TalkLemmas.{Talks-trans}
use Rattle.sr_live.proofs.looking.look_pass.Goals as goal

pub returns-in_err-ahead-clause-err : goal.returns-in_err-ahead-clause-err
returns-in_err-ahead-clause-err g c =
    let wide = c.in_ok-listings.ensures.ok in
    breaks-memory c.from_residual-in_err-ahead.result _ _ _ _ c.from_residual-in_err-ahead.ensures.1
    (reads-whole _ _ _ _ wide.0 wide.2 wide.3.reads)

pub returns-then-not-follow-clause-err : goal.returns-then-not-follow-clause-err
returns-then-not-follow-clause-err g c =
    let wide = c.in_ok-listings.ensures.ok in
    record { looking = tt; read = reads-whole _ _ _ _ wide.0 wide.2 wide.3.reads; told = tt }

pub returns-in_err-look_first-clause-err : goal.returns-in_err-look_first-clause-err
returns-in_err-look_first-clause-err g c =
    let wide = c.in_ok-listings.ensures.ok in
    let broken = c.in_err-look_first.ensures.err in
    breaks-passed c.from_residual-in_err-look_first.result _ _ _ _ _ c.from_residual-in_err-look_first.ensures.1
    (breaks-later _ _ _ _ _ _ wide.0 _ wide.2 wide.3.reads broken)

pub returns-in_err-ahead-2-clause-err : goal.returns-in_err-ahead-2-clause-err
returns-in_err-ahead-2-clause-err g c =
    let wide = c.in_ok-listings.ensures.ok in
    let first = c.in_ok-look_first.ensures.ok in
    breaks-memory c.from_residual-in_err-ahead-2.result _ _ _ _ c.from_residual-in_err-ahead-2.ensures.1
    (reads-later _ _ _ _ _ wide.0 wide.2 wide.3.reads
    (reads-whole _ _ _ _ first.0 first.3 (LooksEntries-reads c.args.asked.now.key _ _ first.4)))

pub returns-clause-ok : goal.returns-clause-ok
returns-clause-ok g c =
    let wide = c.in_ok-listings.ensures.ok in
    let first = c.in_ok-look_first.ensures.ok in
    let asked = c.args.asked.now in
    let old : List Row = c.args.seen.found.rows.items in
    let listings : List Listing = c.in_ok-listings.listings.items in
    let sorted : List (Id × Text) = c.in_ok-ahead.ahead.items in
    let n : ℕ = c.count_sure-sure.result in
    let now : Seen = record {
      listings = c.in_ok-listings.listings;
      ahead = c.in_ok-ahead-2.ahead;
      found = c.look_first.new.found;
    } in
    let widens = subst (λ (l : List Listing). Widens asked.key asked.group asked.claimable l listings wide.0 wide.1)
    c.as_slice.ensures.value wide.3 in
    let follow : Follow old sorted = search rules in
    let sure = subst (λ (l : List Listing). All (λ one. are_sure l (Some one.0) ≡ true) (take n sorted))
    c.as_slice-4.ensures.value
    (subst (λ (l : List (Id × Text)). All (λ one. are_sure c.as_slice-4.result.now (Some one.0) ≡ true) (take n l))
    c.as_slice-5.ensures.value c.count_sure-sure.ensures.sure) in
    let front : c.split_at.result.0.now ≡ take n sorted =
    c.split_at.ensures.front ∙ ap (take n) c.as_slice-6.ensures.value in
    let sum : length now.found.rows.items ≡ length old + length first.1 =
    ap length first.6 ∙ length-append old first.1 in
    let count : (c.len.result - c.len-before.result) + length old ≡ length now.found.rows.items =
    omega (arith, c.len.ensures, c.len-before.ensures, sum) in (
      wide.0 ++ first.0,
      Talks-trans (g.P.Peer.sent c.args.peer.now) (g.P.Peer.got c.args.peer.now) (g.P.Peer.sent c.list_on.new.peer)
          (g.P.Peer.got c.list_on.new.peer) (g.P.Peer.sent c.look_first.new.peer) (g.P.Peer.got c.look_first.new.peer)
          wide.0 first.0 wide.2 first.3,
      passes-from asked.key asked.group asked.claimable c.args.seen now wide.0 first.0 wide.1 c.list_on.new.ahead.items sorted
          c.split_at.result.0.now n (c.len.result - c.len-before.result) first.1 first.2 widens wide.4
          c.in_ok-ahead.ensures.same c.in_ok-ahead.ensures.rising follow sure front first.4 first.5 first.6 first.7 count
          c.in_ok-ahead-2.ensures.tail,
    )
