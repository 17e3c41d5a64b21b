use Rattle.std.proofs.Common.{rules, ◌≡◌, ◌++◌, ◌∙◌, ◌<◌, ◌≤◌, ℕ, List, Option, Result, Ok, Err, ap, length, map, subst, take, arith}
use Rattle.std.proofs.lemmas.List.{take-take}
use Rattle.std.proofs.lemmas.Result.{IfOk-weaker}
use Rattle.std.specs.Result.{IfOk}
use Rattle.sr_ids.specs.declared.id.Id.{Id}
use Rattle.sr_policy.specs.{Text}
use Rattle.sr_live.specs.declared.looked.Row.{Row}
use Rattle.sr_live.specs.Looking.{Exchange, LooksEntries, Talks, listed_as}
use Rattle.sr_live.specs.steps.Listing.{Finds}
use Rattle.sr_live.proofs.ReadingLemmas.{breaks-passed}
use Rattle.sr_live.proofs.entries.look_next.Goals as goal

-- this many of the entries were looked up
abbrev AreLooked : Text → Option (List ℕ) → Option (List ℕ) → Option (List ℕ) → Option (List ℕ) → List (Id × Text) → List Row
    → List Row → ℕ → ℕ → ℕ → Type 0
AreLooked key sent got sent_then got_then listed old now wanted left count =
    (talk : List Exchange) × (more : List Row) × Talks sent got sent_then got_then talk × LooksEntries key more talk
    × (map listed_as more ≡ take count listed) × (now ≡ old ++ more) × Finds wanted more left

-- they are among the first of these
front-looked : {E : Type 0} (key : Text) (sent got sent_then got_then : Option (List ℕ)) (result : Result ℕ E) (mid : ℕ)
    (together listed : List (Id × Text)) (old now : List Row) (wanted left : ℕ) → together ≡ take mid listed
    → length together ≡ mid → IfOk result (λ count. (0 < count) × (count ≤ length together))
    → IfOk result (AreLooked key sent got sent_then got_then together old now wanted left)
    → IfOk result (AreLooked key sent got sent_then got_then listed old now wanted left)
front-looked key sent got sent_then got_then (Ok count) mid together listed old now wanted left front long (some, few)
    (talk, more, talks, looks, are, is, finds) = (
      talk,
      more,
      talks,
      looks,
      are ∙ ap (take count) front ∙ take-take count mid listed (subst (λ (n : ℕ). count ≤ n) long few),
      is,
      finds,
    )
front-looked key sent got sent_then got_then (Err fault) mid together listed old now wanted left front long some looked = tt

pub returns-then-found-eq0-clause-some : goal.returns-then-found-eq0-clause-some
returns-then-found-eq0-clause-some g c =
    IfOk-weaker c.look_range.result _ _
    (λ count (some, few). (some, omega (arith, few, c.split_at.ensures.front_len, c.split_at.ensures.back_len)))
    c.look_range.ensures.some

pub returns-then-found-eq0-clause-ok : goal.returns-then-found-eq0-clause-ok
returns-then-found-eq0-clause-ok g c =
    front-looked c.args.asked.now.key (g.P.Peer.sent c.args.peer.now) (g.P.Peer.got c.args.peer.now)
    (g.P.Peer.sent c.look_range.new.peer) (g.P.Peer.got c.look_range.new.peer) c.look_range.result _
    c.split_at.result.0.now c.args.listed.now c.args.found.now.rows.items c.look_range.new.found.rows.items
    c.args.found.now.wanted c.look_range.new.found.wanted c.split_at.ensures.front c.split_at.ensures.front_len
    c.look_range.ensures.some c.look_range.ensures.ok

pub returns-in_err-look_some-clause-err : goal.returns-in_err-look_some-clause-err
returns-in_err-look_some-clause-err g c =
    let broken = c.in_err-look_some.ensures.err in
    breaks-passed c.from_residual.result _ _ _ _ _ c.from_residual.ensures.1 broken

pub returns-clause-ok : goal.returns-clause-ok
returns-clause-ok g c =
    let seen = c.in_ok-look_some.ensures.ok in
    (seen.0, seen.1, seen.2, seen.3, seen.4 ∙ (search rules), seen.5, seen.6)
