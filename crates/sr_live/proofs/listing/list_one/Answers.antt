use Rattle.std.proofs.Common.{rules, ◌≡◌, ◌++◌, ◌∷◌, [], List, ap, append-nil, inl, inr, leb, length, map, refl, subst, sym, true}
use Rattle.sr_policy.specs.{Text}
use Rattle.sr_live.specs.Looking.{Exchange, ids_in, ids_within, last_of, pending_call, start_after}
use Rattle.sr_live.specs.Said.{Delivered, SaysPending}
use Rattle.sr_live.proofs.ReadingLemmas.{breaks-memory, reads-whole}
use Rattle.sr_live.proofs.TalkLemmas.{Talks-none}
use Rattle.sr_live.proofs.listing.list_one.Goals as goal

pub returns-then-not-one-clause-ok : goal.returns-then-not-one-clause-ok
returns-then-not-one-clause-ok g c = (
  [],
  [],
  Talks-none _ _,
  (c.in_ok-name.ensures, inl (record { calls = refl; none = refl; goes_on = refl; last = refl })),
  sym (append-nil c.args.ahead.now.items),
)

pub returns-in_err-push_owned-clause-err : goal.returns-in_err-push_owned-clause-err
returns-in_err-push_owned-clause-err g c =
    let page = c.in_ok-page.ensures.ok in
    breaks-memory c.from_residual-in_err-push_owned.result _ _ _ _ c.from_residual-in_err-push_owned.ensures.1
    (reads-whole _ _ _ _ _ page.1 (inr (inl refl), tt))

pub returns-clause-ok : goal.returns-clause-ok
returns-clause-ok g c =
    let asked = c.args.asked.now in
    let one = c.args.one.now in
    let page : List Delivered = c.in_ok-page.page.items in
    let looked = c.in_ok-page.ensures.ok in
    let same : c.in_ok-name.name ≡ one.name = search rules in
    let was_open : one.goes_on ≡ true = search rules in
    let goes_on : leb 1000 c.len-goes_on.result ≡ leb 1000 (length page) = search rules in
    let last : c.last_after-last.result ≡ last_of (ids_in page) one.last = search rules in
    let pushed : c.push_owned.new.listed.items
    ≡ c.args.ahead.now.items ++ map (λ id. (id, one.name)) (ids_within asked.claimable.most_deliveries page) = search rules in
    let call : Text → Exchange = λ name.
    (pending_call asked.key asked.group asked.claimable.idle (start_after one.last) name, looked.0) in (
      call c.in_ok-name.name ∷ [],
      ids_within asked.claimable.most_deliveries page,
      looked.1,
      (
        same,
        inr (record {
          parts = looked.0;
          entries = page;
          was_open = was_open;
          calls = ap (λ (name : Text). call name ∷ []) same;
          says = subst (λ (name : Text). SaysPending looked.0 name page) same looked.2;
          within = refl;
          goes_on = goes_on;
          last = last;
        }),
      ),
      pushed,
    )
