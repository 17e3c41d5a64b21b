use Rattle.std.proofs.Common.{◌≡◌, Some, IsSome, ap, subst, refl, ◌∙◌, nat_eq}
use Rattle.std.specs.Cmp.Lexicographic.{pointwise}
use Rattle.std.specs.HashMap.{Updates}
use Rattle.std.specs.Map.{keys_of}
use Rattle.sr_waiters.specs.Index.{sessions_by, sessions_in, with_session}
use Rattle.sr_waiters.proofs.IndexLemmas.{gives-update, on-ok}
use Rattle.sr_waiters.proofs.index.add.Goals as goal

pub returns-in-Some : goal.returns-in-Some
returns-in-Some c =
    let key = c.args.key.now in
    let old = c.args.index.now in
    let is = c.put_last.new.sessions in
    let there = subst (λ o. IsSome o) c.in-Some.ensures.value refl in
    let updates : Updates (pointwise nat_eq) old (c.get_mut.follows.lender is) key (Some is) = (c.get_mut.follows.holds is).3 there in
    let had : keys_of c.in-Some.sessions.now.entries ≡ sessions_by old key = ap sessions_in c.in-Some.ensures.value in
    let goes_on = λ (last : keys_of is.entries ≡ with_session c.args.session (keys_of c.in-Some.sessions.now.entries)).
    gives-update key old (c.get_mut.follows.lender is) is updates (with_session c.args.session (sessions_by old key)) (last ∙ ap (with_session c.args.session) had) in
    on-ok c.put_last.result goes_on c.put_last.ensures
