use Rattle.std.proofs.Common.{◌≡◌, Some, IsSome, ap, subst, refl, ◌∙◌, nat_eq}
use Rattle.std.specs.Cmp.Lexicographic.{pointwise}
use Rattle.std.specs.HashMap.{Updates}
use Rattle.std.specs.Map.{keys_of}
use Rattle.sr_waiters.specs.Index.{sessions_by, sessions_in, without}
use Rattle.sr_waiters.proofs.IndexLemmas.{gives-update, keys-left}
use Rattle.sr_waiters.proofs.index.remove.Goals as goal

pub returns-in-Some-clause-gives : goal.returns-in-Some-clause-gives
returns-in-Some-clause-gives c =
    let key = c.args.key.now in
    let old = c.args.index.now in
    let is = c.remove.new.self in
    let there = subst (λ o. IsSome o) c.in-Some.ensures.value refl in
    let updates : Updates (pointwise nat_eq) old (c.get_mut.follows.lender is) key (Some is) = (c.get_mut.follows.holds is).3 there in
    let left : keys_of is.entries ≡ without c.args.session (keys_of c.in-Some.sessions.now.entries) = ap keys_of c.remove.ensures.entries ∙ keys-left c.args.session c.in-Some.sessions.now.entries in
    let had : keys_of c.in-Some.sessions.now.entries ≡ sessions_by old key = ap sessions_in c.in-Some.ensures.value in
    gives-update key old (c.get_mut.follows.lender is) is updates (without c.args.session (sessions_by old key)) (left ∙ ap (without c.args.session) had)
