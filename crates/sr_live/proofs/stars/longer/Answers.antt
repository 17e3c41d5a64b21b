use Rattle.std.proofs.Common.{◌≡◌, ◌<◌, ◌≤◌, ◌∙◌, ℕ, List, Option, None, Some, ap, arith, get_or, length, subst, sym, true, false, true≢false}
use Rattle.sr_policy.specs.{Text}
use Rattle.sr_live.specs.Stars.{IsLongest, StandsFor, key_at}
use Rattle.sr_live.proofs.StarsLemmas.{longest-before, longest-first, longest-kept, longest-now, no_name, text-at, texts}
use Rattle.sr_live.proofs.stars.longer.Goals as goal

pub returns-then-not-stands_for : goal.returns-then-not-stands_for
returns-then-not-stands_for c =
    let keys = texts c.args.keys.now in
    let is = text-at c.args.keys.now c.args.at c.requires.within in
    longest-kept keys c.args.consumer.now c.args.at c.args.found
    (λ so. true≢false (sym (c.stands_for.ensures.no (subst (λ (text : Text). StandsFor text c.args.consumer.now) is so))
    ∙ c.if-not-stands_for.true))

pub returns-in-Some : goal.returns-in-Some
returns-in-Some c = λ before.
    let keys = texts c.args.keys.now in
    let less : c.in-Some.before < c.args.at = c.if-before-at.true in
    let is = text-at c.args.keys.now c.args.at c.requires.within in
    let was = text-at c.args.keys.now c.in-Some.before (omega (arith, less, c.requires.within)) in
    longest-before keys c.args.consumer.now c.args.at c.in-Some.before
    (subst (λ (l : Text). length l ≤ length (key_at keys c.in-Some.before)) (sym is)
    (subst (λ (l : Text). length (get_or c.args.keys.now c.args.at no_name).now ≤ length l) (sym was) c.if-keys-before.true))
    (subst (IsLongest keys c.args.consumer.now c.args.at) c.in-Some.is before)

pub returns-in_default : goal.returns-in_default
returns-in_default c = λ before.
    let keys = texts c.args.keys.now in
    let less : c.in-Some.before < c.args.at = c.if-before-at.true in
    let is = text-at c.args.keys.now c.args.at c.requires.within in
    let was = text-at c.args.keys.now c.in-Some.before (omega (arith, less, c.requires.within)) in
    longest-now keys c.args.consumer.now c.args.at c.in-Some.before
    (subst (λ (text : Text). StandsFor text c.args.consumer.now) (sym is) (c.stands_for.ensures.yes c.if-not-stands_for.false))
    (subst (λ (l : Text). length (key_at keys c.in-Some.before) < length l) (sym is)
    (subst (λ (l : Text). length l < length (get_or c.args.keys.now c.args.at no_name).now) (sym was) c.if-keys-before.false))
    (subst (IsLongest keys c.args.consumer.now c.args.at) c.in-Some.is before)

pub returns-in_default-3 : goal.returns-in_default-3
returns-in_default-3 c = λ before.
    let keys = texts c.args.keys.now in
    let is = text-at c.args.keys.now c.args.at c.requires.within in
    longest-first keys c.args.consumer.now c.args.at
    (subst (λ (text : Text). StandsFor text c.args.consumer.now) (sym is) (c.stands_for.ensures.yes c.if-not-stands_for.false))
    (subst (IsLongest keys c.args.consumer.now c.args.at) c.in_default.is before)
