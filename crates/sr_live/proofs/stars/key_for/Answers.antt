use Rattle.std.proofs.Common.{rules, ◌≡◌, ◌<◌, ◌≤◌, ◌∙◌, ℕ, List, get_or, inl, length, sym, arith}
use Rattle.std.proofs.lemmas.List.{length-map}
use Rattle.sr_live.specs.Stars.{key_at}
use Rattle.sr_live.proofs.StarsLemmas.{for-from, no_name, none-next, text-at, texts}
use Rattle.sr_live.proofs.stars.key_for.Goals as goal

pub returns-then-eq : goal.returns-then-eq
returns-then-eq c =
    let count = length-map c.args.keys.now (λ key. key.now) in
    let is = text-at c.args.keys.now c.loop-at.at c.loop-at-test.true in
    let same : (get_or c.args.keys.now c.loop-at.at no_name).now ≡ c.args.consumer.now = search rules in
    (omega (arith, count, c.loop-at-test.true), inl (is ∙ same))

pub loop-at-preserved : goal.loop-at-preserved
loop-at-preserved c =
    let is = text-at c.args.keys.now c.loop-at.at c.loop-at-test.true in
    let was = c.loop-at.invariant in
    let other : (get_or c.args.keys.now c.loop-at.at no_name).now ≡ c.args.consumer.now → ⊥ = search rules in (
      none-next (texts c.args.keys.now) c.args.consumer.now c.loop-at.at was.0
          (λ own. other (sym is ∙ own)),
      c.longer-found.ensures was.1,
    )

pub returns : goal.returns
returns c =
    let count = length-map c.args.keys.now (λ key. key.now) in
    let was = c.loop-at.invariant in
    for-from (texts c.args.keys.now) c.args.consumer.now c.loop-at.at c.loop-at.found
    (omega (arith, count, c.loop-at-test.false, c.loop-at.auto.at-end)) was.0 was.1
