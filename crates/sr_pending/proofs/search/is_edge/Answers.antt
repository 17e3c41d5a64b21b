use Rattle.std.proofs.Common.{rules, ◌≡◌, ℕ, ◌-◌, ◌<◌, ◌≤◌, Bool, true, false, not, length, refl, sym, ◌∙◌, arith}
use Rattle.sr_pending.specs.steps.Search.{is_before}
use Rattle.sr_pending.specs.steps.Slots.{nack_at}
use Rattle.sr_pending.proofs.Finding.{IsEdge-seen, IsSeen}
use Rattle.sr_pending.proofs.search.is_edge.Goals.{else-place-gt0-via-then-place-gt0+else-not-ends_before, else-place-gt0-via-else-place-gt0}
use Rattle.sr_pending.proofs.search.is_edge.Goals as goal

-- what a `not` tells
is_false : (b : Bool) → not b ≡ true → b ≡ false
is_false false e = refl
is_false true e = absurd cc

pub returns-then-place-len-2 : goal.returns-then-place-len-2
returns-then-place-len-2 c is =
    let test : ℕ → Bool = λ s. is_before c.args.upto c.args.id (nack_at c.args.slab.now s) in
    let blocks = c.args.blocks.now.items in
    let place = c.args.place in
    let le : place ≤ length blocks = omega (arith, c.if-place-len.false, c.len.ensures, c.args.blocks.now.ok.0) in
    let all : length blocks ≤ place = omega (arith, c.if-place-len-2.true, c.len-2.ensures, c.args.blocks.now.ok.0) in
    let before : 0 < place → IsSeen test blocks (place - 1) true =
    λ some. elim c.else-place-gt0.branch [
      | else-place-gt0-via-then-place-gt0+else-not-ends_before w ↦ record { block = w.index.result.now; read = w.index.ensures; ends = sym w.ends_before.ensures ∙ w.if-not-ends_before.false }
      | else-place-gt0-via-else-place-gt0 w ↦ absurd (omega (arith, w.if-place-gt0.false, some))
    ] in
    IsEdge-seen test blocks place le before (λ lt. absurd (omega (arith, lt, all)))

pub returns-else-place-len-2 : goal.returns-else-place-len-2
returns-else-place-len-2 c is =
    let test : ℕ → Bool = λ s. is_before c.args.upto c.args.id (nack_at c.args.slab.now s) in
    let blocks = c.args.blocks.now.items in
    let place = c.args.place in
    let le : place ≤ length blocks = omega (arith, c.if-place-len.false, c.len.ensures, c.args.blocks.now.ok.0) in
    let before : 0 < place → IsSeen test blocks (place - 1) true =
    λ some. elim c.else-place-gt0.branch [
      | else-place-gt0-via-then-place-gt0+else-not-ends_before w ↦ record { block = w.index.result.now; read = w.index.ensures; ends = sym w.ends_before.ensures ∙ w.if-not-ends_before.false }
      | else-place-gt0-via-else-place-gt0 w ↦ absurd (omega (arith, w.if-place-gt0.false, some))
    ] in
    let behind : IsSeen test blocks place false = record { block = c.index-else-place-len-2.result.now; read = c.index-else-place-len-2.ensures; ends = sym c.ends_before-else-place-len-2.ensures ∙ is_false c.ends_before-else-place-len-2.result is } in
    IsEdge-seen test blocks place le before (λ _. behind)
