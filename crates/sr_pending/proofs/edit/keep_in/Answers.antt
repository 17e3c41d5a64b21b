use Rattle.std.proofs.Common.{rules, ◌≡◌, ℕ, List, ◌+◌, ◌<◌, ◌≤◌, suc, Bool, true, false, not, nat_eq, [], length, filter, inl, inr, refl, ap, sym, subst, ◌∙◌, arith, Global}
use Rattle.std.proofs.lemmas.Bool.Decides.{eqb_tells}
use Rattle.std.proofs.lemmas.Fn.{filter_same}
use Rattle.std.proofs.lemmas.List.{nil_from_length}
use Rattle.std.specs.VecDeque.{deque_len}
use Rattle.std.specs.declared.collections.VecDeque.{VecDeque}
use Rattle.sr_pending.specs.declared.nack.Nack.{Nack}
use Rattle.slab.specs.Slab.{Slab}
use Rattle.sr_pending.specs.Pending.{is_same_name}
use Rattle.sr_pending.specs.steps.Slots.{nack_at}
use Rattle.sr_pending.specs.steps.Blocks.{AreFilled, held_in}
use Rattle.sr_pending.proofs.Changing.{Kept-all, Kept-length, Kept-more, filled-filter, held-filter}
use Rattle.sr_pending.proofs.edit.keep_in.Goals as goal

abbrev keeps : Slab Nack → List ℕ → ℕ → Bool
keeps slab owner slot = not (is_same_name (nack_at slab slot).owner owner)

abbrev is_filled : VecDeque ℕ Global → Bool
is_filled block = not (nat_eq (deque_len block) 0)

empty : (d : VecDeque ℕ Global) → is_filled d ≡ false → d.items ≡ []
empty d e =
    elim (eqb_tells (deque_len d) 0) [
      | inl tells ↦ nil_from_length d.items (omega (arith, tells.1, d.ok.0))
      | inr tells ↦ absurd (let other : is_filled d ≡ true = ap not tells.0 in let both = sym e ∙ other in cc)
    ]

full : (d : VecDeque ℕ Global) → is_filled d ≡ true → 0 < length d.items
full d e =
    elim (eqb_tells (deque_len d) 0) [
      | inl tells ↦ absurd (let other : is_filled d ≡ false = ap not tells.0 in let both = sym e ∙ other in cc)
      | inr tells ↦ omega (arith, tells.1, d.ok.0)
    ]

pub loop-at-init : goal.loop-at-init
loop-at-init c = (refl, refl, refl)

pub index_mut-requires : goal.index_mut-requires
index_mut-requires c =
    let same = Kept-length (keeps c.args.slab.now c.args.owner.now) c.loop-at.at c.args.closed.now.items c.loop-at.closed.items c.loop-at.invariant.0 in
    omega (arith, same, c.loop-at-test.true, c.len-at-end.ensures, c.args.closed.now.ok.0, c.loop-at.closed.ok.0)

pub loop-at-preserved : goal.loop-at-preserved
loop-at-preserved c =
    let at = c.loop-at.at in
    let step : at + 1 ≡ suc at = omega arith in
    let same = Kept-length (keeps c.args.slab.now c.args.owner.now) at c.args.closed.now.items c.loop-at.closed.items c.loop-at.invariant.0 in
    let within : at < length c.loop-at.closed.items = omega (arith, same, c.loop-at-test.true, c.len-at-end.ensures, c.args.closed.now.ok.0) in
    (rw step (Kept-more (keeps c.args.slab.now c.args.owner.now) at c.args.closed.now.items c.loop-at.closed.items c.index_mut.result.now c.keep_one.new.block c.loop-at.invariant.0 within c.index_mut.ensures.value c.keep_one.ensures.items), c.loop-at.invariant.1, c.loop-at.invariant.2)

pub returns-clause-items : goal.returns-clause-items
returns-clause-items c =
    let blocks = c.loop-at.closed.items in
    let all : length c.args.closed.now.items ≤ c.loop-at.at = omega (arith, c.loop-at-test.false, c.len-at-end.ensures, c.args.closed.now.ok.0) in
    let left : c.retain.new.self.items ≡ filter is_filled blocks = filter_same _ is_filled _ (λ x b f k. search rules) blocks _ c.retain.ensures.filtered in
    ap held_in left
    ∙ held-filter is_filled empty blocks
    ∙ Kept-all (keeps c.args.slab.now c.args.owner.now) c.loop-at.at c.args.closed.now.items blocks c.loop-at.invariant.0 all

pub returns-clause-filled : goal.returns-clause-filled
returns-clause-filled c =
    let blocks = c.loop-at.closed.items in
    let left : c.retain.new.self.items ≡ filter is_filled blocks = filter_same _ is_filled _ (λ x b f k. search rules) blocks _ c.retain.ensures.filtered in
    subst AreFilled (sym left) (filled-filter is_filled full blocks)
