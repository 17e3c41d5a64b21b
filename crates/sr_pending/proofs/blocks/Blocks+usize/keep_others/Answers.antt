use Rattle.std.proofs.Common.{◌≡◌, ℕ, Bool, not, filter, List, ◌++◌, length, ap, sym, ◌∙◌, arith}
use Rattle.sr_pending.specs.declared.nack.Nack.{Nack}
use Rattle.slab.specs.Slab.{Slab}
use Rattle.sr_pending.specs.Pending.{is_same_name}
use Rattle.sr_pending.specs.steps.Slots.{nack_at}
use Rattle.sr_pending.specs.steps.Blocks.{Laid, held_in, items_of}
use Rattle.sr_pending.proofs.Changing.{both-parts, kept-both}
use Rattle.sr_pending.proofs.Showing.{shown-items}
use Rattle.sr_pending.proofs.blocks.Blocks+usize.keep_others.Goals as goal

abbrev keeps : Slab Nack → List ℕ → ℕ → Bool
keeps slab owner slot = not (is_same_name (nack_at slab slot).owner owner)

pub overflow_sub-self : goal.overflow_sub-self
overflow_sub-self c =
    let b = c.self.inside in
    let all : items_of c.args.self.now ≡ held_in b.closed.items ++ b.tail.items = ap (λ (l : Laid ℕ). items_of l) (sym c.self.view_is) ∙ shown-items b.closed.items b.tail.items b.room in
    omega (arith, c.requires, both-parts (λ slot. is_same_name (nack_at c.args.slab.now slot).owner c.args.owner.now) (items_of c.args.self.now), ap (λ (l : List ℕ). length l) all, c.self.invariant.counted)

pub invariant_of-self : goal.invariant_of-self
invariant_of-self c =
    let b = c.self.inside in
    let owner = c.args.owner.now in
    let slab = c.args.slab.now in
    let all : items_of c.args.self.now ≡ held_in b.closed.items ++ b.tail.items = ap (λ (l : Laid ℕ). items_of l) (sym c.self.view_is) ∙ shown-items b.closed.items b.tail.items b.room in
    let both = kept-both (keeps slab owner) b.closed.items c.keep_in.new.closed.items b.tail.items c.keep_one.new.block.items c.keep_in.ensures.items c.keep_one.ensures.items in
    let many = both-parts (λ slot. is_same_name (nack_at slab slot).owner owner) (items_of c.args.self.now) in
    let left : length (filter (keeps slab owner) (items_of c.args.self.now)) ≡ length (held_in c.keep_in.new.closed.items ++ c.keep_one.new.block.items) = ap (λ (l : List ℕ). length (filter (keeps slab owner) l)) all ∙ sym (ap (λ (l : List ℕ). length l) both) in
    record {
      filled = c.keep_in.ensures.filled;
      counted = omega (arith, c.requires, many, left, ap (λ (l : List ℕ). length l) all, c.self.invariant.counted);
      spares = c.self.invariant.spares;
      places = omega (arith, c.self.invariant.places, c.keep_in.ensures.blocks, c.keep_in.ensures.places);
      ready = λ some. omega (arith, c.self.invariant.ready some, c.keep_one.ensures.len, c.keep_one.ensures.capacity);
      fits = omega (arith, c.keep_one.ensures.len, c.keep_one.ensures.capacity, c.self.invariant.fits);
      small = omega (arith, c.self.invariant.small);
    }

pub returns-clause-items : goal.returns-clause-items
returns-clause-items c =
    let b = c.self.inside in
    let owner = c.args.owner.now in
    let slab = c.args.slab.now in
    let all : items_of c.args.self.now ≡ held_in b.closed.items ++ b.tail.items = ap (λ (l : Laid ℕ). items_of l) (sym c.self.view_is) ∙ shown-items b.closed.items b.tail.items b.room in
    shown-items c.keep_in.new.closed.items c.keep_one.new.block.items b.room
    ∙ kept-both (keeps slab owner) b.closed.items c.keep_in.new.closed.items b.tail.items c.keep_one.new.block.items c.keep_in.ensures.items c.keep_one.ensures.items
    ∙ sym (ap (λ (l : List ℕ). filter (keeps slab owner) l) all)
