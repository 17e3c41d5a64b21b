use Rattle.std.proofs.Common.{◌≡◌, ◌+◌, ◌<◌, ◌≤◌, List, ◌++◌, length, take, ap, subst, sym, ◌∙◌, arith, Global}
use Rattle.std.proofs.lemmas.List.{take_all}
use Rattle.std.proofs.lemmas.Option.{get_or_from_slice_get}
use Rattle.std.specs.List.{insert}
use Rattle.std.specs.VecDeque.{deque_capacity, deque_len}
use Rattle.std.specs.declared.collections.VecDeque.{VecDeque}
use Rattle.sr_pending.specs.steps.Blocks.{held_in}
use Rattle.sr_pending.proofs.Holding.{insert-behind, inserted}
use Rattle.sr_pending.proofs.closed_blocks.insert_in.Goals as goal

pub returns-then-block-len-clause-items : goal.returns-then-block-len-clause-items
returns-then-block-len-clause-items g c =
    let blocks = c.args.closed.now.items in
    let now = c.make_room.new.closed.items in
    let rest = c.make_room.new.tail.items in
    let made = c.make_room.ensures in
    let b = c.args.block in
    let was = c.index_mut.result.now in
    let is = c.put_at.new.block in
    let read = c.index_mut.ensures.value in
    let same : was ≡ made.is = read ∙ get_or_from_slice_get now b made.is was made.here in
    let within : b < deque_len c.args.closed.now = omega (arith, c.if-block-len.true, c.len.ensures) in
    let inside = c.requires.in_closed within in
    let still : b < length now = omega (arith, within, made.blocks, c.make_room.new.closed.ok.0) in
    let short : c.args.at ≤ length was.items = subst (λ (d : VecDeque g.row.T.Denot Global). c.args.at ≤ length d.items) (sym same) (omega (arith, inside, made.kept)) in
    inserted now b was is c.args.at c.args.value rest still read short c.put_at.ensures.items
    ∙ ap (λ (l : List g.row.T.Denot). insert l (length (held_in (take b now)) + c.args.at) c.args.value) made.items
    ∙ ap (λ (l : List (VecDeque g.row.T.Denot Global)). insert (held_in blocks ++ c.args.tail.now.items) (length (held_in l) + c.args.at) c.args.value) made.before

pub returns-clause-items : goal.returns-clause-items
returns-clause-items g c =
    let blocks = c.args.closed.now.items in
    let behind : length blocks ≤ c.args.block = omega (arith, c.if-block-len.false, c.len.ensures, c.args.closed.now.ok.0) in
    ap (λ (l : List g.row.T.Denot). held_in blocks ++ l) c.put_at-2.ensures.items
    ∙ sym (insert-behind (held_in blocks) c.args.tail.now.items c.args.at c.args.value)
    ∙ ap (λ (l : List (VecDeque g.row.T.Denot Global)). insert (held_in blocks ++ c.args.tail.now.items) (length (held_in l) + c.args.at) c.args.value) (sym (take_all c.args.block blocks behind))

pub index_mut-requires : goal.index_mut-requires
index_mut-requires g c = omega (arith, c.if-block-len.true, c.len.ensures, c.make_room.ensures.blocks)

pub put_at-requires-clause-at : goal.put_at-requires-clause-at
put_at-requires-clause-at g c =
    let made = c.make_room.ensures in
    let was = c.index_mut.result.now in
    let same : was ≡ made.is = c.index_mut.ensures.value ∙ get_or_from_slice_get c.make_room.new.closed.items c.args.block made.is was made.here in
    let inside = c.requires.in_closed (omega (arith, c.if-block-len.true, c.len.ensures)) in
    subst (λ (d : VecDeque g.row.T.Denot Global). c.args.at ≤ deque_len d) (sym same) (omega (arith, inside, made.kept, made.is.ok.0))

pub put_at-requires-clause-free : goal.put_at-requires-clause-free
put_at-requires-clause-free g c =
    let made = c.make_room.ensures in
    let was = c.index_mut.result.now in
    let same : was ≡ made.is = c.index_mut.ensures.value ∙ get_or_from_slice_get c.make_room.new.closed.items c.args.block made.is was made.here in
    subst (λ (d : VecDeque g.row.T.Denot Global). deque_len d < deque_capacity d) (sym same) made.free

pub returns-then-block-len-clause-filled : goal.returns-then-block-len-clause-filled
returns-then-block-len-clause-filled g c =
    c.make_room.ensures.filled c.put_at.new.block (omega (arith, c.put_at.ensures.len, c.put_at.new.block.ok.0))
