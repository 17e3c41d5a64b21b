use Rattle.std.proofs.Common.{◌≡◌, ◌<◌, List, [], ◌++◌, length, set, ap, sym, ◌∙◌, arith, Global}
use Rattle.std.specs.VecDeque.{deque_len}
use Rattle.sr_pending.specs.steps.Blocks.{held_in}
use Rattle.std.proofs.lemmas.List.{length-set, get_or-set_same, nil_from_length}
use Rattle.std.specs.declared.collections.VecDeque.{VecDeque}
use Rattle.std.specs.List.{remove}
use Rattle.sr_pending.proofs.Holding.{emptied, is_none, items_at-read, removed, removed-within}
use Rattle.sr_pending.proofs.closed_blocks.remove_in.Goals as goal

pub returns-else-is_empty-clause-items : goal.returns-else-is_empty-clause-items
returns-else-is_empty-clause-items g c rest =
    let blocks = c.args.closed.now.items in
    let b = c.args.block in
    let was = c.index_mut.result.now in
    let is = c.remove.new.self in
    let read = c.index_mut.ensures.value in
    let within : b < length blocks = omega (arith, c.requires.block, c.args.closed.now.ok.0) in
    let short : c.args.at < length was.items = rw (items_at-read blocks b was within read) at c.requires.at in
    let cut : is.items ≡ remove was.items c.args.at = removed-within c.remove.result _ (deque_len was) c.args.at c.remove.ensures.variant (omega (arith, short, was.ok.0)) c.remove.ensures.items in
    removed blocks b was is c.args.at rest within read short cut

pub returns-then-is_empty-clause-items : goal.returns-then-is_empty-clause-items
returns-then-is_empty-clause-items g c rest =
    let blocks = c.args.closed.now.items in
    let b = c.args.block in
    let was = c.index_mut.result.now in
    let is = c.remove.new.self in
    let read = c.index_mut.ensures.value in
    let within : b < length blocks = omega (arith, c.requires.block, c.args.closed.now.ok.0) in
    let short : c.args.at < length was.items = rw (items_at-read blocks b was within read) at c.requires.at in
    let cut : is.items ≡ remove was.items c.args.at = removed-within c.remove.result _ (deque_len was) c.args.at c.remove.ensures.variant (omega (arith, short, was.ok.0)) c.remove.ensures.items in
    let still : b < length (set blocks b is) = omega (arith, within, length-set blocks b is) in
    let seen : c.index.result.now ≡ is = c.index.ensures ∙ get_or-set_same blocks b is c.index.result.now within in
    let empty : deque_len c.index.result.now ≡ 0 = is_none (deque_len c.index.result.now) c.is_empty.result c.is_empty.ensures c.if-is_empty.true in
    let nothing : is.items ≡ [] = nil_from_length is.items (omega (arith, empty, is.ok.0, ap (λ (d : VecDeque g.row.T.Denot Global). deque_len d) seen)) in
    let gone : c.remove-then-is_empty.new.self.items ≡ remove (set blocks b is) b = removed-within c.remove-then-is_empty.result _ (deque_len c.args.closed.now) b c.remove-then-is_empty.ensures.variant c.requires.block c.remove-then-is_empty.ensures.items in
    ap (λ (l : List g.row.T.Denot). l ++ rest) (ap held_in gone ∙ emptied (set blocks b is) b is still (sym (get_or-set_same blocks b is is within)) nothing) ∙ removed blocks b was is c.args.at rest within read short cut
