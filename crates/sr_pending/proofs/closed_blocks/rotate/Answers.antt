use Rattle.std.proofs.Common.{◌≡◌, ◌+◌, ◌-◌, ◌<◌, ◌≤◌, List, [], ◌++◌, length, get_or, refl, ap, subst, sym, ◌∙◌, arith, Global}
use Rattle.std.proofs.lemmas.List.{nil_from_length}
use Rattle.std.proofs.lemmas.List.Elements.{All-take}
use Rattle.std.specs.VecDeque.{deque_capacity, deque_len}
use Rattle.std.specs.declared.collections.VecDeque.{VecDeque}
use Rattle.sr_pending.specs.declared.closed_blocks.TheConstants.{BLOCK, FREE}
use Rattle.sr_pending.specs.steps.Blocks.{AreSpare, IsSpare, held_in}
use Rattle.sr_pending.proofs.Closing.{closed-filled, closed-items}
use Rattle.sr_pending.proofs.Holding.{is_none, is_some}
use Rattle.sr_pending.proofs.closed_blocks.rotate.Goals as goal

pub returns-else-is_empty : goal.returns-else-is_empty
returns-else-is_empty g c =
    let closed = c.args.closed.now in
    let spare = c.args.spare.now in
    let next = c.in-Some.next in
    let full = c.replace-full.result in
    let tail = c.replace-full.new.dest in
    let more = c.push_back_reserved.new.self in
    let some : 0 < deque_len spare = c.in-Some.ensures.variant.0 refl in
    let less : deque_len c.pop_back.new.self + 1 ≡ deque_len spare = c.in-Some.ensures.cases in
    let read : next ≡ get_or spare.items (deque_len spare - 1) next = c.in-Some.ensures.lookup in
    let is_spare = subst (λ (d : VecDeque g.row.T.Denot Global). IsSpare d) (sym read) (c.requires.spares (deque_len spare - 1) next (omega (arith, some, spare.ok.0))) in
    let was : full ≡ c.args.tail.now = c.replace-full.ensures.value in
    let is : tail ≡ next = c.replace-full.ensures.after in
    let none : tail.items ≡ [] = ap (λ (d : VecDeque g.row.T.Denot Global). d.items) is ∙ is_spare.0 in
    let wide : BLOCK + FREE ≤ deque_capacity tail = subst (λ (d : VecDeque g.row.T.Denot Global). BLOCK + FREE ≤ deque_capacity d) (sym is) is_spare.1 in
    let short : deque_len tail ≡ 0 = tail.ok.0 ∙ ap length none in
    let held : 0 < length full.items = omega (arith, is_some (deque_len full) c.is_empty.result c.is_empty.ensures c.if-is_empty.false, full.ok.0) in
    record {
      items = closed-items closed.items more.items full c.push_back_reserved.ensures.items c.args.tail.now.items tail.items (ap (λ (d : VecDeque g.row.T.Denot Global). d.items) was) none;
      filled = closed-filled closed.items more.items full c.push_back_reserved.ensures.items c.requires.filled held;
      spares = subst AreSpare (sym c.pop_back.ensures.rest) (All-take (λ (d : VecDeque g.row.T.Denot Global). IsSpare d) _ spare.items c.requires.spares);
      places = omega (arith, c.push_back_reserved.ensures.len, c.push_back_reserved.ensures.capacity, less, c.requires.places);
      fits = omega (arith, less, wide, short, c.if-capacity-len-gt-FREE.false, c.capacity.ensures, c.len.ensures);
      ready = λ _. omega (arith, wide, short);
    }

pub returns-then-capacity-len-gt-FREE : goal.returns-then-capacity-len-gt-FREE
returns-then-capacity-len-gt-FREE g c =
    record {
      items = refl {a = held_in c.args.closed.now.items ++ c.args.tail.now.items};
      filled = c.requires.filled;
      spares = c.requires.spares;
      places = c.requires.places;
      fits = omega arith;
      ready = λ _. omega (arith, c.if-capacity-len-gt-FREE.true, c.capacity.ensures, c.len.ensures);
    }

pub returns-in_default : goal.returns-in_default
returns-in_default g c =
    let spare = c.args.spare.now in
    let none = c.in_default.ensures.cases in
    record {
      items = refl {a = held_in c.args.closed.now.items ++ c.args.tail.now.items};
      filled = c.requires.filled;
      spares = subst AreSpare (sym c.pop_back.ensures.rest) (All-take (λ (d : VecDeque g.row.T.Denot Global). IsSpare d) _ spare.items c.requires.spares);
      places = omega (arith, none.0, none.1, c.requires.places);
      fits = omega (arith, none.0, none.1);
      ready = λ some. omega (arith, none.1, some);
    }

pub returns-then-is_empty : goal.returns-then-is_empty
returns-then-is_empty g c =
    let closed = c.args.closed.now in
    let spare = c.args.spare.now in
    let next = c.in-Some.next in
    let full = c.replace-full.result in
    let tail = c.replace-full.new.dest in
    let some : 0 < deque_len spare = c.in-Some.ensures.variant.0 refl in
    let less : deque_len c.pop_back.new.self + 1 ≡ deque_len spare = c.in-Some.ensures.cases in
    let read : next ≡ get_or spare.items (deque_len spare - 1) next = c.in-Some.ensures.lookup in
    let is_spare = subst (λ (d : VecDeque g.row.T.Denot Global). IsSpare d) (sym read) (c.requires.spares (deque_len spare - 1) next (omega (arith, some, spare.ok.0))) in
    let is : tail ≡ next = c.replace-full.ensures.after in
    let none : tail.items ≡ [] = ap (λ (d : VecDeque g.row.T.Denot Global). d.items) is ∙ is_spare.0 in
    let wide : BLOCK + FREE ≤ deque_capacity tail = subst (λ (d : VecDeque g.row.T.Denot Global). BLOCK + FREE ≤ deque_capacity d) (sym is) is_spare.1 in
    let short : deque_len tail ≡ 0 = tail.ok.0 ∙ ap length none in
    let gone : deque_len full ≡ 0 = is_none (deque_len full) c.is_empty.result c.is_empty.ensures c.if-is_empty.true in
    let was : full.items ≡ c.args.tail.now.items = ap (λ (d : VecDeque g.row.T.Denot Global). d.items) c.replace-full.ensures.value in
    let nothing : full.items ≡ [] = nil_from_length full.items (omega (arith, gone, full.ok.0)) in
    record {
      items = ap (λ (l : List g.row.T.Denot). held_in closed.items ++ l) (none ∙ sym nothing ∙ was);
      filled = c.requires.filled;
      spares = subst AreSpare (sym c.pop_back.ensures.rest) (All-take (λ (d : VecDeque g.row.T.Denot Global). IsSpare d) _ spare.items c.requires.spares);
      places = omega (arith, less, c.requires.places);
      fits = omega (arith, less, wide, short, c.if-capacity-len-gt-FREE.false, c.capacity.ensures, c.len.ensures);
      ready = λ _. omega (arith, wide, short);
    }
