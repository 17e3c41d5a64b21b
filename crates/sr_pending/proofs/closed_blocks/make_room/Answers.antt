use Rattle.std.proofs.Common.{◌≡◌, ◌+◌, ◌<◌, suc, ◌++◌, List, length, take, set, get_or, refl, ap, sym, subst, ◌∙◌, arith, Global}
use Rattle.std.proofs.lemmas.List.{append-nil, drop-set-lt, get_or-set_same, get_or-take, length-set, take-set}
use Rattle.std.proofs.lemmas.List.Elements.{All-drop, All-take}
use Rattle.std.proofs.lemmas.Option.{slice_get_read}
use Rattle.std.specs.VecDeque.{deque_len}
use Rattle.std.specs.declared.collections.VecDeque.{VecDeque}
use Rattle.sr_pending.specs.steps.Blocks.{AreFilled}
use Rattle.sr_pending.proofs.Holding.{exchanged, filled-around, items_at-read, split_last, take-shorter}
use Rattle.sr_pending.proofs.closed_blocks.make_room.Goals as goal

pub returns-in-Some : goal.returns-in-Some
returns-in-Some g c =
    let blocks = c.args.closed.now.items in
    let now = c.carry.new.closed.items in
    let b = c.args.block in
    let was = c.index_mut.result.now in
    let is = c.overflow.new.block in
    let read = c.index_mut.ensures.value in
    let step : b + 1 ≡ suc b = omega arith in
    let within : b < length blocks = omega (arith, c.requires.block, c.args.closed.now.ok.0) in
    let still : b < length now = omega (arith, c.requires.block, c.carry.ensures.blocks, c.carry.new.closed.ok.0) in
    let last : b < suc b = omega arith in
    let shown : take (suc b) now ≡ take (suc b) (set blocks b is) = rw step at c.carry.ensures.before in
    let here : is ≡ get_or now b is = sym (get_or-set_same blocks b is is within) ∙ sym (get_or-take (suc b) (set blocks b is) b is last) ∙ ap (λ (l : List (VecDeque g.row.T.Denot Global)). get_or l b is) (sym shown) ∙ get_or-take (suc b) now b is last in
    let had : 0 < length was.items = subst (λ (d : VecDeque g.row.T.Denot Global). 0 < length d.items) (sym read) (c.requires.filled b was within) in
    let some : 0 < deque_len was = omega (arith, had, was.ok.0) in
    let before : take b now ≡ take b blocks = take-shorter b now (set blocks b is) shown ∙ take-set blocks b is in
    let moved = rw step at c.carry.ensures.items in
    let behind = rw step at c.carry.ensures.filled in
    record {
      is = is;
      here = slice_get_read now (length now) b is refl still here;
      free = c.in-Some.ensures.free some;
      kept = rw (items_at-read blocks b was within read) (omega (arith, c.in-Some.ensures.len, was.ok.0, is.ok.0));
      items = moved ∙ split_last blocks b was is c.in-Some.last c.args.tail.now.items within read c.in-Some.ensures.items;
      before = before;
      blocks = c.carry.ensures.blocks;
      places = c.carry.ensures.places;
      filled = λ filling full. filled-around now b filling still (subst AreFilled (sym before) (All-take (λ (d : VecDeque g.row.T.Denot Global). 0 < length d.items) b blocks c.requires.filled)) full (behind (subst AreFilled (sym (drop-set-lt (suc b) blocks b is last)) (All-drop (λ (d : VecDeque g.row.T.Denot Global). 0 < length d.items) (suc b) blocks c.requires.filled)));
      len = c.carry.ensures.len;
      capacity = c.carry.ensures.capacity;
    }

pub returns-in_default : goal.returns-in_default
returns-in_default g c =
    let blocks = c.args.closed.now.items in
    let b = c.args.block in
    let was = c.index_mut.result.now in
    let is = c.overflow.new.block in
    let read = c.index_mut.ensures.value in
    let within : b < length blocks = omega (arith, c.requires.block, c.args.closed.now.ok.0) in
    let still : b < length (set blocks b is) = omega (arith, within, length-set blocks b is) in
    let last : b < suc b = omega arith in
    let had : 0 < length was.items = subst (λ (d : VecDeque g.row.T.Denot Global). 0 < length d.items) (sym read) (c.requires.filled b was within) in
    let some : 0 < deque_len was = omega (arith, had, was.ok.0) in
    let same : is.items ≡ was.items = sym (append-nil is.items) ∙ sym c.in_default.ensures.items in
    record {
      is = is;
      here = slice_get_read (set blocks b is) (length (set blocks b is)) b is refl still (sym (get_or-set_same blocks b is is within));
      free = c.in_default.ensures.free some;
      kept = rw (items_at-read blocks b was within read) (omega (arith, c.in_default.ensures.len, was.ok.0, is.ok.0));
      items = ap (λ (l : List g.row.T.Denot). l ++ c.args.tail.now.items) (exchanged blocks b was is within read same);
      before = take-set blocks b is;
      blocks = refl;
      places = refl;
      filled = λ filling full. filled-around (set blocks b is) b filling still (subst AreFilled (sym (take-set blocks b is)) (All-take (λ (d : VecDeque g.row.T.Denot Global). 0 < length d.items) b blocks c.requires.filled)) full (subst AreFilled (sym (drop-set-lt (suc b) blocks b is last)) (All-drop (λ (d : VecDeque g.row.T.Denot Global). 0 < length d.items) (suc b) blocks c.requires.filled));
      len = omega arith;
      capacity = refl;
    }
