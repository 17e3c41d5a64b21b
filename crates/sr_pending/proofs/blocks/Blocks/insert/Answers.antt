use Rattle.std.proofs.Common.{◌-◌, ◌++◌, ap, ◌∙◌, arith}
use Rattle.std.proofs.lemmas.List.{length-map}
use Rattle.std.specs.VecDeque.{deque_items}
use Rattle.sr_pending.specs.steps.Blocks.{Laid, held_in}
use Rattle.sr_pending.proofs.Changing.{shown-short}
use Rattle.sr_pending.proofs.Laying.{laid-inserted}
use Rattle.sr_pending.proofs.Showing.{shown-in, shown-insert, shown-items}
use Rattle.sr_pending.proofs.blocks.Blocks.insert.Goals as goal

pub returns-clause-items : goal.returns-clause-items
returns-clause-items g c =
    let b = c.self.inside in
    let closed = c.insert_in.new.closed.items in
    let tail = c.insert_in.new.tail.items in
    shown-items c.rotate.new.closed.items c.rotate.new.tail.items (b.room - 1)
    ∙ c.rotate.ensures.items
    ∙ shown-insert b.closed.items b.tail.items b.room c.args.self.now c.self.view_is c.args.place (held_in closed ++ tail) c.args.value c.insert_in.ensures.items

pub invariant_of-self : goal.invariant_of-self
invariant_of-self g c =
    let b = c.self.inside in
    let put = c.insert_in in
    laid-inserted b.closed b.tail b.spare b.count b.room c.self.invariant put.new.closed c.rotate.new.closed put.new.tail c.rotate.new.tail c.rotate.new.spare _ c.args.value c.rotate.ensures put.ensures.items put.ensures.len put.ensures.capacity (omega (arith, ap (λ (l : Laid g.row.T.Denot). l.room) c.self.view_is, c.requires.room))

pub insert_in-requires-clause-block : goal.insert_in-requires-clause-block
insert_in-requires-clause-block g c =
    let b = c.self.inside in
    let is = shown-in b.closed.items b.tail.items b.room c.args.self.now c.self.view_is c.args.place c.requires.place in
    omega (arith, is.within, length-map b.closed.items deque_items, b.closed.ok.0)

pub insert_in-requires-clause-in_closed : goal.insert_in-requires-clause-in_closed
insert_in-requires-clause-in_closed g c lt =
    let b = c.self.inside in
    shown-short b.closed.items b.tail.items b.room c.args.self.now c.self.view_is c.args.place c.requires.place (omega (arith, lt, b.closed.ok.0))

pub insert_in-requires-clause-in_tail : goal.insert_in-requires-clause-in_tail
insert_in-requires-clause-in_tail g c le =
    let b = c.self.inside in
    let is = shown-in b.closed.items b.tail.items b.room c.args.self.now c.self.view_is c.args.place c.requires.place in
    omega (arith, is.in_tail (omega (arith, le, length-map b.closed.items deque_items, b.closed.ok.0)), b.tail.ok.0)
