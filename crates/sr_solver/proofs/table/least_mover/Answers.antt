use Rattle.std.proofs.Common.{◌≡◌, ℕ, ◌+◌, ◌*◌, ◌<◌, length, ap, ◌∙◌, arith}
use Rattle.std.proofs.lemmas.List.{get_or_default}
use Rattle.sr_solver.proofs.TableLemmas.{table_noted, mover_known, none_moves, pair_in}
use Rattle.sr_solver.specs.Table.{bound_at}
use Rattle.sr_solver.proofs.table.least_mover.Goals as goal

pub returns-then-known-entries-clause-mover : goal.returns-then-known-entries-clause-mover
returns-then-known-entries-clause-mover c =
    let pair : ℕ = c.args.from * c.consumers.result + c.args.to in
    let within : pair < length c.args.table.now.pairs.items =
    pair_in c.args.problem.now _ c.args.from c.args.to c.consumers.result c.args.table.now.pairs.items
    c.requires.table.pairs c.requires.from c.requires.to c.consumers.ensures.count in
    let is : c.index-known.result.now ≡ bound_at c.args.table.now.pairs.items pair =
    c.index-known.ensures ∙ get_or_default _ _ _ _ within in
    rw is (
    mover_known c.args.problem.now c.args.placement.now.assign.items c.args.from c.args.to pair
    c.args.table.now.pairs.items c.requires.from c.requires.to
    (ap (λ n. c.args.from * n + c.args.to) c.consumers.ensures.count) c.requires.table.pairs
    (rw is at (rw c.entries.ensures at c.if-known-entries.true)))

pub returns-then-known-entries-clause-table : goal.returns-then-known-entries-clause-table
returns-then-known-entries-clause-table c = c.requires.table

pub returns-then-found-entries-clause-table : goal.returns-then-found-entries-clause-table
returns-then-found-entries-clause-table c = record {
  pairs = table_noted c.args.problem.now c.args.placement.now.assign.items c.args.from c.args.to
      (c.args.from * c.consumers.result + c.args.to) c.look_up-found.new.table.pairs.items c.look_up-found.result
      c.requires.from c.requires.to
      (ap (λ n. c.args.from * n + c.args.to) c.consumers.ensures.count) c.look_up-found.ensures.table.pairs
      c.look_up-found.ensures.known;
  lows = c.look_up-found.ensures.table.lows;
}

pub returns-clause-table : goal.returns-clause-table
returns-clause-table c = record {
  pairs = table_noted c.args.problem.now c.args.placement.now.assign.items c.args.from c.args.to
      (c.args.from * c.consumers.result + c.args.to) c.look_up-found.new.table.pairs.items c.look_up-found.result
      c.requires.from c.requires.to
      (ap (λ n. c.args.from * n + c.args.to) c.consumers.ensures.count) c.look_up-found.ensures.table.pairs
      c.look_up-found.ensures.known;
  lows = c.look_up-found.ensures.table.lows;
}

pub returns-then-found-entries-clause-mover : goal.returns-then-found-entries-clause-mover
returns-then-found-entries-clause-mover c =
    (c.look_up-found.ensures.known, rw c.entries-2.ensures at c.if-found-entries.true)

pub returns-clause-mover : goal.returns-clause-mover
returns-clause-mover c =
    none_moves c.args.problem.now _ c.args.from c.args.to c.look_up-found.result c.requires.limits
    c.look_up-found.ensures.known c.look_up-found.ensures.found
    (λ lt. omega (arith, lt, c.if-found-entries.false, c.entries-2.ensures))

pub look_up-found-requires-clause-limits : goal.look_up-found-requires-clause-limits
look_up-found-requires-clause-limits c = c.requires.limits

pub look_up-found-requires-clause-every : goal.look_up-found-requires-clause-every
look_up-found-requires-clause-every c = c.requires.every

pub look_up-found-requires-clause-from : goal.look_up-found-requires-clause-from
look_up-found-requires-clause-from c = c.requires.from

pub look_up-found-requires-clause-to : goal.look_up-found-requires-clause-to
look_up-found-requires-clause-to c = c.requires.to

pub look_up-found-requires-clause-placed : goal.look_up-found-requires-clause-placed
look_up-found-requires-clause-placed c = c.requires.placed

pub look_up-found-requires-clause-members : goal.look_up-found-requires-clause-members
look_up-found-requires-clause-members c = c.requires.members
