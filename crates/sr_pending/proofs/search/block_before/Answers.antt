use Rattle.std.proofs.Common.{rules, ℕ, ◌≤◌, Bool, length, arith, refl}
use Rattle.std.proofs.lemmas.List.Sorted.{IsPartitionPoint-from_clause}
use Rattle.sr_pending.specs.steps.Blocks.{items_of}
use Rattle.sr_pending.specs.steps.Search.{is_before}
use Rattle.sr_pending.specs.steps.Slots.{nack_at}
use Rattle.sr_pending.proofs.Finding.{block_ends, blocks-first, found-ends, guessed-ends}
use Rattle.sr_pending.proofs.PlaceLemmas.{first_before}
use Rattle.sr_pending.proofs.search.block_before.Goals as goal

pub returns-then-is_edge : goal.returns-then-is_edge
returns-then-is_edge c =
    let laid = c.args.slots.now in
    let test : ℕ → Bool = λ s. is_before c.args.upto c.args.id (nack_at c.args.slab.now s) in
    let first = first_before (nack_at c.args.slab.now) (items_of laid) c.requires c.args.id c.args.upto in
    guessed-ends test laid c.closed.result.now.items c.closed.ensures.blocks c.closed.ensures.filled first c.first_guess-guess.result (c.is_edge.ensures c.if-is_edge.true)

pub returns : goal.returns
returns c =
    let laid = c.args.slots.now in
    let test : ℕ → Bool = λ s. is_before c.args.upto c.args.id (nack_at c.args.slab.now s) in
    let blocks = c.closed-2.result.now.items in
    let n = c.partition_point.result in
    let first = first_before (nack_at c.args.slab.now) (items_of laid) c.requires c.args.id c.args.upto in
    let within : n ≤ length blocks = omega (arith, c.partition_point.ensures.bound, c.closed-2.result.now.ok.0) in
    let found = IsPartitionPoint-from_clause (block_ends test) blocks n c.partition_point.ensures.partitioned (blocks-first test laid blocks c.closed-2.ensures.blocks c.closed-2.ensures.filled first) (λ a r q k. search rules) in
    found-ends test laid blocks c.closed-2.ensures.blocks c.closed-2.ensures.filled first n within found
