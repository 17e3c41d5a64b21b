use Rattle.std.proofs.Common.{rules, ℕ, ◌≤◌, Bool, length, arith}
use Rattle.std.proofs.lemmas.List.Sorted.{IsPartitionPoint-from_clause}
use Rattle.sr_pending.specs.steps.Blocks.{ends_in, items_of}
use Rattle.sr_pending.specs.steps.Search.{is_before}
use Rattle.sr_pending.specs.steps.Slots.{nack_at}
use Rattle.sr_pending.proofs.Finding.{Splits-within, block-first, found-place, found-value}
use Rattle.sr_pending.proofs.PlaceLemmas.{first_before}
use Rattle.sr_pending.proofs.search.place_before.Goals as goal

pub block-requires : goal.block-requires
block-requires c =
    let test : ℕ → Bool = λ s. is_before c.args.upto c.args.id (nack_at c.args.slab.now s) in
    Splits-within (ends_in test) c.args.slots.now.closed c.block_before-block.result c.block_before-block.ensures

pub returns : goal.returns
returns c =
    let laid = c.args.slots.now in
    let test : ℕ → Bool = λ s. is_before c.args.upto c.args.id (nack_at c.args.slab.now s) in
    let block = c.block.result.now.items in
    let n = c.block_before-block.result in
    let m = c.partition_point-at.result in
    let first = first_before (nack_at c.args.slab.now) (items_of laid) c.requires c.args.id c.args.upto in
    let within : m ≤ length block = omega (arith, c.partition_point-at.ensures.bound, c.block.result.now.ok.0) in
    let found = IsPartitionPoint-from_clause test block m c.partition_point-at.ensures.partitioned (block-first test laid first n block c.block.ensures) (λ a r q k. search rules) in
    record {
      place = found-place test laid first n block c.block.ensures m c.block_before-block.ensures within found;
      value = found-value test laid first n block c.block.ensures m c.block_before-block.ensures within found;
    }
