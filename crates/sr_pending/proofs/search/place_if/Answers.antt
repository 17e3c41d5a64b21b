use Rattle.std.proofs.Common.{◌≡◌, ℕ, Bool, false, ◌<◌, ◌≤◌, List, [], ◌∷◌, ◌++◌, length, get_or, ap, subst, sym, ◌∙◌, arith}
use Rattle.std.proofs.lemmas.List.{length-map}
use Rattle.std.proofs.lemmas.Option.{slice_get_within}
use Rattle.std.specs.VecDeque.{deque_items}
use Rattle.sr_ids.specs.{is_below, is_same_id}
use Rattle.sr_pending.specs.steps.Blocks.{at_of, items_of}
use Rattle.sr_pending.specs.steps.Search.{IsEdge}
use Rattle.sr_pending.specs.steps.Slots.{nack_at}
use Rattle.sr_pending.proofs.Finding.{IsIn-block}
use Rattle.sr_pending.proofs.NackLemmas.{is_same_id-true}
use Rattle.sr_pending.proofs.PlaceLemmas.{place_at, place_edge}
use Rattle.sr_pending.proofs.search.place_if.Goals as goal

pub block-requires : goal.block-requires
block-requires c =
    omega (arith, c.if-block-len.false, c.len.ensures, c.closed.result.now.ok.0, length-map c.closed.result.now.items deque_items, ap (λ (l : List (List ℕ)). length l) c.closed.ensures.blocks)

pub get-requires : goal.get-requires
get-requires c =
    let laid = c.args.slots.now in
    let block = c.args.block in
    let at = c.args.at in
    let le : block ≤ length laid.closed = omega (arith, c.if-block-len.false, c.len.ensures, c.closed.result.now.ok.0, length-map c.closed.result.now.items deque_items, ap (λ (l : List (List ℕ)). length l) c.closed.ensures.blocks) in
    let lt : at < length (get_or (laid.closed ++ laid.tail ∷ []) block []) = omega (arith, c.if-at-len.false, c.len-2.ensures, c.block.result.now.ok.0, ap (λ (l : List ℕ). length l) c.block.ensures) in
    IsIn-block laid block at le lt

pub returns-then-eq : goal.returns-then-eq
returns-then-eq c =
    let laid = c.args.slots.now in
    let block = c.args.block in
    let at = c.args.at in
    let le : block ≤ length laid.closed = omega (arith, c.if-block-len.false, c.len.ensures, c.closed.result.now.ok.0, length-map c.closed.result.now.items deque_items, ap (λ (l : List (List ℕ)). length l) c.closed.ensures.blocks) in
    let lt : at < length (get_or (laid.closed ++ laid.tail ∷ []) block []) = omega (arith, c.if-at-len.false, c.len-2.ensures, c.block.result.now.ok.0, ap (λ (l : List ℕ). length l) c.block.ensures) in
    let same = is_same_id-true (nack_at c.args.slab.now c.in-Some.slot.now).id c.args.id (ap (λ i. is_same_id i c.args.id) (sym c.id_in.ensures) ∙ sym c.eq.ensures ∙ c.if-eq.true) in
    record {
      within = IsIn-block laid block at le lt;
      value = place_at (nack_at c.args.slab.now) c.args.id (items_of laid) _ c.in-Some.slot.now c.requires (sym c.in-Some.ensures) same;
    }

pub returns-then-ends_below : goal.returns-then-ends_below
returns-then-ends_below c =
    let laid = c.args.slots.now in
    let block = c.args.block in
    let at = c.args.at in
    let test : ℕ → Bool = λ s. is_below (nack_at c.args.slab.now s).id c.args.id in
    let le : block ≤ length laid.closed = omega (arith, c.if-block-len.false, c.len.ensures, c.closed.result.now.ok.0, length-map c.closed.result.now.items deque_items, ap (λ (l : List (List ℕ)). length l) c.closed.ensures.blocks) in
    let lt : at < length (get_or (laid.closed ++ laid.tail ∷ []) block []) = omega (arith, c.if-at-len.false, c.len-2.ensures, c.block.result.now.ok.0, ap (λ (l : List ℕ). length l) c.block.ensures) in
    let here = sym c.in-Some.ensures in
    let within = slice_get_within (items_of laid) (at_of (record { block = block; at = at }) laid) c.in-Some.slot.now here in
    let fails : test c.in-Some.slot.now ≡ false = sym c.lies_before.ensures ∙ c.if-lies_before.false in
    let edge : IsEdge test (items_of laid) (at_of (record { block = block; at = at }) laid) = record {
      within = omega (arith, within);
      passed = c.ends_below.ensures c.if-ends_below.true;
      failed = λ x there. let one : c.in-Some.slot.now ≡ x = let both = sym here ∙ there in cc in subst (λ (s : ℕ). test s ≡ false) one fails;
    } in
    record {
      within = IsIn-block laid block at le lt;
      value = place_edge (nack_at c.args.slab.now) (items_of laid) c.requires c.args.id _ edge;
    }
