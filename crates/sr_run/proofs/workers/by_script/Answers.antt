use Rattle.std.proofs.Common.{◌≡◌, ◌+◌, ◌≤◌, ◌++◌, take, drop, get_or, length, map, ap, ◌∙◌, arith}
use Rattle.std.specs.List.{flat_map}
use Rattle.std.specs.Prelude.{sum}
use Rattle.std.proofs.lemmas.List.{drop_all, length-take-le, take_all}
use Rattle.std.proofs.lemmas.List.Sums.{sum_by-drop_more}
use Rattle.sr_run.proofs.WorkedLemmas.{nothing_left, one_group_more, one_more_pushed}
use Rattle.sr_run.proofs.workers.by_script.Goals as goal

pub loop-size-init : goal.loop-size-init
loop-size-init c =
    let none = c.in_ok-groups.ensures.items in
    record {
      sizes = ap (λ groups. map (λ group. length group.items) groups) none;
      same = ap (λ groups. flat_map (λ group. group.items) groups ++ c.args.receipts.items) none;
      left = c.requires;
      many = c.in_ok-groups.ensures.len;
      room = c.in_ok-groups.ensures.capacity;
    }

pub split_off-requires : goal.split_off-requires
split_off-requires c =
    let here = c.loop-size in
    omega (arith, here.invariant.left, sum_by-drop_more (λ n. n) c.args.sizes.now here.size-index 0 c.loop-size-test.true)

pub push_reserved-requires : goal.push_reserved-requires
push_reserved-requires c = omega (arith, c.loop-size.invariant.many, c.loop-size.invariant.room, c.loop-size-test.true)

pub loop-size-preserved : goal.loop-size-preserved
loop-size-preserved c =
    let here = c.loop-size.invariant in
    let i = c.loop-size.size-index in
    let sizes = c.args.sizes.now in
    let size = get_or sizes i 0 in
    let rest = c.loop-size.rest.items in
    let group = c.split_off.new.self in
    let old = c.loop-size.groups.items in
    let new = c.push_reserved.new.self.items in
    let pushed = c.push_reserved.ensures.items in
    let front : group.items ≡ take size rest = c.in_ok-others.ensures.items in
    let back : c.in_ok-others.others.items ≡ drop size rest = c.in_ok-others.ensures.tail in
    let next : sum (drop i sizes) ≡ size + sum (drop (i + 1) sizes) = sum_by-drop_more (λ n. n) sizes i 0 c.loop-size-test.true in
    let few : size ≤ length rest = omega (arith, here.left, next, c.loop-size.rest.ok.0) in
    record {
      sizes = one_more_pushed (λ group. length group.items) sizes i 0 old new group c.loop-size-test.true pushed (ap length front ∙ length-take-le size rest few) here.sizes;
      same = one_group_more (λ group. group.items) old new group rest c.in_ok-others.others.items size pushed front back ∙ here.same;
      left = omega (arith, here.left, next, c.in_ok-others.ensures.tail_len);
      many = omega (arith, c.push_reserved.ensures.len, here.many);
      room = omega (arith, c.push_reserved.ensures.capacity, here.room);
    }

pub returns : goal.returns
returns c =
    let here = c.loop-size.invariant in
    let sizes = c.args.sizes.now in
    let none : sum (drop c.loop-size.size-index sizes) ≡ 0 = ap sum (drop_all c.loop-size.size-index sizes c.loop-size-test.false) in
    record {
      sizes = here.sizes ∙ take_all _ _ c.loop-size-test.false;
      same = nothing_left _ c.loop-size.rest.items _ (omega (arith, here.left, none, c.loop-size.rest.ok.0)) here.same;
    }
