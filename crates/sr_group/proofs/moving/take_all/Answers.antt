use Rattle.std.proofs.Common.{◌≡◌, suc, ◌∷◌, List, length, ap, subst, ◌∙◌, arith}
use Rattle.std.specs.List.{All}
use Rattle.std.proofs.lemmas.List.Elements.{All-tail}
use Rattle.std.specs.Vec.Iter.{into_iter_items}
use Rattle.sr_group.specs.declared.moving.Wanted.{Wanted}
use Rattle.sr_group.proofs.MovingLemmas.{taken-first}
use Rattle.sr_group.proofs.moving.take_all.Goals as goal

pub loop-one-preserved : goal.loop-one-preserved
loop-one-preserved c =
    let call = c.args.call.now in
    let all = into_iter_items c.loop-one.one-iterator in
    let left = into_iter_items c.next.new.self in
    let items : all ≡ c.in-Some.one ∷ left = c.in-Some.ensures.steps.0 in
    let len : length all ≡ suc (length left) = ap (λ (l : List Wanted). length l) items in
    let so_far = c.loop-one.invariant in
    let owned : All (λ (w : Wanted). w.owner ≡ call.claimer.now) (c.in-Some.one ∷ left) = subst (λ (l : List Wanted). All (λ (w : Wanted). w.owner ≡ call.claimer.now) l) items so_far.1 in (
      taken-first call.claim call.claimer.now call.moment call.entries.now.entries c.in-Some.one all left c.loop-one.pending.nacks c.take.new.pending.nacks items c.take.ensures.nacks ∙ so_far.0,
      All-tail (λ (w : Wanted). w.owner ≡ call.claimer.now) c.in-Some.one left owned,
      omega (arith, len, so_far.2, c.take.ensures.rooms.own),
      omega (arith, len, so_far.3, c.take.ensures.rooms.own),
      (λ other apart. c.take.ensures.rooms.others other apart ∙ so_far.4 other apart),
      omega (arith, len, so_far.5, c.in-Some.ensures.steps.1),
    )
