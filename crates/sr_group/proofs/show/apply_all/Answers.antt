use Rattle.std.proofs.Common.{◌≡◌, suc, [], ◌∷◌, List, length, ap, sym, ◌∙◌, arith}
use Rattle.std.specs.Vec.Iter.{into_iter_items}
use Rattle.sr_pending.specs.declared.nack.Nack.{Nack}
use Rattle.sr_group.specs.declared.shown.Act.{Act}
use Rattle.sr_group.specs.Shown.{after_acts}
use Rattle.sr_group.proofs.FoundLemmas.{after_acts-append}
use Rattle.sr_group.proofs.ShowLemmas.{HaveRoom-first}
use Rattle.sr_group.proofs.show.apply_all.Goals as goal

pub apply-requires : goal.apply-requires
apply-requires c =
    HaveRoom-first c.in-Some.act (into_iter_items c.next.new.self) c.loop-act.pending.rooms (rw c.in-Some.ensures.steps.0 at c.loop-act.invariant.1)

pub loop-act-preserved : goal.loop-act-preserved
loop-act-preserved c =
    let act = c.in-Some.act in
    let left = into_iter_items c.next.new.self in
    let items : into_iter_items c.loop-act.act-iterator ≡ act ∷ left = c.in-Some.ensures.steps.0 in
    let len : length (into_iter_items c.loop-act.act-iterator) ≡ suc (length left) = ap (λ (l : List Act). length l) items in
    let nacks = c.loop-act.pending.nacks in (
      ap (λ (l : List Nack). after_acts left l) c.apply.ensures.nacks
          ∙ sym (after_acts-append (act ∷ []) left nacks)
          ∙ ap (λ (l : List Act). after_acts l nacks) (sym items)
          ∙ c.loop-act.invariant.0,
      c.apply.ensures.rooms left (rw items at c.loop-act.invariant.1),
      omega (arith, len, c.loop-act.invariant.2, c.in-Some.ensures.steps.1),
    )
