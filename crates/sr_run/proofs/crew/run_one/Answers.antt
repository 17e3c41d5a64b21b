use Rattle.std.proofs.Common.{subst, ◌∙◌, ap, length}
use Rattle.sr_run.specs.Crews.{CrewState, HasWorked}
use Rattle.sr_run.proofs.WorkedLemmas.{alone_is_stopped, one_has_worked, room_again}
use Rattle.sr_run.proofs.crew.run_one.Goals as goal

pub returns-in-Ok-work : goal.returns-in-Ok-work
returns-in-Ok-work g c =
    let crew = c.crew.inside in
    let last = c.in-Some-Some in
    let P : CrewState → Type 0 = λ whole. HasWorked whole c.push_reserved.new.self.items c.work.new.receipts.items in
    subst P c.crew.view_is
    (one_has_worked (λ script. script.items) crew.first crew.seats.items c.pop.new.self.items c.push_reserved.new.self.items crew.scripts.items c.pop-2.new.self.items
    last.seat c.work.new.seat last.script c.as_slice.result.now c.work.new.receipts.items
    c.crew.invariant (ap (λ (whole : CrewState). length whole.scripts) c.crew.view_is ∙ c.requires) last.ensures.items last.ensures'.items c.push_reserved.ensures.items c.as_slice.ensures.value
    c.in-Ok-work.ensures.receipts c.in-Ok-work.ensures.share c.in-Ok-work.ensures.before)

pub push_reserved-requires : goal.push_reserved-requires
push_reserved-requires g c = room_again _ _ _ _ c.in-Some-Some.ensures.cases c.crew.inside.seats.ok.1 c.pop.ensures.capacity

pub returns-in-Err : goal.returns-in-Err
returns-in-Err g c = alone_is_stopped c.args.crew c.crew.inside.first c.in-Err.fault (ap (λ (whole : CrewState). whole.first) c.crew.view_is) c.requires c.in-Err.ensures.told
