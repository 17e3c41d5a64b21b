use Rattle.std.proofs.Common.{◌≡◌, ◌/◌, length, sym, ap, ◌∙◌, arith}
use Rattle.std.proofs.lemmas.List.{length-map}
use Rattle.sr_run.specs.Crews.{CrewState}
use Rattle.sr_run.proofs.WorkedLemmas.{back_crew, crew_halves, crew_is_whole, crew_size, front_crew}
use Rattle.sr_run.proofs.crew.Crew.halves.Goals as goal

pub split_off-requires : goal.split_off-requires
split_off-requires g c =
    let whole = c.self.inside in
    let same = crew_size (λ script. script.items) whole.first whole.seats.items whole.scripts.items c.self.invariant in
    omega (arith, same, whole.seats.ok.0, whole.scripts.ok.0)

pub invariant_of-front : goal.invariant_of-front
invariant_of-front g c =
    let whole = c.self.inside in
    front_crew (λ script. script.items) whole.first (c.len-half.result / 2) whole.seats.items _ whole.scripts.items _ (omega (arith, whole.scripts.ok.0))
    c.in_ok-others.ensures.items c.in_ok-theirs.ensures.items c.self.invariant

pub invariant_of-back : goal.invariant_of-back
invariant_of-back g c =
    let whole = c.self.inside in
    back_crew (λ script. script.items) whole.first (c.len-half.result / 2) whole.seats.items _ whole.scripts.items _ (omega (arith, whole.scripts.ok.0))
    c.in_ok-others.ensures.tail c.in_ok-theirs.ensures.tail c.self.invariant

pub returns-clause-whole : goal.returns-clause-whole
returns-clause-whole g c =
    let whole = c.self.inside in
    sym c.self.view_is ∙ crew_is_whole (λ script. script.items) whole.first (c.len-half.result / 2) whole.scripts.items c.split_off-2.new.self.items c.in_ok-theirs.theirs.items
    c.in_ok-theirs.ensures.items c.in_ok-theirs.ensures.tail

pub returns-clause-apart : goal.returns-clause-apart
returns-clause-apart g c =
    let whole = c.self.inside in
    let many : length c.args.self.scripts ≡ length whole.scripts.items = sym (ap (λ (crew : CrewState). length crew.scripts) c.self.view_is) ∙ length-map whole.scripts.items (λ script. script.items) in
    crew_halves (λ script. script.items) whole.first (c.len-half.result / 2) whole.scripts.items c.split_off-2.new.self.items c.in_ok-theirs.theirs.items
    (omega (arith, many, c.requires, c.len-half.ensures, whole.scripts.ok.0)) (omega (arith, many, c.requires, c.len-half.ensures, whole.scripts.ok.0))
    c.in_ok-theirs.ensures.items c.in_ok-theirs.ensures.tail
