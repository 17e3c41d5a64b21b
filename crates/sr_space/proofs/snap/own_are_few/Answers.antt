use Rattle.std.proofs.Common.{ℕ, ◌+◌, ap}
use Rattle.std.proofs.lemmas.List.Sorted.{length_permutation}
use Rattle.sr_space.specs.Snap.{of_dead}
use Rattle.sr_space.specs.steps.Snapping.{own_of}
use Rattle.sr_space.proofs.NameOrderLemmas.{names_rise}
use Rattle.sr_space.proofs.OwnLemmas.{own_of-dead}
use Rattle.sr_space.proofs.snap.own_are_few.Goals as goal

pub loop-name-init : goal.loop-name-init
loop-name-init c =
    let dead = c.args.dead.now in
    let nacks = c.args.group.now.shown.nacks in
    ap (λ (n : ℕ). 4096 + n) (length_permutation (own_of dead nacks) (of_dead dead nacks) (own_of-dead dead nacks (names_rise dead c.requires)))
