use Rattle.std.proofs.Common.{◌≡◌, ℕ, ◌+◌, ◌≤◌, false, length, nat_lt, ap, sym, arith}
use Rattle.std.proofs.lemmas.Bool.Decides.{nat_tests}
use Rattle.sr_pending.specs.declared.nack.Nack.{Nack}
use Rattle.sr_entries.specs.{has_id}
use Rattle.sr_space.specs.Snap.{of_dead}
use Rattle.sr_space.specs.steps.Snapping.{left_in}
use Rattle.sr_space.proofs.NameOrderLemmas.{names_rise}
use Rattle.sr_space.proofs.OwnLemmas.{length-own_of}
use Rattle.sr_space.proofs.SnapLemmas.{length-filter-le}
use Rattle.sr_space.proofs.snap.own_are_too_many.Goals as goal

pub returns-then-own_are_few : goal.returns-then-own_are_few
returns-then-own_are_few c =
    let entries = c.args.stream.now.shown.entries in
    let owned = of_dead c.args.dead.now c.args.group.now.shown.nacks in
    let few : length owned ≤ 4096 = c.own_are_few.ensures c.if-own_are_few.true in
    let fewer = length-filter-le (λ (nack : Nack). has_id nack.id entries) owned in
    let test : nat_lt 4096 (length (left_in c.args.dead.now entries c.args.group.now.shown.nacks)) ≡ false = grind (arith, nat_tests) in
    sym test

pub loop-name-init : goal.loop-name-init
loop-name-init c =
    let dead = c.args.dead.now in
    let entries = c.args.stream.now.shown.entries in
    ap (λ (n : ℕ). 4096 + n) (sym (length-own_of dead c.args.group.now.shown.nacks (names_rise dead c.requires) (λ (nack : Nack). has_id nack.id entries)))
