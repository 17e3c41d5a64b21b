use Rattle.std.proofs.Common.{rules, ◌≡◌, List, map, ap, Bor, ◌∙◌}
use Rattle.std.specs.List.Sorted.{IsSortedBy}
use Rattle.std.proofs.lemmas.Fn.{always_returns_same}
use Rattle.std.proofs.lemmas.List.{take_all}
use Rattle.sr_pending.specs.declared.nack.Nack.{Nack}
use Rattle.sr_policy.specs.{Text}
use Rattle.sr_space.specs.steps.Snapping.{own_of}
use Rattle.sr_space.proofs.NameOrderLemmas.{names_rise}
use Rattle.sr_space.proofs.OwnLemmas.{NacksRise-rising, is_less, of_dead-sorted}
use Rattle.sr_space.proofs.snap.left_and_live.pending_of_dead.Goals as goal

pub returns : goal.returns
returns c =
    let dead = c.args.dead.now in
    let nacks = c.args.group.now.shown.nacks in
    let sorted : IsSortedBy (λ a b. is_less a.now.id b.now.id) c.sort_by_key.new.self.items =
    c.in_ok-sort_by_key.ensures.sorted (λ (nack : Bor Nack). nack.now.id) (always_returns_same _ _ _ (λ a r f' k. search rules)) in
    let own : map (λ (nack : Bor Nack). nack.now) c.loop-name.list.items ≡ own_of dead nacks =
    c.loop-name.invariant ∙ ap (λ (names : List Text). own_of names nacks) (take_all c.loop-name.name-index dead c.loop-name-test.false) in
    of_dead-sorted (λ (nack : Bor Nack). nack.now) dead nacks c.loop-name.list.items c.sort_by_key.new.self.items
    (names_rise dead c.requires) (NacksRise-rising nacks c.sound.ensures.rising) own c.sort_by_key.ensures.permutation sorted
