use Rattle.std.proofs.Common.{◌≡◌, ℕ, ◌+◌, ◌<◌, List, [], ◌∷◌, ◌++◌, length, get_or, map, take, ap, sym, ◌∙◌}
use Rattle.std.specs.List.{All}
use Rattle.std.proofs.lemmas.List.{map_push, take_all, take_more}
use Rattle.std.proofs.lemmas.List.Elements.{All-push, All-same}
use Rattle.sr_ids.specs.declared.id.Id.{Id}
use Rattle.sr_group.specs.declared.moving.Wanted.{Wanted}
use Rattle.sr_group.proofs.moving.wanted_by.Goals as goal

step : (ids : List Id) (i : ℕ) (none : Id) (claimer owner : List ℕ) (old new : List Wanted) → i < length ids → owner ≡ claimer → new ≡ old ++ record { id = get_or ids i none; owner = owner } ∷ []
    → map (λ (w : Wanted). w.id) old ≡ take i ids → All (λ (w : Wanted). w.owner ≡ claimer) old
    → (map (λ (w : Wanted). w.id) new ≡ take (i + 1) ids) × All (λ (w : Wanted). w.owner ≡ claimer) new
step ids i none claimer owner old new within is pushed so_far owned =
    let one : Wanted = record { id = get_or ids i none; owner = owner } in (
      ap (map (λ (w : Wanted). w.id)) pushed ∙ map_push (λ (w : Wanted). w.id) old one ∙ ap (λ (l : List Id). l ++ get_or ids i none ∷ []) so_far ∙ sym (take_more ids i none within),
      All-same (λ (w : Wanted). w.owner ≡ claimer) new (old ++ one ∷ []) pushed (All-push (λ (w : Wanted). w.owner ≡ claimer) old one owned is),
    )

pub loop-id-preserved : goal.loop-id-preserved
loop-id-preserved c =
    step c.args.ids.now c.loop-id.id-index (record { ms = 0; seq = 0 }) c.args.claimer.now c.in_ok-owner.owner c.loop-id.wanted.items c.push.new.self.items c.loop-id-test.true c.in_ok-owner.ensures c.in_ok-push.ensures.items c.loop-id.invariant.0 c.loop-id.invariant.1

pub returns-clause-ids : goal.returns-clause-ids
returns-clause-ids c = c.loop-id.invariant.0 ∙ take_all c.loop-id.id-index c.args.ids.now c.loop-id-test.false

pub returns-clause-owners : goal.returns-clause-owners
returns-clause-owners c = c.loop-id.invariant.1
