use Rattle.std.proofs.Common.{ℕ, ◌≡◌, ◌+◌, ◌<◌, List, [], ◌∷◌, ◌++◌, length, get_or, take, ap, sym, ◌∙◌}
use Rattle.std.proofs.lemmas.List.{take_all, take_more}
use Rattle.sr_group.specs.Claim.{MoveState}
use Rattle.sr_group.proofs.moving.make_ready.Goals as goal

step : (moves : List MoveState) (i : ℕ) (move ready : MoveState) (old new : List MoveState) → i < length moves → move ≡ get_or moves i move → ready ≡ move → new ≡ old ++ ready ∷ [] → old ≡ take i moves
    → new ≡ take (i + 1) moves
step moves i move ready old new within read is pushed so_far =
    pushed
    ∙ ap (λ (l : List MoveState). l ++ ready ∷ []) so_far
    ∙ ap (λ (m : MoveState). take i moves ++ m ∷ []) (is ∙ read)
    ∙ sym (take_more moves i move within)

pub loop-one-preserved : goal.loop-one-preserved
loop-one-preserved c =
    step c.args.moves.now c.loop-one.one-index c.one-item.result c.in_ok-ready_of.field-0 c.loop-one.readies.items c.push.new.self.items c.loop-one-test.true c.one-item.is c.in_ok-ready_of.ensures c.in_ok-push.ensures.items c.loop-one.invariant

pub returns : goal.returns
returns c = c.loop-one.invariant ∙ take_all c.loop-one.one-index c.args.moves.now c.loop-one-test.false
