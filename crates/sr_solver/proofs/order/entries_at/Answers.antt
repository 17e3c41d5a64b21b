use Rattle.std.proofs.Common.{◌≡◌, ℕ, ◌+◌, ◌<◌, List, [], ◌∷◌, ◌++◌, ap, sym, ◌∙◌, length, take, get_or}
use Rattle.std.specs.Prelude.{map}
use Rattle.std.proofs.lemmas.List.{map_more, take_all}
use Rattle.std.proofs.lemmas.List.Sorted.{IsNonDecreasingBy-from_sort}
use Rattle.std.proofs.lemmas.Result.{IfOk-from_err}
use Rattle.sr_solver.proofs.order.entries_at.Goals as goal

pub returns : goal.returns
returns c =
    let all : c.loop-place.entries.items ≡ map (λ place. get_or c.args.order.now place 0) c.args.places.now =
    c.loop-place.invariant
    ∙ ap (map (λ place. get_or c.args.order.now place 0))
    (take_all c.loop-place.place-index c.args.places.now c.loop-place-test.false) in
    record {
      moved = rw all at c.in_ok-sort.ensures.permutation;
      rising = IsNonDecreasingBy-from_sort (λ x. x) c.sort.new.self.items c.in_ok-sort.ensures.sorted;
    }

pub loop-place-init : goal.loop-place-init
loop-place-init c = c.in_ok-entries.ensures.items

pub bounds-order-place : goal.bounds-order-place
bounds-order-place c = c.requires c.loop-place.place-index 0 c.loop-place-test.true

more : (order places old new : List ℕ) (i : ℕ) → i < length places
    → old ≡ map (λ place. get_or order place 0) (take i places) → new ≡ old ++ get_or order (get_or places i 0) 0 ∷ []
    → new ≡ map (λ place. get_or order place 0) (take (i + 1) places)
more order places old new i lt is pushed =
    pushed ∙ ap (λ (l : List ℕ). l ++ get_or order (get_or places i 0) 0 ∷ []) is
    ∙ sym (map_more (λ place. get_or order place 0) places i 0 lt)

pub loop-place-preserved : goal.loop-place-preserved
loop-place-preserved c = more c.args.order.now c.args.places.now _ _ _ c.loop-place-test.true c.loop-place.invariant
    c.in_ok-push.ensures.items

pub returns-in_err-entries : goal.returns-in_err-entries
returns-in_err-entries c = IfOk-from_err _ _ c.from_residual.ensures.0

pub returns-in_err-push : goal.returns-in_err-push
returns-in_err-push c = IfOk-from_err _ _ c.from_residual-in_err-push.ensures.0

pub returns-in_err-sort : goal.returns-in_err-sort
returns-in_err-sort c = IfOk-from_err _ _ c.from_residual-in_err-sort.ensures.0
