use Rattle.std.proofs.Common.{◌≡◌, ℕ, suc, ◌+◌, ◌<◌, true, false, List, ◌∷◌, ◌++◌, length, drop, get_or, add-one, drop-cons, append_assoc, refl, ap, sym, ◌∙◌}
use Rattle.std.proofs.lemmas.List.{drop_all}
use Rattle.std.proofs.lemmas.Result.{IfOk-from_err}
use Rattle.sr_pending.specs.declared.nack.Nack.{Nack}
use Rattle.sr_pending.specs.{owned_by}
use Rattle.sr_policy.specs.declared.live.Live.{Live}
use Rattle.sr_policy.specs.{Text, live_of, is_among}
use Rattle.sr_policy.specs.Rules.{Rules}
use Rattle.sr_space.specs.Snap.{listed}
use Rattle.sr_space.specs.steps.Snapping.{live_among}
use Rattle.sr_space.proofs.LoopLemmas.{left-ended}
use Rattle.sr_space.proofs.snap.left_and_live.live_consumers.Goals.{then-not-is_listed+in_ok-push_live, else-not-is_listed}
use Rattle.sr_space.proofs.snap.left_and_live.live_consumers.Goals as goal

rest_at : (names : List Text) (i : ℕ) (name : Text) → i < length names → name ≡ get_or names i name → drop i names ≡ name ∷ drop (i + 1) names
rest_at names i name below at = rw (add-one, drop-cons names i name below) (ap (λ (t : Text). t ∷ drop (suc i) names) (sym at))

module _ (rules : Rules) (dead : List Text) (nacks : List Nack) where
  passed : (name : Text) (rest : List Text) (list all : List Live) → is_among dead name ≡ true → list ++ live_among rules dead nacks (name ∷ rest) ≡ all → list ++ live_among rules dead nacks rest ≡ all
  passed name rest list all is before = rw is at before

  added : (name : Text) (rest : List Text) (list now all : List Live) → is_among dead name ≡ false → now ≡ list ++ listed (live_of rules name (length (owned_by name nacks)))
      → list ++ live_among rules dead nacks (name ∷ rest) ≡ all → now ++ live_among rules dead nacks rest ≡ all
  added name rest list now all is push before =
      ap (λ (l : List Live). l ++ live_among rules dead nacks rest) push
      ∙ append_assoc list (listed (live_of rules name (length (owned_by name nacks)))) (live_among rules dead nacks rest)
      ∙ (rw is at before)

pub returns-in_err-push_live : goal.returns-in_err-push_live
returns-in_err-push_live c = IfOk-from_err _ _ c.from_residual.ensures.0

pub returns : goal.returns
returns c =
    let live = live_among c.args.policy.now c.args.dead.now c.args.group.now.shown.nacks in
    let names = c.consumers-name-items.result.now in
    let i = c.loop-name.name-index in
    left-ended live (drop i names) c.loop-name.list.items (live names) (drop_all i names c.loop-name-test.false) refl c.loop-name.invariant ∙ ap live c.consumers-name-items.ensures.value

pub loop-name-preserved : goal.loop-name-preserved
loop-name-preserved c =
    let rules = c.args.policy.now in
    let dead = c.args.dead.now in
    let nacks = c.args.group.now.shown.nacks in
    let names = c.consumers-name-items.result.now in
    let name = c.name-item.result in
    let i = c.loop-name.name-index in
    let next = rest_at names i name c.loop-name-test.true c.name-item.is in
    let rest = drop (i + 1) names in
    let all = live_among rules dead nacks names in
    let before : c.loop-name.list.items ++ live_among rules dead nacks (name ∷ rest) ≡ all =
    ap (λ (l : List Text). c.loop-name.list.items ++ live_among rules dead nacks l) (sym next) ∙ c.loop-name.invariant in
    elim c.if-not-is_listed.branch [
      | then-not-is_listed+in_ok-push_live w ↦ rw w.list-is
          (added rules dead nacks name rest c.loop-name.list.items w.push_live.new.list.items all (sym c.is_listed.ensures ∙ w.if-not-is_listed.true) w.in_ok-push_live.ensures before)
      | else-not-is_listed w ↦ rw w.list-is (passed rules dead nacks name rest c.loop-name.list.items all (sym c.is_listed.ensures ∙ w.if-not-is_listed.false) before)
    ]
