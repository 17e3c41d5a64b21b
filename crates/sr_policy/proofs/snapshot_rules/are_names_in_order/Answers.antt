use Rattle.std.proofs.Common.{◌≡◌, ◌↔◌, Bool, true, false, IsTrue, sym, ◌∙◌}
use Rattle.std.proofs.lemmas.Bool.{false≢true}
use Rattle.sr_policy.specs.Snapshot.{AreInOrder, ComesBefore}
use Rattle.sr_policy.proofs.snapshot_rules.are_names_in_order.Goals as goal
use Rattle.sr_policy.proofs.snapshot_rules.are_names_in_order.Goals.{then-are_names_rising, else-are_names_rising}

-- a second test is made where the first holds
both : {A B : Type 0} (a b v : Bool) → (IsTrue a ↔ A) → (IsTrue b ↔ B) → a ≡ true → v ≡ b → (IsTrue v ↔ (A × B))
both a b v first second holds is = (λ h. (first.0 holds, second.0 (sym is ∙ h)), λ all. is ∙ second.1 all.1)

only : {A B : Type 0} (a v : Bool) → (IsTrue a ↔ A) → a ≡ false → v ≡ a → (IsTrue v ↔ (A × B))
only a v first fails is = (λ h. absurd (false≢true (sym fails ∙ sym is ∙ h)), λ all. is ∙ first.1 all.0)

pub returns-then-are_live_rising : goal.returns-then-are_live_rising
returns-then-are_live_rising c =
    let dead = rw c.as_slice.ensures.value at c.are_names_rising.ensures in
    let classes = rw c.as_slice-then-are_live_rising.ensures.value at c.are_classes_rising.ensures in
    let two : IsTrue c.if-are_names_rising.value
    ↔ (AreInOrder ComesBefore c.parts.inside.dead.items
    × AreInOrder (λ a b. ComesBefore a.name b.name) c.parts.inside.live.items) =
    elim c.if-are_names_rising.branch [
      | then-are_names_rising w ↦ both _ _ _ dead
          (rw w.as_slice-then-are_names_rising.ensures.value at w.are_live_rising.ensures)
          w.if-are_names_rising.true w.value-is
      | else-are_names_rising w ↦ only _ _ dead w.if-are_names_rising.false w.value-is
    ] in
    let before = two.0 c.if-are_live_rising.true in
    rw (← c.parts.view_is) (
      λ h. record { dead = before.0; live = before.1; rates = classes.0 h },
      λ all. classes.1 all.rates,
    )

pub returns-else-are_live_rising : goal.returns-else-are_live_rising
returns-else-are_live_rising c =
    let dead = rw c.as_slice.ensures.value at c.are_names_rising.ensures in
    let two : IsTrue c.if-are_names_rising.value
    ↔ (AreInOrder ComesBefore c.parts.inside.dead.items
    × AreInOrder (λ a b. ComesBefore a.name b.name) c.parts.inside.live.items) =
    elim c.if-are_names_rising.branch [
      | then-are_names_rising w ↦ both _ _ _ dead
          (rw w.as_slice-then-are_names_rising.ensures.value at w.are_live_rising.ensures)
          w.if-are_names_rising.true w.value-is
      | else-are_names_rising w ↦ only _ _ dead w.if-are_names_rising.false w.value-is
    ] in
    rw (← c.parts.view_is) (
      λ h. absurd (false≢true (sym c.if-are_live_rising.false ∙ h)),
      λ all. two.1 (all.dead, all.live),
    )
