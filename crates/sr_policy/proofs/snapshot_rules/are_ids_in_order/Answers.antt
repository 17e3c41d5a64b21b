use Rattle.std.proofs.Common.{◌≡◌, ◌↔◌, Bool, true, false, List, IsTrue, sym, ◌∙◌}
use Rattle.std.proofs.lemmas.Bool.{false≢true}
use Rattle.sr_ids.specs.declared.id.Id.{Id}
use Rattle.sr_ids.specs.{IsBelow}
use Rattle.sr_policy.specs.declared.stranded.Stranded.{Stranded}
use Rattle.sr_policy.specs.Rules.{Text}
use Rattle.sr_policy.specs.Snapshot.{SnapshotState, AreIdsInOrder, AreInOrder}
use Rattle.sr_policy.proofs.snapshot_rules.are_ids_in_order.Goals as goal

-- where the ids of the stranded entries rise, those of the gone ones decide
gone_decide : (s : SnapshotState) (a b : Bool) (stranded : List Stranded) (gone : List (Id × Text)) → stranded ≡ s.stranded
    → gone ≡ s.gone
    → a ≡ true → (IsTrue a ↔ AreInOrder (λ x y. IsBelow x.id y.id) stranded)
    → (IsTrue b ↔ AreInOrder (λ x y. IsBelow x.0 y.0) gone)
    → (IsTrue b ↔ AreIdsInOrder s)
gone_decide s a b stranded gone same_stranded same_gone holds first second =
    let first_here = rw same_stranded at first in
    let second_here = rw same_gone at second in
    (λ h. record { stranded = first_here.0 holds; gone = second_here.0 h }, λ all. second_here.1 all.gone)

none_rise : (s : SnapshotState) (a : Bool) (stranded : List Stranded) → stranded ≡ s.stranded → a ≡ false
    → (IsTrue a ↔ AreInOrder (λ x y. IsBelow x.id y.id) stranded) → (IsTrue a ↔ AreIdsInOrder s)
none_rise s a stranded same fails first =
    let first_here = rw same at first in
    (λ h. absurd (false≢true (sym fails ∙ h)), λ all. absurd (false≢true (sym fails ∙ first_here.1 all.stranded)))

pub returns-then-are_entries_rising : goal.returns-then-are_entries_rising
returns-then-are_entries_rising c =
    rw (← c.parts.view_is) (gone_decide _ c.are_entries_rising.result c.are_gone_rising.result _ _
    c.as_slice.ensures.value c.as_slice-then-are_entries_rising.ensures.value
    c.if-are_entries_rising.true c.are_entries_rising.ensures c.are_gone_rising.ensures)

pub returns-else-are_entries_rising : goal.returns-else-are_entries_rising
returns-else-are_entries_rising c =
    rw (← c.parts.view_is)
    (none_rise _ c.are_entries_rising.result _ c.as_slice.ensures.value c.if-are_entries_rising.false
    c.are_entries_rising.ensures)
