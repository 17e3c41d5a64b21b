use Rattle.std.proofs.Common.{◌≡◌, ◌↔◌, Bool, true, List, All, IsTrue}
use Rattle.sr_ids.specs.declared.id.Id.{Id}
use Rattle.sr_policy.specs.declared.stranded.Stranded.{Stranded}
use Rattle.sr_policy.specs.Rules.{Text}
use Rattle.sr_policy.specs.Snapshot.{SnapshotState, AreOwnersDead, is_among}
use Rattle.sr_policy.proofs.snapshot_rules.are_owners_dead.Goals as goal

-- where the owners of the stranded entries are dead, those of the gone ones decide
gone_decide : (s : SnapshotState) (a b : Bool) (names others : List Text) (stranded : List Stranded) (gone : List (Id × Text))
    → names ≡ s.dead → others ≡ s.dead → stranded ≡ s.stranded → gone ≡ s.gone → a ≡ true
    → (IsTrue a ↔ All (λ entry. IsTrue (is_among names entry.owner)) stranded)
    → (IsTrue b ↔ All (λ entry. IsTrue (is_among others entry.1)) gone)
    → (IsTrue b ↔ AreOwnersDead s)
gone_decide s a b names others stranded gone same_names same_others same_stranded same_gone holds first second =
    let first_here = rw (same_names, same_stranded) at first in
    let second_here = rw (same_others, same_gone) at second in
    (λ h. record { stranded = first_here.0 holds; gone = second_here.0 h }, λ all. second_here.1 all.gone)

pub returns-then-are_stranded_owners : goal.returns-then-are_stranded_owners
returns-then-are_stranded_owners c =
    rw (← c.parts.view_is) (gone_decide _ c.are_stranded_owners.result c.are_gone_owners.result _ _ _ _
    c.as_slice.ensures.value c.as_slice-then-are_stranded_owners.ensures.value
    c.as_slice-2.ensures.value c.as_slice-then-are_stranded_owners-2.ensures.value
    c.if-are_stranded_owners.true c.are_stranded_owners.ensures c.are_gone_owners.ensures)
