-- What comes of a snapshot, and of a verdict by a fresh one; and what a result brings that is a failure.
use Rattle.std.proofs.Common.{◌≡◌, ℕ, Bool, true, false, List, Result, Ok, Err, IsErr, OnOk, OnErr, ap, sym, ◌∙◌}
use Rattle.std.specs.Prelude.{if◌then◌else◌}
use Rattle.std.proofs.lemmas.Result.{IfOk-from_err}
use Rattle.sr_resp.specs.{error_reply}
use Rattle.sr_resp.specs.declared.code.ErrCode.TheVariants as errors
use Rattle.sr_policy.specs.{same, SnapshotState}
use Rattle.sr_check.specs.{verdict_answer}
use Rattle.sr_plan.specs.{Judged}
use Rattle.sr_space.specs.{snapped}
use Rattle.sr_space.specs.Snap.{IsSnapFault}
use Rattle.sr_space.specs.declared.snap.SnapFault.{SnapFault}
use Rattle.sr_space.specs.declared.snap.SnapFault.TheVariants as snap_faults
use Rattle.sr_book.specs.declared.event.Out.TheVariants as outs
use Rattle.sr_book.specs.Server.{Server, concluded, fresh_snapshot, keys_after, outdated, replied, snap_code, unreplied}

-- a success brings this, whatever the result; a failure brings nothing of what a success does
pub on_ok_always : {T E N : Type 0} (r : Result T E) → N → OnOk r N
on_ok_always (Ok x) n = n
on_ok_always (Err e) n = tt

pub on_ok_none : {T E : Type 0} (r : Result T E) (N : Type 0) → IsErr r → OnOk r N
on_ok_none r N failed = IfOk-from_err r (λ _. N) failed

pub on_err_always : {T E N : Type 0} (r : Result T E) → N → OnErr r N
on_err_always (Ok x) n = tt
on_err_always (Err e) n = n

-- a reason that is no failed allocation is the one that there is
pub snap-failed : (r : Result SnapshotState SnapFault) (fault : SnapFault) → IsSnapFault r fault → (fault ≡ snap_faults.Memory → ⊥) → r ≡ Err fault
snap-failed (Ok shown) fault is other = absurd (other is)
snap-failed (Err reason) fault is other = ap (λ (f : SnapFault). Err f) (sym is)

-- what the parts of a server give is what it gives
pub found-in : (inside server : Server) (key group : List ℕ) (dead names : List (List ℕ)) (found : Result SnapshotState SnapFault) → inside ≡ server → names ≡ dead
    → snapped inside.rules inside.keys key group names ≡ found → snapped server.rules server.keys key group dead ≡ found
found-in inside server key group dead names found view same is =
    ap (λ (s : Server). snapped s.rules s.keys key group dead) (sym view) ∙ ap (λ (d : List (List ℕ)). snapped inside.rules inside.keys key group d) (sym same) ∙ is

-- the same of a fresh snapshot
pub fresh-found : (inside server : Server) (made shown : SnapshotState) (key group : List ℕ) (dead : List (List ℕ)) (found : Result SnapshotState SnapFault)
    → inside ≡ server → made ≡ shown → key ≡ made.key → group ≡ made.group → dead ≡ made.dead
    → snapped inside.rules inside.keys key group dead ≡ found → fresh_snapshot server shown ≡ found
fresh-found inside server made shown key group dead found view same of_key of_group of_dead is =
    ap (λ (s : Server). fresh_snapshot s shown) (sym view)
    ∙ ap (λ (m : SnapshotState). fresh_snapshot inside m) (sym same)
    ∙ ap (λ (k : List ℕ). snapped inside.rules inside.keys k made.group made.dead) (sym of_key)
    ∙ ap (λ (g : List ℕ). snapped inside.rules inside.keys key g made.dead) (sym of_group)
    ∙ ap (λ (d : List (List ℕ)). snapped inside.rules inside.keys key group d) (sym of_dead)
    ∙ is

module _ (session moment : ℕ) (apply last : Bool) (judged : Judged) (server : Server) (found : Result SnapshotState SnapFault) where
  concluded-by : (fresh : SnapshotState) (holds : Bool) → found ≡ Ok fresh → same fresh judged.snapshot ≡ holds → concluded session moment apply last judged server found
      ≡ (if holds then replied session moment server (keys_after apply moment judged server.keys) (verdict_answer judged.snapshot judged.answer apply) else outdated session moment last server fresh)
  concluded-by fresh holds is holds_so =
      ap (λ (r : Result SnapshotState SnapFault). concluded session moment apply last judged server r) is
      ∙ ap (λ (b : Bool). if b then replied session moment server (keys_after apply moment judged server.keys) (verdict_answer judged.snapshot judged.answer apply) else outdated session moment last server fresh) holds_so

  -- a verdict that holds, one that is outdated in the last round or before it, and one for which there is no snapshot
  pub concluded-holds : (fresh : SnapshotState) → found ≡ Ok fresh → same fresh judged.snapshot ≡ true
      → concluded session moment apply last judged server found ≡ replied session moment server (keys_after apply moment judged server.keys) (verdict_answer judged.snapshot judged.answer apply)
  concluded-holds fresh is holds = concluded-by fresh true is holds

  pub concluded-stale : (fresh : SnapshotState) → found ≡ Ok fresh → same fresh judged.snapshot ≡ false → last ≡ true
      → concluded session moment apply last judged server found ≡ replied session moment server server.keys (error_reply errors.Stale)
  concluded-stale fresh is fails is_last = concluded-by fresh false is fails ∙ ap (λ (b : Bool). outdated session moment b server fresh) is_last

  pub concluded-again : (fresh : SnapshotState) → found ≡ Ok fresh → same fresh judged.snapshot ≡ false → last ≡ false
      → concluded session moment apply last judged server found ≡ unreplied session moment server (outs.Stale fresh)
  concluded-again fresh is fails more = concluded-by fresh false is fails ∙ ap (λ (b : Bool). outdated session moment b server fresh) more

  pub concluded-failed : (fault : SnapFault) → found ≡ Err fault
      → concluded session moment apply last judged server found ≡ replied session moment server server.keys (error_reply (snap_code fault))
  concluded-failed fault is = ap (λ (r : Result SnapshotState SnapFault). concluded session moment apply last judged server r) is
