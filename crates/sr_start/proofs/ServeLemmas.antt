-- A session that starts with an empty book is one that the program serves, and one without a book is none.
use Rattle.std.proofs.Common.{◌≡◌, ◌≤◌, ◌⊎◌, ◌∙◌, ◌↔◌, ℕ, Bool, true, false, true≢false, List, [], Option, Some, None, Result, Ok, Err, IsOk, subst, refl, sym, ap, arith, inl, inr}
use Rattle.std.specs.Result.{IsErrOf, is_ok}
use Rattle.std.proofs.lemmas.Result.{IfErr-at_err}
use Rattle.sr_policy.specs.Rules.{Rules}
use Rattle.sr_policy.specs.File.{meaning_of}
use Rattle.sr_policy.specs.declared.file.PolicyFault.{PolicyFault}
use Rattle.sr_policy.specs.declared.file.PolicyFault.TheVariants as policies
use Rattle.sr_book.specs.{BookState}
use Rattle.sr_book.specs.Records.{empty_book}
use Rattle.sr_session.specs.{RunsAs}
use Rattle.sr_session.specs.declared.run.End.{End}
use Rattle.sr_session.specs.declared.run.End.TheVariants as ends
use Rattle.sr_session.specs.declared.run.Ended.{Ended}
use Rattle.sr_start.specs.declared.fault.Fault.{Fault}
use Rattle.sr_start.specs.declared.fault.Fault.TheVariants.{NoRandomSource, Read, Write}
use Rattle.sr_start.specs.Fault.{Runs, Serves, is_of_session, loads_not, outcome_of, starts_not, status_of}
use Rattle.sr_start.specs.Listening.{Opens}
use Rattle.sr_start.specs.Policy.{Loads, told_of}

pub served_from : (may_tell : ℕ → Bool) (rules : Rules) (taken written : List ℕ) (found now : Option BookState) (ended : Ended) (outcome : Result (Unit {0}) Fault)
    → found ≡ Some (empty_book rules) → RunsAs may_tell false found taken written ended now → outcome ≡ outcome_of ended.end → Serves may_tell rules taken written outcome
served_from may_tell rules taken written found now ended outcome starts session told = record {
  ended = ended;
  now = now;
  session = subst (λ old. RunsAs may_tell false old taken written ended now) starts session;
  told = told;
}

pub not_opened : (may_tell : ℕ → Bool) (may_hold : List ℕ → Option (List ℕ) → Bool) (policy : Option (List ℕ)) (fault : Fault)
    → Opens may_hold policy (Err fault) → Runs may_tell may_hold policy [] [] (Err fault)
not_opened may_tell may_hold policy fault (inl is) = starts_not refl refl (inr (ap Err is))
not_opened may_tell may_hold policy fault (inr loads) = loads_not fault refl refl loads refl

-- ---- a command line that is refused

-- its status is a fault's
pub refused-some : (status : ℕ) → (status ≡ 1) ⊎ (status ≡ 2) → 1 ≤ status
refused-some status (inl is) = omega (arith, is)
refused-some status (inr is) = omega (arith, is)

pub refused-not_0 : (status : ℕ) → (status ≡ 1) ⊎ (status ≡ 2) → status ≡ 0 → ⊥
refused-not_0 status (inl is) none = omega (arith, is, none)
refused-not_0 status (inr is) none = omega (arith, is, none)

-- neither the reader nor the writer failed
pub none_failed : (read write : Bool) → read ≡ false → write ≡ false → (read ≡ true) ⊎ (write ≡ true) → ⊥
none_failed read write sound whole (inl failed) = true≢false (sym failed ∙ sound)
none_failed read write sound whole (inr failed) = true≢false (sym failed ∙ whole)

-- ---- the status of a session

pub ended-ok : (ended : Result (Unit {0}) Fault) (status : ℕ) (Closed : Type 0) → status ≡ status_of ended → IsOk ended ↔ Closed → (status ≡ 0) ↔ Closed
ended-ok (Ok done) status Closed is just = (λ e. just.0 refl, λ closed. is)
ended-ok (Err fault) status Closed is just = (λ e. absurd (omega (arith, is, e)), λ closed. absurd (true≢false (sym (just.1 closed))))

pub ended-failed : (ended : Result (Unit {0}) Fault) (status : ℕ) (NoRead NoWrite : Type 0) → status ≡ status_of ended → IsErrOf ended Read ↔ NoRead → IsErrOf ended Write ↔ NoWrite
    → NoRead ⊎ NoWrite → status ≡ 1
ended-failed (Ok done) status NoRead NoWrite is reads writes (inl failed) = cc (reads.1 failed)
ended-failed (Ok done) status NoRead NoWrite is reads writes (inr failed) = cc (writes.1 failed)
ended-failed (Err fault) status NoRead NoWrite is reads writes failed = is

pub ended-not_2 : (ended : Result (Unit {0}) Fault) (status : ℕ) → status ≡ status_of ended → status ≡ 2 → ⊥
ended-not_2 (Ok done) status is two = omega (arith, is, two)
ended-not_2 (Err fault) status is two = omega (arith, is, two)

-- ---- each outcome of a session has its cause

-- what changes only by a cause tells of it
told_by : (Told Cause : Type 0) (old new : Bool) → (Cause → Told) → Cause ⊎ (Told → ⊥) → old ≡ false → (Cause → new ≡ true) → ((Cause → ⊥) → new ≡ old)
    → Told ↔ (new ≡ true)
told_by Told Cause old new tells (inl is) sound here heeds = (λ told. here is, λ e. tells is)
told_by Told Cause old new tells (inr none) sound here heeds =
    (λ told. absurd (none told), λ e. absurd (true≢false (sym e ∙ heeds (λ is. none (tells is)) ∙ sound)))

closed_or_not : (end : End) → (end ≡ ends.Closed) ⊎ (IsOk (outcome_of end) → ⊥)
closed_or_not ends.Closed = inl refl
closed_or_not ends.Protocol = inr (λ is. true≢false (sym is))
closed_or_not ends.ReadFault = inr (λ is. true≢false (sym is))
closed_or_not (ends.SendFault sent) = inr (λ is. true≢false (sym is))
closed_or_not ends.Turns = inr (λ is. true≢false (sym is))
closed_or_not ends.Memory = inr (λ is. true≢false (sym is))
closed_or_not ends.Desk = inr (λ is. true≢false (sym is))

read_or_not : (end : End) → (end ≡ ends.ReadFault) ⊎ (IsErrOf (outcome_of end) Read → ⊥)
read_or_not ends.Closed = inr (λ is. cc is)
read_or_not ends.Protocol = inr (λ is. cc is)
read_or_not ends.ReadFault = inl refl
read_or_not (ends.SendFault sent) = inr (λ is. cc is)
read_or_not ends.Turns = inr (λ is. cc is)
read_or_not ends.Memory = inr (λ is. cc is)
read_or_not ends.Desk = inr (λ is. cc is)

sent_or_not : (end : End) → ((sent : ℕ) × (end ≡ ends.SendFault sent)) ⊎ (IsErrOf (outcome_of end) Write → ⊥)
sent_or_not ends.Closed = inr (λ is. cc is)
sent_or_not ends.Protocol = inr (λ is. cc is)
sent_or_not ends.ReadFault = inr (λ is. cc is)
sent_or_not (ends.SendFault sent) = inl (sent, refl)
sent_or_not ends.Turns = inr (λ is. cc is)
sent_or_not ends.Memory = inr (λ is. cc is)
sent_or_not ends.Desk = inr (λ is. cc is)

pub ok_of_end : (end : End) (outcome : Result (Unit {0}) Fault) (old new : Bool) → outcome ≡ outcome_of end → old ≡ false
    → (end ≡ ends.Closed → new ≡ true) → ((end ≡ ends.Closed → ⊥) → new ≡ old) → IsOk outcome ↔ (new ≡ true)
ok_of_end end outcome old new told sound here heeds =
    subst (λ (r : Result (Unit {0}) Fault). IsOk r ↔ (new ≡ true)) (sym told)
    (told_by (IsOk (outcome_of end)) (end ≡ ends.Closed) old new (λ is. ap (λ (e : End). is_ok (outcome_of e)) is) (closed_or_not end) sound here heeds)

pub read_of_end : (end : End) (outcome : Result (Unit {0}) Fault) (old new : Bool) → outcome ≡ outcome_of end → old ≡ false
    → (end ≡ ends.ReadFault → new ≡ true) → ((end ≡ ends.ReadFault → ⊥) → new ≡ old) → IsErrOf outcome Read ↔ (new ≡ true)
read_of_end end outcome old new told sound here heeds =
    subst (λ (r : Result (Unit {0}) Fault). IsErrOf r Read ↔ (new ≡ true)) (sym told)
    (told_by (IsErrOf (outcome_of end) Read) (end ≡ ends.ReadFault) old new (λ is. ap outcome_of is) (read_or_not end) sound here heeds)

pub write_of_end : (end : End) (outcome : Result (Unit {0}) Fault) (old new : Bool) → outcome ≡ outcome_of end → old ≡ false
    → ((sent : ℕ) → end ≡ ends.SendFault sent → new ≡ true) → (((sent : ℕ) → end ≡ ends.SendFault sent → ⊥) → new ≡ old) → IsErrOf outcome Write ↔ (new ≡ true)
write_of_end end outcome old new told sound here heeds =
    subst (λ (r : Result (Unit {0}) Fault). IsErrOf r Write ↔ (new ≡ true)) (sym told)
    (told_by (IsErrOf (outcome_of end) Write) ((sent : ℕ) × (end ≡ ends.SendFault sent)) old new (λ is. ap outcome_of is.1) (sent_or_not end) sound
    (λ is. here is.0 is.1) (λ none. heeds (λ sent is. none (sent, is))))

-- ---- a fault before the session

abbrev before_session : Result Rules Fault → Bool
before_session (Ok rules) = false
before_session (Err fault) = is_of_session fault

told-before : (read : Result Rules PolicyFault) → before_session (told_of read) ≡ false
told-before (Ok rules) = refl
told-before (Err policies.Toml) = refl
told-before (Err policies.Shape) = refl
told-before (Err policies.Range) = refl
told-before (Err policies.Memory) = refl

-- a policy that is not loaded is one
pub loads_before : (may_hold : List ℕ → Option (List ℕ) → Bool) (policy : Option (List ℕ)) (fault : Fault) → Loads may_hold policy (Err fault) → is_of_session fault ≡ false
loads_before may_hold None fault loads = ap before_session loads
loads_before may_hold (Some path) fault (inl is) = ap before_session is
loads_before may_hold (Some path) fault (inr (None, may, is)) = ap before_session is
loads_before may_hold (Some path) fault (inr (Some text, may, is)) = ap before_session is ∙ told-before (meaning_of text)

told-random : (read : Result Rules PolicyFault) → told_of read ≡ Err NoRandomSource → ⊥
told-random (Ok rules) is = cc is
told-random (Err policies.Toml) is = cc is
told-random (Err policies.Shape) is = cc is
told-random (Err policies.Range) is = cc is
told-random (Err policies.Memory) is = cc is

-- and not that of the random source
loads-random : (may_hold : List ℕ → Option (List ℕ) → Bool) (policy : Option (List ℕ)) → Loads may_hold policy (Err NoRandomSource) → ⊥
loads-random may_hold None loads = cc loads
loads-random may_hold (Some path) (inl is) = cc is
loads-random may_hold (Some path) (inr (None, may, is)) = cc is
loads-random may_hold (Some path) (inr (Some text, may, is)) = told-random (meaning_of text) (sym is)

pub loads_not_random : {T : Type 0} (may_hold : List ℕ → Option (List ℕ) → Bool) (policy : Option (List ℕ)) (fault : Fault) → Loads may_hold policy (Err fault)
    → IsErrOf {T = T} (Err fault) NoRandomSource → ⊥
loads_not_random may_hold policy fault loads is = loads-random may_hold policy (IfErr-at_err (λ (f : Fault). Loads may_hold policy (Err f)) is loads)
