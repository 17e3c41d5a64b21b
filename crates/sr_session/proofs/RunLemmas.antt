-- The reads of a session, and its end.
use Rattle.std.proofs.Common.{◌≡◌, ℕ, zero, suc, ◌+◌, ◌<◌, ◌≤◌, List, [], Bool, true, Option, Some, None, Result, Ok, Err, OnOk, IfErr, IsErr, take, refl, sym, subst, arith}
use Rattle.std.specs.Result.{IsErrAnd}
use Rattle.std.specs.Io.KnownBytes.{Consumes, Keeps}
use Rattle.std.proofs.KnownBytes.{Consumes-trans}
use Rattle.std.proofs.lemmas.List.{append-nil}
use Rattle.std.proofs.lemmas.Result.{IfOk-from_err}
use Rattle.sr_session.specs.Source.{CountsReads}
use Rattle.sr_session.specs.declared.run.End.{End}
use Rattle.sr_session.specs.declared.run.End.TheVariants as ends
use Rattle.sr_session.specs.steps.Calling.{IsDeskEnd}
use Rattle.sr_session.specs.steps.Gathered.{IsNoted}
use Rattle.sr_session.specs.steps.Underway.{IsPieceEnd}

-- no read yet
pub CountsReads-none : (a : Option ℕ) → CountsReads a a 0
CountsReads-none None = tt
CountsReads-none (Some x) = omega arith

-- one read more
pub CountsReads-more : (a b c : Option ℕ) (reads : ℕ) → CountsReads a b reads → CountsReads b c 1 → CountsReads a c (reads + 1)
CountsReads-more None b c reads first second = tt
CountsReads-more (Some x) None c reads first second = absurd first
CountsReads-more (Some x) (Some y) None reads first second = absurd second
CountsReads-more (Some x) (Some y) (Some z) reads first second = omega (arith, first, second)

-- it is one of those that are allowed
pub next_turn : (turn turns : ℕ) → turn < turns → turn + 1 ≤ turns
next_turn turn turns here = omega (arith, here)

pub no_turns : (turns : ℕ) → 0 ≤ turns
no_turns turns = omega arith

pub all_turns : (turn turns : ℕ) → turn ≤ turns → turns ≤ turn → turn ≡ turns
all_turns turn turns few many = omega (arith, few, many)

-- a read that is not of no bytes is of some
pub some_read : (count : ℕ) → (count ≡ 0 → ⊥) → 0 < count
some_read zero some = absurd (some refl)
some_read (suc count) some = omega arith

-- two facts that a success brings
pub on_ok_both : {E W N G : Type 0} (r : Result (Unit {0}) E) → OnOk r W → OnOk r N → (W → N → G) → OnOk r G
on_ok_both (Ok x) w n both = both w n
on_ok_both (Err e) w n both = tt

-- a success brings this, whatever the result
pub on_ok_always : {E N : Type 0} (r : Result (Unit {0}) E) → N → OnOk r N
on_ok_always (Ok x) n = n
on_ok_always (Err e) n = tt

-- a failure brings nothing of what a success does
pub on_ok_none : {E : Type 0} (r : Result (Unit {0}) E) (N : Type 0) → IsErr r → OnOk r N
on_ok_none r N failed = IfOk-from_err r (λ _. N) failed

-- what a failure with this end says
pub err_as : {E : Type 0} (r : Result (Unit {0}) E) (e : E) (Q : E → Type 0) → IsErrAnd r (λ y. y ≡ e) → Q e → IfErr r Q
err_as (Ok x) e Q is q = tt
err_as (Err y) e Q is q = subst Q (sym is) q

-- a read of no bytes
pub Consumes-none : (a b c : Option (List ℕ)) (bytes : List ℕ) (count : ℕ) (buffer : List ℕ) → count ≡ 0 → Consumes a b bytes → Consumes b c (take count buffer) → Consumes a c bytes
Consumes-none a b c bytes count buffer none first second =
    subst (Consumes a c) (append-nil bytes) (Consumes-trans a b c bytes [] first (subst (λ (n : ℕ). Consumes b c (take n buffer)) none second))

-- one after reads that gave nothing
pub Consumes-after : (a b c : Option (List ℕ)) (bytes : List ℕ) → Keeps a b → Consumes b c bytes → Consumes a c bytes
Consumes-after None b c bytes kept read = tt
Consumes-after (Some x) None c bytes kept read = absurd kept
Consumes-after (Some x) (Some y) c bytes kept read = subst (λ (z : List ℕ). Consumes (Some z) c bytes) kept read

-- ---- what the writer notes

-- as much as before steps in which it did not fail
pub IsNoted-after : (r : Result (Unit {0}) End) (old middle new : Bool) → middle ≡ old → IsNoted r middle new → IsNoted r old new
IsNoted-after r old middle new same noted = subst (λ (b : Bool). IsNoted r b new) same noted

-- so where they end
pub IsNoted-err : (r : Result (Unit {0}) End) (end : End) (old middle new : Bool) → IsErrAnd r (λ y. y ≡ end) → middle ≡ old → IsNoted (Err end) middle new → IsNoted r old new
IsNoted-err (Ok x) end old middle new is same noted = absurd is
IsNoted-err (Err y) end old middle new is same noted =
    subst (λ (e : End). IsNoted (Err e) old new) (sym is) (IsNoted-after (Err end) old middle new same noted)

-- that it failed
pub IsNoted-sent : (end : End) (old new : Bool) (sent : ℕ) → IsNoted (Err end) old new → end ≡ ends.SendFault sent → new ≡ true
IsNoted-sent end old new sent noted is = subst (λ (e : End). IsNoted (Err e) old new) is noted

-- nothing at another end
pub IsNoted-unsent : (end : End) (old new : Bool) → IsNoted (Err end) old new → ((sent : ℕ) → end ≡ ends.SendFault sent → ⊥) → new ≡ old
IsNoted-unsent ends.Closed old new noted other = noted
IsNoted-unsent ends.Protocol old new noted other = noted
IsNoted-unsent ends.ReadFault old new noted other = noted
IsNoted-unsent (ends.SendFault sent) old new noted other = absurd (other sent refl)
IsNoted-unsent ends.Turns old new noted other = noted
IsNoted-unsent ends.Memory old new noted other = noted
IsNoted-unsent ends.Desk old new noted other = noted

-- an end that a desk brings comes while a piece is answered
pub IsPieceEnd-desk : (end : End) → IsDeskEnd end → IsPieceEnd end
IsPieceEnd-desk ends.Closed is = absurd is
IsPieceEnd-desk ends.Protocol is = absurd is
IsPieceEnd-desk ends.ReadFault is = absurd is
IsPieceEnd-desk (ends.SendFault sent) is = absurd is
IsPieceEnd-desk ends.Turns is = absurd is
IsPieceEnd-desk ends.Memory is = tt
IsPieceEnd-desk ends.Desk is = tt

-- ---- ends that differ

pub Closed≢ReadFault : ends.Closed ≡ ends.ReadFault → ⊥
Closed≢ReadFault e = cc

pub Closed≢SendFault : (sent : ℕ) → ends.Closed ≡ ends.SendFault sent → ⊥
Closed≢SendFault sent e = cc

pub Closed≢Turns : ends.Closed ≡ ends.Turns → ⊥
Closed≢Turns e = cc

pub ReadFault≢Closed : ends.ReadFault ≡ ends.Closed → ⊥
ReadFault≢Closed e = cc

pub ReadFault≢SendFault : (sent : ℕ) → ends.ReadFault ≡ ends.SendFault sent → ⊥
ReadFault≢SendFault sent e = cc

pub ReadFault≢Turns : ends.ReadFault ≡ ends.Turns → ⊥
ReadFault≢Turns e = cc

pub Turns≢Closed : ends.Turns ≡ ends.Closed → ⊥
Turns≢Closed e = cc

pub Turns≢ReadFault : ends.Turns ≡ ends.ReadFault → ⊥
Turns≢ReadFault e = cc

pub Turns≢SendFault : (sent : ℕ) → ends.Turns ≡ ends.SendFault sent → ⊥
Turns≢SendFault sent e = cc
