-- What is shown of the stored reads, against what the map says of them.
use Rattle.std.proofs.Common.{◌≡◌, ℕ, ◌<◌, ◌==◌, Bool, true, false, cond, not, ◌||◌, List, [], ◌∷◌, ◌++◌, length, Option, Some, None, is_some, nat_eq, slice_get, refl, sym, ap, ◌∙◌, true≢false, arith}
use Rattle.std.proofs.lemmas.Cmp.{nat_eq_equiv}
use Rattle.std.proofs.lemmas.Map.Keys.{IsDistinct-head, IsDistinct-tail}
use Rattle.std.specs.List.{AllByRecursion, IsDistinct, list_any}
use Rattle.std.specs.Map.{keys_of, lookup}
use Rattle.std.specs.Option.{option_map}
use Rattle.sr_args.specs.declared.call.Call.{Call}
use Rattle.sr_waiters.specs.declared.waiters.Blocked.{Blocked}
use Rattle.sr_waiters.specs.Layout.{shown_read, shown_reads}
use Rattle.sr_waiters.specs.Queue.{without_entry}
use Rattle.sr_waiters.specs.Waiters.{AreOnce, Waiting, call_of, due_at, first_that, has_session, is_due, is_reached, read_of, session_of, without_session}

abbrev pub Stored : Type 0
Stored = List (ℕ × Blocked)

-- the call of a stored read
abbrev pub stored_call : Option Blocked → Option Call
stored_call read = option_map (λ (b : Blocked). b.call) read

-- a session waits exactly if the map has its key
pub has_session_shown : (session : ℕ) (stored : Stored) → is_some (lookup (nat_eq session) stored) ≡ has_session session (shown_reads stored)
has_session_shown session [] = refl
has_session_shown session (e ∷ stored) = rw (nat_eq_equiv.symm session e.0) (by (e.0 == session) (has_session_shown session stored))
  where
    by : (test : Bool) → is_some (lookup (nat_eq session) stored) ≡ has_session session (shown_reads stored)
        → is_some (cond test (Some e.1) (lookup (nat_eq session) stored)) ≡ (test || has_session session (shown_reads stored))
    by true rest = refl
    by false rest = rest

-- and its call is the one that the map has there
pub call_of_shown : (session : ℕ) (stored : Stored) → stored_call (lookup (nat_eq session) stored) ≡ call_of (read_of session (shown_reads stored))
call_of_shown session [] = refl
call_of_shown session (e ∷ stored) = rw (nat_eq_equiv.symm session e.0) (by (e.0 == session) (call_of_shown session stored))
  where
    by : (test : Bool) → stored_call (lookup (nat_eq session) stored) ≡ call_of (read_of session (shown_reads stored))
        → stored_call (cond test (Some e.1) (lookup (nat_eq session) stored)) ≡ call_of (cond test (Some (shown_read e)) (read_of session (shown_reads stored)))
    by true rest = refl
    by false rest = rest

-- a new read goes last
pub shown_joined : (session : ℕ) (read : Blocked) (stored : Stored) → shown_reads (stored ++ (session, read) ∷ []) ≡ shown_reads stored ++ shown_read (session, read) ∷ []
shown_joined session read [] = refl
shown_joined session read (e ∷ stored) = ap (λ (l : List Waiting). shown_read e ∷ l) (shown_joined session read stored)

-- a key that no other key equals is the session of no other read
pub absent_others : (session : ℕ) (stored : Stored) → AllByRecursion (λ y. nat_eq session y ≡ false) (keys_of stored) → has_session session (shown_reads stored) ≡ false
absent_others session [] apart = refl
absent_others session (e ∷ stored) apart =
    let other : (e.0 == session) ≡ false = sym (nat_eq_equiv.symm session e.0) ∙ apart.0 in
    rw other (absent_others session stored apart.1)

-- each session waits once
pub once_shown : (stored : Stored) → IsDistinct nat_eq (keys_of stored) → AreOnce (shown_reads stored)
once_shown [] distinct = tt
once_shown (e ∷ stored) distinct =
    (absent_others e.0 stored (IsDistinct-head nat_eq e.0 (keys_of stored) distinct), once_shown stored (IsDistinct-tail nat_eq e.0 (keys_of stored) distinct))

-- a session that does not wait leaves nothing
pub without_absent : (session : ℕ) (list : List Waiting) → has_session session list ≡ false → without_session session list ≡ list
without_absent session [] absent = refl
without_absent session (read ∷ list) absent = by (read.session == session) absent (without_absent session list)
  where
    by : (test : Bool) → (test || has_session session list) ≡ false → (has_session session list ≡ false → without_session session list ≡ list)
        → cond (not test) (read ∷ without_session session list) (without_session session list) ≡ read ∷ list
    by true absent rest = absurd (true≢false absent)
    by false absent rest = ap (λ (l : List Waiting). read ∷ l) (rest absent)

-- the entry that goes is the session's read
pub shown_left : (session : ℕ) (stored : Stored) → shown_reads (without_entry session stored) ≡ without_session session (shown_reads stored)
shown_left session [] = refl
shown_left session (e ∷ stored) = by (e.0 == session) (shown_left session stored)
  where
    by : (test : Bool) → shown_reads (without_entry session stored) ≡ without_session session (shown_reads stored)
        → shown_reads (cond (not test) (e ∷ without_entry session stored) (without_entry session stored))
        ≡ cond (not test) (shown_read e ∷ without_session session (shown_reads stored)) (without_session session (shown_reads stored))
    by true rest = rest
    by false rest = ap (λ (l : List Waiting). shown_read e ∷ l) rest

-- a search of the stored reads: what it finds in what is left is what there is to find in all
module _ (test : Call → Bool) (rest left : Stored) (session : ℕ) (read : Blocked) (all : List Waiting) where
  -- it is at a read whose call passes
  pub first_that_found : first_that test (shown_reads rest) ≡ first_that test all → rest ≡ (session, read) ∷ left → test read.call ≡ true
      → Some session ≡ session_of (first_that test all)
  first_that_found before steps passes =
      let at : first_that test (shown_reads ((session, read) ∷ left)) ≡ Some (shown_read (session, read)) = rw passes refl in
      sym (ap session_of (sym before ∙ ap (λ (s : Stored). first_that test (shown_reads s)) steps ∙ at))

  -- or at one whose call does not
  pub first_that_passed : first_that test (shown_reads rest) ≡ first_that test all → rest ≡ (session, read) ∷ left → test read.call ≡ false
      → first_that test (shown_reads left) ≡ first_that test all
  first_that_passed before steps fails =
      sym (sym before ∙ ap (λ (s : Stored). first_that test (shown_reads s)) steps ∙ rw fails refl)

-- or at the end
pub first_that_none : (test : Call → Bool) (rest : Stored) (all : List Waiting) → first_that test (shown_reads rest) ≡ first_that test all → rest ≡ []
    → None ≡ session_of (first_that test all)
first_that_none test rest all before ended = sym (ap session_of (sym before ∙ ap (λ (s : Stored). first_that test (shown_reads s)) ended))

pub ruleset search_by_call = (first_that_found, first_that_passed, first_that_none)

-- the same of a search for a read that is due
module _ (moment : ℕ) (rest left : Stored) (session : ℕ) (read : Blocked) (all : List Waiting) where
  pub first_due_found : due_at moment (shown_reads rest) ≡ due_at moment all → rest ≡ (session, read) ∷ left → is_reached read.deadline moment ≡ true
      → Some session ≡ session_of (slice_get (due_at moment all) 0)
  first_due_found before steps due =
      let at : due_at moment (shown_reads ((session, read) ∷ left)) ≡ shown_read (session, read) ∷ due_at moment (shown_reads left) = rw due refl in
      sym (ap (λ (l : List Waiting). session_of (slice_get l 0)) (sym before ∙ ap (λ (s : Stored). due_at moment (shown_reads s)) steps ∙ at))

  pub first_due_passed : due_at moment (shown_reads rest) ≡ due_at moment all → rest ≡ (session, read) ∷ left → is_reached read.deadline moment ≡ false
      → due_at moment (shown_reads left) ≡ due_at moment all
  first_due_passed before steps later =
      sym (sym before ∙ ap (λ (s : Stored). due_at moment (shown_reads s)) steps ∙ rw later refl)

pub first_due_none : (moment : ℕ) (rest : Stored) (all : List Waiting) → due_at moment (shown_reads rest) ≡ due_at moment all → rest ≡ []
    → None ≡ session_of (slice_get (due_at moment all) 0)
first_due_none moment rest all before ended =
    sym (ap (λ (l : List Waiting). session_of (slice_get l 0)) (sym before ∙ ap (λ (s : Stored). due_at moment (shown_reads s)) ended))

pub ruleset search_by_deadline = (first_due_found, first_due_passed, first_due_none)

-- a read is due exactly if there is a first one
pub is_some_first_due : (moment : ℕ) (list : List Waiting) → is_some (session_of (slice_get (due_at moment list) 0)) ≡ list_any (is_due moment) list
is_some_first_due moment [] = refl
is_some_first_due moment (read ∷ list) = by (is_due moment read) (is_some_first_due moment list)
  where
    by : (test : Bool) → is_some (session_of (slice_get (due_at moment list) 0)) ≡ list_any (is_due moment) list
        → is_some (session_of (slice_get (cond test (read ∷ due_at moment list) (due_at moment list)) 0)) ≡ (test || list_any (is_due moment) list)
    by true rest = refl
    by false rest = rest

-- what is left is shorter after a read
pub shorter-next : (e : ℕ × Blocked) (rest left : Stored) → rest ≡ e ∷ left → length left < length rest
shorter-next e rest left steps = rw steps (omega arith)

-- ---- when the next read is due

-- a read that is not due makes none due
pub due-joined : (moment : ℕ) (list : List Waiting) (read : Waiting) → due_at moment list ≡ [] → is_due moment read ≡ false → due_at moment (list ++ read ∷ []) ≡ []
due-joined moment [] read none later = rw later refl
due-joined moment (x ∷ list) read none later = by (is_due moment x) none (λ rest. due-joined moment list read rest later)
  where
    by : (test : Bool) → cond test (x ∷ due_at moment list) (due_at moment list) ≡ [] → (due_at moment list ≡ [] → due_at moment (list ++ read ∷ []) ≡ [])
        → cond test (x ∷ due_at moment (list ++ read ∷ [])) (due_at moment (list ++ read ∷ [])) ≡ []
    by true none rest = absurd (cc)
    by false none rest = rest none

-- nor does one that goes
pub due-without : (moment session : ℕ) (list : List Waiting) → due_at moment list ≡ [] → due_at moment (without_session session list) ≡ []
due-without moment session [] none = refl
due-without moment session (x ∷ list) none = by (x.session == session) (is_due moment x) none (λ rest. due-without moment session list rest) refl
  where
    by : (goes test : Bool) → cond test (x ∷ due_at moment list) (due_at moment list) ≡ [] → (due_at moment list ≡ [] → due_at moment (without_session session list) ≡ [])
        → is_due moment x ≡ test → due_at moment (cond (not goes) (x ∷ without_session session list) (without_session session list)) ≡ []
    by goes true none rest is = absurd (cc)
    by true false none rest is = rest none
    by false false none rest is = rw is (rest none)
