-- The sessions of each key: after a list in the map changes, key by key, and after the reads do.
use Rattle.std.proofs.Common.{◌≡◌, ◌≢◌, ◌==◌, ℕ, Bool, true, false, cond, not, ◌||◌, ◌&&◌, List, [], ◌∷◌, ◌++◌, filter, map, nat_eq, is_some, Option, Some, None, Result, Ok, Err, OnOk, inl, inr, refl, ap, sym, subst, ◌∙◌, true≢false}
use Rattle.std.proofs.lemmas.Bool.{eq-eqb, eqb-true, or_parts}
use Rattle.std.proofs.lemmas.Cmp.{nat_eq_equiv}
use Rattle.std.specs.List.{AllByRecursion}
use Rattle.std.specs.Cmp.Lexicographic.{pointwise, bytes_decides}
use Rattle.std.specs.HashMap.{HashMap, Updates, get}
use Rattle.std.specs.Map.{keys_of, lookup}
use Rattle.sr_args.specs.{IsAmong}
use Rattle.sr_args.specs.declared.call.Call.{Call}
use Rattle.sr_waiters.specs.Queue.{without_entry}
use Rattle.sr_waiters.specs.Index.{Changes, Gives, IsIndexed, Sessions, and_read, asking, changed, readers, reads_of, sessions_by, sessions_in, with_session, without}
use Rattle.sr_waiters.specs.Waiters.{AreOnce, Key, Waiting, asks, call_of, first_that, has_key, has_session, read_of, session_of, without_session}

abbrev is_same : Key → Key → Bool
is_same a b = pointwise nat_eq a b

same-key : (a b : Key) → is_same a b ≡ true → a ≡ b
same-key a b e = (bytes_decides a b).0 e

other-key : (a b : Key) → a ≢ b → is_same a b ≡ false
other-key a b apart = by (is_same a b) refl
  where
    by : (test : Bool) → is_same a b ≡ test → test ≡ false
    by true e = absurd (apart ((bytes_decides a b).0 e))
    by false e = refl

module _ {S : Type 0} (key : Key) (old new : HashMap Key Sessions S) where
  -- a key's list becomes another one
  module _ (sessions : Sessions) (updates : Updates (pointwise nat_eq) old new key (Some sessions)) where
    pub gives-update : (given : List ℕ) → keys_of sessions.entries ≡ given → Gives key given old new
    gives-update given is other = ap sessions_in (updates.0 other) ∙ by (is_same key other)
      where
        by : (test : Bool) → sessions_in (cond test (Some sessions) (get (pointwise nat_eq) old other)) ≡ cond test given (sessions_by old other)
        by true = is
        by false = refl

  -- or goes, with no session in it
  pub gives-none : Updates (pointwise nat_eq) old new key None → sessions_by old key ≡ [] → Gives key (sessions_by old key) old new
  gives-none updates empty other = ap sessions_in (updates.0 other) ∙ by (is_same key other)
    where
      by : (test : Bool) → sessions_in (cond test None (get (pointwise nat_eq) old other)) ≡ cond test (sessions_by old key) (sessions_by old other)
      by true = sym empty
      by false = refl

-- nothing changes
pub gives-same : {S : Type 0} (key : Key) (given : List ℕ) (index : HashMap Key Sessions S) → given ≡ sessions_by index key → Gives key given index index
gives-same key given index is other = by (is_same key other) refl
  where
    by : (test : Bool) → is_same key other ≡ test → sessions_by index other ≡ cond test given (sessions_by index other)
    by true e = ap (sessions_by index) (sym (same-key key other e)) ∙ sym is
    by false e = refl

pub gives-here : {S : Type 0} (key : Key) (given : List ℕ) (old new : HashMap Key Sessions S) → Gives key given old new → sessions_by new key ≡ given
gives-here key given old new gives = gives key ∙ ap (λ (b : Bool). cond b given (sessions_by old key)) ((bytes_decides key key).1 refl)

-- one change after another, which keeps it
pub gives-then : {S : Type 0} (key : Key) (given : List ℕ) (old middle new : HashMap Key Sessions S) → Gives key given old middle → Gives key (sessions_by middle key) middle new → Gives key given old new
gives-then key given old middle new first second other = second other ∙ by (is_same key other) (first other)
  where
    by : (test : Bool) → sessions_by middle other ≡ cond test given (sessions_by old other) → cond test (sessions_by middle key) (sessions_by middle other) ≡ cond test given (sessions_by old other)
    by true e = gives-here key given old middle first
    by false e = e

-- a change of a queue that did not fail
pub on-ok : {A E P Q : Type 0} (r : Result A E) → (P → Q) → OnOk r P → OnOk r Q
on-ok (Ok x) step p = step p
on-ok (Err e) step p = tt

-- ---- the sessions of a queue

-- without one of them
pub keys-left : (session : ℕ) (entries : List (ℕ × Unit {0})) → keys_of (without_entry session entries) ≡ without session (keys_of entries)
keys-left session [] = refl
keys-left session (e ∷ entries) = by (e.0 == session) (keys-left session entries)
  where
    by : (test : Bool) → keys_of (without_entry session entries) ≡ without session (keys_of entries)
        → keys_of (cond (not test) (e ∷ without_entry session entries) (without_entry session entries)) ≡ cond (not test) (e.0 ∷ without session (keys_of entries)) (without session (keys_of entries))
    by true rest = rest
    by false rest = ap (λ (l : List ℕ). e.0 ∷ l) rest

-- which is then not there
pub left-is-gone : (session : ℕ) (entries : List (ℕ × Unit {0})) → is_some (lookup (nat_eq session) (without_entry session entries)) ≡ false
left-is-gone session [] = refl
left-is-gone session (e ∷ entries) = by (e.0 == session) refl (left-is-gone session entries)
  where
    by : (test : Bool) → (e.0 == session) ≡ test → is_some (lookup (nat_eq session) (without_entry session entries)) ≡ false
        → is_some (lookup (nat_eq session) (cond (not test) (e ∷ without_entry session entries) (without_entry session entries))) ≡ false
    by true is rest = rest
    by false is rest = rw (nat_eq_equiv.symm session e.0 ∙ is) rest

-- and goes last
pub keys-last : (session : ℕ) (entries : List (ℕ × Unit {0})) → keys_of (entries ++ (session, tt) ∷ []) ≡ keys_of entries ++ session ∷ []
keys-last session [] = refl
keys-last session (e ∷ entries) = ap (λ (l : List ℕ). e.0 ∷ l) (keys-last session entries)

-- ---- keys one after another

-- a key that is not among others is that of no stream
not-among : {X : Type 0} (key : Key) (streams : List (Key × X)) → (IsAmong key (map (λ (stream : Key × X). stream.0) streams) → ⊥) → has_key key streams ≡ false
not-among key [] apart = refl
not-among key (stream ∷ streams) apart = rw (other-key stream.0 key (λ same. apart (inl (sym same)))) (not-among key streams (λ among. apart (inr among)))

module _ {X S : Type 0} (change : List ℕ → List ℕ) (goal : Key → List ℕ) where
  -- the change is made at the next key
  pub changes-next : (stream : Key × X) (left : List (Key × X)) (old new : HashMap Key Sessions S) → Changes change (stream ∷ left) goal old → Gives stream.0 (change (sessions_by old stream.0)) old new → Changes change left goal new
  changes-next stream left old new changes gives = record { sessions = λ key. by key (is_same stream.0 key) refl; different = changes.different.1 }
    where
      by : (key : Key) (test : Bool) → is_same stream.0 key ≡ test → changed change (has_key key left) (sessions_by new key) ≡ goal key
      by key true e =
          let same : stream.0 ≡ key = same-key stream.0 key e in
          let last : has_key key left ≡ false = subst (λ (k : Key). has_key k left ≡ false) same (not-among stream.0 left changes.different.0) in
          let now : sessions_by new key ≡ change (sessions_by old key) = subst (λ (k : Key). sessions_by new k ≡ change (sessions_by old k)) same (gives-here stream.0 (change (sessions_by old stream.0)) old new gives) in
          let was : changed change (is_same stream.0 key || has_key key left) (sessions_by old key) ≡ goal key = changes.sessions key in
          rw last (now ∙ (rw e at was))
      by key false e =
          let now : sessions_by new key ≡ sessions_by old key = gives key ∙ ap (λ (b : Bool). cond b (change (sessions_by old stream.0)) (sessions_by old key)) e in
          let was : changed change (is_same stream.0 key || has_key key left) (sessions_by old key) ≡ goal key = changes.sessions key in
          ap (changed change (has_key key left)) now ∙ (rw e at was)

-- ---- the reads that ask the stream at a key

-- one more read
asking-append : (key : Key) (list : List Waiting) (read : Waiting) → asking key (list ++ read ∷ []) ≡ cond (asks key read.call) (asking key list ++ read.session ∷ []) (asking key list)
asking-append key [] read = by (asks key read.call)
  where
    by : (asked : Bool) → map (λ (r : Waiting). r.session) (cond asked (read ∷ []) []) ≡ cond asked (read.session ∷ []) []
    by true = refl
    by false = refl
asking-append key (first ∷ list) read = by (asks key first.call) (asks key read.call) (asking-append key list read)
  where
    by : (asked last : Bool) → asking key (list ++ read ∷ []) ≡ cond last (asking key list ++ read.session ∷ []) (asking key list)
        → map (λ (r : Waiting). r.session) (cond asked (first ∷ filter (λ (r : Waiting). asks key r.call) (list ++ read ∷ [])) (filter (λ (r : Waiting). asks key r.call) (list ++ read ∷ [])))
        ≡ cond last (map (λ (r : Waiting). r.session) (cond asked (first ∷ filter (λ (r : Waiting). asks key r.call) list) (filter (λ (r : Waiting). asks key r.call) list)) ++ read.session ∷ [])
        (map (λ (r : Waiting). r.session) (cond asked (first ∷ filter (λ (r : Waiting). asks key r.call) list) (filter (λ (r : Waiting). asks key r.call) list)))
    by true true rest = ap (λ (l : List ℕ). first.session ∷ l) rest
    by true false rest = ap (λ (l : List ℕ). first.session ∷ l) rest
    by false true rest = rest
    by false false rest = rest

-- one read less
asking-absent : (key : Key) (session : ℕ) (list : List Waiting) → has_session session list ≡ false → without session (asking key list) ≡ asking key list
asking-absent key session [] absent = refl
asking-absent key session (read ∷ list) absent = by (asks key read.call) (read.session == session) refl absent (asking-absent key session list)
  where
    others : List Waiting
    others = filter (λ (r : Waiting). asks key r.call) list

    by : (asked test : Bool) → (read.session == session) ≡ test → (test || has_session session list) ≡ false → (has_session session list ≡ false → without session (asking key list) ≡ asking key list)
        → without session (map (λ (r : Waiting). r.session) (cond asked (read ∷ others) others)) ≡ map (λ (r : Waiting). r.session) (cond asked (read ∷ others) others)
    by asked true e absent rest = absurd (true≢false absent)
    by true false e absent rest = rw e (ap (λ (l : List ℕ). read.session ∷ l) (rest absent))
    by false false e absent rest = rest absent

asking-without : (key : Key) (session : ℕ) (list : List Waiting) → asking key (without_session session list) ≡ without session (asking key list)
asking-without key session [] = refl
asking-without key session (read ∷ list) = by (asks key read.call) refl (read.session == session) refl (asking-without key session list)
  where
    by : (asked : Bool) → asks key read.call ≡ asked → (test : Bool) → (read.session == session) ≡ test → asking key (without_session session list) ≡ without session (asking key list)
        → asking key (cond (not test) (read ∷ without_session session list) (without_session session list)) ≡ without session (asking key (read ∷ list))
    by true a true e rest = rw (a, e) rest
    by true a false e rest = rw (a, e) (ap (λ (l : List ℕ). read.session ∷ l) rest)
    by false a true e rest = rw a rest
    by false a false e rest = rw a rest

-- a read that does not ask the stream at the key is not among those that do
asking-unasked : (key : Key) (session : ℕ) (list : List Waiting) (call : Call) → AreOnce list → call_of (read_of session list) ≡ Some call → asks key call ≡ false → without session (asking key list) ≡ asking key list
asking-unasked key session [] call once found unasked = refl
asking-unasked key session (first ∷ list) call once found unasked = by (first.session == session) refl found (asking-unasked key session list call once.1)
  where
    others : List Waiting
    others = filter (λ (r : Waiting). asks key r.call) list

    by : (test : Bool) → (first.session == session) ≡ test → call_of (cond test (Some first) (read_of session list)) ≡ Some call
        → (call_of (read_of session list) ≡ Some call → asks key call ≡ false → without session (asking key list) ≡ asking key list)
        → without session (asking key (first ∷ list)) ≡ asking key (first ∷ list)
    by true e found rest =
        let same : first.call ≡ call = cc in
        let its : asks key first.call ≡ false = ap (asks key) same ∙ unasked in
        let number : first.session ≡ session = eqb-true first.session session e in
        let absent : has_session session list ≡ false = subst (λ (n : ℕ). has_session n list ≡ false) number once.0 in
        rw its (asking-absent key session list absent)
    by false e found rest = kept (asks key first.call)
      where
        kept : (asked : Bool) → without session (map (λ (r : Waiting). r.session) (cond asked (first ∷ others) others)) ≡ map (λ (r : Waiting). r.session) (cond asked (first ∷ others) others)
        kept true = rw e (ap (λ (l : List ℕ). first.session ∷ l) (rest found unasked))
        kept false = rest found unasked

module _ {S : Type 0} (old new : HashMap Key Sessions S) (list : List Waiting) (indexed : IsIndexed old list) where
  pub indexed-joined : (read : Waiting) → has_session read.session list ≡ false → ((key : Key) → sessions_by new key ≡ changed (with_session read.session) (asks key read.call) (sessions_by old key)) → IsIndexed new (list ++ read ∷ [])
  indexed-joined read absent puts key =
      puts key ∙ ap (changed (with_session read.session) (asks key read.call)) (indexed key)
      ∙ ap (λ (l : List ℕ). cond (asks key read.call) (l ++ read.session ∷ []) (asking key list)) (asking-absent key read.session list absent) ∙ sym (asking-append key list read)

  pub indexed-left : (session : ℕ) (call : Call) → AreOnce list → call_of (read_of session list) ≡ Some call → ((key : Key) → sessions_by new key ≡ changed (without session) (asks key call) (sessions_by old key))
      → IsIndexed new (without_session session list)
  indexed-left session call once found takes key = takes key ∙ ap (changed (without session) (asks key call)) (indexed key) ∙ by (asks key call) refl ∙ sym (asking-without key session list)
    where
      by : (asked : Bool) → asks key call ≡ asked → changed (without session) asked (asking key list) ≡ without session (asking key list)
      by true e = refl
      by false e = sym (asking-unasked key session list call once found e)

-- ---- the reads of the sessions of a key

abbrev IsFound : List Waiting → Waiting → Type 0
IsFound list read = read_of read.session list ≡ Some read

-- a read behind another is found if none behind that one is of its session
found-behind : (first : Waiting) (list rest : List Waiting) → has_session first.session rest ≡ false → AllByRecursion (IsFound list) rest → AllByRecursion (IsFound (first ∷ list)) rest
found-behind first list [] absent found = tt
found-behind first list (read ∷ rest) absent found =
    let parts = or_parts (read.session == first.session) (has_session first.session rest) absent in
    let other : (first.session == read.session) ≡ false = nat_eq_equiv.symm first.session read.session ∙ parts.0 in
    (rw other found.0, found-behind first list rest parts.1 found.1)

-- each session waits once, so each read is the one of its session
all-found : (list : List Waiting) → AreOnce list → AllByRecursion (IsFound list) list
all-found [] once = tt
all-found (first ∷ list) once = (rw (eq-eqb first.session first.session refl) refl, found-behind first list list once.0 (all-found list once.1))

reads-readers : (key : Key) (list rest : List Waiting) → AllByRecursion (IsFound list) rest → reads_of (asking key rest) list ≡ readers key rest
reads-readers key list [] found = refl
reads-readers key list (read ∷ rest) found = by (asks key read.call) (reads-readers key list rest found.1)
  where
    by : (asked : Bool) → reads_of (asking key rest) list ≡ readers key rest
        → reads_of (map (λ (r : Waiting). r.session) (cond asked (read ∷ readers key rest) (readers key rest))) list ≡ cond asked (read ∷ readers key rest) (readers key rest)
    by true same = rw found.0 (ap (λ (l : List Waiting). read ∷ l) same)
    by false same = same

-- a read of the key that passes is a read that passes both tests
first-readers : (key : Key) (test : Call → Bool) (list : List Waiting) → first_that test (readers key list) ≡ first_that (λ call. asks key call && test call) list
first-readers key test [] = refl
first-readers key test (read ∷ list) = by (asks key read.call) (first-readers key test list)
  where
    by : (asked : Bool) → first_that test (readers key list) ≡ first_that (λ call. asks key call && test call) list
        → first_that test (cond asked (read ∷ readers key list) (readers key list)) ≡ cond (asked && test read.call) (Some read) (first_that (λ call. asks key call && test call) list)
    by true rest = ap (cond (test read.call) (Some read)) rest
    by false rest = rest

pub first-indexed : {S : Type 0} (index : HashMap Key Sessions S) (list : List Waiting) (key : Key) (test : Call → Bool) → AreOnce list → IsIndexed index list
    → session_of (first_that test (reads_of (sessions_by index key) list)) ≡ session_of (first_that (λ call. asks key call && test call) list)
first-indexed index list key test once indexed =
    ap (λ (l : List ℕ). session_of (first_that test (reads_of l list))) (indexed key)
    ∙ ap (λ (l : List Waiting). session_of (first_that test l)) (reads-readers key list list (all-found list once))
    ∙ ap session_of (first-readers key test list)

-- a search of the reads of sessions, one after another
module _ (test : Call → Bool) (session : ℕ) (sessions : List ℕ) (list : List Waiting) where
  -- the read passes
  pub among-found : (call : Call) → call_of (read_of session list) ≡ Some call → test call ≡ true → session_of (first_that test (reads_of (session ∷ sessions) list)) ≡ session_of (read_of session list)
  among-found call is passes = by (read_of session list) is
    where
      by : (read : Option Waiting) → call_of read ≡ Some call → session_of (first_that test (and_read read (reads_of sessions list))) ≡ session_of read
      by None is = cc
      by (Some read) is =
          let same : read.call ≡ call = cc in
          rw (ap test same ∙ passes) refl

  -- it fails, or is not there
  pub among-failed : (call : Call) → call_of (read_of session list) ≡ Some call → test call ≡ false → first_that test (reads_of (session ∷ sessions) list) ≡ first_that test (reads_of sessions list)
  among-failed call is fails = by (read_of session list) is
    where
      by : (read : Option Waiting) → call_of read ≡ Some call → first_that test (and_read read (reads_of sessions list)) ≡ first_that test (reads_of sessions list)
      by None is = cc
      by (Some read) is =
          let same : read.call ≡ call = cc in
          rw (ap test same ∙ fails) refl

  pub among-missing : call_of (read_of session list) ≡ None → first_that test (reads_of (session ∷ sessions) list) ≡ first_that test (reads_of sessions list)
  among-missing is = by (read_of session list) is
    where
      by : (read : Option Waiting) → call_of read ≡ None → first_that test (and_read read (reads_of sessions list)) ≡ first_that test (reads_of sessions list)
      by None is = refl
      by (Some read) is = cc

-- a read that is found is of the session
pub session-found : (session : ℕ) (list : List Waiting) (call : Call) → call_of (read_of session list) ≡ Some call → session_of (read_of session list) ≡ Some session
session-found session [] call is = cc
session-found session (read ∷ list) call is = by (read.session == session) refl is (session-found session list call)
  where
    by : (test : Bool) → (read.session == session) ≡ test → call_of (cond test (Some read) (read_of session list)) ≡ Some call → (call_of (read_of session list) ≡ Some call → session_of (read_of session list) ≡ Some session)
        → session_of (cond test (Some read) (read_of session list)) ≡ Some session
    by true e is rest = ap (λ (n : ℕ). Some n) (eqb-true read.session session e)
    by false e is rest = rest is
