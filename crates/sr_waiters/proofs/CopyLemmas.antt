-- A copy of the reads, which join it in their order.
use Rattle.std.proofs.Common.{◌≡◌, ℕ, ◌+◌, ◌<◌, ◌≤◌, ◌==◌, false, List, [], ◌∷◌, ◌++◌, length, nat_eq, refl, sym, ap, ◌∙◌, subst, arith, append_assoc, append-nil}
use Rattle.std.proofs.lemmas.Bool.{or_parts}
use Rattle.std.proofs.lemmas.Cmp.{nat_eq_equiv}
use Rattle.std.proofs.lemmas.List.{length-map}
use Rattle.std.specs.List.{IsDistinct}
use Rattle.std.specs.Map.{keys_of}
use Rattle.sr_waiters.proofs.ReadLemmas.{Stored, once_shown}
use Rattle.sr_waiters.specs.Copying.{AreCopied}
use Rattle.sr_waiters.specs.Layout.{shown_read, shown_reads}
use Rattle.sr_waiters.specs.Waiters.{AreOnce, Waiting, WaitersState, has_session}
use Rattle.sr_waiters.specs.declared.waiters.Blocked.{Blocked}

-- a read that is not of the session, wherever it waits
pub other_session : (session : ℕ) (xs : List Waiting) (read : Waiting) (ys : List Waiting) → has_session session (xs ++ read ∷ ys) ≡ false
    → (read.session == session) ≡ false
other_session session [] read ys absent = (or_parts (read.session == session) (has_session session ys) absent).0
other_session session (x ∷ xs) read ys absent =
    other_session session xs read ys (or_parts (x.session == session) (has_session session (xs ++ read ∷ ys)) absent).1

-- where each session waits once, none that is before a read is of its session
pub absent_before : (xs : List Waiting) (read : Waiting) (ys : List Waiting) → AreOnce (xs ++ read ∷ ys) → has_session read.session xs ≡ false
absent_before [] read ys once = refl
absent_before (x ∷ xs) read ys once =
    let other : (x.session == read.session) ≡ false = nat_eq_equiv.symm x.session read.session ∙ other_session x.session xs read ys once.0 in
    rw other (absent_before xs read ys once.1)

-- an empty copy with room for all, before the first read joins
pub copy_begins : (copy : WaitersState) (stored rest : Stored) (all : List Waiting) → IsDistinct nat_eq (keys_of stored) → rest ≡ stored → shown_reads stored ≡ all
    → copy.list ≡ [] → length all ≤ copy.room → AreCopied copy rest all
copy_begins copy stored rest all distinct same shown empty room =
    record {
      joined = ap (λ (l : List Waiting). l ++ shown_reads rest) empty ∙ (ap shown_reads same ∙ shown);
      once = subst AreOnce shown (once_shown stored distinct);
      places = subst (λ (n : ℕ). n ≤ copy.room) (ap length (sym shown) ∙ (length-map stored shown_read ∙ ap length (sym same))) room;
    }

module _ (copy : WaitersState) (rest left : Stored) (session : ℕ) (read : Blocked) (all : List Waiting) where
  -- the next read finds room
  pub copy_room : AreCopied copy rest all → rest ≡ (session, read) ∷ left → 0 < copy.room
  copy_room so_far steps =
      let places : length ((session, read) ∷ left) ≤ copy.room = subst (λ (s : Stored). length s ≤ copy.room) steps so_far.places in
      omega arith

  -- and its session does not wait in the copy
  pub copy_absent : AreCopied copy rest all → rest ≡ (session, read) ∷ left → has_session session copy.list ≡ false
  copy_absent so_far steps =
      absent_before copy.list (shown_read (session, read)) (shown_reads left)
      (subst AreOnce (sym so_far.joined ∙ ap (λ (s : Stored). copy.list ++ shown_reads s) steps) so_far.once)

  -- after it the copy has one read more
  pub copy_goes_on : (next : WaitersState) → AreCopied copy rest all → rest ≡ (session, read) ∷ left
      → next.list ≡ copy.list ++ shown_read (session, read) ∷ [] → copy.room ≤ next.room + 1 → AreCopied next left all
  copy_goes_on next so_far steps list room =
      let places : length ((session, read) ∷ left) ≤ copy.room = subst (λ (s : Stored). length s ≤ copy.room) steps so_far.places in
      record {
        joined = ap (λ (l : List Waiting). l ++ shown_reads left) list ∙ append_assoc copy.list (shown_read (session, read) ∷ []) (shown_reads left)
            ∙ ap (λ (s : Stored). copy.list ++ shown_reads s) (sym steps) ∙ so_far.joined;
        once = so_far.once;
        places = omega arith;
      }

-- and after the last it has all
pub copy_ends : (copy : WaitersState) (rest : Stored) (all : List Waiting) → AreCopied copy rest all → rest ≡ [] → copy.list ≡ all
copy_ends copy rest all so_far ended =
    sym (append-nil copy.list) ∙ ap (λ (s : Stored). copy.list ++ shown_reads s) (sym ended) ∙ so_far.joined

pub ruleset copies_reads = (copy_room, copy_absent, copy_goes_on, copy_ends)
