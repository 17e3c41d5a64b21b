-- Reads that wait, each session once: the first that is due is taken, and the others keep their order.
use Rattle.std.proofs.Common.{◌≡◌, ◌==◌, ℕ, Bool, true, false, cond, not, ◌||◌, List, [], ◌∷◌, ◌++◌, append_assoc, length, slice_get, Option, Some, None, refl, ap, sym, subst, ◌∙◌, arith, true≢false}
use Rattle.std.proofs.lemmas.Bool.{eq-eqb, ne_eqb}
use Rattle.std.proofs.lemmas.List.{append-nil, length-map}
use Rattle.sr_waiters.specs.{AreOnce, Waiting, due_at, has_session, is_due, not_due_at, session_of, without_session}
use Rattle.sr_waiters.proofs.ReadLemmas.{without_absent}
use Rattle.sr_resp.specs.{ReplyParts}
use Rattle.sr_resp.specs.Reply.{null_array}
use Rattle.sr_book.specs.declared.event.Out.TheVariants as outs
use Rattle.sr_book.specs.Server.{Server, Session, expired, with_letter, with_nothing}
use Rattle.sr_book.specs.Taken.{IsLeftOfDue, TakesDue, nothing_for}

-- the session of the first read that is due
abbrev pub first_due : ℕ → List Waiting → Option ℕ
first_due moment list = session_of (slice_get (due_at moment list) 0)

-- it waits
pub first_due-waits : (moment session : ℕ) (list : List Waiting) → Some session ≡ first_due moment list → has_session session list ≡ true
first_due-waits moment session [] is = absurd (cc)
first_due-waits moment session (x ∷ xs) is = by (first_due-waits moment session xs) (is_due moment x) is
  where
    or_true : (test : Bool) → (test || true) ≡ true
    or_true true = refl
    or_true false = refl

    by : (Some session ≡ first_due moment xs → has_session session xs ≡ true) → (test : Bool)
        → Some session ≡ session_of (slice_get (cond test (x ∷ due_at moment xs) (due_at moment xs)) 0) → ((x.session == session) || has_session session xs) ≡ true
    by rest true is =
        let one : x.session ≡ session = cc in
        rw (eq-eqb x.session session one)
    by rest false is = rw (rest is) (or_true (x.session == session))

-- a session that does not wait does not wait without another
pub absent-without : (other session : ℕ) (list : List Waiting) → has_session other list ≡ false → has_session other (without_session session list) ≡ false
absent-without other session [] absent = refl
absent-without other session (x ∷ xs) absent = by (x.session == other) refl (x.session == session) (absent-without other session xs)
  where
    by : (is_other : Bool) → (x.session == other) ≡ is_other → (is_it : Bool) → (has_session other xs ≡ false → has_session other (without_session session xs) ≡ false)
        → has_session other (cond (not is_it) (x ∷ without_session session xs) (without_session session xs)) ≡ false
    by true e is_it rest = absurd (true≢false (rw e at absent))
    by false e true rest = rest (rw e at absent)
    by false e false rest = rw e (rest (rw e at absent))

-- the first read that is due is taken
pub takes_due : (moment session : ℕ) (list : List Waiting) → AreOnce list → Some session ≡ first_due moment list → TakesDue moment session list (without_session session list)
takes_due moment session [] once is = absurd (cc)
takes_due moment session (x ∷ xs) once is = by (takes_due moment session xs once.1) (is_due moment x) refl
  where
    here : is_due moment x ≡ true → TakesDue moment session (x ∷ xs) (without_session session (x ∷ xs))
    here due =
        let found : Some session ≡ Some x.session = rw due at is in
        let one : x.session ≡ session = cc in
        let test : (x.session == session) ≡ true = eq-eqb x.session session one in
        let absent : has_session session xs ≡ false = rw one at once.0 in
        let left : without_session session (x ∷ xs) ≡ xs = rw test (without_absent session xs absent) in
        rw left (record {
          read = x;
          same = one;
          due = rw due;
          others = rw due;
          fewer = omega arith;
          once = once.1;
        })

    later : is_due moment x ≡ false → TakesDue moment session xs (without_session session xs) → Some session ≡ first_due moment xs
        → TakesDue moment session (x ∷ xs) (without_session session (x ∷ xs))
    later waits rest found =
        let there : has_session session xs ≡ true = first_due-waits moment session xs found in
        let apart : (x.session == session) ≡ false = ne_eqb x.session session (λ one. true≢false (sym there ∙ rw one at once.0)) in
        let left : without_session session (x ∷ xs) ≡ x ∷ without_session session xs = rw apart in
        rw left (record {
          read = rest.read;
          same = rest.same;
          due = rw waits rest.due;
          others = rw waits (ap (λ (l : List Waiting). x ∷ l) rest.others);
          fewer = omega (arith, rest.fewer);
          once = (absent-without x.session session xs once.0, rest.once);
        })

    by : (Some session ≡ first_due moment xs → TakesDue moment session xs (without_session session xs)) → (test : Bool) → is_due moment x ≡ test
        → TakesDue moment session (x ∷ xs) (without_session session (x ∷ xs))
    by rest true due = here due
    by rest false waits =
        let found : Some session ≡ first_due moment xs = rw waits at is in
        later waits (rest found) found

-- if none is due, all wait still
pub none_due : (moment : ℕ) (list : List Waiting) → None ≡ first_due moment list → due_at moment list ≡ []
none_due moment list is = by (due_at moment list) is
  where
    by : (due : List Waiting) → None ≡ session_of (slice_get due 0) → due ≡ []
    by [] is = refl
    by (x ∷ xs) is = absurd (let no = is in cc)

pub all_wait : (moment : ℕ) (list : List Waiting) → due_at moment list ≡ [] → not_due_at moment list ≡ list
all_wait moment [] none = refl
all_wait moment (x ∷ xs) none = by (all_wait moment xs) (is_due moment x) refl
  where
    by : (due_at moment xs ≡ [] → not_due_at moment xs ≡ xs) → (test : Bool) → is_due moment x ≡ test → not_due_at moment (x ∷ xs) ≡ x ∷ xs
    by rest true due = absurd (let some = rw due at none in cc)
    by rest false waits = let no = rw waits at none in rw waits (ap (λ (l : List Waiting). x ∷ l) (rest no))

-- ---- one after another

pub left_of_all : (index moment : ℕ) (sessions : List Session) (list : List Waiting) (sent : List (ℕ × ReplyParts)) → AreOnce list
    → IsLeftOfDue index moment sessions sessions list list sent sent
left_of_all index moment sessions list sent once = record { once = once; letters = refl; others = refl; replies = refl }

-- a read is taken, and its session gets the null array
pub left_of_more : (index moment session : ℕ) (all_sessions sessions : List Session) (all list new : List Waiting) (all_sent sent : List (ℕ × ReplyParts))
    → IsLeftOfDue index moment all_sessions sessions all list all_sent sent → TakesDue moment session list new
    → IsLeftOfDue index moment all_sessions (with_letter session (Some (record { index = index; reply = null_array })) sessions) all new all_sent (sent ++ (session, null_array) ∷ [])
left_of_more index moment session all_sessions sessions all list new all_sent sent left takes = record {
  once = takes.once;
  letters =
      let P : ℕ → Type 0 = λ n. with_nothing index (due_at moment new) (with_letter n (Some (record { index = index; reply = null_array })) sessions) ≡ with_nothing index (due_at moment all) all_sessions in
      subst P takes.same (sym (ap (λ (l : List Waiting). with_nothing index l sessions) takes.due) ∙ left.letters);
  others = takes.others ∙ left.others;
  replies =
      let P : ℕ → Type 0 = λ n. (sent ++ (n, null_array) ∷ []) ++ nothing_for (due_at moment new) ≡ all_sent ++ nothing_for (due_at moment all) in
      subst P takes.same (append_assoc sent ((takes.read.session, null_array) ∷ []) (nothing_for (due_at moment new)) ∙ sym (ap (λ (l : List Waiting). sent ++ nothing_for l) takes.due) ∙ left.replies);
}

-- the same where the letter and the reply are equal to the null array
pub left_of_next : (index moment session : ℕ) (all_sessions sessions new_sessions : List Session) (all list new : List Waiting) (all_sent sent new_sent : List (ℕ × ReplyParts)) (letter reply : ReplyParts)
    → letter ≡ null_array → reply ≡ null_array → new_sessions ≡ with_letter session (Some (record { index = index; reply = letter })) sessions → new_sent ≡ sent ++ (session, reply) ∷ []
    → IsLeftOfDue index moment all_sessions sessions all list all_sent sent → TakesDue moment session list new → IsLeftOfDue index moment all_sessions new_sessions all new all_sent new_sent
left_of_next index moment session all_sessions sessions new_sessions all list new all_sent sent new_sent letter reply none_kept none_sent hears sends left takes =
    let null_letter : List Session = with_letter session (Some (record { index = index; reply = null_array })) sessions in
    let is_sessions : new_sessions ≡ null_letter = hears ∙ ap (λ (a : ReplyParts). with_letter session (Some (record { index = index; reply = a })) sessions) none_kept in
    let is_sent : new_sent ≡ sent ++ (session, null_array) ∷ [] = sends ∙ ap (λ (a : ReplyParts). sent ++ (session, a) ∷ []) none_sent in
    subst (λ (s : List Session). IsLeftOfDue index moment all_sessions s all new all_sent new_sent) (sym is_sessions)
    (subst (λ (l : List (ℕ × ReplyParts)). IsLeftOfDue index moment all_sessions null_letter all new all_sent l) (sym is_sent)
    (left_of_more index moment session all_sessions sessions all list new all_sent sent left takes))

-- none is left
module _ (index moment : ℕ) (all_sessions sessions : List Session) (all list : List Waiting) (all_sent sent : List (ℕ × ReplyParts))
    (left : IsLeftOfDue index moment all_sessions sessions all list all_sent sent) (none : due_at moment list ≡ []) where
  pub left_of_none-letters : sessions ≡ with_nothing index (due_at moment all) all_sessions
  left_of_none-letters = sym (ap (λ (l : List Waiting). with_nothing index l sessions) none) ∙ left.letters

  pub left_of_none-others : list ≡ not_due_at moment all
  left_of_none-others = sym (all_wait moment list none) ∙ left.others

  pub left_of_none-replies : sent ≡ all_sent ++ nothing_for (due_at moment all)
  left_of_none-replies = sym (append-nil sent) ∙ sym (ap (λ (l : List Waiting). sent ++ nothing_for l) none) ∙ left.replies

-- ---- what the parts of a server come to

module _ (index moment : ℕ) (inside server : Server) (view : inside ≡ server) where
  pub expire_leaves : (sessions : List Session) (waiting : List Waiting) → sessions ≡ with_nothing index (due_at moment inside.waiting) inside.sessions → waiting ≡ not_due_at moment inside.waiting
      → record { sessions = sessions; keys = inside.keys; waiting = waiting; last = moment; rules = inside.rules } ≡ (expired index moment server).server
  expire_leaves sessions waiting hear wait =
      let made : List Session → List Waiting → Server = λ s w. record { sessions = s; keys = inside.keys; waiting = w; last = moment; rules = inside.rules } in
      ap (λ (s : List Session). made s waiting) hear
      ∙ ap (λ (w : List Waiting). made (with_nothing index (due_at moment inside.waiting) inside.sessions) w) wait
      ∙ ap (λ (s : Server). (expired index moment s).server) view

  pub expire_sends : (made sent : List (ℕ × ReplyParts)) → made ≡ [] → sent ≡ made ++ nothing_for (due_at moment inside.waiting) → sent ≡ nothing_for (due_at moment server.waiting)
  expire_sends made sent empty sends =
      sends ∙ ap (λ (l : List (ℕ × ReplyParts)). l ++ nothing_for (due_at moment inside.waiting)) empty ∙ ap (λ (s : Server). nothing_for (due_at moment s.waiting)) view

  pub expire_counts : (sent : List (ℕ × ReplyParts)) (count : ℕ) → sent ≡ nothing_for (due_at moment server.waiting) → count ≡ length sent → outs.Expired count ≡ outs.Expired (length (due_at moment server.waiting))
  expire_counts sent count sends counted =
      ap (λ (n : ℕ). outs.Expired n) (counted ∙ ap (λ (l : List (ℕ × ReplyParts)). length l) sends ∙ length-map (due_at moment server.waiting) (λ (read : Waiting). (read.session, null_array)))
