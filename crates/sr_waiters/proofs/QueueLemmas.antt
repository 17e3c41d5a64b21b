-- What slots hold once a session has come or gone, and where the others are then.
use Rattle.std.proofs.Common.{◌≡◌, ℕ, zero, suc, ◌+◌, ◌<◌, ◌≤◌, Bool, true, false, cond, List, [], ◌∷◌, ◌++◌, length, take, drop, set, get_or, filter, nat_eq, ◌==◌, Option, Some, None, is_some, IsSome, if◌then◌else◌, refl, sym, ap, subst, ◌∙◌, true≢false, arith, length-append}
use Rattle.std.proofs.lemmas.Bool.{eqb-true, eq-eqb}
use Rattle.std.proofs.lemmas.Cmp.{nat_eq_equiv}
use Rattle.std.proofs.lemmas.List.{take-append-drop, take-append-le, drop_more, take_more, length-take-le}
use Rattle.std.proofs.lemmas.Map.Keys.{IsDistinct-head, IsDistinct-tail, IsDistinct-cons, IsDistinct-push}
use Rattle.std.proofs.lemmas.Map.Made.{is_some-lookup}
use Rattle.std.specs.HashMap.{HashMap, Updates, get, hash_map_len, spare}
use Rattle.std.specs.List.{AllByRecursion, IsDistinct}
use Rattle.std.specs.Map.{keys_of, lookup, remove_entry}
use Rattle.std.specs.Option.{option_map}
use Rattle.sr_waiters.specs.Queue.{AreNumbered, ArePlaced, HasEach, IsQueued, or_place, place_of, taken, without_entry}

-- ---- a place in slots after the first is one more

later : (P : ℕ → Type 0) (found : Option ℕ) (place : ℕ) → option_map suc found ≡ Some place → ((p : ℕ) → found ≡ Some p → P (suc p)) → P place
later P None place at step = absurd (cc)
later P (Some p) place at step = let next : suc p ≡ place = cc in subst P next (step p refl)

-- the place is that of the first slot, or a later one
either : (P : ℕ → Type 0) (test : Bool) (found : Option ℕ) (place : ℕ) → cond test (Some 0) (option_map suc found) ≡ Some place
    → (test ≡ true → P 0) → (test ≡ false → (p : ℕ) → found ≡ Some p → P (suc p)) → P place
either P true found place at here step = let first : 0 ≡ place = cc in subst P first (here refl)
either P false found place at here step = later P found place at (step refl)

pub none-from : {X : Type 0} (o : Option X) → is_some o ≡ false → o ≡ None
none-from None e = refl
none-from (Some x) e = absurd (true≢false e)

missing : (found : Option ℕ) → option_map suc found ≡ None → found ≡ None
missing None at = refl
missing (Some p) at = absurd (cc)

later-is_some : (found : Option ℕ) → is_some (option_map suc found) ≡ is_some found
later-is_some None = refl
later-is_some (Some p) = refl

-- a session that is another one's differs from what that one differs from
other-than : (a b c : ℕ) → nat_eq a b ≡ true → nat_eq a c ≡ false → nat_eq b c ≡ false
other-than a b c same apart = subst (λ (n : ℕ). nat_eq n c ≡ false) (eqb-true a b same) apart

module _ {T : Type 0} where
  pub taken-append : (xs ys : List (Option (ℕ × T))) → taken (xs ++ ys) ≡ taken xs ++ taken ys
  taken-append [] ys = refl
  taken-append (None ∷ xs) ys = taken-append xs ys
  taken-append (Some e ∷ xs) ys = ap (λ (l : List (ℕ × T)). e ∷ l) (taken-append xs ys)

  -- if no slot before one is taken, all entries are in it and the later ones
  pub taken-from : (first : ℕ) (slots : List (Option (ℕ × T))) → taken (take first slots) ≡ [] → taken (drop first slots) ≡ taken slots
  taken-from first slots blank =
      sym (ap taken (sym (take-append-drop first slots)) ∙ taken-append (take first slots) (drop first slots) ∙ ap (λ (l : List (ℕ × T)). l ++ taken (drop first slots)) blank)

  -- the empty slots hold nothing
  pub taken-closed : (slots : List (Option (ℕ × T))) → taken (filter is_some slots) ≡ taken slots
  taken-closed [] = refl
  taken-closed (None ∷ slots) = taken-closed slots
  taken-closed (Some e ∷ slots) = ap (λ (l : List (ℕ × T)). e ∷ l) (taken-closed slots)

  -- ---- where a session is

  -- its place is that of a slot, which has its value
  pub place-found : (session : ℕ) (slots : List (Option (ℕ × T))) (place : ℕ) (d : Option (ℕ × T)) → place_of session slots ≡ Some place
      → (place < length slots) × (lookup (nat_eq session) (taken slots) ≡ option_map (λ (e : ℕ × T). e.1) (get_or slots place d))
  place-found session [] place d at = absurd (cc)
  place-found session (None ∷ slots) place d at =
      later (λ n. (n < suc (length slots)) × (lookup (nat_eq session) (taken slots) ≡ option_map (λ (e : ℕ × T). e.1) (get_or (None ∷ slots) n d)))
      (place_of session slots) place at
      (λ p is. let rest = place-found session slots p d is in (omega (arith, rest.0), rest.1))
  place-found session (Some e ∷ slots) place d at =
      either (λ n. (n < suc (length slots)) × (cond (nat_eq session e.0) (Some e.1) (lookup (nat_eq session) (taken slots)) ≡ option_map (λ (e : ℕ × T). e.1) (get_or (Some e ∷ slots) n d)))
      (nat_eq session e.0) (place_of session slots) place at
      (λ same. (omega arith, rw same refl))
      (λ apart p is. let rest = place-found session slots p d is in (omega (arith, rest.0), rw apart rest.1))

  -- and one without a place is not there
  pub place-missing : (session : ℕ) (slots : List (Option (ℕ × T))) → place_of session slots ≡ None → lookup (nat_eq session) (taken slots) ≡ None
  place-missing session [] at = refl
  place-missing session (None ∷ slots) at = place-missing session slots (missing (place_of session slots) at)
  place-missing session (Some e ∷ slots) at = by (nat_eq session e.0) at (place-missing session slots)
    where
      by : (test : Bool) → cond test (Some 0) (option_map suc (place_of session slots)) ≡ None → (place_of session slots ≡ None → lookup (nat_eq session) (taken slots) ≡ None)
          → cond test (Some e.1) (lookup (nat_eq session) (taken slots)) ≡ None
      by true at rest = absurd (cc)
      by false at rest = rest (missing (place_of session slots) at)

  pub place-is_some : (session : ℕ) (slots : List (Option (ℕ × T))) → is_some (place_of session slots) ≡ is_some (lookup (nat_eq session) (taken slots))
  place-is_some session [] = refl
  place-is_some session (None ∷ slots) = later-is_some (place_of session slots) ∙ place-is_some session slots
  place-is_some session (Some e ∷ slots) = by (nat_eq session e.0) (later-is_some (place_of session slots) ∙ place-is_some session slots)
    where
      by : (test : Bool) → is_some (option_map suc (place_of session slots)) ≡ is_some (lookup (nat_eq session) (taken slots))
          → is_some (cond test (Some 0) (option_map suc (place_of session slots))) ≡ is_some (cond test (Some e.1) (lookup (nat_eq session) (taken slots)))
      by true rest = refl
      by false rest = rest

  place-absent : (session : ℕ) (slots : List (Option (ℕ × T))) → is_some (lookup (nat_eq session) (taken slots)) ≡ false → place_of session slots ≡ None
  place-absent session slots absent = none-from (place_of session slots) (place-is_some session slots ∙ absent)

  -- the session of a slot has one
  place-there : (slots : List (Option (ℕ × T))) (n : ℕ) (d : Option (ℕ × T)) (e : ℕ × T) → n < length slots → get_or slots n d ≡ Some e → is_some (place_of e.0 slots) ≡ true
  place-there [] n d e within is = absurd (omega arith)
  place-there (None ∷ slots) zero d e within is = absurd (cc)
  place-there (None ∷ slots) (suc n) d e within is = later-is_some (place_of e.0 slots) ∙ place-there slots n d e (omega arith) is
  place-there (Some x ∷ slots) zero d e within is =
      let same : x ≡ e = cc in
      let one : nat_eq e.0 x.0 ≡ true = eq-eqb e.0 x.0 (ap (λ (y : ℕ × T). y.0) (sym same)) in
      rw one refl
  place-there (Some x ∷ slots) (suc n) d e within is = by (nat_eq e.0 x.0) (later-is_some (place_of e.0 slots) ∙ place-there slots n d e (omega arith) is)
    where
      by : (test : Bool) → is_some (option_map suc (place_of e.0 slots)) ≡ true → is_some (cond test (Some 0) (option_map suc (place_of e.0 slots))) ≡ true
      by true rest = refl
      by false rest = rest

  place-apart : (session : ℕ) (slots : List (Option (ℕ × T))) → AllByRecursion (λ y. nat_eq session y ≡ false) (keys_of (taken slots)) → place_of session slots ≡ None
  place-apart session [] apart = refl
  place-apart session (None ∷ slots) apart = ap (option_map suc) (place-apart session slots apart)
  place-apart session (Some e ∷ slots) apart = rw apart.0 (ap (option_map suc) (place-apart session slots apart.1))

  -- ---- after a session came

  pub place-pushed : (session other : ℕ) (value : T) (slots : List (Option (ℕ × T))) → is_some (lookup (nat_eq session) (taken slots)) ≡ false
      → place_of other (slots ++ Some (session, value) ∷ []) ≡ cond (nat_eq session other) (Some (length slots)) (place_of other slots)
  place-pushed session other value [] absent = rw (nat_eq_equiv.symm session other) refl
  place-pushed session other value (None ∷ slots) absent = ap (option_map suc) (place-pushed session other value slots absent) ∙ by (nat_eq session other)
    where
      by : (same : Bool) → option_map suc (cond same (Some (length slots)) (place_of other slots)) ≡ cond same (Some (suc (length slots))) (option_map suc (place_of other slots))
      by true = refl
      by false = refl
  place-pushed session other value (Some e ∷ slots) absent = by (nat_eq session e.0) refl absent (place-pushed session other value slots)
    where
      both : (same : Bool) → nat_eq session other ≡ same → (test : Bool) → nat_eq other e.0 ≡ test → nat_eq session e.0 ≡ false
          → cond test (Some 0) (option_map suc (cond same (Some (length slots)) (place_of other slots)))
          ≡ cond same (Some (suc (length slots))) (cond test (Some 0) (option_map suc (place_of other slots)))
      both true s true t apart = absurd (true≢false (sym t ∙ other-than session other e.0 s apart))
      both true s false t apart = refl
      both false s true t apart = refl
      both false s false t apart = refl

      by : (test : Bool) → nat_eq session e.0 ≡ test → is_some (cond test (Some e.1) (lookup (nat_eq session) (taken slots))) ≡ false
          → (is_some (lookup (nat_eq session) (taken slots)) ≡ false → place_of other (slots ++ Some (session, value) ∷ []) ≡ cond (nat_eq session other) (Some (length slots)) (place_of other slots))
          → cond (nat_eq other e.0) (Some 0) (option_map suc (place_of other (slots ++ Some (session, value) ∷ [])))
          ≡ cond (nat_eq session other) (Some (suc (length slots))) (cond (nat_eq other e.0) (Some 0) (option_map suc (place_of other slots)))
      by true is absent rest = absurd (true≢false absent)
      by false is absent rest =
          ap (λ (p : Option ℕ). cond (nat_eq other e.0) (Some 0) (option_map suc p)) (rest absent)
          ∙ both (nat_eq session other) refl (nat_eq other e.0) refl is

  -- an empty slot more
  pub place-blank : (other : ℕ) (slots : List (Option (ℕ × T))) → place_of other (slots ++ None ∷ []) ≡ place_of other slots
  place-blank other [] = refl
  place-blank other (None ∷ slots) = ap (option_map suc) (place-blank other slots)
  place-blank other (Some e ∷ slots) = ap (λ (p : Option ℕ). cond (nat_eq other e.0) (Some 0) (option_map suc p)) (place-blank other slots)

  -- ---- after a session went

  pub taken-emptied : (session : ℕ) (slots : List (Option (ℕ × T))) (place : ℕ) → place_of session slots ≡ Some place → taken (set slots place None) ≡ remove_entry (nat_eq session) (taken slots)
  taken-emptied session [] place at = absurd (cc)
  taken-emptied session (None ∷ slots) place at =
      later (λ n. taken (set (None ∷ slots) n None) ≡ remove_entry (nat_eq session) (taken slots)) (place_of session slots) place at (taken-emptied session slots)
  taken-emptied session (Some e ∷ slots) place at =
      either (λ n. taken (set (Some e ∷ slots) n None) ≡ cond (nat_eq session e.0) (taken slots) (e ∷ remove_entry (nat_eq session) (taken slots)))
      (nat_eq session e.0) (place_of session slots) place at
      (λ same. rw same refl)
      (λ apart p is. rw apart (ap (λ (l : List (ℕ × T)). e ∷ l) (taken-emptied session slots p is)))

  pub place-emptied : (session : ℕ) (slots : List (Option (ℕ × T))) (other : ℕ) → IsDistinct nat_eq (keys_of (taken slots)) → (place : ℕ) → place_of session slots ≡ Some place
      → place_of other (set slots place None) ≡ cond (nat_eq session other) None (place_of other slots)
  place-emptied session [] other once place at = absurd (cc)
  place-emptied session (None ∷ slots) other once place at =
      later (λ n. place_of other (set (None ∷ slots) n None) ≡ cond (nat_eq session other) None (option_map suc (place_of other slots)))
      (place_of session slots) place at
      (λ p is. ap (option_map suc) (place-emptied session slots other once p is) ∙ over (nat_eq session other))
    where
      over : (same : Bool) → option_map suc (cond same None (place_of other slots)) ≡ cond same None (option_map suc (place_of other slots))
      over true = refl
      over false = refl
  place-emptied session (Some e ∷ slots) other once place at =
      either (λ n. place_of other (set (Some e ∷ slots) n None) ≡ cond (nat_eq session other) None (cond (nat_eq other e.0) (Some 0) (option_map suc (place_of other slots))))
      (nat_eq session e.0) (place_of session slots) place at
      (here (nat_eq session other) refl (nat_eq other e.0) refl)
      (λ apart p is. ap (λ (q : Option ℕ). cond (nat_eq other e.0) (Some 0) (option_map suc q))
      (place-emptied session slots other (IsDistinct-tail nat_eq e.0 (keys_of (taken slots)) once) p is)
      ∙ after (nat_eq session other) refl (nat_eq other e.0) refl apart)
    where
      here : (same : Bool) → nat_eq session other ≡ same → (test : Bool) → nat_eq other e.0 ≡ test → nat_eq session e.0 ≡ true
          → option_map suc (place_of other slots) ≡ cond same None (cond test (Some 0) (option_map suc (place_of other slots)))
      here true s test t is =
          let one : session ≡ e.0 = eqb-true session e.0 is in
          let two : session ≡ other = eqb-true session other s in
          ap (option_map suc) (subst (λ (n : ℕ). place_of n slots ≡ None) (sym one ∙ two) (place-apart e.0 slots (IsDistinct-head nat_eq e.0 (keys_of (taken slots)) once)))
      here false s true t is =
          let one : session ≡ e.0 = eqb-true session e.0 is in
          let two : other ≡ e.0 = eqb-true other e.0 t in
          absurd (true≢false (sym (eq-eqb session other (one ∙ sym two)) ∙ s))
      here false s false t is = refl

      after : (same : Bool) → nat_eq session other ≡ same → (test : Bool) → nat_eq other e.0 ≡ test → nat_eq session e.0 ≡ false
          → cond test (Some 0) (option_map suc (cond same None (place_of other slots)))
          ≡ cond same None (cond test (Some 0) (option_map suc (place_of other slots)))
      after true s true t apart = absurd (true≢false (sym t ∙ other-than session other e.0 s apart))
      after true s false t apart = refl
      after false s true t apart = refl
      after false s false t apart = refl

  -- slots that hold nothing still hold nothing
  pub blank-emptied : (n : ℕ) (slots : List (Option (ℕ × T))) (place : ℕ) → taken (take n slots) ≡ [] → taken (take n (set slots place None)) ≡ []
  blank-emptied zero slots place blank = refl
  blank-emptied (suc n) [] place blank = blank
  blank-emptied (suc n) (None ∷ slots) zero blank = blank
  blank-emptied (suc n) (None ∷ slots) (suc place) blank = blank-emptied n slots place blank
  blank-emptied (suc n) (Some e ∷ slots) place blank = absurd (cc)

  -- one slot more that holds nothing
  pub blank-more : (n : ℕ) (slots : List (Option (ℕ × T))) (d : Option (ℕ × T)) → n < length slots → get_or slots n d ≡ None → taken (take n slots) ≡ [] → taken (take (n + 1) slots) ≡ []
  blank-more n slots d within is blank =
      ap taken (take_more slots n d within) ∙ taken-append (take n slots) (get_or slots n d ∷ [])
      ∙ ap (λ (l : List (ℕ × T)). l ++ taken (get_or slots n d ∷ [])) blank ∙ ap (λ (s : Option (ℕ × T)). taken (s ∷ [])) is

  -- ---- each session once

  apart-left : (session : ℕ) (test : ℕ → Bool) (es : List (ℕ × T)) → AllByRecursion (λ y. nat_eq session y ≡ false) (keys_of es) → AllByRecursion (λ y. nat_eq session y ≡ false) (keys_of (remove_entry test es))
  apart-left session test [] apart = tt
  apart-left session test (e ∷ es) apart = by (test e.0) (apart-left session test es apart.1)
    where
      by : (b : Bool) → AllByRecursion (λ y. nat_eq session y ≡ false) (keys_of (remove_entry test es)) → AllByRecursion (λ y. nat_eq session y ≡ false) (keys_of (cond b es (e ∷ remove_entry test es)))
      by true rest = apart.1
      by false rest = (apart.0, rest)

  pub once-left : (test : ℕ → Bool) (es : List (ℕ × T)) → IsDistinct nat_eq (keys_of es) → IsDistinct nat_eq (keys_of (remove_entry test es))
  once-left test [] once = once
  once-left test (e ∷ es) once = by (test e.0) (once-left test es (IsDistinct-tail nat_eq e.0 (keys_of es) once))
    where
      by : (b : Bool) → IsDistinct nat_eq (keys_of (remove_entry test es)) → IsDistinct nat_eq (keys_of (cond b es (e ∷ remove_entry test es)))
      by true rest = IsDistinct-tail nat_eq e.0 (keys_of es) once
      by false rest = IsDistinct-cons nat_eq e.0 (keys_of (remove_entry test es)) (apart-left e.0 test es (IsDistinct-head nat_eq e.0 (keys_of es) once)) rest

  keys-push : (es : List (ℕ × T)) (e : ℕ × T) → keys_of (es ++ e ∷ []) ≡ keys_of es ++ e.0 ∷ []
  keys-push [] e = refl
  keys-push (x ∷ es) e = ap (λ (l : List ℕ). x.0 ∷ l) (keys-push es e)

  pub once-pushed : (session : ℕ) (value : T) (es : List (ℕ × T)) → IsDistinct nat_eq (keys_of es) → is_some (lookup (nat_eq session) es) ≡ false → IsDistinct nat_eq (keys_of (es ++ (session, value) ∷ []))
  once-pushed session value es once absent =
      subst (λ (l : List ℕ). IsDistinct nat_eq l) (sym (keys-push es (session, value)))
      (IsDistinct-push nat_eq_equiv (keys_of es) session once (sym (is_some-lookup (nat_eq session) es) ∙ absent))

  -- a session is not among those before it
  among : (session : ℕ) (xs ys : List (ℕ × T)) (e : ℕ × T) → AllByRecursion (λ y. nat_eq session y ≡ false) (keys_of (xs ++ e ∷ ys)) → nat_eq session e.0 ≡ false
  among session [] ys e apart = apart.0
  among session (x ∷ xs) ys e apart = among session xs ys e apart.1

  once-before : (xs ys : List (ℕ × T)) (e : ℕ × T) → IsDistinct nat_eq (keys_of (xs ++ e ∷ ys)) → is_some (lookup (nat_eq e.0) xs) ≡ false
  once-before [] ys e once = refl
  once-before (x ∷ xs) ys e once =
      let apart : nat_eq x.0 e.0 ≡ false = among x.0 xs ys e (IsDistinct-head nat_eq x.0 (keys_of (xs ++ e ∷ ys)) once) in
      let other : nat_eq e.0 x.0 ≡ false = nat_eq_equiv.symm e.0 x.0 ∙ apart in
      rw other (once-before xs ys e (IsDistinct-tail nat_eq x.0 (keys_of (xs ++ e ∷ ys)) once))

  -- ---- the slots one after another

  taken-next : (slots : List (Option (ℕ × T))) (n : ℕ) (d : Option (ℕ × T)) → n < length slots → taken slots ≡ taken (take n slots) ++ taken (get_or slots n d ∷ drop (n + 1) slots)
  taken-next slots n d within =
      ap taken (sym (take-append-drop n slots)) ∙ taken-append (take n slots) (drop n slots) ∙ ap (λ (s : List (Option (ℕ × T))). taken (take n slots) ++ taken s) (drop_more slots n d within)

  module _ (slots : List (Option (ℕ × T))) (n : ℕ) (d : Option (ℕ × T)) (within : n < length slots) (e : ℕ × T) (is : get_or slots n d ≡ Some e) where
    at-next : taken slots ≡ taken (take n slots) ++ e ∷ taken (drop (n + 1) slots)
    at-next = taken-next slots n d within ∙ ap (λ (s : Option (ℕ × T)). taken (take n slots) ++ taken (s ∷ drop (n + 1) slots)) is

    pub next-absent : IsDistinct nat_eq (keys_of (taken slots)) → is_some (lookup (nat_eq e.0) (taken (take n slots))) ≡ false
    next-absent once = once-before (taken (take n slots)) (taken (drop (n + 1) slots)) e (subst (λ (l : List (ℕ × T)). IsDistinct nat_eq (keys_of l)) at-next once)

    pub next-place : (q : ℕ) → IsDistinct nat_eq (keys_of (taken slots)) → place_of q (take (n + 1) slots) ≡ cond (nat_eq e.0 q) (Some n) (place_of q (take n slots))
    next-place q once =
        ap (place_of q) (take_more slots n d within) ∙ ap (λ (s : Option (ℕ × T)). place_of q (take n slots ++ s ∷ [])) is
        ∙ place-pushed e.0 q e.1 (take n slots) (next-absent once)
        ∙ ap (λ (l : ℕ). cond (nat_eq e.0 q) (Some l) (place_of q (take n slots))) (length-take-le n slots (omega arith))

  -- no entry goes if none passes
  pub missing-stays : (test : ℕ → Bool) (es : List (ℕ × T)) → lookup test es ≡ None → remove_entry test es ≡ es
  missing-stays test [] none = refl
  missing-stays test (e ∷ es) none = by (test e.0) none (missing-stays test es)
    where
      by : (b : Bool) → cond b (Some e.1) (lookup test es) ≡ None → (lookup test es ≡ None → remove_entry test es ≡ es) → cond b es (e ∷ remove_entry test es) ≡ e ∷ es
      by true none rest = absurd (cc)
      by false none rest = ap (λ (l : List (ℕ × T)). e ∷ l) (rest none)

  -- the entry that goes is the session's one
  others-stay : (session : ℕ) (es : List (ℕ × T)) → AllByRecursion (λ y. nat_eq session y ≡ false) (keys_of es) → without_entry session es ≡ es
  others-stay session [] apart = refl
  others-stay session (e ∷ es) apart =
      let other : (e.0 == session) ≡ false = sym (nat_eq_equiv.symm session e.0) ∙ apart.0 in
      rw other (ap (λ (l : List (ℕ × T)). e ∷ l) (others-stay session es apart.1))

  pub one-left : (session : ℕ) (es : List (ℕ × T)) → IsDistinct nat_eq (keys_of es) → remove_entry (nat_eq session) es ≡ without_entry session es
  one-left session [] once = refl
  one-left session (e ∷ es) once = by (nat_eq session e.0) refl (one-left session es (IsDistinct-tail nat_eq e.0 (keys_of es) once))
    where
      by : (test : Bool) → nat_eq session e.0 ≡ test → remove_entry (nat_eq session) es ≡ without_entry session es → cond test es (e ∷ remove_entry (nat_eq session) es) ≡ without_entry session (e ∷ es)
      by true is rest =
          let same : (e.0 == session) ≡ true = sym (nat_eq_equiv.symm session e.0) ∙ is in
          let one : e.0 ≡ session = sym (eqb-true session e.0 is) in
          rw same (sym (others-stay session es (subst (λ (n : ℕ). AllByRecursion (λ y. nat_eq n y ≡ false) (keys_of es)) one (IsDistinct-head nat_eq e.0 (keys_of es) once))))
      by false is rest =
          let other : (e.0 == session) ≡ false = sym (nat_eq_equiv.symm session e.0) ∙ is in
          rw other (ap (λ (l : List (ℕ × T)). e ∷ l) rest)

  -- an entry less
  length-left : (test : ℕ → Bool) (es : List (ℕ × T)) → is_some (lookup test es) ≡ true → length (remove_entry test es) + 1 ≡ length es
  length-left test [] there = absurd (true≢false (sym there))
  length-left test (e ∷ es) there = by (test e.0) there (length-left test es)
    where
      by : (b : Bool) → is_some (cond b (Some e.1) (lookup test es)) ≡ true → (is_some (lookup test es) ≡ true → length (remove_entry test es) + 1 ≡ length es)
          → length (cond b es (e ∷ remove_entry test es)) + 1 ≡ suc (length es)
      by true there rest = omega arith
      by false there rest = omega (arith, rest there)

  -- ---- the slots with the map

  module _ {S : Type 0} where
    pub numbered-none : (slots : List (Option (ℕ × T))) (places : HashMap ℕ ℕ S) → AreNumbered slots 0 places places
    numbered-none slots places = record { placed = λ session. refl; len = refl; room = refl }

    module _ (slots : List (Option (ℕ × T))) (n : ℕ) (d : Option (ℕ × T)) (before places : HashMap ℕ ℕ S) (so_far : AreNumbered slots n before places) (within : n < length slots) where
      -- the next slot is empty
      pub numbered-blank : get_or slots n d ≡ None → AreNumbered slots (n + 1) before places
      numbered-blank is =
          let same : take (n + 1) slots ≡ take n slots ++ None ∷ [] = take_more slots n d within ∙ ap (λ (s : Option (ℕ × T)). take n slots ++ s ∷ []) is in
          record {
            placed = λ session. so_far.placed session ∙ ap (λ (p : Option ℕ). or_place p (get nat_eq before session)) (sym (ap (place_of session) same ∙ place-blank session (take n slots)));
            len = so_far.len;
            room = so_far.room;
          }

      -- or taken: its session has a place
      module _ (e : ℕ × T) (is : get_or slots n d ≡ Some e) (once : IsDistinct nat_eq (keys_of (taken slots))) (there : HasEach before slots) where
        numbered-there : is_some (get nat_eq places e.0) ≡ true
        numbered-there =
            let none : place_of e.0 (take n slots) ≡ None = place-absent e.0 (take n slots) (next-absent slots n d within e is once) in
            ap is_some (so_far.placed e.0 ∙ ap (λ (p : Option ℕ). or_place p (get nat_eq before e.0)) none) ∙ there e.0 ∙ place-there slots n d e within is

        over : (same : Bool) (p q : Option ℕ) → cond same (Some n) (or_place p q) ≡ or_place (cond same (Some n) p) q
        over true p q = refl
        over false p q = refl

        pub numbered-next : (next : HashMap ℕ ℕ S) → (IsSome (get nat_eq places e.0) → Updates nat_eq places next e.0 (Some n)) → hash_map_len next ≡ hash_map_len places → spare next ≡ spare places → AreNumbered slots (n + 1) before next
        numbered-next next noted len room =
            record {
              placed = λ session. (noted numbered-there).0 session ∙ ap (cond (nat_eq e.0 session) (Some n)) (so_far.placed session)
                  ∙ over (nat_eq e.0 session) (place_of session (take n slots)) (get nat_eq before session)
                  ∙ ap (λ (p : Option ℕ). or_place p (get nat_eq before session)) (sym (next-place slots n d within e is session once));
              len = len ∙ so_far.len;
              room = room ∙ so_far.room;
            }

    -- and all are
    pub numbered-all : (slots : List (Option (ℕ × T))) (n : ℕ) (before places : HashMap ℕ ℕ S) → AreNumbered slots n before places → take n slots ≡ slots → HasEach before slots → ArePlaced places slots
    numbered-all slots n before places numbered all there session =
        numbered.placed session ∙ ap (λ (l : List (Option (ℕ × T))). or_place (place_of session l) (get nat_eq before session)) all ∙ by (place_of session slots) (there session)
      where
        by : (place : Option ℕ) → is_some (get nat_eq before session) ≡ is_some place → or_place place (get nat_eq before session) ≡ place
        by None has = none-from (get nat_eq before session) has
        by (Some p) has = refl

    module _ (slots : List (Option (ℕ × T))) (places : HashMap ℕ ℕ S) (first : ℕ) (was : IsQueued slots places first) where
      pub queued-value : (session place : ℕ) (d : Option (ℕ × T)) → get nat_eq places session ≡ Some place
          → (place < length slots) × (lookup (nat_eq session) (taken slots) ≡ option_map (λ (e : ℕ × T). e.1) (get_or slots place d))
      queued-value session place d at = place-found session slots place d (sym (was.placed session) ∙ at)

      pub queued-missing : (session : ℕ) → get nat_eq places session ≡ None → lookup (nat_eq session) (taken slots) ≡ None
      queued-missing session at = place-missing session slots (sym (was.placed session) ∙ at)

      -- a session comes
      pub queued-pushed : (next : HashMap ℕ ℕ S) (session : ℕ) (value : T) (old : Option ℕ) → is_some (lookup (nat_eq session) (taken slots)) ≡ false
          → old ≡ get nat_eq places session → Updates nat_eq places next session (Some (length slots)) → hash_map_len next ≡ hash_map_len places + (if is_some old then 0 else 1)
          → IsQueued (slots ++ Some (session, value) ∷ []) next first
      queued-pushed next session value old absent had updates len =
          let none : old ≡ None = had ∙ was.placed session ∙ place-absent session slots absent in
          let more : hash_map_len next ≡ hash_map_len places + 1 = rw none at len in
          let held = taken-append slots (Some (session, value) ∷ []) in
          let longer : length (taken (slots ++ Some (session, value) ∷ [])) ≡ length (taken slots) + 1 = ap length held ∙ length-append (taken slots) ((session, value) ∷ []) in
          let counted = was.counted in
          let within = was.within in
          record {
            placed = λ other. updates.0 other ∙ ap (cond (nat_eq session other) (Some (length slots))) (was.placed other) ∙ sym (place-pushed session other value slots absent);
            counted = omega arith;
            once = subst (λ (l : List (ℕ × T)). IsDistinct nat_eq (keys_of l)) (sym held) (once-pushed session value (taken slots) was.once absent);
            blank = ap taken (take-append-le first slots (Some (session, value) ∷ []) within) ∙ was.blank;
            within = omega (arith, length-append slots (Some (session, value) ∷ []));
          }

      -- or goes
      module _ (next : HashMap ℕ ℕ S) (session place : ℕ) (at : get nat_eq places session ≡ Some place) where
        pub left-entries : taken (set slots place None) ≡ remove_entry (nat_eq session) (taken slots)
        left-entries = taken-emptied session slots place (sym (was.placed session) ∙ at)

        pub left-once : IsDistinct nat_eq (keys_of (taken (set slots place None)))
        left-once = subst (λ (l : List (ℕ × T)). IsDistinct nat_eq (keys_of l)) (sym left-entries) (once-left (nat_eq session) (taken slots) was.once)

        pub queued-left : (from : ℕ) → Updates nat_eq places next session None → hash_map_len next + 1 ≡ hash_map_len places
            → taken (take from (set slots place None)) ≡ [] → from ≤ length (set slots place None) → IsQueued (set slots place None) next from
        queued-left from updates len blank within =
            let there : is_some (lookup (nat_eq session) (taken slots)) ≡ true = sym (place-is_some session slots) ∙ ap is_some (sym (was.placed session) ∙ at) in
            let fewer : length (remove_entry (nat_eq session) (taken slots)) + 1 ≡ length (taken slots) = length-left (nat_eq session) (taken slots) there in
            let held : length (taken (set slots place None)) ≡ length (remove_entry (nat_eq session) (taken slots)) = ap length left-entries in
            let counted = was.counted in
            record {
              placed = λ other. updates.0 other ∙ ap (cond (nat_eq session other) None) (was.placed other) ∙ sym (place-emptied session slots other was.once place (sym (was.placed session) ∙ at));
              counted = omega arith;
              once = left-once;
              blank = blank;
              within = within;
            }

    -- the slots are closed up
    pub closed-there : (slots closed : List (Option (ℕ × T))) (places : HashMap ℕ ℕ S) (first : ℕ) → IsQueued slots places first → taken closed ≡ taken slots → HasEach places closed
    closed-there slots closed places first was same session =
        ap is_some (was.placed session) ∙ place-is_some session slots ∙ ap (λ (l : List (ℕ × T)). is_some (lookup (nat_eq session) l)) (sym same) ∙ sym (place-is_some session closed)

    pub queued-closed : (slots closed : List (Option (ℕ × T))) (places next : HashMap ℕ ℕ S) (first : ℕ) → IsQueued slots places first → taken closed ≡ taken slots
        → ArePlaced next closed → hash_map_len next ≡ length (taken closed) → IsQueued closed next 0
    queued-closed slots closed places next first was same placed counted =
        record {
          placed = placed;
          counted = counted;
          once = subst (λ (l : List (ℕ × T)). IsDistinct nat_eq (keys_of l)) (sym same) was.once;
          blank = refl;
          within = omega arith;
        }
