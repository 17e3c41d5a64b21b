-- A scan looks at the front of what is pending, and goes no farther than to the one with which enough are taken.
use Rattle.std.proofs.Common.{◌≡◌, ◌⊎◌, inl, inr, ℕ, zero, suc, ◌+◌, ◌*◌, ◌<◌, ◌≤◌, cond, Bool, true, false, List, [], ◌∷◌, ◌++◌, length, take, drop, refl, ap, sym, ◌∙◌, append_assoc, append-nil, length-append, count_by, arith}
use Rattle.std.proofs.lemmas.List.{length-take, take-append-drop}
use Rattle.std.proofs.lemmas.List.Sums.{sum_by-cons}
use Rattle.sr_entries.specs.declared.entry.Entry.{Entry}
use Rattle.sr_pending.specs.declared.nack.Nack.{Nack}
use Rattle.sr_group.specs.declared.claim.Claim.{Claim}
use Rattle.sr_group.specs.Claim.{IsScanned, is_taken, scanned, up_to_taken}

-- a front is all, or as long as was asked for
cut : (n : ℕ) (nacks : List Nack) → (drop n nacks ≡ []) ⊎ (length (take n nacks) ≡ n)
cut zero nacks = inr refl
cut (suc n) [] = inl refl
cut (suc n) (nack ∷ nacks) = by (cut n nacks)
  where
    by : (drop n nacks ≡ []) ⊎ (length (take n nacks) ≡ n) → (drop (suc n) (nack ∷ nacks) ≡ []) ⊎ (length (take (suc n) (nack ∷ nacks)) ≡ suc n)
    by (inl none) = inl none
    by (inr full) = inr (ap suc full)

short : (n : ℕ) (nacks looked rest : List Nack) → take n nacks ≡ looked ++ rest → length looked ≤ n
short n nacks looked rest front =
    let cut_is = length-take n nacks in
    let parts : length (take n nacks) ≡ length looked + length rest = ap length front ∙ length-append looked rest in
    omega (arith, cut_is, parts)

module _ (claim : Claim) (claimer : List ℕ) (moment : ℕ) (entries : List Entry) where
  abbrev takes : Nack → Bool
  takes = is_taken claim claimer moment entries

  count-next : (nack : Nack) (nacks : List Nack) → count_by takes (nack ∷ nacks) ≡ cond (takes nack) 1 0 + count_by takes nacks
  count-next nack nacks = sum_by-cons (λ n. cond (takes n) 1 0) nack nacks

  -- what is looked at for this many, whatever the limit
  record IsUpTo (n : ℕ) (nacks looked : List Nack) : Type 0 where
    pub rest : List Nack
    pub front : nacks ≡ looked ++ rest
    pub wanted : count_by takes looked ≤ n
    pub far : (rest ≡ []) ⊎ (count_by takes looked ≡ n)
    pub no_farther : (before after : List Nack) → looked ≡ before ++ after → (after ≡ [] → ⊥) → count_by takes before < n

  no_front : (before after : List Nack) → [] ≡ before ++ after → after ≡ []
  no_front [] after e = sym e
  no_front (b ∷ before) after e = cc

  no_farther-next : (n left : ℕ) (nack : Nack) (looked : List Nack) → n ≡ cond (takes nack) 1 0 + left → 0 < n
      → ((before after : List Nack) → looked ≡ before ++ after → (after ≡ [] → ⊥) → count_by takes before < left)
      → (before after : List Nack) → nack ∷ looked ≡ before ++ after → (after ≡ [] → ⊥) → count_by takes before < n
  no_farther-next n left nack looked is some no_farther [] after e more = some
  no_farther-next n left nack looked is some no_farther (b ∷ before) after e more =
      let head : nack ≡ b = cc in
      let tail : looked ≡ before ++ after = cc in
      let less = no_farther before after tail more in
      rw (sym head) (rw (count-next nack before) (omega (arith, is, less)))

  far-next : (n left : ℕ) (nack : Nack) (looked rest : List Nack) → n ≡ cond (takes nack) 1 0 + left → (rest ≡ []) ⊎ (count_by takes looked ≡ left) → (rest ≡ []) ⊎ (count_by takes (nack ∷ looked) ≡ n)
  far-next n left nack looked rest is (inl ended) = inl ended
  far-next n left nack looked rest is (inr all) = inr (count-next nack looked ∙ ap (λ (k : ℕ). cond (takes nack) 1 0 + k) all ∙ sym is)

  IsUpTo-next : (n left : ℕ) (nack : Nack) (nacks looked : List Nack) → n ≡ cond (takes nack) 1 0 + left → 0 < n → IsUpTo left nacks looked → IsUpTo n (nack ∷ nacks) (nack ∷ looked)
  IsUpTo-next n left nack nacks looked is some u = record {
    rest = u.rest;
    front = ap (λ (l : List Nack). nack ∷ l) u.front;
    wanted = rw (count-next nack looked) (omega (arith, is, u.wanted));
    far = far-next n left nack looked u.rest is u.far;
    no_farther = no_farther-next n left nack looked is some u.no_farther;
  }

  up_to_taken-right : (n : ℕ) (nacks : List Nack) → IsUpTo n nacks (up_to_taken claim claimer moment entries n nacks)
  up_to_taken-right zero nacks = record {
    rest = nacks;
    front = refl;
    wanted = omega arith;
    far = inr refl;
    no_farther = λ before after e more. absurd (more (no_front before after e));
  }
  up_to_taken-right (suc n) [] = record {
    rest = [];
    front = refl;
    wanted = omega arith;
    far = inl refl;
    no_farther = λ before after e more. absurd (more (no_front before after e));
  }
  up_to_taken-right (suc n) (nack ∷ nacks) = by (takes nack) refl (up_to_taken-right n nacks) (up_to_taken-right (suc n) nacks)
    where
      up : ℕ → List Nack
      up left = up_to_taken claim claimer moment entries left nacks

      by : (taken : Bool) → takes nack ≡ taken → IsUpTo n nacks (up n) → IsUpTo (suc n) nacks (up (suc n)) → IsUpTo (suc n) (nack ∷ nacks) (nack ∷ up (cond (takes nack) n (suc n)))
      by true e less same = rw e (IsUpTo-next (suc n) n nack nacks (up n) (rw e (omega arith)) (omega arith) less)
      by false e less same = rw e (IsUpTo-next (suc n) (suc n) nack nacks (up (suc n)) (rw e (omega arith)) (omega arith) same)

  far-scanned : (count : ℕ) (nacks looked rest : List Nack) → take (10 * count) nacks ≡ looked ++ rest → (rest ≡ []) ⊎ (count_by takes looked ≡ count)
      → (rest ++ drop (10 * count) nacks ≡ []) ⊎ ((length looked ≡ 10 * count) ⊎ (count_by takes looked ≡ count))
  far-scanned count nacks looked rest front (inr all) = inr (inr all)
  far-scanned count nacks looked rest front (inl ended) =
      let all : looked ≡ take (10 * count) nacks = sym (front ∙ ap (λ (l : List Nack). looked ++ l) ended ∙ append-nil looked) in
      by all (cut (10 * count) nacks)
    where
      by : looked ≡ take (10 * count) nacks → (drop (10 * count) nacks ≡ []) ⊎ (length (take (10 * count) nacks) ≡ 10 * count)
          → (rest ++ drop (10 * count) nacks ≡ []) ⊎ ((length looked ≡ 10 * count) ⊎ (count_by takes looked ≡ count))
      by all (inl none) = inl (rw (ended, none) refl)
      by all (inr full) = inr (inl (ap length all ∙ full))

  pub scanned-right : (count : ℕ) (nacks : List Nack) → IsScanned claim claimer moment entries count nacks (scanned claim claimer moment entries count nacks)
  scanned-right count nacks =
      let u = up_to_taken-right count (take (10 * count) nacks) in
      record {
        rest = u.rest ++ drop (10 * count) nacks;
        front = sym (take-append-drop (10 * count) nacks) ∙ ap (λ (l : List Nack). l ++ drop (10 * count) nacks) u.front ∙ append_assoc _ u.rest (drop (10 * count) nacks);
        few = short (10 * count) nacks _ u.rest u.front;
        wanted = u.wanted;
        far = far-scanned count nacks _ u.rest u.front u.far;
        no_farther = u.no_farther;
      }
