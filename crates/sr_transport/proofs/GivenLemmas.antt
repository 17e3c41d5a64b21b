-- How many entries each consumer was given so far, while the entries of an assignment are gone through.
use Rattle.std.proofs.Common.{◌≡◌, ℕ, ◌+◌, ◌<◌, ◌≤◌, ◌^◌, ◌==◌, List, length, get_or, set, take, replicate, sym, ap}
use Rattle.std.proofs.Common.{◌∙◌, inl, inr, arith}
use Rattle.std.proofs.lemmas.Bool.{cases_eq}
use Rattle.std.proofs.lemmas.List.{length-set, length-take, length-replicate, get_or-set_same, get_or-set_other}
use Rattle.std.proofs.lemmas.List.{get_or-replicate}
use Rattle.std.proofs.lemmas.List.Sums.{count_by-le-length}
use Rattle.sr_transport.specs.Limits.{most_consumers, most_entries}
use Rattle.sr_transport.specs.Problem.{Tiered}
use Rattle.sr_transport.specs.Assignment.{load, tier_for, tier_of}
use Rattle.sr_transport.proofs.TierLemmas.{load-more_own, load-more_other}

-- of the first k entries, each consumer was given as many as go to it
pub record IsGiven (p : Tiered) (xs given : List ℕ) (k : ℕ) : Type 0 where
  pub sized : length given ≡ most_consumers
  pub each : (c : ℕ) → c < p.takers → get_or given c 0 ≡ load (take k xs) c

pub given_none : (p : Tiered) (xs : List ℕ) → p.takers ≤ most_consumers → IsGiven p xs (replicate most_consumers 0) 0
given_none p xs few = record {
  sized = length-replicate {A = ℕ} most_consumers 0;
  each = λ c lt. get_or-replicate {A = ℕ} most_consumers c 0 0 (omega arith);
}

pub given_few : (p : Tiered) (xs given : List ℕ) (k c : ℕ) → IsGiven p xs given k → length xs ≤ most_entries
    → c < p.takers
    → get_or given c 0 < 2 ^ 63
given_few p xs given k c is few lt =
    omega (arith, is.each c lt, count_by-le-length (λ x. x == c) (take k xs), length-take k xs)

-- the tier of the next entry
pub given_tier : (p : Tiered) (xs given : List ℕ) (k had tier : ℕ) → IsGiven p xs given k → get_or xs k 0 < p.takers
    → had ≡ get_or given (get_or xs k 0) 0 → tier ≡ tier_for p (get_or xs k 0) had → tier ≡ tier_of p xs k
given_tier p xs given k had tier is lt held here =
    here ∙ ap (tier_for p (get_or xs k 0)) (held ∙ is.each (get_or xs k 0) lt)

-- one entry more
pub given_more : (p : Tiered) (xs given new : List ℕ) (k : ℕ) → IsGiven p xs given k → k < length xs
    → get_or xs k 0 < length given
    → new ≡ set given (get_or xs k 0) (get_or given (get_or xs k 0) 0 + 1) → IsGiven p xs new (k + 1)
given_more p xs given new k is lt within more =
    let x = get_or xs k 0 in
    let next = get_or given x 0 + 1 in
    record {
      sized = ap length more ∙ length-set given x next ∙ is.sized;
      each = λ c taker. ap (λ l. get_or l c 0) more ∙ elim (cases_eq x c) [
        | inl own ↦
            let same : get_or (set given x next) c 0 ≡ next =
            ap (λ i. get_or (set given x next) i 0) (sym own) ∙ get_or-set_same given x next 0 within in
            let before : get_or given x 0 ≡ load (take k xs) c = ap (λ i. get_or given i 0) own ∙ is.each c taker in
            omega (arith, same, before, load-more_own xs k c lt own)
        | inr other ↦
            get_or-set_other given x c next 0 (λ e. other (sym e)) ∙ is.each c taker
            ∙ sym (load-more_other xs k c lt other)
      ];
    }
