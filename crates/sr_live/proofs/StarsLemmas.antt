-- Names with a star: what one more name adds to the longest that stands for a consumer.
use Rattle.std.proofs.Common.{◌≡◌, ◌⊎◌, ℕ, ◌+◌, ◌<◌, ◌≤◌, List, [], ◌∷◌, ◌++◌, length, get_or, map, Option, Some, None, arith}
use Rattle.std.proofs.Common.{Bor, inl, inr, refl, sym, ap, ◌∙◌, subst}
use Rattle.std.proofs.lemmas.Bool.{cases_order}
use Rattle.std.proofs.lemmas.List.{append_cancel_right, get_or-map}
use Rattle.sr_policy.specs.{Text}
use Rattle.sr_live.specs.Stars.{IsFor, IsLongest, StandsFor, key_at}

module _ (keys : List Text) (consumer : Text) where
  -- what holds of each number below another one, and of that, holds of each that is not above it
  below : (P : ℕ → Type 0) (at : ℕ) → ((k : ℕ) → k < at → P k) → P at → (k : ℕ) → k < at + 1 → P k
  below P at before here k under = elim (cases_order k at) [
    | inr (inl less) ↦ before k less
    | inl same ↦ subst P (sym same) here
    | inr (inr more) ↦ absurd (omega (arith, under, more))
  ]

  -- this name does not stand for the consumer
  pub longest-kept : (at : ℕ) (found : Option ℕ) → (StandsFor (key_at keys at) consumer → ⊥)
      → IsLongest keys consumer at found → IsLongest keys consumer (at + 1) found
  longest-kept at None lacks before =
      below (λ k. StandsFor (key_at keys k) consumer → ⊥) at before lacks
  longest-kept at (Some found) lacks (less, stands, longest) = (
    omega (arith, less),
    stands,
    below (λ k. StandsFor (key_at keys k) consumer → length (key_at keys k) ≤ length (key_at keys found)) at longest
        (λ so. absurd (lacks so)),
  )

  -- it does, and is no longer than the one before
  pub longest-before : (at found : ℕ) → length (key_at keys at) ≤ length (key_at keys found)
      → IsLongest keys consumer at (Some found) → IsLongest keys consumer (at + 1) (Some found)
  longest-before at found short (less, stands, longest) = (
    omega (arith, less),
    stands,
    below (λ k. StandsFor (key_at keys k) consumer → length (key_at keys k) ≤ length (key_at keys found)) at longest
        (λ so. short),
  )

  -- it does, and none before it
  pub longest-first : (at : ℕ) → StandsFor (key_at keys at) consumer → IsLongest keys consumer at None
      → IsLongest keys consumer (at + 1) (Some at)
  longest-first at stands none = (
    omega arith,
    stands,
    below (λ k. StandsFor (key_at keys k) consumer → length (key_at keys k) ≤ length (key_at keys at)) at
        (λ k under so. absurd (none k under so)) (λ so. omega arith),
  )

  -- it does, and is longer than the one before
  pub longest-now : (at found : ℕ) → StandsFor (key_at keys at) consumer
      → length (key_at keys found) < length (key_at keys at) → IsLongest keys consumer at (Some found)
      → IsLongest keys consumer (at + 1) (Some at)
  longest-now at found now long (less, stands, longest) = (
    omega arith,
    now,
    below (λ k. StandsFor (key_at keys k) consumer → length (key_at keys k) ≤ length (key_at keys at)) at
        (λ k under so.
        let most = longest k under so in
        omega (arith, most, long)) (λ so. omega arith),
  )

  -- it is not the consumer's own
  pub none-next : (at : ℕ) → ((k : ℕ) → k < at → key_at keys k ≡ consumer → ⊥) → (key_at keys at ≡ consumer → ⊥)
      → (k : ℕ) → k < at + 1 → key_at keys k ≡ consumer → ⊥
  none-next at before here = below (λ k. key_at keys k ≡ consumer → ⊥) at before here

-- what is before the star
pub start-is : (key one other : List ℕ) → key ≡ one ++ 42 ∷ [] → key ≡ other ++ 42 ∷ [] → one ≡ other
start-is key one other first second = append_cancel_right one other (42 ∷ []) (sym first ∙ second)

-- the bytes of each name
abbrev pub texts : List (Bor (List ℕ)) → List Text
texts keys = map (λ (key : Bor (List ℕ)). key.now) keys

-- what is read behind the last name
abbrev pub no_name : Bor (List ℕ)
no_name = record { ref_ptr = (0, 0); now = [] }

pub text-at : (keys : List (Bor (List ℕ))) (at : ℕ) → at < length keys
    → key_at (texts keys) at ≡ (get_or keys at no_name).now
text-at keys at under = get_or-map (λ (key : Bor (List ℕ)). key.now) keys at no_name [] under

-- all names were looked at
pub for-from : (keys : List Text) (consumer : Text) (at : ℕ) (found : Option ℕ) → at ≡ length keys
    → ((k : ℕ) → k < at → key_at keys k ≡ consumer → ⊥) → IsLongest keys consumer at found → IsFor keys consumer found
for-from keys consumer at None all none longest = (
  subst (λ (n : ℕ). (k : ℕ) → k < n → key_at keys k ≡ consumer → ⊥) all none,
  subst (λ (n : ℕ). IsLongest keys consumer n None) all longest,
)
for-from keys consumer at (Some found) all none longest = (
  subst (λ (n : ℕ). found < n) all longest.0,
  inr (
    subst (λ (n : ℕ). (k : ℕ) → k < n → key_at keys k ≡ consumer → ⊥) all none,
    subst (λ (n : ℕ). IsLongest keys consumer n (Some found)) all longest,
  ),
)
