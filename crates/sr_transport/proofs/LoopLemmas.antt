-- What a loop that looks at each number below a bound knows.
use Rattle.std.proofs.Common.{◌≡◌, ℕ, ◌+◌, ◌<◌, ◌≤◌, ◌↔◌, Bool, true, false, inl, inr, refl, subst, sym, ◌∙◌, arith}
use Rattle.std.specs.Prelude.{IsTrue}
use Rattle.std.proofs.lemmas.Bool.{true≢false, cases_lt}

-- the numbers so far, and the next
pub each_next : (P : ℕ → Type 0) (n : ℕ) → ((k : ℕ) → k < n → P k) → P n → (k : ℕ) → k < n + 1 → P k
each_next P n all here k lt =
    elim (cases_lt k n) [
      | inl below ↦ all k below
      | inr past ↦ let same : n ≡ k = omega arith in subst P same here
    ]

-- one that fails
pub not_each : (P : ℕ → Type 0) (n k : ℕ) (test : Bool) → k < n → (IsTrue test ↔ P k) → test ≡ false
    → (IsTrue false ↔ ((i : ℕ) → i < n → P i))
not_each P n k test lt exact fails = (
  λ yes. absurd (true≢false (sym yes)),
  λ all. absurd (true≢false (sym (exact.1 (all k lt)) ∙ fails)),
)

-- none that fails
pub each : (P : ℕ → Type 0) (m n : ℕ) → n ≤ m → ((k : ℕ) → k < m → P k) → (IsTrue true ↔ ((i : ℕ) → i < n → P i))
each P m n le all = (λ yes k lt. all k (omega arith), λ h. refl)
