-- One step of what Reading reads, on lists alone.
use Rattle.std.proofs.Common.{◌≡◌, ℕ, ◌+◌, ◌*◌, ◌<◌, ◌≤◌, ◌⊎◌, inl, inr, List, ◌∷◌, length, get_or, drop, Ok, Err, codes, refl, sym, ap, ◌∙◌, arith, nat_lt, nat_le}
use Rattle.std.proofs.lemmas.Bool.{cases_eq, lt-ltb, le-ltb, eq-eqb, ne_eqb, le-leb, lt-leb, and_right}
use Rattle.std.proofs.lemmas.List.{drop_more}
use Rattle.std.specs.Char.{digit_value}
use Rattle.sr_resp.specs.Reply.{line_end}
use Rattle.sr_resp.specs.Reading.{Bad, ◌>>=◌, literal_at, digits_at}

-- the byte k at a place of the bytes
pub record IsAt (bytes : List ℕ) (place k : ℕ) : Type 0 where
  pub within : place < length bytes
  pub is : k ≡ get_or bytes place 0

pub at_place : (bytes : List ℕ) (place k : ℕ) → IsAt bytes place k → drop place bytes ≡ k ∷ drop (place + 1) bytes
at_place bytes place k at = let within = at.within in drop_more bytes place 0 within ∙ ap (λ (b : ℕ). b ∷ drop (place + 1) bytes) (sym at.is)

-- ---- digits

-- a digit that may stand there
pub step_digit : (most count value b : ℕ) (bytes : List ℕ) → digit_value b < 10 → count < 10 → value * 10 + digit_value b ≤ most
    → digits_at most count value (b ∷ bytes) ≡ digits_at most (count + 1) (value * 10 + digit_value b) bytes
unfolding digits_at
step_digit most count value b bytes digit few small = rw (lt-ltb (digit_value b) 10 digit, lt-ltb count 10 few, le-leb (value * 10 + digit_value b) most small) refl

-- a digit too many, or too large a number
pub step_too_many : (most count value b : ℕ) (bytes : List ℕ) → digit_value b < 10 → (10 ≤ count) ⊎ (most < value * 10 + digit_value b)
    → digits_at most count value (b ∷ bytes) ≡ Err Bad
unfolding digits_at
step_too_many most count value b bytes digit (inl many) = rw (lt-ltb (digit_value b) 10 digit, le-ltb count 10 many) refl
step_too_many most count value b bytes digit (inr large) =
    rw (lt-ltb (digit_value b) 10 digit, and_right (nat_lt count 10) (nat_le (value * 10 + digit_value b) most) (lt-leb (value * 10 + digit_value b) most large)) refl

-- no digit at all
pub step_none : (most count value b : ℕ) (bytes : List ℕ) → 10 ≤ digit_value b → count ≡ 0 → digits_at most count value (b ∷ bytes) ≡ Err Bad
unfolding digits_at
step_none most count value b bytes other none = rw (le-ltb (digit_value b) 10 other, eq-eqb count 0 none) refl

-- the byte behind the digits
pub step_end : (most count value b : ℕ) (bytes : List ℕ) → 10 ≤ digit_value b → (count ≡ 0 → ⊥)
    → digits_at most count value (b ∷ bytes) ≡ (literal_at line_end (b ∷ bytes) >>= λ x. Ok (value, x.1))
unfolding digits_at
step_end most count value b bytes other some = rw (le-ltb (digit_value b) 10 other, ne_eqb count 0 some) refl

-- the carriage return behind the digits, and any other byte
pub step_return : (most count value b : ℕ) (bytes : List ℕ) → 10 ≤ digit_value b → b ≡ 13 → 0 < count
    → digits_at most count value (b ∷ bytes) ≡ (literal_at (codes "\n") bytes >>= λ x. Ok (value, x.1))
step_return most count value b bytes other is some =
    step_end most count value b bytes other (λ none. omega arith) ∙ rw is refl

pub step_other : (most count value b : ℕ) (bytes : List ℕ) → 10 ≤ digit_value b → (b ≡ 13 → ⊥) → digits_at most count value (b ∷ bytes) ≡ Err Bad
unfolding digits_at
step_other most count value b bytes other is_not =
    elim (cases_eq count 0) [
      | inl none ↦ step_none most count value b bytes other none
      | inr some ↦ step_end most count value b bytes other some ∙ rw (ne_eqb b 13 is_not) refl
    ]
