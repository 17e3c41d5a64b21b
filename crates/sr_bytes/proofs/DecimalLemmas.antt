-- Digits one after another: what a front of them says of all of them, and what they are written for.
use Rattle.std.proofs.Common.{◌≡◌, ℕ, ◌+◌, ◌*◌, ◌^◌, ◌<◌, ◌≤◌, suc, zero, List, [], ◌∷◌, ◌++◌, length, get_or, take, drop, refl, sym, ap, ◌∙◌, inl, inr, arith}
use Rattle.std.specs.Prelude.{decimal}
use Rattle.std.proofs.lemmas.Bool.{cases_lt}
use Rattle.std.proofs.lemmas.Fmt.{decimal_is_IsNumeral, decimal_nonempty, length-decimal-le}
use Rattle.std.proofs.lemmas.List.{take-append-drop}
use Rattle.std.specs.Char.{digit_value}
use Rattle.std.specs.Str.Parse.{AllDigits, digits_value, digits_value_after}
use Rattle.sr_bytes.specs.Decimal.{IsDecimal}

pub AllDigits-at : (ds : List ℕ) (i : ℕ) → AllDigits 10 ds → i < length ds → digit_value (get_or ds i 0) < 10
AllDigits-at [] i h lt = absurd (omega arith)
AllDigits-at (d ∷ ds) zero h lt = h.0
AllDigits-at (d ∷ ds) (suc i) h lt = AllDigits-at ds i h.1 (omega arith)

pub digits_value_after-append : (n : ℕ) (xs ys : List ℕ) → digits_value_after 10 n (xs ++ ys) ≡ digits_value_after 10 (digits_value_after 10 n xs) ys
digits_value_after-append n [] ys = refl
digits_value_after-append n (x ∷ xs) ys = digits_value_after-append (n * 10 + digit_value x) xs ys

pub digits_value_after-ge : (n : ℕ) (ds : List ℕ) → n ≤ digits_value_after 10 n ds
digits_value_after-ge n [] = omega arith
digits_value_after-ge n (d ∷ ds) = omega (arith, digits_value_after-ge (n * 10 + digit_value d) ds)

-- the digits read so far make no more than all of them
pub digits_value-take-le : (i : ℕ) (ds : List ℕ) → digits_value 10 (take i ds) ≤ digits_value 10 ds
digits_value-take-le i ds =
    let joined : digits_value 10 (take i ds ++ drop i ds) ≡ digits_value_after 10 (digits_value 10 (take i ds)) (drop i ds) = digits_value_after-append 0 (take i ds) (drop i ds) in
    let whole : digits_value 10 (take i ds ++ drop i ds) ≡ digits_value 10 ds = ap (digits_value 10) (take-append-drop i ds) in
    omega (arith, joined, whole, digits_value_after-ge (digits_value 10 (take i ds)) (drop i ds))

-- digits write one number, however many there may be
pub IsDecimal-one : {most more m n : ℕ} {ds : List ℕ} → IsDecimal most ds m → IsDecimal more ds n → m ≡ n
IsDecimal-one a b = sym a.value ∙ b.value

-- the digits that a number of 64 bits is written with
pub IsDecimal-decimal : (n : ℕ) → n < 2 ^ 64 → IsDecimal 20 (decimal n) n
IsDecimal-decimal n small =
    let numeral = decimal_is_IsNumeral n small in
    record {
      some = decimal_nonempty n small;
      few = length-decimal-le 20 n (omega arith) (omega arith) small;
      each = numeral.0.1;
      value = numeral.1;
    }

-- a byte that is no digit stands only behind the digits
pub AllDigits-not_at : (ds : List ℕ) (i c : ℕ) → AllDigits 10 ds → 10 ≤ digit_value c → get_or ds i 0 ≡ c → length ds ≤ i
AllDigits-not_at ds i c h none at =
    elim (cases_lt i (length ds)) [ inl lt ↦ absurd (omega (arith, AllDigits-at ds i h lt, ap digit_value at)) | inr le ↦ le ]

-- digits before the same byte, which is no digit, are the same digits
pub AllDigits-before : (c : ℕ) (xs ys us vs : List ℕ) → 10 ≤ digit_value c → AllDigits 10 xs → AllDigits 10 us → xs ++ c ∷ ys ≡ us ++ c ∷ vs → (xs ≡ us) × (ys ≡ vs)
AllDigits-before c [] ys [] vs none p q e = (refl, cc)
AllDigits-before c [] ys (u ∷ us) vs none p q e = let same : c ≡ u = cc in absurd (omega (arith, q.0, ap digit_value same))
AllDigits-before c (x ∷ xs) ys [] vs none p q e = let same : x ≡ c = cc in absurd (omega (arith, p.0, ap digit_value same))
AllDigits-before c (x ∷ xs) ys (u ∷ us) vs none p q e =
    let rest = AllDigits-before c xs ys us vs none p.1 q.1 cc in
    let same : x ≡ u = cc in
    (cc, rest.1)
