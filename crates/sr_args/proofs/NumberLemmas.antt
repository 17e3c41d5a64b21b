-- Numbers among the words of a command: how the code reads them, and that no word is read to two.
use Rattle.std.proofs.Common.{◌≡◌, ℕ, ◌<◌, ◌^◌, List, ◌∷◌, ◌++◌, codes, Option, Some, None, IfSome, IfNone, Result, Ok, Err, ℤ, pos, neg_ℤ, ◌-ℤ◌, sym, ap, ◌∙◌, arith, w64, FitsSigned}
use Rattle.std.specs.Option.{SomeIff}
use Rattle.std.specs.Result.{OkIff, result_ok}
use Rattle.std.proofs.lemmas.Int.{ints}
use Rattle.std.specs.Str.Parse.{AllDigits}
use Rattle.sr_bytes.specs.{IsDecimal}
use Rattle.sr_bytes.proofs.DecimalLemmas.{IsDecimal-one}
use Rattle.sr_args.specs.Number.{IsInt, IsNat}
use Rattle.sr_args.specs.Number.IsInt.{positive, negative}

pub IsInt-from_negative : (word digits : List ℕ) (n : ℕ) (read : Option ℤ) → word ≡ 45 ∷ digits → IsDecimal 19 digits n → SomeIff read (FitsSigned w64 (pos 0 -ℤ pos n)) (pos 0 -ℤ pos n) → IfSome read (IsInt word)
IsInt-from_negative word digits n None e d h = tt
IsInt-from_negative word digits n (Some z) e d h = let fits = h.0 in negative digits n e d (omega (arith, ints)) (omega (arith, ints, h.1))

pub IsInt-from_positive : {E : Type 0} (word : List ℕ) (n : ℕ) (read : Result ℤ E) → IsDecimal 19 word n → OkIff read (FitsSigned w64 (pos n)) (pos n) → IfSome (result_ok read) (IsInt word)
IsInt-from_positive word n (Ok z) d h = let fits = h.0 in positive n d (omega (arith, ints)) (omega (arith, ints, h.1))
IsInt-from_positive word n (Err e) d h = tt

-- digits do not begin with a dash
IsDecimal-no_dash : (word digits : List ℕ) (n : ℕ) → word ≡ codes "-" ++ digits → IsDecimal 19 word n → ⊥
IsDecimal-no_dash word digits n e d = let dash : AllDigits 10 (45 ∷ digits) = rw e at d.each in omega (arith, dash.0)

pub IsInt-one : (word : List ℕ) (x y : ℤ) → IsInt word x → IsInt word y → x ≡ y
IsInt-one word x y (positive m d _ e) (positive n f _ g) = e ∙ ap pos (IsDecimal-one d f) ∙ sym g
IsInt-one word x y (positive m d _ e) (negative digits n w f _ g) = absurd (IsDecimal-no_dash word digits m w d)
IsInt-one word x y (negative digits m w d _ e) (positive n f _ g) = absurd (IsDecimal-no_dash word digits n w f)
IsInt-one word x y (negative ds m v d _ e) (negative es n w f _ g) =
    let behind : ds ≡ es = cc (v, w) in
    let same : m ≡ n = IsDecimal-one (rw behind at d) f in
    e ∙ ap (λ (k : ℕ). neg_ℤ (pos k)) same ∙ sym g

pub IsNat-one : (word : List ℕ) (m n : ℕ) → IsNat word m → IsNat word n → m ≡ n
IsNat-one word m n p q = let same = IsInt-one word (pos m) (pos n) p q in omega (arith, ints)

-- a word that writes no number: too many digits or too few, after a dash or without one
outside : (word digits : List ℕ) (n : ℕ) → word ≡ 45 ∷ digits → IsDecimal 19 digits n → (FitsSigned w64 (pos 0 -ℤ pos n) → ⊥) → (z : ℤ) → IsInt word z → ⊥
outside word digits n e d unfit z (positive m f _ _) = IsDecimal-no_dash word digits m e f
outside word digits n e d unfit z (negative ds m w f le _) =
    let behind : ds ≡ digits = cc (e, w) in
    let same : m ≡ n = IsDecimal-one (rw behind at f) d in
    unfit (omega (arith, ints))

pub IsInt-none_negative : (word digits : List ℕ) (n : ℕ) (read : Option ℤ) → word ≡ 45 ∷ digits → IsDecimal 19 digits n → SomeIff read (FitsSigned w64 (pos 0 -ℤ pos n)) (pos 0 -ℤ pos n) → IfNone read ((z : ℤ) → IsInt word z → ⊥)
IsInt-none_negative word digits n None e d h = outside word digits n e d h
IsInt-none_negative word digits n (Some z) e d h = tt

above : (word : List ℕ) (n : ℕ) → IsDecimal 19 word n → (FitsSigned w64 (pos n) → ⊥) → (z : ℤ) → IsInt word z → ⊥
above word n d unfit z (positive m f lt _) = let same : m ≡ n = IsDecimal-one f d in unfit (omega (arith, ints))
above word n d unfit z (negative ds m w f _ _) = IsDecimal-no_dash word ds n w d

pub IsInt-none_positive : {E : Type 0} (word : List ℕ) (n : ℕ) (read : Result ℤ E) → IsDecimal 19 word n → OkIff read (FitsSigned w64 (pos n)) (pos n) → IfNone (result_ok read) ((z : ℤ) → IsInt word z → ⊥)
IsInt-none_positive word n (Ok z) d h = tt
IsInt-none_positive word n (Err e) d h = above word n d h

pub IsInt-no_digits : (word digits : List ℕ) → word ≡ 45 ∷ digits → ((n : ℕ) → n < 2 ^ 64 → IsDecimal 19 digits n → ⊥) → (z : ℤ) → IsInt word z → ⊥
IsInt-no_digits word digits e none z (positive m f _ _) = IsDecimal-no_dash word digits m e f
IsInt-no_digits word digits e none z (negative ds m w f le _) = let behind : ds ≡ digits = cc (e, w) in none m (omega arith) (rw behind at f)
