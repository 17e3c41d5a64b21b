-- What the line of a part may begin with.
use Rattle.std.proofs.Common.{◌≡◌, ◌≢◌, ℕ, ◌^◌, ◌<◌, ◌≤◌, ◌⊎◌, inl, inr, zero, suc, pos, negsuc, List, [], ◌∷◌, ◌++◌}
use Rattle.std.proofs.Common.{length, get_or, replicate, refl, sym, ap, ◌∙◌, subst, arith, length-append, append-nil}
use Rattle.std.specs.Prelude.{Bool, false, true, ◌↔◌, IsTrue, Option, None, Some, IfNone, IfSome, is_some, decimal}
use Rattle.std.specs.Str.Parse.{AllDigits, digits_value, digits_value_after}
use Rattle.std.proofs.lemmas.Fmt.{decimal-digits_value, decimal_digit, decimal_is_IsNumeral, first_decimal}
use Rattle.std.proofs.lemmas.List.{length-replicate}
use Rattle.std.proofs.lemmas.Str.Parse.{IsNumeralModel, numerals_by_value, tells_digits}
use Rattle.sr_bytes.proofs.DecimalLemmas.{digits_value_after-append, digits_value_after-ge}
use Rattle.sr_peer.specs.declared.line.Header.{Header}
use Rattle.sr_peer.specs.declared.line.Header.TheVariants as headers
use Rattle.sr_peer.specs.Reply.{Part, Simple, Error, Int, Bulk, NullBulk, NullArray, Array, IsOneLine, IsText}
use Rattle.sr_peer.specs.Reply.{IsSpellable}
use Rattle.sr_peer.specs.Shown.{part_of}
use Rattle.sr_peer.specs.steps.OneSpelling.{mark, line}
use Rattle.sr_peer.specs.steps.Lines.{HasForm, Says, SaysNothing, BeginsLine, BeginsNumber}

-- ---- the front of a number without leading zeros is one too

AllDigits-front : (xs ys : List ℕ) → AllDigits 10 (xs ++ ys) → AllDigits 10 xs
AllDigits-front [] ys each = tt
AllDigits-front (x ∷ xs) ys each = (each.0, AllDigits-front xs ys each.1)

numerals : IsNumeralModel (AllDigits 10) (digits_value 10)
numerals = numerals_by_value (AllDigits 10) tells_digits

-- digits after a first 0 are none
zero-alone : (n : ℕ) (x : ℕ) (xs ys : List ℕ) → n < 2 ^ 64 → decimal n ≡ (x ∷ xs) ++ ys → x ≡ 48 → length (x ∷ xs) ≡ 1
zero-alone n x xs ys small e zeros =
    let first : get_or (decimal n) 0 0 ≡ 48 = ap (λ (ds : List ℕ). get_or ds 0 0) e ∙ zeros in
    let none : n ≡ 0 = zero-is n small first in
    let one : length (decimal n) ≡ 1 = ap (λ (k : ℕ). length (decimal k)) none
    ∙ ap length (decimal_digit 0 (omega arith)) in
    omega (arith, one, ap length e, length-append (x ∷ xs) ys)
  where
    zero-is : (n : ℕ) → n < 2 ^ 64 → get_or (decimal n) 0 0 ≡ 48 → n ≡ 0
    zero-is zero small e = refl
    zero-is (suc n) small e = absurd (omega (arith, e, first_decimal (suc n) (omega arith) small))

pub decimal-front : (n : ℕ) (xs ys : List ℕ) → n < 2 ^ 64 → decimal n ≡ xs ++ ys → xs ≢ []
    → (k : ℕ) × (k ≤ n) × (decimal k ≡ xs)
decimal-front n [] ys small e some = absurd (some refl)
decimal-front n (x ∷ xs) ys small e some =
    let numeral = decimal_is_IsNumeral n small in
    let each : AllDigits 10 ((x ∷ xs) ++ ys) = subst (AllDigits 10) e numeral.0.1 in
    let value : digits_value 10 ((x ∷ xs) ++ ys) ≡ n = subst (λ (ds : List ℕ). digits_value 10 ds ≡ n) e numeral.1 in
    let k = digits_value 10 (x ∷ xs) in
    let joined : digits_value 10 ((x ∷ xs) ++ ys) ≡ digits_value_after 10 k ys =
    digits_value_after-append 0 (x ∷ xs) ys in
    let le : k ≤ n = omega (arith, joined, value, digits_value_after-ge k ys) in (
      k,
      le,
      decimal-digits_value numerals (x ∷ xs) (AllDigits-front (x ∷ xs) ys each) (omega arith)
          (zero-alone n x xs ys small e) (omega (arith, le)),
    )

-- ---- the front of a text of one line is one too

IsOneLine-front : (xs ys : List ℕ) → IsOneLine (xs ++ ys) → IsOneLine xs
IsOneLine-front [] ys each = tt
IsOneLine-front (x ∷ xs) ys each = (each.0, IsOneLine-front xs ys each.1)

IsText-front : (xs ys : List ℕ) → IsText (xs ++ ys) → IsText xs
IsText-front xs ys is = record {
  one = IsOneLine-front xs ys is.one;
  short = omega (arith, is.short, length-append xs ys);
}

pub replicated : (n : ℕ) → length {A = ℕ} (replicate n 0) ≡ n
replicated n = let byte : ℕ = 0 in length-replicate n byte

-- ---- so the front of a line is that of another part, or no more than a sign

-- a part with this mark and this line
abbrev pub HasOther : ℕ → List ℕ → Type 0
HasOther sign text = (part : Part) × HasForm sign text part

number-front : (sign : ℕ) (text more : List ℕ) → (sign ≡ 58) ⊎ (sign ≡ 36) ⊎ (sign ≡ 42) → (n : ℕ) → n < 2 ^ 64
    → decimal n ≡ text ++ more → ((k : ℕ) → k ≤ n → decimal k ≡ text → HasOther sign text)
    → BeginsNumber sign text ⊎ HasOther sign text
number-front sign [] more marked n small e other = inl (marked, inl refl)
number-front sign (b ∷ text) more marked n small e other =
    let k = decimal-front n (b ∷ text) more small e (λ none. absurd (cc none)) in
    inr (other k.0 k.1 k.2)

null-front : (sign : ℕ) (text more : List ℕ) → (sign ≡ 58) ⊎ (sign ≡ 36) ⊎ (sign ≡ 42) → 45 ∷ 49 ∷ [] ≡ text ++ more
    → (45 ∷ 49 ∷ [] ≡ text → HasOther sign text) → BeginsNumber sign text ⊎ HasOther sign text
null-front sign [] more marked e other = inl (marked, inl refl)
null-front sign (b ∷ []) more marked e other =
    let first : b ∷ [] ≡ 45 ∷ [] = cc e in
    inl (marked, inr first)
null-front sign (b ∷ c ∷ []) more marked e other =
    let both : 45 ∷ 49 ∷ [] ≡ b ∷ c ∷ [] = cc e in
    inr (other both)
null-front sign (b ∷ c ∷ d ∷ text) more marked e other = absurd (cc e)

-- after a minus sign
minus-front : (text more : List ℕ) (n : ℕ) → n < 2 ^ 63 → decimal (suc n) ≡ text ++ more
    → BeginsNumber 58 (45 ∷ text) ⊎ HasOther 58 (45 ∷ text)
minus-front [] more n small e = inl (inl refl, inr refl)
minus-front (b ∷ text) more n small e =
    let k = decimal-front (suc n) (b ∷ text) more (omega arith) e (λ none. absurd (cc none)) in
    inr (by k.0 k.1 k.2)
  where
    by : (k : ℕ) → k ≤ suc n → decimal k ≡ b ∷ text → HasOther 58 (45 ∷ b ∷ text)
    by zero le is =
        let zeros : b ≡ 48 = cc (sym is ∙ decimal_digit 0 (omega arith)) in
        let first : get_or (decimal (suc n)) 0 0 ≡ b = ap (λ (ds : List ℕ). get_or ds 0 0) e in
        absurd (omega (arith, first, zeros, first_decimal (suc n) (omega arith) (omega arith)))
    by (suc k) le is =
        (Int (negsuc k), record { marked = refl; lined = ap (λ (t : List ℕ). 45 ∷ t) is; fits = omega arith })

pub line-front : (part : Part) (text more : List ℕ) → IsSpellable part → line part ≡ text ++ more
    → BeginsNumber (mark part) text ⊎ HasOther (mark part) text
line-front (Simple all) text more fits e =
    inr (Simple text, record { marked = refl; lined = refl; fits = IsText-front text more (subst IsText e fits) })
line-front (Error all) text more fits e =
    inr (Error text, record { marked = refl; lined = refl; fits = IsText-front text more (subst IsText e fits) })
line-front (Int (pos n)) text more fits e =
    number-front 58 text more (inl refl) n (omega (arith, fits)) e
    (λ k le is. (Int (pos k), record { marked = refl; lined = is; fits = omega (arith, fits) }))
line-front (Int (negsuc n)) [] more fits e = inl (inl refl, inl refl)
line-front (Int (negsuc n)) (b ∷ text) more fits e =
    let minus : 45 ≡ b = cc e in
    let rest : decimal (suc n) ≡ text ++ more = cc e in
    subst (λ (c : ℕ). BeginsNumber 58 (c ∷ text) ⊎ HasOther 58 (c ∷ text)) minus (minus-front text more n fits rest)
line-front (Bulk bytes) text more fits e =
    number-front 36 text more (inr (inl refl)) (length bytes) fits e
    (λ k le is. (
      Bulk (replicate k 0),
      record {
        marked = refl;
        lined = ap decimal (replicated k) ∙ is;
        fits = omega (arith, fits, replicated k);
      },
    ))
line-front NullBulk text more fits e =
    null-front 36 text more (inr (inl refl)) e (λ is. (NullBulk, record { marked = refl; lined = is; fits = tt }))
line-front NullArray text more fits e =
    null-front 42 text more (inr (inr refl)) e (λ is. (NullArray, record { marked = refl; lined = is; fits = tt }))
line-front (Array items) text more fits e =
    number-front 42 text more (inr (inr refl)) items fits e
    (λ k le is. (Array k, record { marked = refl; lined = is; fits = omega (arith, fits) }))

-- ---- a line that says something is that of a part

pub said-part : (sign : ℕ) (text : List ℕ) (header : Header) → Says sign text header → HasOther sign text
said-part sign text (headers.Part part) says = (part_of part, says.0)
said-part sign text (headers.Length len) says = (
  Bulk (replicate len 0),
  record {
    marked = sym says.0;
    lined = ap decimal (replicated len) ∙ says.1;
    fits = omega (arith, says.2, replicated len);
  },
)

pub other-begins : (sign : ℕ) (text : List ℕ) → HasOther sign text → BeginsLine sign text
other-begins sign text other = record {
  more = [];
  part = other.0;
  form = subst (λ (t : List ℕ). HasForm sign t other.0) (sym (append-nil text)) other.1;
}

pub some-begins : (sign : ℕ) (text : List ℕ) (o : Option Header) → IfSome o (Says sign text) → is_some o ≡ true
    → BeginsLine sign text
some-begins sign text None says e = absurd (cc e)
some-begins sign text (Some header) says e = other-begins sign text (said-part sign text header says)

-- the part with one of the marks of numbers that is -1 or null
minus-one : (sign : ℕ) → (sign ≡ 58) ⊎ (sign ≡ 36) ⊎ (sign ≡ 42) → HasOther sign (45 ∷ 49 ∷ [])
minus-one sign (inl integer) = (
  Int (negsuc 0),
  record {
    marked = sym integer;
    lined = ap (λ (t : List ℕ). 45 ∷ t) (decimal_digit 1 (omega arith));
    fits = omega arith;
  },
)
minus-one sign (inr (inl string)) = (NullBulk, record { marked = sym string; lined = refl; fits = tt })
minus-one sign (inr (inr array)) = (NullArray, record { marked = sym array; lined = refl; fits = tt })

number-begins : (sign : ℕ) (text : List ℕ) → BeginsNumber sign text → BeginsLine sign text
number-begins sign text (marked, inl none) =
    let one = minus-one sign marked in
    record {
      more = 45 ∷ 49 ∷ [];
      part = one.0;
      form = subst (λ (t : List ℕ). HasForm sign (t ++ 45 ∷ 49 ∷ []) one.0) (sym none) one.1;
    }
number-begins sign text (marked, inr minus) =
    let one = minus-one sign marked in
    record {
      more = 49 ∷ [];
      part = one.0;
      form = subst (λ (t : List ℕ). HasForm sign (t ++ 49 ∷ []) one.0) (sym minus) one.1;
    }

begins-number : (sign : ℕ) (text : List ℕ) → SaysNothing sign text → BeginsLine sign text → BeginsNumber sign text
begins-number sign text nothing begins =
    by (subst (λ (m : ℕ). BeginsNumber m text ⊎ HasOther m text) begins.form.marked
    (line-front begins.part text begins.more begins.form.fits begins.form.lined))
  where
    by : BeginsNumber sign text ⊎ HasOther sign text → BeginsNumber sign text
    by (inl number) = number
    by (inr other) = absurd (nothing other.0 other.1)

pub none-begins : (sign : ℕ) (text : List ℕ) (o : Option Header) (test : Bool) → IfNone o (SaysNothing sign text)
    → is_some o ≡ false → IsTrue test ↔ BeginsNumber sign text → IsTrue test ↔ BeginsLine sign text
none-begins sign text (Some header) test nothing e same = absurd (cc e)
none-begins sign text None test nothing e same =
    (λ yes. number-begins sign text (same.0 yes), λ begins. same.1 (begins-number sign text nothing begins))
