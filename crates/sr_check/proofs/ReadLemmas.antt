-- The parts at the front of a text: what is there is there in one way.
use Rattle.std.proofs.Common.{◌≡◌, ℕ, ◌^◌, ◌<◌, pos, List, [], ◌∷◌, ◌++◌, decimal, length, refl, sym, ap, ◌∙◌, arith}
use Rattle.sr_resp.specs.{Bulk}
use Rattle.sr_resp.specs.Reply.{Part, Int, Array, part_text}
use Rattle.sr_resp.specs.steps.Decoding.{IsLine, HasLine, HasPart}
use Rattle.sr_resp.specs.steps.OneSpelling.{IsAbove, IsAbove-line, part_text-lines, one_part}
use Rattle.sr_resp.proofs.DecodingLemmas.{HasForm-part}
use Rattle.sr_check.specs.steps.Read.{HasNumber}

-- ---- a number in a line

tail-of : (a b : ℕ) (x y : List ℕ) → a ∷ x ≡ b ∷ y → x ≡ y
tail-of a b x y e = cc e

head-of : (a b : ℕ) (x y : List ℕ) → a ∷ x ≡ b ∷ y → a ≡ b
head-of a b x y e = cc e

pub HasNumber-marked : (text : List ℕ) (first sign n : ℕ) (after : List ℕ) → HasNumber (first ∷ text) sign n after
    → first ≡ sign
HasNumber-marked text first sign n after has = head-of first sign text (decimal n ++ 13 ∷ 10 ∷ after) has.whole

pub HasNumber-none : (sign n : ℕ) (after : List ℕ) → HasNumber [] sign n after → ⊥
HasNumber-none sign n after has = absurd (cc has.whole)

pub HasNumber-header : (text : List ℕ) (first sign n : ℕ) (after : List ℕ) → HasNumber (first ∷ text) sign n after
    → HasPart (42 ∷ text) (Array n) after
HasNumber-header text first sign n after has =
    let rest : text ≡ decimal n ++ 13 ∷ 10 ∷ after = tail-of first sign text (decimal n ++ 13 ∷ 10 ∷ after) has.whole in
    record {
      whole = ap (λ (t : List ℕ). 42 ∷ t) rest ∙ sym (part_text-lines (Array n) after);
      fits = has.small;
    }

-- the bytes of a line that is written are above those of its end
IsLine-above : (bytes : List ℕ) → IsAbove 13 bytes → IsLine bytes
IsLine-above [] above = tt
IsLine-above (b ∷ bytes) above = (λ e. omega (arith, above.0), IsLine-above bytes above.1)

pub HasNumber-line : (text : List ℕ) (first sign n : ℕ) (after : List ℕ) → HasNumber (first ∷ text) sign n after
    → HasLine text (decimal n) after
HasNumber-line text first sign n after has = record {
  whole = tail-of first sign text (decimal n ++ 13 ∷ 10 ∷ after) has.whole;
  one = IsLine-above (decimal n) (IsAbove-line (Array n) has.small);
}

pub HasNumber-digits : (text front rest : List ℕ) (first sign n : ℕ) (after : List ℕ) → HasLine text front rest
    → HasNumber (first ∷ text) sign n after → decimal n ≡ front
HasNumber-digits text front rest first sign n after is has =
    (HasForm-part text 42 front rest (Array n) after is (HasNumber-header text first sign n after has)).lined

pub HasNumber-from_line : (text front rest : List ℕ) (first sign n : ℕ) → first ≡ sign → HasLine text front rest
    → decimal n ≡ front → n < 2 ^ 64 → HasNumber (first ∷ text) sign n rest
HasNumber-from_line text front rest first sign n marked is digits small =
    let body : text ≡ decimal n ++ 13 ∷ 10 ∷ rest = is.whole ∙ ap (λ (t : List ℕ). t ++ 13 ∷ 10 ∷ rest) (sym digits) in
    record {
      whole = ap (λ (b : ℕ). b ∷ text) marked ∙ ap (λ (t : List ℕ). sign ∷ t) body;
      small = small;
    }

-- ---- parts

pub HasPart-header : (text : List ℕ) (n : ℕ) (after : List ℕ) → HasNumber text 42 n after → HasPart text (Array n) after
HasPart-header text n after has = record { whole = has.whole ∙ sym (part_text-lines (Array n) after); fits = has.small }

pub HasNumber-of_header : (text : List ℕ) (n : ℕ) (after : List ℕ) → HasPart text (Array n) after
    → HasNumber text 42 n after
HasNumber-of_header text n after has = record { whole = has.whole ∙ part_text-lines (Array n) after; small = has.fits }

pub HasPart-integer : (text : List ℕ) (n : ℕ) (after : List ℕ) → HasNumber text 58 n after → n < 2 ^ 63
    → HasPart text (Int (pos n)) after
HasPart-integer text n after has small =
    record { whole = has.whole ∙ sym (part_text-lines (Int (pos n)) after); fits = small }

pub HasNumber-of_integer : (text : List ℕ) (n : ℕ) (after : List ℕ) → HasPart text (Int (pos n)) after
    → HasNumber text 58 n after
HasNumber-of_integer text n after has = record {
  whole = has.whole ∙ part_text-lines (Int (pos n)) after;
  small = omega (
    arith,
    has.fits,
  );
}

pub HasPart-bulk : (text string after rest : List ℕ) (n : ℕ) → HasNumber text 36 n rest → length string ≡ n
    → rest ≡ string ++ 13 ∷ 10 ∷ after → HasPart text (Bulk string) after
HasPart-bulk text string after rest n has len e =
    let shape : 36 ∷ (decimal n ++ 13 ∷ 10 ∷ rest)
    ≡ 36 ∷ (decimal (length string) ++ 13 ∷ 10 ∷ (string ++ 13 ∷ 10 ∷ after)) =
    ap (λ (m : ℕ). 36 ∷ (decimal m ++ 13 ∷ 10 ∷ rest)) (sym len)
    ∙ ap (λ (t : List ℕ). 36 ∷ (decimal (length string) ++ 13 ∷ 10 ∷ t)) e in
    record { whole = has.whole ∙ shape ∙ sym (part_text-lines (Bulk string) after); fits = rw len has.small }

pub HasNumber-of_bulk : (text string after : List ℕ) → HasPart text (Bulk string) after
    → HasNumber text 36 (length string) (string ++ 13 ∷ 10 ∷ after)
HasNumber-of_bulk text string after has =
    record { whole = has.whole ∙ part_text-lines (Bulk string) after; small = has.fits }

-- a number is there in one way
number_to_header : (text : List ℕ) (sign n : ℕ) (after : List ℕ) → HasNumber text sign n after
    → HasPart (part_text (Array n) ++ after) (Array n) after
number_to_header text sign n after has = record { whole = refl; fits = has.small }

pub HasNumber-one : (text : List ℕ) (sign m n : ℕ) (x y : List ℕ) → HasNumber text sign m x → HasNumber text sign n y
    → (m ≡ n) × (x ≡ y)
HasNumber-one text sign m n x y a b =
    let bodies : decimal m ++ 13 ∷ 10 ∷ x ≡ decimal n ++ 13 ∷ 10 ∷ y =
    tail-of sign sign (decimal m ++ 13 ∷ 10 ∷ x) (decimal n ++ 13 ∷ 10 ∷ y) (sym a.whole ∙ b.whole) in
    let headers : part_text (Array m) ++ x ≡ part_text (Array n) ++ y =
    part_text-lines (Array m) x ∙ ap (λ (t : List ℕ). 42 ∷ t) bodies ∙ sym (part_text-lines (Array n) y) in
    let same = one_part (Array m) (Array n) x y a.small b.small headers in
    (cc same.0, same.1)

pub HasPart-one : (text : List ℕ) (p q : Part) (x y : List ℕ) → HasPart text p x → HasPart text q y → (p ≡ q) × (x ≡ y)
HasPart-one text p q x y a b = one_part p q x y a.fits b.fits (sym a.whole ∙ b.whole)

-- a bulk string whose length was read
pub no_bulk : (text rest string after : List ℕ) (n : ℕ) → HasNumber text 36 n rest
    → ((string after : List ℕ) → length string ≡ n → rest ≡ string ++ 13 ∷ 10 ∷ after → ⊥)
    → HasPart text (Bulk string) after → ⊥
no_bulk text rest string after n has none is =
    let same = HasNumber-one text 36 (length string) n (string ++ 13 ∷ 10 ∷ after) rest
    (HasNumber-of_bulk text string after is) has in
    none string after same.0 (sym same.1)
