-- The fields that a run of bytes is known to pack.
use Rattle.std.proofs.Common.{◌≡◌, ℕ, ◌*◌, ◌<◌, ◌≤◌, ◌^◌, Bool, true, false, ltb, List, [], ◌∷◌, ◌++◌, length, drop, get_or, Result, Ok, Err, refl, sym, ap, subst, ◌∙◌, arith, append_assoc, append-nil, length-append}
use Rattle.std.specs.Prelude.{OnOk, OnErr}
use Rattle.std.specs.Int.{w64, from_le_bytes}
use Rattle.std.proofs.lemmas.Bool.{ltb-true}
use Rattle.std.proofs.lemmas.Nat.{from_le_bytes-to_le_bytes_8}
use Rattle.sr_bytes.specs.Packed.{Pair, length_bytes, packed_string, packed_pair, packed, IsShort, AreShort, IsPacked, Packs, pairs_of, one_packing}

AreShort-append : (ps qs : List Pair) → AreShort ps → AreShort qs → AreShort (ps ++ qs)
AreShort-append [] qs short more = more
AreShort-append (p ∷ ps) qs short more = (short.0, AreShort-append ps qs short.1 more)

packed-append : (ps qs : List Pair) → packed (ps ++ qs) ≡ packed ps ++ packed qs
packed-append [] qs = refl
packed-append (p ∷ ps) qs = ap (λ (t : List ℕ). packed_pair p ++ t) (packed-append ps qs) ∙ sym (append_assoc (packed_pair p) (packed ps) (packed qs))

-- a text packs its pairs
text-packed : (text : List ℕ) (is : IsPacked text) → text ≡ packed (pairs_of text is)
unfolding pairs_of
text-packed text is = is.1.whole

short-packed : (text : List ℕ) (is : IsPacked text) → AreShort (pairs_of text is)
unfolding pairs_of
short-packed text is = is.1.short

-- a text has the pairs that it is known to pack
pub pairs-known : (text : List ℕ) (is : IsPacked text) (pairs : List Pair) → text ≡ packed pairs → AreShort pairs → pairs_of text is ≡ pairs
pairs-known text is pairs e short = one_packing (pairs_of text is) pairs (short-packed text is) short (sym (text-packed text is) ∙ e)

-- the bytes that pack pairs pack those that they are shown as
pub packs-shown : (text shown : List ℕ) (is : IsPacked text) (pairs : List Pair) → shown ≡ text → pairs_of text is ≡ pairs → Packs shown pairs
packs-shown text shown is pairs same view = record {
  whole = same ∙ text-packed text is ∙ ap packed view;
  short = subst AreShort view (short-packed text is);
}

-- no text packs no pairs
pub pairs-none : (text : List ℕ) (is : IsPacked text) → text ≡ [] → pairs_of text is ≡ []
pairs-none text is e = pairs-known text is [] e tt

-- the same text packs the same pairs
pub pairs-same : (text old : List ℕ) (is : IsPacked text) (was : IsPacked old) → text ≡ old → pairs_of text is ≡ pairs_of old was
pairs-same text old is was e = pairs-known text is (pairs_of old was) (e ∙ text-packed old was) (short-packed old was)

-- a text that grew by a pair packs that pair too
packed-more : (text old : List ℕ) (was : IsPacked old) (pair : Pair) → text ≡ old ++ packed_pair pair → text ≡ packed (pairs_of old was ++ pair ∷ [])
packed-more text old was pair e =
    e
    ∙ ap (λ (t : List ℕ). t ++ packed_pair pair) (text-packed old was)
    ∙ ap (λ (t : List ℕ). packed (pairs_of old was) ++ t) (sym (append-nil (packed_pair pair)))
    ∙ sym (packed-append (pairs_of old was) (pair ∷ []))

short-more : (old : List ℕ) (was : IsPacked old) (pair : Pair) → IsShort pair → AreShort (pairs_of old was ++ pair ∷ [])
short-more old was pair short = AreShort-append (pairs_of old was) (pair ∷ []) (short-packed old was) (short, tt)

pub pairs-more : (text old : List ℕ) (is : IsPacked text) (was : IsPacked old) (pair : Pair) → IsShort pair → text ≡ old ++ packed_pair pair → pairs_of text is ≡ pairs_of old was ++ pair ∷ []
pairs-more text old is was pair short e = pairs-known text is (pairs_of old was ++ pair ∷ []) (packed-more text old was pair e) (short-more old was pair short)

-- bytes that either grew by a pair or stayed pack pairs
pub IsPacked-grown : {T E : Type 0} (r : Result T E) (old new : List ℕ) (pair : Pair) → IsPacked old → IsShort pair → OnOk r (new ≡ old ++ packed_pair pair) → OnErr r (new ≡ old) → IsPacked new
IsPacked-grown (Ok x) old new pair was short grown stayed =
    (pairs_of old was ++ pair ∷ [], record { whole = packed-more new old was pair grown; short = short-more old was pair short })
IsPacked-grown (Err e) old new pair was short grown stayed = subst IsPacked (sym stayed) was

-- ---- the first pair

pub record FirstPair (text : List ℕ) (pairs : List Pair) : Type 0 where
  pub pair : Pair
  pub others : List Pair
  pub list : pairs ≡ pair ∷ others
  pub short : IsShort pair
  pub are_short : AreShort others
  pub whole : text ≡ packed_string pair.0 ++ (packed_string pair.1 ++ packed others)

first_of : (text : List ℕ) (pairs : List Pair) → text ≡ packed pairs → AreShort pairs → (text ≡ [] → ⊥) → FirstPair text pairs
first_of text [] whole short some = absurd (some whole)
first_of text (pair ∷ others) whole short some = record {
  pair = pair;
  others = others;
  list = refl;
  short = short.0;
  are_short = short.1;
  whole = whole ∙ append_assoc (packed_string pair.0) (packed_string pair.1) (packed others);
}

pub first-packed : (text : List ℕ) (is : IsPacked text) → (text ≡ [] → ⊥) → FirstPair text (pairs_of text is)
first-packed text is some = first_of text (pairs_of text is) (text-packed text is) (short-packed text is) some

-- ---- a string of 255 bytes or more

long_by : (b : Bool) (text s behind : List ℕ) (len : ℕ) → ltb (length s) 255 ≡ b → 255 ≤ get_or text 0 0
    → len ≡ from_le_bytes w64 (get_or text 1 0 ∷ get_or text 2 0 ∷ get_or text 3 0 ∷ get_or text 4 0 ∷ get_or text 5 0 ∷ get_or text 6 0 ∷ get_or text 7 0 ∷ get_or text 8 0 ∷ [])
    → length s < 2 ^ 64 → text ≡ length_bytes b (length s) ++ (s ++ behind) → (len ≡ length s) × (drop 9 text ≡ s ++ behind)
long_by true text s behind len is other from short e =
    let first : get_or text 0 0 ≡ length s = ap (λ (t : List ℕ). get_or t 0 0) e in
    absurd (omega (arith, other, ltb-true (length s) 255 is, first))
long_by false text s behind len is other from short e =
    (rw e at from ∙ from_le_bytes-to_le_bytes_8 (length s) short, ap (drop 9) e)

pub long-string : (text s behind : List ℕ) (len : ℕ) → 255 ≤ get_or text 0 0
    → len ≡ from_le_bytes w64 (get_or text 1 0 ∷ get_or text 2 0 ∷ get_or text 3 0 ∷ get_or text 4 0 ∷ get_or text 5 0 ∷ get_or text 6 0 ∷ get_or text 7 0 ∷ get_or text 8 0 ∷ [])
    → length s < 2 ^ 64 → text ≡ packed_string s ++ behind → (len ≡ length s) × (drop 9 text ≡ s ++ behind)
long-string text s behind len other from short e =
    let b = ltb (length s) 255 in
    long_by b text s behind len refl other from short (e ∙ append_assoc (length_bytes b (length s)) s behind)

-- ---- how many pairs there are

pub packed_string-some : (s : List ℕ) → 0 < length (packed_string s)
packed_string-some s = by (ltb (length s) 255)
  where
    by : (b : Bool) → 0 < length (length_bytes b (length s) ++ s)
    by true = omega arith
    by false = omega arith

packed-long : (pairs : List Pair) → 2 * length pairs ≤ length (packed pairs)
packed-long [] = omega arith
packed-long (pair ∷ pairs) =
    omega (arith, packed-long pairs, packed_string-some pair.0, packed_string-some pair.1, length-append (packed_string pair.0) (packed_string pair.1), length-append (packed_pair pair) (packed pairs))

pub pairs-few : (text : List ℕ) (is : IsPacked text) → 2 * length (pairs_of text is) ≤ length text
pairs-few text is = omega (arith, packed-long (pairs_of text is), ap length (text-packed text is))
