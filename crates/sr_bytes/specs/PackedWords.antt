-- How the words of a request are kept: strings one behind another, each behind its length. A text packs at most one
-- list.

use Rattle.std.proofs.Common.{◌≡◌, ℕ, ◌<◌, ◌^◌, List, [], ◌∷◌, ◌++◌, length, refl, sym, ◌∙◌}
use Rattle.std.specs.Coded.{Coded-set, coded_list, coded_ℕ, le_prop, Unit-prop, ×_prop}
use Rattle.sr_bytes.specs.Packed.{Pair, packed_string, one_string, some_byte}
use mathlib.Core.HLevel.{Σ_prop_path}

-- words one behind another
abbrev pub packed_words : List (List ℕ) → List ℕ
packed_words [] = []
packed_words (word ∷ words) = packed_string word ++ packed_words words

-- the length of each word fits 64 bits
abbrev pub AreShortWords : List (List ℕ) → Type 0
AreShortWords [] = Unit {0}
AreShortWords (word ∷ words) = (length word < 2 ^ 64) × AreShortWords words

-- the text packs these words
pub record PacksWords (text : List ℕ) (words : List (List ℕ)) : Type 0 where
  pub whole : text ≡ packed_words words
  pub short : AreShortWords words

-- the text packs words
abbrev pub IsPackedWords : List ℕ → Type 0
IsPackedWords text = (words : List (List ℕ)) × PacksWords text words

-- the words that the text packs
unfoldable pub words_of : (text : List ℕ) → IsPackedWords text → List (List ℕ)
words_of text is = is.0

-- the words two by two: fields with their values. One that is left over alone is not among them
abbrev pub paired : List (List ℕ) → List Pair
paired [] = []
paired (field ∷ []) = []
paired (field ∷ value ∷ words) = (field, value) ∷ paired words

-- ---- a text packs one list

pub one_packing_of_words : (vs ws : List (List ℕ)) → AreShortWords vs → AreShortWords ws → packed_words vs
    ≡ packed_words ws → vs ≡ ws
one_packing_of_words [] [] f g e = refl
one_packing_of_words [] (w ∷ ws) f g e = absurd (some_byte w (packed_words ws) e)
one_packing_of_words (v ∷ vs) [] f g e = absurd (some_byte v (packed_words vs) (sym e))
one_packing_of_words (v ∷ vs) (w ∷ ws) f g e =
    let first = one_string v w (packed_words vs) (packed_words ws) f.0 g.0 e in
    let rest = one_packing_of_words vs ws f.1 g.1 first.1 in
    cc (first.0, rest)

AreShortWords-prop : (words : List (List ℕ)) → IsProp (AreShortWords words)
AreShortWords-prop [] = Unit-prop
AreShortWords-prop (word ∷ words) = ×_prop le_prop (AreShortWords-prop words)

PacksWords-prop : (text : List ℕ) (words : List (List ℕ)) → IsProp (PacksWords text words)
PacksWords-prop text words a b = λ i. record {
  whole = Coded-set (coded_list coded_ℕ) text (packed_words words) a.whole b.whole i;
  short = AreShortWords-prop words a.short b.short i;
}

pub IsPackedWords-prop : (text : List ℕ) → IsProp (IsPackedWords text)
IsPackedWords-prop text a b = Σ_prop_path (PacksWords-prop text)
    (one_packing_of_words a.0 b.0 a.1.short b.1.short (sym a.1.whole ∙ b.1.whole))
