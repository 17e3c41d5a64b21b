-- The words that a run of bytes is known to pack.
use Rattle.std.proofs.Common.{◌≡◌, ℕ, zero, suc, ◌+◌, ◌-◌, ◌*◌, ◌/◌, ◌%◌, subst, ◌<◌, ◌≤◌, ◌^◌, List, [], ◌∷◌, ◌++◌, length, refl, sym, ap, ◌∙◌, arith, append_assoc, append-nil, length-append}
use Rattle.sr_bytes.specs.Packed.{AreShort, IsPacked, Packs, packed, packed_pair, packed_string, pairs_of}
use Rattle.sr_bytes.specs.PackedWords.{packed_words, paired, AreShortWords, IsPackedWords, PacksWords, words_of, one_packing_of_words}
use Rattle.sr_bytes.proofs.PackedLemmas.{packed_string-some, pairs-known}

AreShortWords-append : (vs ws : List (List ℕ)) → AreShortWords vs → AreShortWords ws → AreShortWords (vs ++ ws)
AreShortWords-append [] ws short more = more
AreShortWords-append (v ∷ vs) ws short more = (short.0, AreShortWords-append vs ws short.1 more)

packed_words-append : (vs ws : List (List ℕ)) → packed_words (vs ++ ws) ≡ packed_words vs ++ packed_words ws
packed_words-append [] ws = refl
packed_words-append (v ∷ vs) ws =
    ap (λ (t : List ℕ). packed_string v ++ t) (packed_words-append vs ws) ∙ sym (append_assoc (packed_string v) (packed_words vs) (packed_words ws))

-- a text packs its words
text-words : (text : List ℕ) (is : IsPackedWords text) → text ≡ packed_words (words_of text is)
unfolding words_of
text-words text is = is.1.whole

short-words : (text : List ℕ) (is : IsPackedWords text) → AreShortWords (words_of text is)
unfolding words_of
short-words text is = is.1.short

-- a text has the words that it is known to pack
pub words-known : (text : List ℕ) (is : IsPackedWords text) (words : List (List ℕ)) → text ≡ packed_words words
    → AreShortWords words → words_of text is ≡ words
words-known text is words e short = one_packing_of_words (words_of text is) words (short-words text is) short (sym (text-words text is) ∙ e)

-- no text packs no words
pub words-none : (text : List ℕ) (is : IsPackedWords text) → text ≡ [] → words_of text is ≡ []
words-none text is e = words-known text is [] e tt

-- the same text packs the same words
pub words-same : (text old : List ℕ) (is : IsPackedWords text) (was : IsPackedWords old) → text ≡ old
    → words_of text is ≡ words_of old was
words-same text old is was e = words-known text is (words_of old was) (e ∙ text-words old was) (short-words old was)

-- a text that grew by a word packs that word too
packed-more : (text old : List ℕ) (was : IsPackedWords old) (word : List ℕ) → text ≡ old ++ packed_string word
    → text ≡ packed_words (words_of old was ++ word ∷ [])
packed-more text old was word e =
    e
    ∙ ap (λ (t : List ℕ). t ++ packed_string word) (text-words old was)
    ∙ ap (λ (t : List ℕ). packed_words (words_of old was) ++ t) (sym (append-nil (packed_string word)))
    ∙ sym (packed_words-append (words_of old was) (word ∷ []))

short-more : (old : List ℕ) (was : IsPackedWords old) (word : List ℕ) → length word < 2 ^ 64
    → AreShortWords (words_of old was ++ word ∷ [])
short-more old was word short = AreShortWords-append (words_of old was) (word ∷ []) (short-words old was) (short, tt)

pub words-more : (text old : List ℕ) (is : IsPackedWords text) (was : IsPackedWords old) (word : List ℕ) → length word < 2 ^ 64
    → text ≡ old ++ packed_string word → words_of text is ≡ words_of old was ++ word ∷ []
words-more text old is was word short e =
    words-known text is (words_of old was ++ word ∷ []) (packed-more text old was word e) (short-more old was word short)

-- bytes that grew by a word pack words, one more than before
pub IsPackedWords-more : (text old word : List ℕ) → IsPackedWords old → length word < 2 ^ 64
    → text ≡ old ++ packed_string word → IsPackedWords text
IsPackedWords-more text old word was short e =
    (words_of old was ++ word ∷ [], record { whole = packed-more text old was word e; short = short-more old was word short })

pub counted-more : (text old : List ℕ) (is : IsPackedWords text) (was : IsPackedWords old) (word : List ℕ) (count : ℕ)
    → count ≡ length (words_of old was) → length word < 2 ^ 64 → text ≡ old ++ packed_string word → count + 1 ≡ length (words_of text is)
counted-more text old is was word count counted short e =
    omega (arith, counted, ap length (words-more text old is was word short e), length-append (words_of old was) (word ∷ []))

-- ---- the first word

pub record FirstWord (text : List ℕ) (words : List (List ℕ)) : Type 0 where
  pub word : List ℕ
  pub others : List (List ℕ)
  pub list : words ≡ word ∷ others
  pub short : length word < 2 ^ 64
  pub are_short : AreShortWords others
  pub whole : text ≡ packed_string word ++ packed_words others

first_of : (text : List ℕ) (words : List (List ℕ)) → text ≡ packed_words words → AreShortWords words → 0 < length words → FirstWord text words
first_of text [] whole short some = absurd (omega (arith, some))
first_of text (word ∷ others) whole short some = record {
  word = word;
  others = others;
  list = refl;
  short = short.0;
  are_short = short.1;
  whole = whole;
}

pub first-word : (text : List ℕ) (is : IsPackedWords text) (count : ℕ) → count ≡ length (words_of text is) → 0 < count
    → FirstWord text (words_of text is)
first-word text is count counted some =
    first_of text (words_of text is) (text-words text is) (short-words text is) (omega (arith, counted, some))

-- ---- what is left once it is read

pub words-first : (old others left : List (List ℕ)) (first word : List ℕ) → old ≡ first ∷ others → word ≡ first → left ≡ others
    → old ≡ word ∷ left
words-first old others left first word is p q =
    is ∙ ap (λ (w : List ℕ). w ∷ others) (sym p) ∙ ap (λ (l : List (List ℕ)). word ∷ l) (sym q)

pub words-fewer : (old others left : List (List ℕ)) (first : List ℕ) → old ≡ first ∷ others → left ≡ others
    → length left + 1 ≡ length old
words-fewer old others left first is q = omega (arith, ap length is, ap length q)

pub counted-less : (old others left : List (List ℕ)) (first : List ℕ) (count : ℕ) → count ≡ length old → old ≡ first ∷ others
    → left ≡ others → count - 1 ≡ length left
counted-less old others left first count counted is q = omega (arith, counted, words-fewer old others left first is q)

-- ---- how many words there are

packed_words-long : (words : List (List ℕ)) → length words ≤ length (packed_words words)
packed_words-long [] = omega arith
packed_words-long (word ∷ words) =
    omega (arith, packed_words-long words, packed_string-some word, length-append (packed_string word) (packed_words words))

pub words-few : (text : List ℕ) (is : IsPackedWords text) → length (words_of text is) ≤ length text
words-few text is = omega (arith, packed_words-long (words_of text is), ap length (text-words text is))

-- ---- words two by two

paired-packed : (words : List (List ℕ)) (n : ℕ) → length words ≡ 2 * n → AreShortWords words
    → (packed_words words ≡ packed (paired words)) × AreShort (paired words)
paired-packed [] n even short = (refl, tt)
paired-packed (word ∷ []) n even short = absurd (omega arith)
paired-packed (field ∷ value ∷ words) zero even short = absurd (omega arith)
paired-packed (field ∷ value ∷ words) (suc n) even short =
    let rest = paired-packed words n (omega arith) short.1.1 in (
      sym (append_assoc (packed_string field) (packed_string value) (packed_words words))
          ∙ ap (λ (t : List ℕ). packed_pair (field, value) ++ t) rest.0,
      ((short.0, short.1.0), rest.1),
    )

-- a text that packs an even number of words packs these two by two
pub packs-paired : (text : List ℕ) (words : List (List ℕ)) → length words % 2 ≡ 0 → PacksWords text words
    → Packs text (paired words)
packs-paired text words even packs =
    let both = paired-packed words (length words / 2) (omega (arith, even)) packs.short in
    record { whole = packs.whole ∙ both.0; short = both.1 }

pub pairs-paired : (text shown : List ℕ) (is : IsPacked text) (words : List (List ℕ)) → text ≡ shown
    → length words % 2 ≡ 0 → PacksWords shown words → pairs_of text is ≡ paired words
pairs-paired text shown is words same even packs =
    let both = packs-paired shown words even packs in
    pairs-known text is (paired words) (same ∙ both.whole) both.short

-- the bytes that pack words pack those that they are shown as
pub packs-words : (text : List ℕ) (is : IsPackedWords text) (words : List (List ℕ)) → words_of text is ≡ words
    → PacksWords text words
packs-words text is words view = record {
  whole = text-words text is ∙ ap packed_words view;
  short = subst AreShortWords view (short-words text is);
}
