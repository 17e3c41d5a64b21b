-- Keys and ids after STREAMS are the two halves of the words.
use Rattle.std.proofs.Common.{◌≡◌, ◌≢◌, ◌⊎◌, inl, inr, ℕ, ◌<◌, ◌≤◌, ◌+◌, ◌-◌, ◌*◌, ◌/◌, ◌%◌, zero, suc, List, [], ◌∷◌, ◌++◌, length, map, take, drop, refl, sym, ap, ◌∙◌, subst, append_assoc, arith, length-append, length-drop}
use Rattle.std.proofs.lemmas.List.{length-take, length-take-le, take-append-drop}
use Rattle.std.proofs.Math.Seq.{take-append_seam, drop-append_seam}
use Rattle.sr_args.specs.declared.name.OptionName.TheVariants.{Streams}
use Rattle.sr_args.specs.Name.{IsSameName, option_text}
use Rattle.sr_args.specs.FormWord.{Word, FormWord, Fits, IdForm, IdOf, Spells, any, option, spelled, HasNumbers, HasIds}
use Rattle.sr_args.proofs.IdsLemmas.{take-next, take-none}
use Rattle.sr_args.specs.Different.{IsAmong, AreDifferent}
use Rattle.sr_args.specs.Form.{streams, Reading, Reads, AreIds, ArePaired}
use Rattle.sr_args.specs.steps.Streams.{AreStreams}
use Rattle.std.specs.List.{zip}

-- the words in these places are the keys and the ids
halves-from_fits : (spelling : IdForm) (words keys ids : List Word) → Fits words (map any keys ++ map (spelled spelling) ids) → words ≡ keys ++ ids
halves-from_fits spelling [] [] [] f = refl
halves-from_fits spelling (w ∷ words) [] [] f = absurd f
halves-from_fits spelling [] [] (i ∷ ids) f = absurd f
halves-from_fits spelling (w ∷ words) [] (i ∷ ids) f = let rest = halves-from_fits spelling words [] ids f.1 in let same = f.0 in cc
halves-from_fits spelling [] (k ∷ keys) ids f = absurd f
halves-from_fits spelling (w ∷ words) (k ∷ keys) ids f = let rest = halves-from_fits spelling words keys ids f.1 in let same = f.0 in cc

Fits-halves : (spelling : IdForm) (keys ids : List Word) → Fits (keys ++ ids) (map any keys ++ map (spelled spelling) ids)
Fits-halves spelling [] [] = tt
Fits-halves spelling [] (i ∷ ids) = (refl, Fits-halves spelling [] ids)
Fits-halves spelling (k ∷ keys) ids = (refl, Fits-halves spelling keys ids)

-- two lists as long as each other have one middle
halves-one : (keys ids others more : List Word) → keys ++ ids ≡ others ++ more → length ids ≡ length keys → length more ≡ length others → (keys ≡ others) × (ids ≡ more)
halves-one keys ids others more e f g =
    let long : length keys + length ids ≡ length others + length more = sym (length-append keys ids) ∙ ap length e ∙ length-append others more in
    let same : length keys ≡ length others = omega arith in
    let front : keys ≡ others = sym (take-append_seam keys ids) ∙ ap (λ (n : ℕ). take n (keys ++ ids)) same ∙ ap (take (length others)) e ∙ take-append_seam others more in
    let back : ids ≡ more = sym (drop-append_seam keys ids) ∙ ap (λ (n : ℕ). drop n (keys ++ ids)) same ∙ ap (drop (length others)) e ∙ drop-append_seam others more in
    (front, back)

pub streams-one : (spelling : IdForm) (words keys ids others more : List Word) → ArePaired keys ids → ArePaired others more → Fits words (option Streams ∷ map any keys ++ map (spelled spelling) ids) → Fits words (option Streams ∷ map any others ++ map (spelled spelling) more) → (keys ≡ others) × (ids ≡ more)
streams-one spelling [] keys ids others more p q f g = absurd f
streams-one spelling (w ∷ words) keys ids others more p q f g =
    halves-one keys ids others more (sym (halves-from_fits spelling words keys ids f.1) ∙ halves-from_fits spelling words others more g.1) p.paired q.paired

pub keys-numbers : (keys : List Word) (ps : List FormWord) → HasNumbers ps → HasNumbers (map any keys ++ ps)
keys-numbers [] ps h = h
keys-numbers (k ∷ keys) ps h = (tt, keys-numbers keys ps h)

pub keys-ids : (keys : List Word) (ps : List FormWord) → HasIds ps → HasIds (map any keys ++ ps)
keys-ids [] ps h = h
keys-ids (k ∷ keys) ps h = (tt, keys-ids keys ps h)

pub ids-from_streams : (keys : List Word) (ps : List FormWord) → HasIds (map any keys ++ ps) → HasIds ps
ids-from_streams [] ps h = h
ids-from_streams (k ∷ keys) ps h = ids-from_streams keys ps h.1

-- the words after STREAMS, in any reading
pub record AreHalves (rest : List Word) : Type 0 where
  pub keys : List Word
  pub ids : List Word
  pub are : rest ≡ keys ++ ids
  pub pairs : ArePaired keys ids

pub halves : (spelling : IdForm) (words rest : List Word) (first : Word) → words ≡ first ∷ rest → (reading : Reading (streams spelling)) → Reads (streams spelling) words reading → IsSameName first (option_text Streams) × AreHalves rest
halves spelling words rest first e reading r =
    let fits = rw e at r.fits in
    (fits.0, record { keys = reading.0; ids = reading.1; are = halves-from_fits spelling rest reading.0 reading.1 fits.1; pairs = r.fit })

some-length : (words : List Word) → words ≢ [] → 0 < length words
some-length [] some = absurd (some refl)
some-length (w ∷ words) some = omega arith

length-halves : (rest : List Word) → (h : AreHalves rest) → length rest ≡ 2 * length h.keys
length-halves rest h = let long : length rest ≡ length h.keys + length h.ids = ap length h.are ∙ length-append h.keys h.ids in omega (arith, h.pairs.paired)

pub no_halves-none : (rest : List Word) (half : ℕ) → half ≡ length rest / 2 → half ≡ 0 → AreHalves rest → ⊥
no_halves-none rest half e none h = omega (arith, length-halves rest h, some-length h.keys h.pairs.some)

pub no_halves-odd : (rest : List Word) → (length rest % 2 ≡ 0 → ⊥) → AreHalves rest → ⊥
no_halves-odd rest odd h = let even : length rest % 2 ≡ 0 = omega (arith, length-halves rest h) in odd even

pub no_halves-twice : (rest : List Word) (half : ℕ) → half ≡ length rest / 2 → (AreDifferent (take half rest) → ⊥) → AreHalves rest → ⊥
no_halves-twice rest half e twice h =
    let same : half ≡ length h.keys = omega (arith, length-halves rest h) in
    let front : take half rest ≡ h.keys = ap (λ (n : ℕ). take n rest) same ∙ ap (take (length h.keys)) h.are ∙ take-append_seam h.keys h.ids in
    twice (subst (λ (ks : List Word). AreDifferent ks) (sym front) h.pairs.once)

pub streams-reads : (spelling : IdForm) (words rest : List Word) (first : Word) (half : ℕ) → words ≡ first ∷ rest → IsSameName first (option_text Streams) → half ≡ length rest / 2 → (half ≡ 0 → ⊥) → length rest % 2 ≡ 0 → AreDifferent (take half rest) → Reads (streams spelling) words (take half rest, drop half rest)
streams-reads spelling words rest first half e same is some even once =
    let within : half ≤ length rest = omega arith in
    let front : length (take half rest) ≡ half = length-take-le half rest within in
    let back : length (drop half rest) ≡ length rest - half = length-drop half rest in
    let whole = subst (λ (ws : List Word). Fits ws (map any (take half rest) ++ map (spelled spelling) (drop half rest))) (take-append-drop half rest) (Fits-halves spelling (take half rest) (drop half rest)) in
    record {
      fits = rw e (same, whole);
      fit = record { some = λ none. some (sym front ∙ ap length none); once = once; paired = omega arith };
    }

-- word by word
pub IsAmong-next : (word : Word) (n : ℕ) (words rest : List Word) (other : Word) → 0 < n → words ≡ other ∷ rest → (word ≡ other → ⊥) → IsAmong word (take n words) → IsAmong word (take (n - 1) rest)
IsAmong-next word n words rest other lt e differs among =
    elim (subst (λ (ws : List Word). IsAmong word ws) (take-next n words rest other lt e) among) [
      | inl same ↦ absurd (differs same)
      | inr later ↦ later
    ]

pub IsAmong-with : (word : Word) (n : ℕ) (words rest : List Word) (other : Word) → 0 < n → words ≡ other ∷ rest → (word ≡ other) ⊎ IsAmong word (take (n - 1) rest) → IsAmong word (take n words)
IsAmong-with word n words rest other lt e among = subst (λ (ws : List Word). IsAmong word ws) (sym (take-next n words rest other lt e)) among

pub IsAmong-none : (word : Word) (n : ℕ) (words : List Word) → (n ≡ 0) ⊎ (words ≡ []) → IsAmong word (take n words) → ⊥
IsAmong-none word n words (inl e) among = subst (λ (k : ℕ). IsAmong word (take k words)) e among
IsAmong-none word n words (inr e) among = subst (λ (ws : List Word). IsAmong word ws) (take-none n words e) among

pub AreDifferent-next : (n : ℕ) (words rest : List Word) (word : Word) → 0 < n → words ≡ word ∷ rest → AreDifferent (take n words) → (IsAmong word (take (n - 1) rest) → ⊥) × AreDifferent (take (n - 1) rest)
AreDifferent-next n words rest word lt e different = subst (λ (ws : List Word). AreDifferent ws) (take-next n words rest word lt e) different

pub AreDifferent-with : (n : ℕ) (words rest : List Word) (word : Word) → 0 < n → words ≡ word ∷ rest → (IsAmong word (take (n - 1) rest) → ⊥) → AreDifferent (take (n - 1) rest) → AreDifferent (take n words)
AreDifferent-with n words rest word lt e new different = subst (λ (ws : List Word). AreDifferent ws) (sym (take-next n words rest word lt e)) (new, different)

-- streams word by word
abbrev Stream : IdForm → Type 0
Stream spelling = Word × IdOf spelling

-- the streams so far, and one more
pub AreStreams-more : (spelling : IdForm) (all_keys all keys words front rest : List Word) (copy key word : Word) (list : List (Stream spelling)) (found : IdOf spelling) → keys ≡ key ∷ front → words ≡ word ∷ rest → copy ≡ key → Spells spelling word found → ((more : List (Stream spelling)) → AreStreams spelling keys words more → AreStreams spelling all_keys all (list ++ more)) → (more : List (Stream spelling)) → AreStreams spelling front rest more → AreStreams spelling all_keys all ((list ++ (copy, found) ∷ []) ++ more)
AreStreams-more spelling all_keys all keys words front rest copy key word list found d e same spells so_far more are =
    let one : AreStreams spelling keys words ((copy, found) ∷ more) = rw (d, e) (same, spells, are) in
    rw (append_assoc list ((copy, found) ∷ []) more) (so_far ((copy, found) ∷ more) one)

pub next-enough : (keys words front rest : List Word) (key word : Word) → keys ≡ key ∷ front → words ≡ word ∷ rest → length words ≤ length keys → length rest ≤ length front
next-enough keys words front rest key word d e enough = omega (arith, ap length d, ap length e)

streams-keys : (spelling : IdForm) (keys words : List Word) (list : List (Stream spelling)) → AreStreams spelling keys words list → map (λ (s : Stream spelling). s.0) list ≡ take (length words) keys
streams-keys spelling keys [] [] are = refl
streams-keys spelling keys [] (s ∷ list) are = absurd are
streams-keys spelling [] (word ∷ words) list are = absurd are
streams-keys spelling (key ∷ keys) (word ∷ words) [] are = absurd are
streams-keys spelling (key ∷ keys) (word ∷ words) (s ∷ list) are =
    let rest = streams-keys spelling keys words list are.2 in
    let same = are.0 in
    cc

streams-ids : (spelling : IdForm) (keys words : List Word) (list : List (Stream spelling)) → AreStreams spelling keys words list → AreIds spelling words (map (λ (s : Stream spelling). s.1) list)
streams-ids spelling keys [] [] are = tt
streams-ids spelling keys [] (s ∷ list) are = absurd are
streams-ids spelling [] (word ∷ words) list are = absurd are
streams-ids spelling (key ∷ keys) (word ∷ words) [] are = absurd are
streams-ids spelling (key ∷ keys) (word ∷ words) (s ∷ list) are = (are.1, streams-ids spelling keys words list are.2)

zip-parts : {P : Type 0} (list : List (Word × P)) → list ≡ zip (map (λ (s : Word × P). s.0) list) (map (λ (s : Word × P). s.1) list)
zip-parts {P} [] = refl
zip-parts {P} (s ∷ list) = ap (λ (l : List (Word × P)). s ∷ l) (zip-parts list)

take-as_long : (n : ℕ) (words : List Word) → take (length (take n words)) words ≡ take n words
take-as_long zero words = refl
take-as_long (suc n) [] = refl
take-as_long (suc n) (word ∷ words) = ap (λ (ws : List Word). word ∷ ws) (take-as_long n words)

-- the streams with the first keys and with ids, one for each of these keys
pub record AreZipped (spelling : IdForm) (keys words : List Word) (list : List (Stream spelling)) : Type 0 where
  pub asked : List (IdOf spelling)
  pub are : AreIds spelling words asked
  pub is : list ≡ zip keys asked
  pub once : AreDifferent (map (λ (s : Stream spelling). s.0) list)

pub zipped : (spelling : IdForm) (n : ℕ) (from words : List Word) (list : List (Stream spelling)) → ArePaired (take n from) words → AreStreams spelling from words list → AreZipped spelling (take n from) words list
zipped spelling n from words list paired are =
    let keys : map (λ (s : Stream spelling). s.0) list ≡ take n from = streams-keys spelling from words list are ∙ ap (λ (m : ℕ). take m from) paired.paired ∙ take-as_long n from in
    let asked = map (λ (s : Stream spelling). s.1) list in
    record {
      asked = asked;
      are = streams-ids spelling from words list are;
      is = zip-parts list ∙ ap (λ (ks : List Word). zip ks asked) keys;
      once = subst (λ (ks : List Word). AreDifferent ks) (sym keys) paired.once;
    }

pub enough-keys : (n : ℕ) (from words : List Word) → ArePaired (take n from) words → length words ≤ length from
enough-keys n from words paired = omega (arith, length-take n from, paired.paired)
