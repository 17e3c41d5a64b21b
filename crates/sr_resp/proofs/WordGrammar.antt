-- The parser reads words exactly as they are spelled.
use Rattle.std.proofs.Common.{◌≡◌, ℕ, zero, suc, ◌+◌, ◌-◌, ◌≤◌, min, List, [], ◌∷◌, ◌++◌, length, codes, sum_by, refl, sym, ap, subst, ◌∙◌, arith}
use Rattle.std.proofs.lemmas.List.{append_assoc, append-nil}
use Rattle.std.proofs.lemmas.List.Sums.{sum_by-cons}
use Rattle.sr_bytes.specs.{IsDecimal}
use Rattle.sr_resp.specs.Reply.{line_end}
use Rattle.sr_resp.specs.Request.{Words, IsWord, AreWords}
use Rattle.sr_resp.specs.Reading.{literal_at, digits_at, bytes_at, word_at, words_at}
use Rattle.sr_resp.proofs.Exact.{Exact, Joined, joined, exact_as, IsDone, done, done_at, then_at}
use Rattle.sr_resp.proofs.Parts.{IsText, literal_exact, AreBytes, bytes_exact, IsLine, line_exact}

pub line_decimal : (most n : ℕ) (text : List ℕ) (line : IsLine most 0 0 text n) → IsDecimal 10 line.digits n
line_decimal most n text line = record { some = omega (arith, line.some); few = omega (arith, line.few); each = line.each; value = line.value_is }

pub decimal_line : (most n : ℕ) (digits : List ℕ) → IsDecimal 10 digits n → n ≤ most → IsLine most 0 0 (digits ++ line_end) n
decimal_line most n digits d le = record { digits = digits; some = omega (arith, d.some); few = omega (arith, d.few); each = d.each; value_is = d.value; small = le; spelled = refl }

-- ---- a word

-- a word of at most so many bytes
pub record IsWordIn (room : ℕ) (text word : List ℕ) : Type 0 where
  pub word_is : IsWord text word
  pub fits : length word ≤ room

-- behind its bytes
abbrev WordEnd : List ℕ → List ℕ → List ℕ → Type 0
WordEnd word = Joined (Unit {0}) (List ℕ) (IsText line_end) (λ _. IsDone (List ℕ) word)

-- behind its number
abbrev WordBytes : ℕ → List ℕ → List ℕ → Type 0
WordBytes n = Joined (List ℕ) (List ℕ) (AreBytes n) WordEnd

-- behind its mark
abbrev WordLine : ℕ → List ℕ → List ℕ → Type 0
WordLine room = Joined ℕ (List ℕ) (IsLine (min room 1048576) 0 0) WordBytes

abbrev WordParts : ℕ → List ℕ → List ℕ → Type 0
WordParts room = Joined (Unit {0}) (List ℕ) (IsText (codes "$")) (λ _. WordLine room)

parts_word : (room : ℕ) (text word : List ℕ) → WordParts room text word → IsWordIn room text word
parts_word room text word marked =
    let line = marked.is_second in
    let bytes = line.is_second in
    let end = bytes.is_second in
    let digits = line.is_first.digits in
    let is : word ≡ bytes.first = end.is_second.value in
    let count : length word ≡ line.first = ap length is ∙ bytes.is_first.count in
    let small : line.first ≤ min room 1048576 = line.is_first.small in
    let behind : end.front ++ end.behind ≡ line_end = ap (λ (t : List ℕ). end.front ++ t) end.is_second.nothing ∙ append-nil end.front ∙ end.is_first in
    let word_text : bytes.front ++ bytes.behind ≡ word ++ line_end =
    ap (λ (t : List ℕ). t ++ bytes.behind) (bytes.is_first.same ∙ sym is) ∙ ap (λ (t : List ℕ). word ++ t) (end.spelled ∙ behind) in
    let line_text : line.front ++ line.behind ≡ (digits ++ line_end) ++ (word ++ line_end) =
    ap (λ (t : List ℕ). t ++ line.behind) line.is_first.spelled ∙ ap (λ (t : List ℕ). (digits ++ line_end) ++ t) (bytes.spelled ∙ word_text) in
    let whole : text ≡ codes "$" ++ ((digits ++ line_end) ++ (word ++ line_end)) =
    marked.spelled ∙ ap (λ (t : List ℕ). t ++ marked.behind) marked.is_first ∙ ap (λ (t : List ℕ). codes "$" ++ t) (line.spelled ∙ line_text) in
    record {
      word_is = record {
        digits = digits;
        number = subst (λ (n : ℕ). IsDecimal 10 digits n) (sym count) (line_decimal (min room 1048576) line.first line.front line.is_first);
        short = omega (arith, count, small);
        spelled = whole ∙ simp append_assoc;
      };
      fits = omega (arith, count, small);
    }

word_parts : (room : ℕ) (text word : List ℕ) → IsWordIn room text word → WordParts room text word
word_parts room text word w =
    let is = w.word_is in
    let digits = is.digits in
    let end : WordEnd word line_end word = record { front = line_end; behind = []; first = tt; is_first = refl; is_second = record { nothing = refl; value = refl }; spelled = refl } in
    let bytes : WordBytes (length word) (word ++ line_end) word =
    record { front = word; behind = line_end; first = word; is_first = record { count = refl; same = refl }; is_second = end; spelled = refl } in
    let line : WordLine room ((digits ++ line_end) ++ (word ++ line_end)) word =
    record {
      front = digits ++ line_end;
      behind = word ++ line_end;
      first = length word;
      is_first = decimal_line (min room 1048576) (length word) digits is.number (omega (arith, is.short, w.fits));
      is_second = bytes;
      spelled = refl;
    } in
    record {
      front = codes "$";
      behind = (digits ++ line_end) ++ (word ++ line_end);
      first = tt;
      is_first = refl;
      is_second = line;
      spelled = is.spelled ∙ simp append_assoc;
    }

pub word_exact : (room : ℕ) → Exact (List ℕ) (IsWordIn room) (word_at room)
unfolding word_at
word_exact room =
    let end : (word : List ℕ) → Exact (List ℕ) (WordEnd word) (then_at (literal_at line_end) (λ _. done_at word)) =
    λ word. joined (Unit {0}) (List ℕ) (IsText line_end) (λ _. IsDone (List ℕ) word) (literal_at line_end) (λ _. done_at word) (literal_exact line_end) (λ _. done (List ℕ) word) in
    let bytes : (n : ℕ) → Exact (List ℕ) (WordBytes n) (then_at (bytes_at n) (λ word. then_at (literal_at line_end) (λ _. done_at word))) =
    λ n. joined (List ℕ) (List ℕ) (AreBytes n) WordEnd (bytes_at n) (λ word. then_at (literal_at line_end) (λ _. done_at word)) (bytes_exact n) end in
    let line : Exact (List ℕ) (WordLine room) (then_at (digits_at (min room 1048576) 0 0) (λ n. then_at (bytes_at n) (λ word. then_at (literal_at line_end) (λ _. done_at word)))) =
    joined ℕ (List ℕ) (IsLine (min room 1048576) 0 0) WordBytes (digits_at (min room 1048576) 0 0) (λ n. then_at (bytes_at n) (λ word. then_at (literal_at line_end) (λ _. done_at word))) (line_exact (min room 1048576)) bytes in
    exact_as (List ℕ) (WordParts room) (IsWordIn room) (word_at room)
    (joined (Unit {0}) (List ℕ) (IsText (codes "$")) (λ _. WordLine room) (literal_at (codes "$")) (λ _. then_at (digits_at (min room 1048576) 0 0) (λ n. then_at (bytes_at n) (λ word. then_at (literal_at line_end) (λ _. done_at word)))) (literal_exact (codes "$")) (λ _. line))
    (parts_word room)
    (word_parts room)

-- ---- words

-- so many words, with at most so many bytes in all
pub record AreWordsIn (count room : ℕ) (text : List ℕ) (words : Words) : Type 0 where
  pub each : AreWords text words
  pub number : length words ≡ count
  pub small : sum_by length words ≤ room

-- behind the first word
abbrev OtherWords : ℕ → ℕ → List ℕ → List ℕ → Words → Type 0
OtherWords count room word = Joined Words Words (AreWordsIn count (room - length word)) (λ others. IsDone Words (word ∷ others))

abbrev WordsParts : ℕ → ℕ → List ℕ → Words → Type 0
WordsParts count room = Joined (List ℕ) Words (IsWordIn room) (OtherWords count room)

parts_words : (count room : ℕ) (text : List ℕ) (words : Words) → WordsParts count room text words → AreWordsIn (suc count) room text words
parts_words count room text words p =
    let others = p.is_second in
    let behind : p.behind ≡ others.front = others.spelled ∙ ap (λ (t : List ℕ). others.front ++ t) others.is_second.nothing ∙ append-nil others.front in
    let made : AreWordsIn (suc count) room text (p.first ∷ others.first) = record {
      each = (p.front, p.behind, p.is_first.word_is, subst (λ (t : List ℕ). AreWords t others.first) (sym behind) others.is_first.each, p.spelled);
      number = ap suc others.is_first.number;
      small = rw sum_by-cons (omega (arith, others.is_first.small, p.is_first.fits));
    } in
    subst (λ (ws : Words). AreWordsIn (suc count) room text ws) (sym others.is_second.value) made

words_parts : (count room : ℕ) (text : List ℕ) (words : Words) → AreWordsIn (suc count) room text words → WordsParts count room text words
words_parts count room text [] w = absurd (omega (arith, w.number))
words_parts count room text (word ∷ words) w =
    let e = w.each in
    let sum : length word + sum_by length words ≤ room = rw sum_by-cons at w.small in
    record {
      front = e.0;
      behind = e.1;
      first = word;
      is_first = record { word_is = e.2; fits = omega arith };
      is_second = record {
        front = e.1;
        behind = [];
        first = words;
        is_first = record { each = e.3; number = omega (arith, w.number); small = omega arith };
        is_second = record { nothing = refl; value = refl };
        spelled = sym (append-nil e.1);
      };
      spelled = e.4;
    }

no_words : (room : ℕ) (text : List ℕ) (words : Words) → IsDone Words [] text words → AreWordsIn 0 room text words
no_words room text words d =
    let made : AreWordsIn 0 room text [] = record { each = d.nothing; number = refl; small = omega arith } in
    subst (λ (ws : Words). AreWordsIn 0 room text ws) (sym d.value) made

words_none : (room : ℕ) (text : List ℕ) (words : Words) → AreWordsIn 0 room text words → IsDone Words [] text words
words_none room text [] w = record { nothing = w.each; value = refl }
words_none room text (word ∷ words) w = absurd (omega (arith, w.number))

pub words_exact : (count room : ℕ) → Exact Words (AreWordsIn count room) (words_at count room)
unfolding words_at
words_exact zero room = exact_as Words (IsDone Words []) (AreWordsIn 0 room) (words_at 0 room) (done Words []) (no_words room) (words_none room)
words_exact (suc count) room =
    let others : (word : List ℕ) → Exact Words (OtherWords count room word) (then_at (words_at count (room - length word)) (λ ws. done_at (word ∷ ws))) =
    λ word. joined Words Words (AreWordsIn count (room - length word)) (λ ws. IsDone Words (word ∷ ws)) (words_at count (room - length word)) (λ ws. done_at (word ∷ ws)) (words_exact count (room - length word)) (λ ws. done Words (word ∷ ws)) in
    exact_as Words (WordsParts count room) (AreWordsIn (suc count) room) (words_at (suc count) room)
    (joined (List ℕ) Words (IsWordIn room) (OtherWords count room) (word_at room) (λ word. then_at (words_at count (room - length word)) (λ ws. done_at (word ∷ ws))) (word_exact room) others)
    (parts_words count room)
    (words_parts count room)
