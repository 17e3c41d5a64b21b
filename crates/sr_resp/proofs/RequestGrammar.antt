-- The parser reads requests, and empty commands, exactly as they are spelled.
use Rattle.std.proofs.Common.{◌≡◌, ◌⊎◌, inl, inr, ℕ, ◌<◌, List, [], ◌∷◌, ◌++◌, length, Option, Some, None, Result, codes, refl, sym, ap, subst, ◌∙◌, arith}
use Rattle.std.proofs.lemmas.Bool.{cases_eq, eq-eqb, ne_eqb}
use Rattle.std.proofs.lemmas.List.{append_assoc, append-nil}
use Rattle.std.specs.Char.{digit_value}
use Rattle.std.specs.Str.Parse.{AllDigits}
use Rattle.sr_bytes.specs.{IsDecimal}
use Rattle.sr_resp.specs.Reply.{line_end}
use Rattle.sr_resp.specs.Request.{Words, Spells}
use Rattle.sr_resp.specs.Reading.{Halt, literal_at, digits_at, words_at, counted_at, numbered_at, array_at, item_at}
use Rattle.sr_resp.proofs.Exact.{Exact, Joined, joined, exact_as, exact_along, IsDone, done, done_at, then_at}
use Rattle.sr_resp.proofs.Choice.{choice, choose_at, Either, BeginsWith, BeginsWithOther}
use Rattle.sr_resp.proofs.Parts.{IsText, literal_exact, IsLine, line_exact}
use Rattle.sr_resp.proofs.WordGrammar.{line_decimal, decimal_line, AreWordsIn, words_exact}

-- ---- behind the number of words

abbrev Counted : ℕ → List ℕ → Option Words → Type 0
Counted count = Joined Words (Option Words) (AreWordsIn count 16777216) (λ words. IsDone (Option Words) (Some words))

-- no command where the number is 0, or a request
pub record IsCounted (count : ℕ) (text : List ℕ) (item : Option Words) : Type 0 where
  pub is : ((count ≡ 0) × IsDone (Option Words) None text item) ⊎ ((count ≡ 0 → ⊥) × Counted count text item)

counted_none : (count : ℕ) → count ≡ 0 → Exact (Option Words) (IsCounted count) (counted_at count)
counted_none count none =
    let read : Exact (Option Words) (IsCounted count) (done_at None) = exact_as (Option Words) (IsDone (Option Words) None) (IsCounted count) (done_at None) (done (Option Words) None)
    (λ text item d. record { is = inl (none, d) })
    (λ text item q. elim q.is [ inl d ↦ d.1 | inr d ↦ absurd (d.0 none) ]) in
    exact_along (Option Words) (IsCounted count) (counted_at count) (done_at None) (λ bytes. rw (eq-eqb count 0 none) refl) read

counted_some : (count : ℕ) → (count ≡ 0 → ⊥) → Exact (Option Words) (IsCounted count) (counted_at count)
counted_some count some =
    let reader : List ℕ → Result (Option Words × List ℕ) Halt = then_at (words_at count 16777216) (λ words. done_at (Some words)) in
    let read : Exact (Option Words) (IsCounted count) reader = exact_as (Option Words) (Counted count) (IsCounted count) reader
    (joined Words (Option Words) (AreWordsIn count 16777216) (λ words. IsDone (Option Words) (Some words)) (words_at count 16777216) (λ words. done_at (Some words)) (words_exact count 16777216) (λ words. done (Option Words) (Some words)))
    (λ text item q. record { is = inr (some, q) })
    (λ text item q. elim q.is [ inl d ↦ absurd (some d.0) | inr d ↦ d.1 ]) in
    exact_along (Option Words) (IsCounted count) (counted_at count) reader (λ bytes. rw (ne_eqb count 0 some) refl) read

counted_exact : (count : ℕ) → Exact (Option Words) (IsCounted count) (counted_at count)
counted_exact count = elim (cases_eq count 0) [ inl none ↦ counted_none count none | inr some ↦ counted_some count some ]

-- ---- behind the mark of an array

abbrev Numbered : List ℕ → Option Words → Type 0
Numbered = Joined ℕ (Option Words) (IsLine 4096 0 0) IsCounted

numbered_exact : Exact (Option Words) Numbered numbered_at
numbered_exact = joined ℕ (Option Words) (IsLine 4096 0 0) IsCounted (digits_at 4096 0 0) counted_at (line_exact 4096) counted_exact

abbrev Negative : List ℕ → Option Words → Type 0
Negative = Joined (Unit {0}) (Option Words) (IsText (codes "-1\r\n")) (λ _. IsDone (Option Words) None)

abbrev negative_at : List ℕ → Result (Option Words × List ℕ) Halt
negative_at = then_at (literal_at (codes "-1\r\n")) (λ _. done_at None)

negative_exact : Exact (Option Words) Negative negative_at
negative_exact = joined (Unit {0}) (Option Words) (IsText (codes "-1\r\n")) (λ _. IsDone (Option Words) None) (literal_at (codes "-1\r\n")) (λ _. done_at None) (literal_exact (codes "-1\r\n")) (λ _. done (Option Words) None)

abbrev Behind : List ℕ → Option Words → Type 0
Behind = Either (Option Words) Negative Numbered

negative_begins : (text : List ℕ) (item : Option Words) → Negative text item → BeginsWith 45 text
negative_begins text item q = record { behind = codes "1\r\n" ++ q.behind; spelled = q.spelled ∙ ap (λ (t : List ℕ). t ++ q.behind) q.is_first }

digit_begins : (digits behind : List ℕ) → 0 < length digits → AllDigits 10 digits → BeginsWithOther 45 (digits ++ behind)
digit_begins [] behind some each = absurd (omega arith)
digit_begins (d ∷ digits) behind some each = record {
  first = d;
  behind = digits ++ behind;
  spelled = refl;
  other = λ minus. let is : digit_value d ≡ digit_value 45 = ap digit_value minus in omega (arith, is, each.0);
}

numbered_begins : (text : List ℕ) (item : Option Words) → Numbered text item → BeginsWithOther 45 text
numbered_begins text item q =
    let line = q.is_first in
    let whole : text ≡ line.digits ++ (line_end ++ q.behind) = q.spelled ∙ ap (λ (t : List ℕ). t ++ q.behind) line.spelled ∙ append_assoc line.digits line_end q.behind in
    let begins = digit_begins line.digits (line_end ++ q.behind) (omega (arith, line.some)) line.each in
    record { first = begins.first; behind = begins.behind; spelled = whole ∙ begins.spelled; other = begins.other }

behind_exact : Exact (Option Words) Behind array_at
unfolding array_at digits_at
behind_exact = exact_along (Option Words) Behind array_at (choose_at 45 negative_at numbered_at)
    (λ bytes. elim bytes as (λ (b : List ℕ). array_at b ≡ choose_at 45 negative_at numbered_at b) [ [] ↦ refl | b ∷ bs ↦ refl ])
    (choice (Option Words) 45 Negative Numbered negative_at numbered_at (record {
      one = negative_exact;
      two = numbered_exact;
      one_begins = negative_begins;
      two_begins = numbered_begins;
      waits = refl;
    }))

-- ---- a request, or no command

abbrev ItemParts : List ℕ → Option Words → Type 0
ItemParts = Joined (Unit {0}) (Option Words) (IsText (codes "*")) (λ _. Behind)

negative_spells : (text : List ℕ) (item : Option Words) → Negative text item → Spells (codes "*" ++ text) item
negative_spells text item q =
    let whole : text ≡ codes "-1\r\n" = q.spelled ∙ ap (λ (t : List ℕ). t ++ q.behind) q.is_first ∙ ap (λ (t : List ℕ). codes "-1\r\n" ++ t) q.is_second.nothing in
    let made : Spells (codes "*" ++ text) None = record { digits = codes "-1"; number = inr refl; spelled = ap (λ (t : List ℕ). codes "*" ++ t) whole } in
    subst (λ (i : Option Words). Spells (codes "*" ++ text) i) (sym q.is_second.value) made

numbered_spells : (text : List ℕ) (item : Option Words) → Numbered text item → Spells (codes "*" ++ text) item
numbered_spells text item q =
    let line = q.is_first in
    let number : IsDecimal 10 line.digits q.first = line_decimal 4096 q.first q.front line in
    let whole : text ≡ (line.digits ++ line_end) ++ q.behind = q.spelled ∙ ap (λ (t : List ℕ). t ++ q.behind) line.spelled in
    elim q.is_second.is [
      | inl none ↦
          let ends : text ≡ line.digits ++ line_end = whole ∙ ap (λ (t : List ℕ). (line.digits ++ line_end) ++ t) none.1.nothing ∙ append-nil (line.digits ++ line_end) in
          let made : Spells (codes "*" ++ text) None = record {
            digits = line.digits;
            number = inl (subst (λ (n : ℕ). IsDecimal 10 line.digits n) none.0 number);
            spelled = ap (λ (t : List ℕ). codes "*" ++ t) ends;
          } in
          subst (λ (i : Option Words). Spells (codes "*" ++ text) i) (sym none.1.value) made
      | inr some ↦
          let words = some.1 in
          let body : q.behind ≡ words.front = words.spelled ∙ ap (λ (t : List ℕ). words.front ++ t) words.is_second.nothing ∙ append-nil words.front in
          let count : length words.first ≡ q.first = words.is_first.number in
          let made : Spells (codes "*" ++ text) (Some words.first) = record {
            digits = line.digits;
            body = words.front;
            number = subst (λ (n : ℕ). IsDecimal 10 line.digits n) (sym count) number;
            some = omega (arith, count, some.0);
            few = omega (arith, count, line.small);
            small = words.is_first.small;
            each = words.is_first.each;
            spelled = ap (λ (t : List ℕ). codes "*" ++ t) (whole ∙ ap (λ (t : List ℕ). (line.digits ++ line_end) ++ t) body);
          } in
          subst (λ (i : Option Words). Spells (codes "*" ++ text) i) (sym words.is_second.value) made
    ]

parts_item : (text : List ℕ) (item : Option Words) → ItemParts text item → Spells text item
parts_item text item q =
    let whole : text ≡ codes "*" ++ q.behind = q.spelled ∙ ap (λ (t : List ℕ). t ++ q.behind) q.is_first in
    subst (λ (t : List ℕ). Spells t item) (sym whole) (elim q.is_second [ inl n ↦ negative_spells q.behind item n | inr n ↦ numbered_spells q.behind item n ])

item_parts : (text : List ℕ) (item : Option Words) → Spells text item → ItemParts text item
item_parts text None q =
    let behind : Behind (q.digits ++ line_end) None = elim q.number [
      | inl number ↦ inr (record {
        front = q.digits ++ line_end;
        behind = [];
        first = 0;
        is_first = decimal_line 4096 0 q.digits number (omega arith);
        is_second = record { is = inl (refl, record { nothing = refl; value = refl }) };
        spelled = sym (append-nil (q.digits ++ line_end));
      })
      | inr negative ↦ inl (record {
        front = q.digits ++ line_end;
        behind = [];
        first = tt;
        is_first = ap (λ (t : List ℕ). t ++ line_end) negative;
        is_second = record { nothing = refl; value = refl };
        spelled = sym (append-nil (q.digits ++ line_end));
      })
    ] in
    record { front = codes "*"; behind = q.digits ++ line_end; first = tt; is_first = refl; is_second = behind; spelled = q.spelled }
item_parts text (Some words) q =
    record {
      front = codes "*";
      behind = (q.digits ++ line_end) ++ q.body;
      first = tt;
      is_first = refl;
      is_second = inr (record {
        front = q.digits ++ line_end;
        behind = q.body;
        first = length words;
        is_first = decimal_line 4096 (length words) q.digits q.number q.few;
        is_second = record {
          is = inr (
            (λ none. omega (arith, q.some)),
            record {
              front = q.body;
              behind = [];
              first = words;
              is_first = record { each = q.each; number = refl; small = q.small };
              is_second = record { nothing = refl; value = refl };
              spelled = sym (append-nil q.body);
            },
          );
        };
        spelled = refl;
      });
      spelled = q.spelled;
    }

pub item_exact : Exact (Option Words) Spells item_at
unfolding item_at
item_exact = exact_as (Option Words) ItemParts Spells item_at
    (joined (Unit {0}) (Option Words) (IsText (codes "*")) (λ _. Behind) (literal_at (codes "*")) (λ _. array_at) (literal_exact (codes "*")) (λ _. behind_exact))
    parts_item
    item_parts
