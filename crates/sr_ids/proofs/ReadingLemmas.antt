-- How the code finds the parts of a text: at its first dash, and behind its first byte.
use Rattle.std.proofs.Common.{◌≡◌, ℕ, ◌+◌, ◌-◌, ◌<◌, ◌≤◌, inl, inr, Option, Some, None, IfSome, IfNone, List, [], ◌∷◌, ◌++◌, length, get_or, take, drop, sym, ap, ◌∙◌, arith}
use Rattle.std.proofs.lemmas.Bool.{cases_lt}
use Rattle.std.proofs.lemmas.List.{get_or_append_left, length-append, length_push, take-append-drop, take_at, take_more, take_rest, drop_at}
use Rattle.std.proofs.lemmas.Slice.{first_rest}
use Rattle.sr_bytes.specs.{IsDecimal}
use Rattle.sr_bytes.proofs.DecimalLemmas.{AllDigits-not_at}
use Rattle.sr_ids.specs.declared.id.Id.{Id}
use Rattle.sr_ids.specs.Spelling.{SpellsId}
use Rattle.sr_ids.proofs.SpellingLemmas.{IsWhole-dash, IsWhole-dash_at}

-- the first dash of a text that spells an id has the two numbers on its sides
pub SpellsId-at_dash : (missing : ℕ) (text : List ℕ) (dash : ℕ) (id : Id) → dash < length text → get_or text dash 0 ≡ 45 → ((k : ℕ) → k < dash → get_or text k 0 ≡ 45 → ⊥) → SpellsId missing text id → IsDecimal 20 (take dash text) id.ms × IsDecimal 20 (drop (dash + 1) text) id.seq
SpellsId-at_dash missing text dash id within at first s = elim s.written [
  | inl w ↦
      let spelled = IsWhole-dash text id w in
      let end : get_or text (length w.before) 0 ≡ 45 = IsWhole-dash_at text id w in
      let no_later : dash ≤ length w.before = elim (cases_lt (length w.before) dash) [ inl lt ↦ absurd (first (length w.before) lt end) | inr le ↦ le ] in
      let no_earlier : length w.before ≤ dash = elim (cases_lt dash (length w.before)) [
        | inl lt ↦ AllDigits-not_at w.before dash 45 w.ms.each (omega arith) (sym (get_or_append_left w.before (45 ∷ w.behind) 0 dash lt) ∙ ap (λ (t : List ℕ). get_or t dash 0) (sym spelled) ∙ at)
        | inr le ↦ le
      ] in
      let same : length w.before ≡ dash = omega arith in
      let front : take dash text ≡ w.before = ap (take dash) spelled ∙ take_at w.before (45 ∷ w.behind) dash same in
      let rest : drop (dash + 1) text ≡ w.behind = ap (drop (dash + 1)) (w.spelled) ∙ drop_at (w.before ++ 45 ∷ []) w.behind (dash + 1) (length_push w.before 45 ∙ ap (λ (n : ℕ). n + 1) same) in
      (rw (← front) at w.ms, rw (← rest) at w.seq)
  | inr short ↦ absurd (omega (arith, AllDigits-not_at text dash 45 short.ms.each (omega arith) at))
]

-- a text without a dash that spells an id is a number
pub SpellsId-no_dash : (missing : ℕ) (text : List ℕ) (id : Id) → ((k : ℕ) → k < length text → get_or text k 0 ≡ 45 → ⊥) → SpellsId missing text id → IsDecimal 20 text id.ms
SpellsId-no_dash missing text id none s = elim s.written [
  | inl w ↦
      let long = ap (λ (t : List ℕ). length t) (IsWhole-dash text id w) in
      absurd (none (length w.before) (omega (arith, long, length-append w.before (45 ∷ w.behind))) (IsWhole-dash_at text id w))
  | inr short ↦ short.ms
]

-- a text is what stands before a dash, the dash and the rest
pub cut_at_dash : (text : List ℕ) (dash : ℕ) → dash < length text → get_or text dash 0 ≡ 45 → text ≡ take dash text ++ 45 ∷ [] ++ take (length text - (dash + 1)) (drop (dash + 1) text)
cut_at_dash text dash lt at =
    let front : take (dash + 1) text ≡ take dash text ++ 45 ∷ [] = take_more text dash 0 lt ∙ ap (λ (x : ℕ). take dash text ++ x ∷ []) at in
    sym (take-append-drop (dash + 1) text)
    ∙ ap (λ (l : List ℕ). l ++ drop (dash + 1) text) front
    ∙ ap (λ (l : List ℕ). (take dash text ++ 45 ∷ []) ++ l) (sym (take_rest text (dash + 1)))

-- a text that begins with this byte is the byte and the rest
pub from_first_byte : (text : List ℕ) (c : ℕ) → 0 < c → get_or text 0 0 ≡ c → text ≡ c ∷ take (length text - 1) (drop 1 text)
from_first_byte [] c some at = absurd (omega arith)
from_first_byte (x ∷ xs) c some at = first_rest (x ∷ xs) 0 (omega arith) ∙ ap (λ (y : ℕ). y ∷ take (length (x ∷ xs) - 1) xs) at

-- what follows from two facts of the value, where there is one
pub IfSome_both : {X : Type 0} (r : Option X) {P Q R : X → Type 0} → IfSome r P → IfSome r Q → ((x : X) → P x → Q x → R x) → IfSome r R
IfSome_both None p q f = tt
IfSome_both (Some x) p q f = f x p q

-- what follows from what a clause says where there is no value
pub IfNone_then : {X : Type 0} (r : Option X) {P Q : Type 0} → IfNone r P → (P → Q) → IfNone r Q
IfNone_then None h f = f h
IfNone_then (Some x) h f = tt
