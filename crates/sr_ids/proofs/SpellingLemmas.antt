-- A text that spells an id begins with a digit, and spells one id.
use Rattle.std.proofs.Common.{◌≡◌, ℕ, ◌<◌, ◌≤◌, inl, inr, List, ◌∷◌, ◌++◌, length, get_or, drop, refl, sym, ap, ◌∙◌, arith}
use Rattle.std.specs.Prelude.{codes}
use Rattle.std.specs.Char.{digit_value}
use Rattle.std.proofs.lemmas.List.{append_assoc, get_or_append_left, get_or_at, length-append}
use Rattle.sr_bytes.proofs.DecimalLemmas.{AllDigits-at, AllDigits-not_at, AllDigits-before, IsDecimal-one}
use Rattle.sr_ids.specs.declared.id.Id.{Id}
use Rattle.sr_ids.specs.Spelling.{IsWhole, IsShort, SpellsId}
use Rattle.sr_ids.proofs.IdLemmas.{Id-same}

-- the dash of a whole id stands right behind the milliseconds
pub IsWhole-dash : (text : List ℕ) (id : Id) → (w : IsWhole text id) → text ≡ w.before ++ 45 ∷ w.behind
IsWhole-dash text id w = w.spelled ∙ append_assoc w.before (codes "-") w.behind

pub IsWhole-dash_at : (text : List ℕ) (id : Id) → (w : IsWhole text id) → get_or text (length w.before) 0 ≡ 45
IsWhole-dash_at text id w = ap (λ (t : List ℕ). get_or t (length w.before) 0) (IsWhole-dash text id w) ∙ get_or_at w.before 45 w.behind 0 (length w.before) refl

-- an id begins with a digit
pub SpellsId-begins : (missing : ℕ) (text : List ℕ) (id : Id) → SpellsId missing text id → digit_value (get_or text 0 0) < 10
SpellsId-begins missing text id s = elim s.written [
  | inl w ↦
      let front : get_or (w.before ++ 45 ∷ w.behind) 0 0 ≡ get_or w.before 0 0 = get_or_append_left w.before (45 ∷ w.behind) 0 0 w.ms.some in
      let same : get_or text 0 0 ≡ get_or w.before 0 0 = ap (λ (t : List ℕ). get_or t 0 0) (IsWhole-dash text id w) ∙ front in
      rw same (AllDigits-at w.before 0 w.ms.each w.ms.some)
  | inr short ↦ AllDigits-at text 0 short.ms.each short.ms.some
]

pub SpellsId-begins_not : (missing c : ℕ) (text rest : List ℕ) (id : Id) → 10 ≤ digit_value c → text ≡ c ∷ rest → SpellsId missing text id → ⊥
SpellsId-begins_not missing c text rest id none e s =
    let begins = SpellsId-begins missing text id s in
    let same : digit_value (get_or text 0 0) ≡ digit_value c = ap (λ (t : List ℕ). digit_value (get_or t 0 0)) e in
    omega arith

-- a text with a dash is not digits alone
IsWhole-not_short : (missing : ℕ) (text : List ℕ) (a b : Id) → IsWhole text a → IsShort missing text b → ⊥
IsWhole-not_short missing text a b w short =
    let dash = IsWhole-dash text a w in
    let behind = AllDigits-not_at text (length w.before) 45 short.ms.each (omega arith) (IsWhole-dash_at text a w) in
    omega (arith, ap length dash, length-append w.before (45 ∷ w.behind), behind)

IsWhole-one : (text : List ℕ) (a b : Id) → IsWhole text a → IsWhole text b → a ≡ b
IsWhole-one text a b v w =
    let parts = AllDigits-before 45 v.before v.behind w.before w.behind (omega arith) v.ms.each w.ms.each (sym (IsWhole-dash text a v) ∙ IsWhole-dash text b w) in
    Id-same a b (IsDecimal-one (rw parts.0 at v.ms) w.ms) (IsDecimal-one (rw parts.1 at v.seq) w.seq)

IsShort-one : (missing : ℕ) (text : List ℕ) (a b : Id) → IsShort missing text a → IsShort missing text b → a ≡ b
IsShort-one missing text a b v w = Id-same a b (IsDecimal-one v.ms w.ms) (v.seq ∙ sym w.seq)

-- a text spells one id
pub SpellsId-one : (missing : ℕ) (text : List ℕ) (a b : Id) → SpellsId missing text a → SpellsId missing text b → a ≡ b
SpellsId-one missing text a b s t = elim s.written [
  | inl v ↦ elim t.written [ inl w ↦ IsWhole-one text a b v w | inr w ↦ absurd (IsWhole-not_short missing text a b v w) ]
  | inr v ↦ elim t.written [ inl w ↦ absurd (IsWhole-not_short missing text b a w v) | inr w ↦ IsShort-one missing text a b v w ]
]

-- a text begins with one byte, and has one rest behind it
pub first_byte : (text xs ys : List ℕ) (c d : ℕ) → text ≡ c ∷ xs → text ≡ d ∷ ys → c ≡ d
first_byte text xs ys c d p q = ap (λ (t : List ℕ). get_or t 0 0) (sym p ∙ q)

pub behind_first : (text xs ys : List ℕ) (c : ℕ) → text ≡ c ∷ xs → text ≡ c ∷ ys → xs ≡ ys
behind_first text xs ys c p q = ap (λ (t : List ℕ). drop 1 t) (sym p ∙ q)
