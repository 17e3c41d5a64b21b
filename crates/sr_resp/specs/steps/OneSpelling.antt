-- A text spells at most one list of parts: each part is a mark, a line, and for a bulk string its bytes and a line end.
-- Only the ghost field of a draft, and the lemmas on it, cite this.
use Rattle.std.proofs.Common.{◌≡◌, ℕ, ◌+◌, ◌%◌, ◌^◌, ◌<◌, ◌≤◌, suc, subst, ℤ, pos, negsuc, Bool, true, false, cond}
use Rattle.std.proofs.Common.{ltb, nat_eq}
use Rattle.std.proofs.Common.{List, [], ◌∷◌, ◌++◌, length, take, drop, codes, refl, sym, ap, ◌∙◌, arith, append_assoc}
use Rattle.std.specs.Prelude.{decimal}
use Rattle.std.specs.Fmt.{signed_decimal}
use Rattle.std.specs.Coded.{Coded-set, coded_list, coded_ℕ, le_prop, Unit-prop, ×_prop}
use Rattle.std.specs.Cmp.Lexicographic.{pointwise}
use Rattle.std.proofs.lemmas.Bool.{ltb-true}
use Rattle.std.proofs.lemmas.List.{take_at, drop_at}
use Rattle.std.proofs.lemmas.Fmt.{decimal_by_steps, decimal_injective, signed_decimal_injective}
use lib.Signed.{mag}
use mathlib.Core.HLevel.{Σ_prop_path}
use Rattle.sr_resp.specs.declared.code.Word.{Word}
use Rattle.sr_resp.specs.declared.code.Word.TheVariants as words
use Rattle.sr_resp.specs.declared.code.ErrCode.{ErrCode}
use Rattle.sr_resp.specs.declared.code.ErrCode.TheVariants as errors
use Rattle.sr_resp.specs.Code.{word_text, error_text}
use Rattle.sr_resp.specs.Reply.{Part, Simple, Error, Int, Bulk, NullBulk, NullArray, Array, part_text, reply_text}
use Rattle.sr_resp.specs.Spelled.{IsSpellable, AreSpellable, Spells, IsSpelled}

-- ---- lines

-- each byte of the line is above this one
abbrev pub IsAbove : ℕ → List ℕ → Type 0
IsAbove low [] = Unit {0}
IsAbove low (b ∷ bytes) = (low < b) × IsAbove low bytes

abbrev is_above : ℕ → List ℕ → Bool
is_above low [] = true
is_above low (b ∷ bytes) = cond (ltb low b) (is_above low bytes) false

IsAbove-tested : (low : ℕ) (bytes : List ℕ) → is_above low bytes ≡ true → IsAbove low bytes
IsAbove-tested low [] e = tt
IsAbove-tested low (b ∷ bytes) e = by (IsAbove-tested low bytes) (ltb low b) refl e
  where
    by : (is_above low bytes ≡ true → IsAbove low bytes) → (test : Bool) → ltb low b ≡ test
        → cond test (is_above low bytes) false ≡ true → (low < b) × IsAbove low bytes
    by more true t rest = (ltb-true low b t, more rest)
    by more false t rest = absurd cc

IsAbove-push : (low : ℕ) (bytes : List ℕ) (b : ℕ) → IsAbove low bytes → low < b → IsAbove low (bytes ++ b ∷ [])
IsAbove-push low [] b each more = (more, tt)
IsAbove-push low (c ∷ bytes) b each more = (each.0, IsAbove-push low bytes b each.1 more)

IsAbove-lower : (high low : ℕ) (bytes : List ℕ) → low ≤ high → IsAbove high bytes → IsAbove low bytes
IsAbove-lower high low [] le each = tt
IsAbove-lower high low (b ∷ bytes) le each = (omega (arith, each.0), IsAbove-lower high low bytes le each.1)

pub IsAbove-decimal : (n : ℕ) → n < 2 ^ 64 → IsAbove 47 (decimal n)
IsAbove-decimal n small = decimal_by_steps (λ n ds. IsAbove 47 ds) one more n small
  where
    one : (n : ℕ) → n < 10 → IsAbove 47 ((48 + n) ∷ [])
    one n digit = (omega arith, tt)

    more : (n : ℕ) (ds : List ℕ) → 10 ≤ n → IsAbove 47 ds → IsAbove 47 (ds ++ ((48 + n % 10) ∷ []))
    more n ds two each = IsAbove-push 47 ds (48 + n % 10) each (omega arith)

IsAbove-signed : (n : ℤ) → mag n < 2 ^ 63 → IsAbove 13 (signed_decimal n)
IsAbove-signed (pos n) small = IsAbove-lower 47 13 (decimal n) (omega arith) (IsAbove-decimal n (omega arith))
IsAbove-signed (negsuc n) small =
    (omega arith, IsAbove-lower 47 13 (decimal (suc n)) (omega arith) (IsAbove-decimal (suc n) (omega arith)))

-- a line ends at its first line end
one_line : (a b x y : List ℕ) → IsAbove 13 a → IsAbove 13 b → a ++ (13 ∷ 10 ∷ x) ≡ b ++ (13 ∷ 10 ∷ y) → (a ≡ b)
    × (x ≡ y)
one_line [] [] x y p q e = (refl, cc)
one_line [] (d ∷ b) x y p q e =
    let same : 13 ≡ d = cc in
    absurd (omega (arith, q.0))
one_line (c ∷ a) [] x y p q e =
    let same : c ≡ 13 = cc in
    absurd (omega (arith, p.0))
one_line (c ∷ a) (d ∷ b) x y p q e =
    let heads : c ≡ d = cc in
    let tails : a ++ (13 ∷ 10 ∷ x) ≡ b ++ (13 ∷ 10 ∷ y) = cc in
    let rest = one_line a b x y p.1 q.1 tails in
    (cc (heads, rest.0), rest.1)

-- ---- the texts of errors and simple strings differ

abbrev pub each_error : List ErrCode
each_error =
    errors.Unknown ∷ errors.Arity ∷ errors.Syntax ∷ errors.Number ∷ errors.BadId ∷ errors.Protocol ∷ errors.IdZero
    ∷ errors.IdSmall ∷ errors.Exhausted ∷ errors.NoKey ∷ errors.NoGroup ∷ errors.BusyGroup ∷ errors.Memory
    ∷ errors.Full ∷ errors.Stale ∷ errors.TooMany ∷ []

abbrev look_up : List ℕ → List ErrCode → ErrCode
look_up text [] = errors.Unknown
look_up text (code ∷ codes) = cond (pointwise nat_eq (error_text code) text) code (look_up text codes)

look_up-error_text : (code : ErrCode) → look_up (error_text code) each_error ≡ code
look_up-error_text errors.Unknown = refl
look_up-error_text errors.Arity = refl
look_up-error_text errors.Syntax = refl
look_up-error_text errors.Number = refl
look_up-error_text errors.BadId = refl
look_up-error_text errors.Protocol = refl
look_up-error_text errors.IdZero = refl
look_up-error_text errors.IdSmall = refl
look_up-error_text errors.Exhausted = refl
look_up-error_text errors.NoKey = refl
look_up-error_text errors.NoGroup = refl
look_up-error_text errors.BusyGroup = refl
look_up-error_text errors.Memory = refl
look_up-error_text errors.Full = refl
look_up-error_text errors.Stale = refl
look_up-error_text errors.TooMany = refl

pub error_text-injective : (c d : ErrCode) → error_text c ≡ error_text d → c ≡ d
error_text-injective c d e = sym (look_up-error_text c) ∙ ap
    (λ (text : List ℕ). look_up text each_error) e ∙ look_up-error_text d

pub word_text-injective : (v w : Word) → word_text v ≡ word_text w → v ≡ w
word_text-injective words.Ok words.Ok e = refl
word_text-injective words.Pong words.Pong e = refl
word_text-injective words.Ok words.Pong e = absurd cc
word_text-injective words.Pong words.Ok e = absurd cc

IsAbove-word_text : (word : Word) → IsAbove 13 (word_text word)
IsAbove-word_text words.Ok = IsAbove-tested 13 (codes "OK") refl
IsAbove-word_text words.Pong = IsAbove-tested 13 (codes "PONG") refl

is_above-error_text : (code : ErrCode) → is_above 13 (error_text code) ≡ true
is_above-error_text errors.Unknown = refl
is_above-error_text errors.Arity = refl
is_above-error_text errors.Syntax = refl
is_above-error_text errors.Number = refl
is_above-error_text errors.BadId = refl
is_above-error_text errors.Protocol = refl
is_above-error_text errors.IdZero = refl
is_above-error_text errors.IdSmall = refl
is_above-error_text errors.Exhausted = refl
is_above-error_text errors.NoKey = refl
is_above-error_text errors.NoGroup = refl
is_above-error_text errors.BusyGroup = refl
is_above-error_text errors.Memory = refl
is_above-error_text errors.Full = refl
is_above-error_text errors.Stale = refl
is_above-error_text errors.TooMany = refl

-- ---- a part is a mark, a line and a tail

abbrev pub mark : Part → ℕ
mark (Simple word) = 43
mark (Error code) = 45
mark (Int n) = 58
mark (Bulk bytes) = 36
mark NullBulk = 36
mark NullArray = 42
mark (Array items) = 42

abbrev pub line : Part → List ℕ
line (Simple word) = word_text word
line (Error code) = error_text code
line (Int n) = signed_decimal n
line (Bulk bytes) = decimal (length bytes)
line NullBulk = 45 ∷ 49 ∷ []
line NullArray = 45 ∷ 49 ∷ []
line (Array items) = decimal items

-- what follows the line, before the next part
abbrev pub tail : Part → List ℕ → List ℕ
tail (Bulk bytes) behind = bytes ++ (13 ∷ 10 ∷ behind)
tail _ behind = behind

pub IsAbove-line : (part : Part) → IsSpellable part → IsAbove 13 (line part)
IsAbove-line (Simple word) fits = IsAbove-word_text word
IsAbove-line (Error code) fits = IsAbove-tested 13 (error_text code) (is_above-error_text code)
IsAbove-line (Int n) fits = IsAbove-signed n fits
IsAbove-line (Bulk bytes) fits = IsAbove-lower 47 13 (decimal (length bytes)) (omega arith)
    (IsAbove-decimal (length bytes) fits)
IsAbove-line NullBulk fits = IsAbove-tested 13 (45 ∷ 49 ∷ []) refl
IsAbove-line NullArray fits = IsAbove-tested 13 (45 ∷ 49 ∷ []) refl
IsAbove-line (Array items) fits = IsAbove-lower 47 13 (decimal items) (omega arith) (IsAbove-decimal items fits)

short_text : (text behind : List ℕ) → (text ++ (13 ∷ 10 ∷ [])) ++ behind ≡ text ++ (13 ∷ 10 ∷ behind)
short_text text behind = append_assoc text (13 ∷ 10 ∷ []) behind

pub part_text-lines : (part : Part) (behind : List ℕ) → part_text part ++ behind
    ≡ mark part ∷ (line part ++ (13 ∷ 10 ∷ tail part behind))
part_text-lines (Simple word) behind = ap (λ (t : List ℕ). 43 ∷ t) (short_text (word_text word) behind)
part_text-lines (Error code) behind = ap (λ (t : List ℕ). 45 ∷ t) (short_text (error_text code) behind)
part_text-lines (Int n) behind = ap (λ (t : List ℕ). 58 ∷ t) (short_text (signed_decimal n) behind)
part_text-lines (Bulk bytes) behind =
    let len = decimal (length bytes) in
    let line : List ℕ = len ++ (13 ∷ 10 ∷ []) in
    let last = append_assoc (line ++ bytes) (13 ∷ 10 ∷ []) behind in
    let middle = append_assoc line bytes (13 ∷ 10 ∷ behind) in
    let first = append_assoc len (13 ∷ 10 ∷ []) (bytes ++ (13 ∷ 10 ∷ behind)) in
    ap (λ (t : List ℕ). 36 ∷ t) (last ∙ middle ∙ first)
part_text-lines NullBulk behind = refl
part_text-lines NullArray behind = refl
part_text-lines (Array items) behind = ap (λ (t : List ℕ). 42 ∷ t) (short_text (decimal items) behind)

-- ---- and so a text is read in one way

same_front : (a b x y : List ℕ) → length a ≡ length b → a ++ x ≡ b ++ y → (a ≡ b) × (x ≡ y)
same_front a b x y len e =
    let front : a ≡ b = sym (take_at a x (length a) refl) ∙ ap (take (length a)) e ∙ take_at b y (length a) (sym len) in
    let rest : x ≡ y = sym (drop_at a x (length a) refl) ∙ ap (drop (length a)) e ∙ drop_at b y (length a) (sym len) in
    (front, rest)

no_length : (n : ℕ) → n < 2 ^ 64 → decimal n ≡ 45 ∷ 49 ∷ [] → ⊥
no_length n small e =
    let digits : IsAbove 47 (45 ∷ 49 ∷ []) = subst (IsAbove 47) e (IsAbove-decimal n small) in
    absurd (omega (arith, digits.0))

same_part : (p q : Part) (x y : List ℕ) → IsSpellable p → IsSpellable q → mark p ≡ mark q → line p ≡ line q → tail p x
    ≡ tail q y → (p ≡ q) × (x ≡ y)
same_part (Simple v) (Simple w) x y f g m l t = (ap Simple (word_text-injective v w l), t)
same_part (Error c) (Error d) x y f g m l t = (ap Error (error_text-injective c d l), t)
same_part (Int a) (Int b) x y f g m l t = (ap Int (signed_decimal_injective a b f g l), t)
same_part (Bulk a) (Bulk b) x y f g m l t =
    let same = same_front a b (13 ∷ 10 ∷ x) (13 ∷ 10 ∷ y) (decimal_injective (length a) (length b) f g l) t in
    (ap Bulk same.0, cc same.1)
same_part NullBulk NullBulk x y f g m l t = (refl, t)
same_part NullArray NullArray x y f g m l t = (refl, t)
same_part (Array a) (Array b) x y f g m l t = (ap Array (decimal_injective a b f g l), t)
same_part (Bulk a) NullBulk x y f g m l t = absurd (no_length (length a) f l)
same_part NullBulk (Bulk b) x y f g m l t = absurd (no_length (length b) g (sym l))
same_part (Array a) NullArray x y f g m l t = absurd (no_length a f l)
same_part NullArray (Array b) x y f g m l t = absurd (no_length b g (sym l))
same_part p q x y f g m l t = absurd (omega (arith, m))

pub one_part : (p q : Part) (x y : List ℕ) → IsSpellable p → IsSpellable q → part_text p ++ x ≡ part_text q ++ y
    → (p ≡ q) × (x ≡ y)
one_part p q x y f g e =
    let whole : mark p ∷ (line p ++ (13 ∷ 10 ∷ tail p x))
    ≡ mark q ∷ (line q ++ (13 ∷ 10 ∷ tail q y)) = sym (part_text-lines p x) ∙ e ∙ part_text-lines q y in
    let marks : mark p ≡ mark q = cc whole in
    let lines : line p ++ (13 ∷ 10 ∷ tail p x) ≡ line q ++ (13 ∷ 10 ∷ tail q y) = cc whole in
    let split = one_line (line p) (line q) (tail p x) (tail q y) (IsAbove-line p f) (IsAbove-line q g) lines in
    same_part p q x y f g marks split.0 split.1

no_text : (part : Part) (behind : List ℕ) → [] ≡ part_text part ++ behind → ⊥
no_text part behind e =
    let whole : [] ≡ mark part ∷ (line part ++ (13 ∷ 10 ∷ tail part behind)) = e ∙ part_text-lines part behind in
    absurd (cc whole)

pub one_spelling : (ps qs : List Part) → AreSpellable ps → AreSpellable qs → reply_text ps ≡ reply_text qs → ps ≡ qs
one_spelling [] [] f g e = refl
one_spelling [] (q ∷ qs) f g e = absurd (no_text q (reply_text qs) e)
one_spelling (p ∷ ps) [] f g e = absurd (no_text p (reply_text ps) (sym e))
one_spelling (p ∷ ps) (q ∷ qs) f g e =
    let first = one_part p q (reply_text ps) (reply_text qs) f.0 g.0 e in
    let rest = one_spelling ps qs f.1 g.1 first.1 in
    cc (first.0, rest)

-- ---- and the proof that it spells parts is one

IsSpellable-prop : (part : Part) → IsProp (IsSpellable part)
IsSpellable-prop (Simple word) = Unit-prop
IsSpellable-prop (Error code) = Unit-prop
IsSpellable-prop (Int n) = le_prop
IsSpellable-prop (Bulk bytes) = le_prop
IsSpellable-prop NullBulk = Unit-prop
IsSpellable-prop NullArray = Unit-prop
IsSpellable-prop (Array items) = le_prop

AreSpellable-prop : (parts : List Part) → IsProp (AreSpellable parts)
AreSpellable-prop [] = Unit-prop
AreSpellable-prop (part ∷ parts) = ×_prop (IsSpellable-prop part) (AreSpellable-prop parts)

Spells-prop : (text : List ℕ) (parts : List Part) → IsProp (Spells text parts)
Spells-prop text parts a b = λ i. record {
  spelled = Coded-set (coded_list coded_ℕ) text (reply_text parts) a.spelled b.spelled i;
  fit = AreSpellable-prop parts a.fit b.fit i;
}

pub IsSpelled-prop : (text : List ℕ) → IsProp (IsSpelled text)
IsSpelled-prop text a b = Σ_prop_path (Spells-prop text)
    (one_spelling a.0 b.0 a.1.fit b.1.fit (sym a.1.spelled ∙ b.1.spelled))
