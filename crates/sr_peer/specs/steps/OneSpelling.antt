-- A text spells at most one list of parts: each part is a mark, a line, and for a bulk string its bytes and a line end.
-- Only the ghost field of the parts, and lemmas, cite this.
use Rattle.std.proofs.Common.{◌≡◌, ℕ, ◌^◌, ◌<◌, suc, subst, ℤ, pos, negsuc}
use Rattle.std.proofs.Common.{List, [], ◌∷◌, ◌++◌, length, take, drop, refl, sym, ap, ◌∙◌, arith, append_assoc}
use Rattle.std.specs.Prelude.{decimal}
use Rattle.std.specs.Fmt.{signed_decimal}
use Rattle.std.specs.List.{AllByRecursion, flat_map}
use Rattle.std.specs.Coded.{Coded-set, coded_list, coded_ℕ, le_prop, Unit-prop, ×_prop}
use Rattle.std.proofs.lemmas.List.{take_at, drop_at}
use Rattle.std.proofs.lemmas.Fmt.{decimal_injective, signed_decimal_injective}
use lib.Signed.{mag}
use mathlib.Core.HLevel.{Σ_prop_path}
use Rattle.sr_resp.specs.steps.Decoding.{IsLine}
use Rattle.sr_resp.specs.steps.OneSpelling.{IsAbove, IsAbove-decimal}
use Rattle.sr_peer.specs.Reply.{Part, Simple, Error, Int, Bulk, NullBulk, NullArray, Array, part_text}
use Rattle.sr_peer.specs.Reply.{IsOneLine, IsText, IsSpellable}
use Rattle.sr_peer.specs.Spelled.{Spells, IsSpelled}

-- ---- a part is a mark, a line and a tail

abbrev pub mark : Part → ℕ
mark (Simple text) = 43
mark (Error text) = 45
mark (Int n) = 58
mark (Bulk bytes) = 36
mark NullBulk = 36
mark NullArray = 42
mark (Array items) = 42

abbrev pub line : Part → List ℕ
line (Simple text) = text
line (Error text) = text
line (Int n) = signed_decimal n
line (Bulk bytes) = decimal (length bytes)
line NullBulk = 45 ∷ 49 ∷ []
line NullArray = 45 ∷ 49 ∷ []
line (Array items) = decimal items

-- what follows the line, before the next part
abbrev pub tail : Part → List ℕ → List ℕ
tail (Bulk bytes) after = bytes ++ (13 ∷ 10 ∷ after)
tail _ after = after

short_text : (text after : List ℕ) → (text ++ (13 ∷ 10 ∷ [])) ++ after ≡ text ++ (13 ∷ 10 ∷ after)
short_text text after = append_assoc text (13 ∷ 10 ∷ []) after

pub part_text-lines : (part : Part) (after : List ℕ) → part_text part ++ after
    ≡ mark part ∷ (line part ++ (13 ∷ 10 ∷ tail part after))
part_text-lines (Simple text) after = ap (λ (t : List ℕ). 43 ∷ t) (short_text text after)
part_text-lines (Error text) after = ap (λ (t : List ℕ). 45 ∷ t) (short_text text after)
part_text-lines (Int n) after = ap (λ (t : List ℕ). 58 ∷ t) (short_text (signed_decimal n) after)
part_text-lines (Bulk bytes) after =
    let len = decimal (length bytes) in
    let line : List ℕ = len ++ (13 ∷ 10 ∷ []) in
    let last = append_assoc (line ++ bytes) (13 ∷ 10 ∷ []) after in
    let middle = append_assoc line bytes (13 ∷ 10 ∷ after) in
    let first = append_assoc len (13 ∷ 10 ∷ []) (bytes ++ (13 ∷ 10 ∷ after)) in
    ap (λ (t : List ℕ). 36 ∷ t) (last ∙ middle ∙ first)
part_text-lines NullBulk after = refl
part_text-lines NullArray after = refl
part_text-lines (Array items) after = ap (λ (t : List ℕ). 42 ∷ t) (short_text (decimal items) after)

-- ---- lines

-- digits have no carriage return
pub IsLine-above : (bytes : List ℕ) → IsAbove 47 bytes → IsLine bytes
IsLine-above [] above = tt
IsLine-above (b ∷ bytes) above = (λ e. omega (arith, above.0), IsLine-above bytes above.1)

IsLine-text : (text : List ℕ) → IsOneLine text → IsLine text
IsLine-text [] all = tt
IsLine-text (b ∷ text) all = (all.0.0, IsLine-text text all.1)

IsLine-signed : (n : ℤ) → mag n < 2 ^ 63 → IsLine (signed_decimal n)
IsLine-signed (pos n) small = IsLine-above (decimal n) (IsAbove-decimal n (omega arith))
IsLine-signed (negsuc n) small =
    (λ e. omega arith, IsLine-above (decimal (suc n)) (IsAbove-decimal (suc n) (omega arith)))

pub IsLine-line : (part : Part) → IsSpellable part → IsLine (line part)
IsLine-line (Simple text) fits = IsLine-text text fits.one
IsLine-line (Error text) fits = IsLine-text text fits.one
IsLine-line (Int n) fits = IsLine-signed n fits
IsLine-line (Bulk bytes) fits = IsLine-above (decimal (length bytes)) (IsAbove-decimal (length bytes) fits)
IsLine-line NullBulk fits = (λ e. omega arith, (λ e. omega arith, tt))
IsLine-line NullArray fits = (λ e. omega arith, (λ e. omega arith, tt))
IsLine-line (Array items) fits = IsLine-above (decimal items) (IsAbove-decimal items fits)

-- a line ends at its first carriage return
pub same_line : (a b x y : List ℕ) → IsLine a → IsLine b → a ++ (13 ∷ x) ≡ b ++ (13 ∷ y) → (a ≡ b) × (x ≡ y)
same_line [] [] x y p q e = (refl, cc)
same_line [] (d ∷ b) x y p q e =
    let same : 13 ≡ d = cc in
    absurd (q.0 (sym same))
same_line (c ∷ a) [] x y p q e =
    let same : c ≡ 13 = cc in
    absurd (p.0 same)
same_line (c ∷ a) (d ∷ b) x y p q e =
    let heads : c ≡ d = cc in
    let tails : a ++ (13 ∷ x) ≡ b ++ (13 ∷ y) = cc in
    let rest = same_line a b x y p.1 q.1 tails in
    (cc (heads, rest.0), rest.1)

-- ---- and so a text is read in one way

pub same_front : (a b x y : List ℕ) → length a ≡ length b → a ++ x ≡ b ++ y → (a ≡ b) × (x ≡ y)
same_front a b x y len e =
    let front : a ≡ b = sym (take_at a x (length a) refl) ∙ ap (take (length a)) e ∙ take_at b y (length a) (sym len) in
    let rest : x ≡ y = sym (drop_at a x (length a) refl) ∙ ap (drop (length a)) e ∙ drop_at b y (length a) (sym len) in
    (front, rest)

-- a number does not begin with a minus sign
pub no_minus : (n : ℕ) (digits : List ℕ) → n < 2 ^ 64 → decimal n ≡ 45 ∷ digits → ⊥
no_minus n digits small e =
    let above : IsAbove 47 (45 ∷ digits) = subst (IsAbove 47) e (IsAbove-decimal n small) in
    absurd (omega (arith, above.0))

same_part : (p q : Part) (x y : List ℕ) → IsSpellable p → IsSpellable q → mark p ≡ mark q → line p ≡ line q
    → tail p x ≡ tail q y → (p ≡ q) × (x ≡ y)
same_part (Simple v) (Simple w) x y f g m l t = (ap Simple l, t)
same_part (Error c) (Error d) x y f g m l t = (ap Error l, t)
same_part (Int a) (Int b) x y f g m l t = (ap Int (signed_decimal_injective a b f g l), t)
same_part (Bulk a) (Bulk b) x y f g m l t =
    let same = same_front a b (13 ∷ 10 ∷ x) (13 ∷ 10 ∷ y) (decimal_injective (length a) (length b) f g l) t in
    (ap Bulk same.0, cc same.1)
same_part NullBulk NullBulk x y f g m l t = (refl, t)
same_part NullArray NullArray x y f g m l t = (refl, t)
same_part (Array a) (Array b) x y f g m l t = (ap Array (decimal_injective a b f g l), t)
same_part (Bulk a) NullBulk x y f g m l t = absurd (no_minus (length a) (49 ∷ []) f l)
same_part NullBulk (Bulk b) x y f g m l t = absurd (no_minus (length b) (49 ∷ []) g (sym l))
same_part (Array a) NullArray x y f g m l t = absurd (no_minus a (49 ∷ []) f l)
same_part NullArray (Array b) x y f g m l t = absurd (no_minus b (49 ∷ []) g (sym l))
same_part p q x y f g m l t = absurd (omega (arith, m))

pub one_part : (p q : Part) (x y : List ℕ) → IsSpellable p → IsSpellable q → part_text p ++ x ≡ part_text q ++ y
    → (p ≡ q) × (x ≡ y)
one_part p q x y f g e =
    let whole : mark p ∷ (line p ++ (13 ∷ 10 ∷ tail p x))
    ≡ mark q ∷ (line q ++ (13 ∷ 10 ∷ tail q y)) = sym (part_text-lines p x) ∙ e ∙ part_text-lines q y in
    let marks : mark p ≡ mark q = cc whole in
    let lines : line p ++ (13 ∷ 10 ∷ tail p x) ≡ line q ++ (13 ∷ 10 ∷ tail q y) = cc whole in
    let split = same_line (line p) (line q) (10 ∷ tail p x) (10 ∷ tail q y) (IsLine-line p f) (IsLine-line q g) lines in
    let ends : 10 ∷ tail p x ≡ 10 ∷ tail q y = split.1 in
    same_part p q x y f g marks split.0 (cc ends)

no_text : (part : Part) (after : List ℕ) → [] ≡ part_text part ++ after → ⊥
no_text part after e =
    let whole : [] ≡ mark part ∷ (line part ++ (13 ∷ 10 ∷ tail part after)) = e ∙ part_text-lines part after in
    absurd (cc whole)

pub one_spelling : (ps qs : List Part) → AllByRecursion IsSpellable ps → AllByRecursion IsSpellable qs
    → flat_map part_text ps ≡ flat_map part_text qs → ps ≡ qs
one_spelling [] [] f g e = refl
one_spelling [] (q ∷ qs) f g e = absurd (no_text q (flat_map part_text qs) e)
one_spelling (p ∷ ps) [] f g e = absurd (no_text p (flat_map part_text ps) (sym e))
one_spelling (p ∷ ps) (q ∷ qs) f g e =
    let first = one_part p q (flat_map part_text ps) (flat_map part_text qs) f.0 g.0 e in
    let rest = one_spelling ps qs f.1 g.1 first.1 in
    cc (first.0, rest)

-- ---- and the proof that it spells parts is one

not-prop : (A : Type 0) → IsProp (A → ⊥)
not-prop A f g = λ i a. let same : f a ≡ g a = absurd (f a) in same i

bytes-prop : (text : List ℕ) → IsProp (IsOneLine text)
bytes-prop [] = Unit-prop
bytes-prop (b ∷ text) = ×_prop (×_prop (not-prop (b ≡ 13)) (not-prop (b ≡ 10))) (bytes-prop text)

IsText-prop : (text : List ℕ) → IsProp (IsText text)
IsText-prop text a b = λ i. record { one = bytes-prop text a.one b.one i; short = le_prop a.short b.short i }

IsSpellable-prop : (part : Part) → IsProp (IsSpellable part)
IsSpellable-prop (Simple text) = IsText-prop text
IsSpellable-prop (Error text) = IsText-prop text
IsSpellable-prop (Int n) = le_prop
IsSpellable-prop (Bulk bytes) = le_prop
IsSpellable-prop NullBulk = Unit-prop
IsSpellable-prop NullArray = Unit-prop
IsSpellable-prop (Array items) = le_prop

AreSpellable-prop : (parts : List Part) → IsProp (AllByRecursion IsSpellable parts)
AreSpellable-prop [] = Unit-prop
AreSpellable-prop (part ∷ parts) = ×_prop (IsSpellable-prop part) (AreSpellable-prop parts)

Spells-prop : (text : List ℕ) (parts : List Part) → IsProp (Spells text parts)
Spells-prop text parts a b = λ i. record {
  spellable = AreSpellable-prop parts a.spellable b.spellable i;
  spelled = Coded-set (coded_list coded_ℕ) text (flat_map part_text parts) a.spelled b.spelled i;
}

pub IsSpelled-prop : (text : List ℕ) → IsProp (IsSpelled text)
IsSpelled-prop text a b = Σ_prop_path (Spells-prop text)
    (one_spelling a.0 b.0 a.1.spellable b.1.spellable (sym a.1.spelled ∙ b.1.spelled))
