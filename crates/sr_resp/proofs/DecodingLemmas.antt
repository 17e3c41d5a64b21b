-- Reading back a reply, on lists alone: a line, a number, a part, and the replies that a text spells.
use Rattle.std.proofs.Common.{lit<, inl, inr, ◌≡◌, ℕ, zero, suc, ◌+◌, ◌-◌, ◌^◌, ◌<◌, ◌≤◌, ◌⊎◌, ℤ, pos, negsuc, List, [], ◌∷◌, ◌++◌, length, get_or, take, drop, refl, sym, ap, ◌∙◌, subst, arith, drop-cons, length-append}
use Rattle.std.specs.Prelude.{Bool, true, false, ◌==◌, Option, Some, None, IfNone, decimal, ◌↔◌}
use Rattle.std.specs.Fmt.{signed_decimal}
use Rattle.std.proofs.lemmas.Fmt.{decimal_injective}
use Rattle.std.proofs.lemmas.Bool.{eq-eqb, ne_eqb}
use Rattle.std.proofs.lemmas.List.{take-append-drop}
use lib.Signed.{mag}
use Rattle.sr_bytes.specs.{IsDecimal}
use Rattle.sr_bytes.proofs.DecimalLemmas.{IsDecimal-decimal, IsDecimal-one}
use Rattle.sr_resp.specs.declared.code.ErrCode.{ErrCode}
use Rattle.sr_resp.specs.declared.code.ErrCode.TheVariants as errors
use Rattle.sr_resp.specs.Code.{error_text}
use Rattle.sr_resp.specs.Reply.{Part, Bulk, NullBulk, AreReplies, items_of, part_text, reply_text}
use Rattle.sr_resp.specs.Spelled.{AreSpellable, Spells}
use Rattle.sr_resp.specs.steps.OneSpelling.{each_error, IsAbove, IsAbove-decimal, IsAbove-line, mark, line, tail, part_text-lines, one_part}
use Rattle.sr_resp.specs.steps.Decoding.{IsLine, HasLine, HasForm, HasPart, SpellsReplies, AreSpelledReplies}
use Rattle.sr_resp.proofs.DraftLemmas.{part_text-some, reply_text-long}

-- ---- no value, and no bytes

pub none-weaker : {X P Q : Type 0} (o : Option X) → (P → Q) → IfNone o P → IfNone o Q
none-weaker None f p = f p
none-weaker (Some x) f p = tt

-- the test whether there are no bytes
pub empty-true : (text : List ℕ) (b : Bool) → b ≡ (length text == 0) → b ≡ true → text ≡ []
empty-true [] b is holds = refl
empty-true (byte ∷ text) b is holds =
    let no : (length (byte ∷ text) == 0) ≡ false = ne_eqb (length (byte ∷ text)) 0 (λ z. absurd (omega arith)) in
    absurd (cc (is, holds, no))

pub true-empty : (text : List ℕ) (b : Bool) → b ≡ (length text == 0) → text ≡ [] → b ≡ true
true-empty text b is none = is ∙ eq-eqb (length text) 0 (ap length none)

-- ---- lines

-- the bytes before the first carriage return
pub IsLine-take : (text : List ℕ) (end : ℕ) → ((k : ℕ) → k < end → get_or text k 0 ≡ 13 → ⊥) → end ≤ length text → IsLine (take end text)
IsLine-take text zero first within = tt
IsLine-take [] (suc end) first within = absurd (omega arith)
IsLine-take (b ∷ text) (suc end) first within = (first 0 (omega arith), IsLine-take text end (λ k lt. first (suc k) (omega arith)) (omega arith))

-- the bytes of a line that is written are above those of its end
IsLine-above : (bytes : List ℕ) → IsAbove 13 bytes → IsLine bytes
IsLine-above [] above = tt
IsLine-above (b ∷ bytes) above = (λ e. omega (arith, above.0), IsLine-above bytes above.1)

-- a line ends at its first carriage return
same_line : (a b x y : List ℕ) → IsLine a → IsLine b → a ++ 13 ∷ x ≡ b ++ 13 ∷ y → (a ≡ b) × (x ≡ y)
same_line [] [] x y p q e = (refl, cc)
same_line [] (d ∷ b) x y p q e =
    let same : 13 ≡ d = cc in
    absurd (q.0 (sym same))
same_line (c ∷ a) [] x y p q e =
    let same : c ≡ 13 = cc in
    absurd (p.0 same)
same_line (c ∷ a) (d ∷ b) x y p q e =
    let heads : c ≡ d = cc in
    let tails : a ++ 13 ∷ x ≡ b ++ 13 ∷ y = cc in
    let rest = same_line a b x y p.1 q.1 tails in
    (cc (heads, rest.0), rest.1)

HasLine-one : (text a b x y : List ℕ) → HasLine text a x → HasLine text b y → (a ≡ b) × (x ≡ y)
HasLine-one text a b x y p q =
    let same = same_line a b (10 ∷ x) (10 ∷ y) p.one q.one (sym p.whole ∙ q.whole) in
    let ends : 10 ∷ x ≡ 10 ∷ y = same.1 in
    (same.0, cc ends)

-- a text with no carriage return has no line end
no_return : (text front after : List ℕ) → ((k : ℕ) → k < length text → get_or text k 0 ≡ 13 → ⊥) → text ≡ front ++ 13 ∷ after → ⊥
no_return [] [] after none e = absurd (cc e)
no_return [] (c ∷ front) after none e = absurd (cc e)
no_return (b ∷ text) [] after none e =
    let same : b ≡ 13 = cc e in
    none 0 (omega arith) same
no_return (b ∷ text) (c ∷ front) after none e =
    let tails : text ≡ front ++ 13 ∷ after = cc e in
    no_return text front after (λ k lt. none (suc k) (omega arith)) tails

pub no_line : (text front after : List ℕ) → ((k : ℕ) → k < length text → get_or text k 0 ≡ 13 → ⊥) → HasLine text front after → ⊥
no_line text front after none has = no_return text front (10 ∷ after) none has.whole

-- a text whose first carriage return comes without a line feed
pub other_line : (text : List ℕ) (end : ℕ) (front after : List ℕ) → end < length text → get_or text end 0 ≡ 13 → ((k : ℕ) → k < end → get_or text k 0 ≡ 13 → ⊥)
    → ((rest : List ℕ) → drop end text ≡ 13 ∷ 10 ∷ rest → ⊥) → HasLine text front after → ⊥
other_line text end front after within at first other has =
    let back : drop end text ≡ 13 ∷ drop (suc end) text = drop-cons text end 0 within ∙ ap (λ (b : ℕ). b ∷ drop (suc end) text) at in
    let split : text ≡ take end text ++ 13 ∷ drop (suc end) text = sym (take-append-drop end text) ∙ ap (λ (t : List ℕ). take end text ++ t) back in
    let same = same_line (take end text) front (drop (suc end) text) (10 ∷ after) (IsLine-take text end first (omega arith)) has.one (sym split ∙ has.whole) in
    other after (back ∙ ap (λ (t : List ℕ). 13 ∷ t) same.1)

-- ---- numbers

-- digits that are not read are not those of a number, and digits that are read are those of one number
pub number-none : (digits : List ℕ) (n : ℕ) → ((n : ℕ) → n < 2 ^ 64 → IsDecimal 20 digits n → ⊥) → n < 2 ^ 64 → decimal n ≡ digits → ⊥
number-none digits n none small e = none n small (subst (λ (ds : List ℕ). IsDecimal 20 ds n) e (IsDecimal-decimal n small))

pub number-one : (digits : List ℕ) (m n : ℕ) → IsDecimal 20 digits m → n < 2 ^ 64 → decimal n ≡ digits → decimal m ≡ digits
number-one digits m n is small e =
    let same : m ≡ n = IsDecimal-one is (subst (λ (ds : List ℕ). IsDecimal 20 ds n) e (IsDecimal-decimal n small)) in
    ap decimal same ∙ e

-- a number does not begin with a minus sign
no_minus : (n : ℕ) (digits : List ℕ) → n < 2 ^ 64 → decimal n ≡ 45 ∷ digits → ⊥
no_minus n digits small e =
    let above : IsAbove 47 (45 ∷ digits) = subst (IsAbove 47) e (IsAbove-decimal n small) in
    absurd (omega (arith, above.0))

-- after a minus sign come the digits of a number above 0
pub negative-digits : (digits : List ℕ) (n : ℤ) → mag n < 2 ^ 63 → signed_decimal n ≡ 45 ∷ digits → (k : ℕ) × (k < 2 ^ 63) × (decimal (suc k) ≡ digits)
negative-digits digits (pos n) small e = absurd (no_minus n digits (omega arith) e)
negative-digits digits (negsuc n) small e =
    let rest : decimal (suc n) ≡ digits = cc e in
    (n, small, rest)

-- digits that no number has are not those of a negative one
pub negative-none : (digits : List ℕ) (n : ℤ) → ((k : ℕ) → k < 2 ^ 64 → decimal k ≡ digits → ⊥) → mag n < 2 ^ 63 → signed_decimal n ≡ 45 ∷ digits → ⊥
negative-none digits n none small e =
    let k = negative-digits digits n small e in
    none (suc k.0) (omega (arith, k.1)) k.2

-- a number with these digits is in the range of those after a minus sign
pub negative-one : (digits : List ℕ) (m : ℕ) (n : ℤ) → m < 2 ^ 64 → decimal m ≡ digits → mag n < 2 ^ 63 → signed_decimal n ≡ 45 ∷ digits → (0 < m) × (m ≤ 2 ^ 63)
negative-one digits m n fits is small e =
    let k = negative-digits digits n small e in
    let same : m ≡ suc k.0 = decimal_injective m (suc k.0) fits (omega (arith, k.1)) (is ∙ sym k.2) in
    (omega arith, omega (arith, k.1))

-- a text with no minus sign is that of a number that fits
pub plain-one : (text : List ℕ) (m : ℕ) (n : ℤ) → m < 2 ^ 64 → decimal m ≡ text → mag n < 2 ^ 63 → signed_decimal n ≡ text → m < 2 ^ 63
plain-one text m (pos n) fits is small e =
    let same : m ≡ n = decimal_injective m n fits (omega arith) (is ∙ sym e) in
    omega arith
plain-one text m (negsuc n) fits is small e = absurd (no_minus m (decimal (suc n)) fits (is ∙ sym e))

-- ---- errors

-- no error has the text if none of them in turn has
pub no_error : (text : List ℕ) → ((k : ℕ) → k < 16 → error_text (get_or each_error k errors.Unknown) ≡ text → ⊥) → (code : ErrCode) → error_text code ≡ text → ⊥
no_error text none errors.Unknown e = none 0 (lit< tt) e
no_error text none errors.Arity e = none 1 (lit< tt) e
no_error text none errors.Syntax e = none 2 (lit< tt) e
no_error text none errors.Number e = none 3 (lit< tt) e
no_error text none errors.BadId e = none 4 (lit< tt) e
no_error text none errors.Protocol e = none 5 (lit< tt) e
no_error text none errors.IdZero e = none 6 (lit< tt) e
no_error text none errors.IdSmall e = none 7 (lit< tt) e
no_error text none errors.Exhausted e = none 8 (lit< tt) e
no_error text none errors.NoKey e = none 9 (lit< tt) e
no_error text none errors.NoGroup e = none 10 (lit< tt) e
no_error text none errors.BusyGroup e = none 11 (lit< tt) e
no_error text none errors.Memory e = none 12 (lit< tt) e
no_error text none errors.Full e = none 13 (lit< tt) e
no_error text none errors.Stale e = none 14 (lit< tt) e
no_error text none errors.TooMany e = none 15 (lit< tt) e

-- ---- parts

shape-of : (whole : List ℕ) (part : Part) (others : List ℕ) → HasPart whole part others → whole ≡ mark part ∷ (line part ++ 13 ∷ 10 ∷ tail part others)
shape-of whole part others has = has.whole ∙ part_text-lines part others

-- the line of a part at the front is the first line after its mark
HasLine-part : (text : List ℕ) (sign : ℕ) (part : Part) (others : List ℕ) → HasPart (sign ∷ text) part others → HasLine text (line part) (tail part others)
HasLine-part text sign part others has = record {
  whole = cc (shape-of (sign ∷ text) part others has);
  one = IsLine-above (line part) (IsAbove-line part has.fits);
}

pub no_part-line : (text : List ℕ) (sign : ℕ) (part : Part) (others : List ℕ) → ((front after : List ℕ) → HasLine text front after → ⊥) → HasPart (sign ∷ text) part others → ⊥
no_part-line text sign part others none has = none (line part) (tail part others) (HasLine-part text sign part others has)

-- so the first line is that of the part
pub HasForm-part : (text : List ℕ) (sign : ℕ) (front after : List ℕ) (part : Part) (others : List ℕ) → HasLine text front after → HasPart (sign ∷ text) part others → HasForm sign front after part others
HasForm-part text sign front after part others is has =
    let same = HasLine-one text (line part) front (tail part others) after (HasLine-part text sign part others has) is in
    record {
      marked = sym (cc (shape-of (sign ∷ text) part others has));
      lined = same.0;
      ended = same.1;
      fits = has.fits;
    }

-- a bulk string whose length is known
pub no_string : (front after : List ℕ) (n : ℕ) (part : Part) (others : List ℕ) → n < 2 ^ 64 → decimal n ≡ front
    → ((string behind : List ℕ) → length string ≡ n → after ≡ string ++ 13 ∷ 10 ∷ behind → ⊥) → HasForm 36 front after part others → ⊥
no_string front after n (Bulk bytes) others small is none form =
    none bytes others (decimal_injective (length bytes) n form.fits small (form.lined ∙ sym is)) (sym form.ended)
no_string front after n NullBulk others small is none form = absurd (no_minus n (49 ∷ []) small (is ∙ sym form.lined))
no_string front after n part others small is none form = absurd (omega (arith, form.marked))

-- ---- replies

-- each reply takes a byte at least
replies-few : (n : ℕ) (parts : List Part) → AreReplies n parts → n ≤ length parts
replies-few n [] are = omega arith
replies-few zero (part ∷ parts) are = omega arith
replies-few (suc n) (part ∷ parts) are = omega (arith, replies-few (items_of part + n) parts are)

pub too_many : (n : ℕ) (text : List ℕ) → length text < n → AreSpelledReplies n text → ⊥
too_many n text more (parts, is) = absurd (omega (arith, replies-few n parts is.whole, reply_text-long parts, ap length is.spells.spelled))

pub none-left : (text : List ℕ) → text ≡ [] → AreSpelledReplies 0 text
none-left text e = ([], record { spells = record { spelled = e; fit = tt }; whole = refl })

pub some-left : (n : ℕ) (text : List ℕ) → n ≡ 0 → AreSpelledReplies n text → text ≡ []
some-left n text none ([], is) = is.spells.spelled
some-left n text none (part ∷ parts, is) = absurd (subst (λ (m : ℕ). AreReplies m (part ∷ parts)) none is.whole)

-- what no items spell is no parts
pub no_items : (text : List ℕ) (parts : List Part) → AreSpelledReplies 0 text → Spells text parts → parts ≡ []
no_items text [] are spells = refl
no_items text (part ∷ parts) are spells = absurd (omega (arith, reply_text-long (part ∷ parts), ap length spells.spelled, ap length (some-left 0 text refl are)))

-- the first part of some replies, and the rest
pub replies-after : (n : ℕ) (text after : List ℕ) (part : Part) → HasPart text part after → AreSpelledReplies (suc n) text → AreSpelledReplies (items_of part + n) after
replies-after n text after part has ([], is) = absurd (omega (arith, is.whole))
replies-after n text after part has (first ∷ parts, is) =
    let same = one_part first part (reply_text parts) after is.spells.fit.0 has.fits (sym is.spells.spelled ∙ has.whole) in
    let items : items_of first + n ≡ items_of part + n = ap (λ (p : Part). items_of p + n) same.0 in (
      parts,
      record {
        spells = record { spelled = sym same.1; fit = is.spells.fit.1 };
        whole = subst (λ (m : ℕ). AreReplies m parts) items is.whole;
      },
    )

pub replies-before : (n : ℕ) (text after : List ℕ) (part : Part) → HasPart text part after → AreSpelledReplies (items_of part + n) after → AreSpelledReplies (suc n) text
replies-before n text after part has (parts, is) = (
  part ∷ parts,
  record {
    spells = record { spelled = has.whole ∙ ap (λ (t : List ℕ). part_text part ++ t) is.spells.spelled; fit = (has.fits, is.spells.fit) };
    whole = is.whole;
  },
)

pub no_replies : (n : ℕ) (text : List ℕ) → ((part : Part) (after : List ℕ) → HasPart text part after → ⊥) → AreSpelledReplies (suc n) text → ⊥
no_replies n text none ([], is) = absurd (omega (arith, is.whole))
no_replies n text none (part ∷ parts, is) = none part (reply_text parts) (record { whole = is.spells.spelled; fits = is.spells.fit.0 })

-- counts above the number of bytes are alike: no text has that many replies
same_count : (m n : ℕ) (text : List ℕ) → (m ≡ n) ⊎ ((length text < m) × (length text < n)) → AreSpelledReplies m text → AreSpelledReplies n text
same_count m n text (inl same) are = subst (λ (k : ℕ). AreSpelledReplies k text) same are
same_count m n text (inr above) are = absurd (too_many m text above.0 are)

swapped : (m n : ℕ) (text : List ℕ) → (m ≡ n) ⊎ ((length text < m) × (length text < n)) → (n ≡ m) ⊎ ((length text < n) × (length text < m))
swapped m n text (inl same) = inl (sym same)
swapped m n text (inr above) = inr (above.1, above.0)

-- a part at the front is read, and the replies after it are left
pub replies-step : (due left : ℕ) (text after : List ℕ) (part : Part) → 0 < due → HasPart text part after → (left ≡ items_of part + (due - 1)) ⊎ ((length after < left) × (length after < items_of part + (due - 1)))
    → AreSpelledReplies due text ↔ AreSpelledReplies left after
replies-step due left text after part some has count =
    let k : due ≡ suc (due - 1) = omega arith in
    let items = items_of part + (due - 1) in (
      λ are. same_count items left after (swapped left items after count) (replies-after (due - 1) text after part has (subst (λ (m : ℕ). AreSpelledReplies m text) k are)),
      λ are. subst (λ (m : ℕ). AreSpelledReplies m text) (sym k) (replies-before (due - 1) text after part has (same_count left items after count are)),
    )

pub none-due : (due : ℕ) (text : List ℕ) → 0 < due → ((part : Part) (after : List ℕ) → HasPart text part after → ⊥) → AreSpelledReplies due text → ⊥
none-due due text some none are =
    let k : due ≡ suc (due - 1) = omega arith in
    no_replies (due - 1) text none (subst (λ (m : ℕ). AreSpelledReplies m text) k are)

-- one reply: its first part, and the others
pub no_reply : (text : List ℕ) → ((part : Part) (after : List ℕ) → HasPart text part after → ⊥) → (reply : List Part) → AreReplies 1 reply → AreSpellable reply → reply_text reply ≡ text → ⊥
no_reply text none reply one fit e = no_replies 0 text none (reply, record { spells = record { spelled = sym e; fit = fit }; whole = one })

-- the reply is this part and then these parts, its items, which the bytes after it spell
pub record IsSplit (part : Part) (after : List ℕ) (reply parts : List Part) : Type 0 where
  pub is : reply ≡ part ∷ parts
  pub spells : SpellsReplies (items_of part) after parts

pub reply-split : (text after : List ℕ) (part : Part) → HasPart text part after → (reply : List Part) → AreReplies 1 reply → AreSpellable reply → reply_text reply ≡ text → (parts : List Part) × IsSplit part after reply parts
reply-split text after part has [] one fit e = absurd (omega (arith, one))
reply-split text after part has (first ∷ parts) one fit e =
    let same = one_part first part (reply_text parts) after fit.0 has.fits (e ∙ has.whole) in
    let items : items_of first + 0 ≡ items_of part = omega (arith, ap items_of same.0) in (
      parts,
      record {
        is = ap (λ (p : Part). p ∷ parts) same.0;
        spells = record {
          spells = record { spelled = sym same.1; fit = fit.1 };
          whole = subst (λ (m : ℕ). AreReplies m parts) items one;
        };
      },
    )

-- a part takes a byte at least
pub part-shorter : (text after : List ℕ) (part : Part) → HasPart text part after → length after < length text
part-shorter text after part has = omega (arith, ap length has.whole, length-append (part_text part) after, part_text-some part)
