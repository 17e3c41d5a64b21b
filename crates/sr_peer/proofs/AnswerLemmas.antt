-- Replies that were read so far, part by part.
use Rattle.std.proofs.Common.{◌≡◌, ◌≢◌, ℕ, zero, suc, ◌+◌, ◌-◌, ◌<◌, ◌≤◌, List, [], ◌∷◌, ◌++◌, length, drop, refl}
use Rattle.std.proofs.Common.{sym, ap}
use Rattle.std.proofs.Common.{◌∙◌, subst, arith, length-append, append-nil, append_assoc, zero-add}
use Rattle.std.specs.Prelude.{◌==◌, ◌↔◌, IsTrue}
use Rattle.std.specs.List.{AllByRecursion, flat_map}
use Rattle.std.proofs.lemmas.Bool.{ne_eqb}
use Rattle.std.proofs.lemmas.List.{drop-append-le, length-drop}
use Rattle.sr_peer.specs.Arriving.{AreWhole, MayBecome}
use Rattle.sr_peer.specs.Reply.{Part, Simple, Error, Int, Bulk, NullBulk, NullArray, Array, AreReplies, IsSpellable}
use Rattle.sr_peer.specs.Reply.{items_of, part_text}
use Rattle.sr_peer.specs.steps.OneSpelling.{one_part}
use Rattle.sr_peer.specs.steps.Reading.{HasPart, IsWrong, IsBegun, AreLeft, AreAlike, AreRead}
use Rattle.sr_peer.proofs.FormLemmas.{nothing-begun}

-- ---- parts take bytes

pub part_text-some : (part : Part) → 1 ≤ length (part_text part)
part_text-some (Simple text) = omega arith
part_text-some (Error text) = omega arith
part_text-some (Int n) = omega arith
part_text-some (Bulk bytes) = omega arith
part_text-some NullBulk = omega arith
part_text-some NullArray = omega arith
part_text-some (Array items) = omega arith

texts-long : (parts : List Part) → length parts ≤ length (flat_map part_text parts)
texts-long [] = omega arith
texts-long (part ∷ parts) =
    omega (arith, texts-long parts, part_text-some part, length-append (part_text part) (flat_map part_text parts))

pub part-shorter : (text after : List ℕ) (part : Part) → HasPart text part after → length after < length text
part-shorter text after part has =
    omega (arith, ap length has.whole, length-append (part_text part) after, part_text-some part)

replies-few : (n : ℕ) (parts : List Part) → AreReplies n parts → n ≤ length parts
replies-few n [] are = omega arith
replies-few zero (part ∷ parts) are = omega arith
replies-few (suc n) (part ∷ parts) are = omega (arith, replies-few (items_of part + n) parts are)

-- each reply takes a byte at least
pub whole-few : (n : ℕ) (text : List ℕ) → AreWhole n text → n ≤ length text
whole-few n text (parts, is) = omega (arith, replies-few n parts is.replies, texts-long parts, ap length is.spelled)

-- ---- the first part of replies, and the others

whole-after : (n : ℕ) (text after : List ℕ) (part : Part) → HasPart text part after → AreWhole (suc n) text
    → AreWhole (items_of part + n) after
whole-after n text after part has ([], is) = absurd (omega (arith, is.replies))
whole-after n text after part has (first ∷ parts, is) =
    let same = one_part first part (flat_map part_text parts) after is.spellable.0 has.fits
    (sym is.spelled ∙ has.whole) in
    let items : items_of first + n ≡ items_of part + n = ap (λ (p : Part). items_of p + n) same.0 in (
      parts,
      record {
        replies = subst (λ (m : ℕ). AreReplies m parts) items is.replies;
        spellable = is.spellable.1;
        spelled = sym same.1;
      },
    )

pub whole-before : (n : ℕ) (text after : List ℕ) (part : Part) → HasPart text part after
    → AreWhole (items_of part + n) after → AreWhole (suc n) text
whole-before n text after part has (parts, is) = (
  part ∷ parts,
  record {
    replies = is.replies;
    spellable = (has.fits, is.spellable);
    spelled = has.whole ∙ ap (λ (t : List ℕ). part_text part ++ t) is.spelled;
  },
)

part-more : (text after more : List ℕ) (part : Part) → HasPart text part after
    → HasPart (text ++ more) part (after ++ more)
part-more text after more part has = record {
  whole = ap (λ (t : List ℕ). t ++ more) has.whole ∙ append_assoc (part_text part) after more;
  fits = has.fits;
}

-- ---- texts that are alike

pub alike-same : (n : ℕ) (text : List ℕ) → AreAlike n text n text
alike-same n text = λ more. (λ are. are, λ are. are)

pub alike-through : (k m n : ℕ) (a b c : List ℕ) → AreAlike k a m b → AreAlike m b n c → AreAlike k a n c
alike-through k m n a b c first second = λ more.
    (λ are. (second more).0 ((first more).0 are), λ are. (first more).1 ((second more).1 are))

-- a part at the front is read
pub alike-after : (due : ℕ) (left after : List ℕ) (part : Part) → 0 < due → HasPart left part after
    → AreAlike due left (items_of part + (due - 1)) after
alike-after zero left after part some has = absurd (omega arith)
alike-after (suc n) left after part some has = λ more.
    let more-has = part-more left after more part has in
    let one : suc n - 1 ≡ n = omega arith in (
      λ are. subst (λ (m : ℕ). AreWhole (items_of part + m) (after ++ more)) (sym one)
          (whole-after n (left ++ more) (after ++ more) part more-has are),
      λ are. whole-before n (left ++ more) (after ++ more) part more-has
          (subst (λ (m : ℕ). AreWhole (items_of part + m) (after ++ more)) one are),
    )

-- more bytes come to both
pub alike-more : (k n : ℕ) (text left piece : List ℕ) → AreAlike k text n left
    → AreAlike k (text ++ piece) n (left ++ piece)
alike-more k n text left piece alike = λ more. (
  λ are. subst (AreWhole n) (sym (append_assoc left piece more))
      ((alike (piece ++ more)).0 (subst (AreWhole k) (append_assoc text piece more) are)),
  λ are. subst (AreWhole k) (sym (append_assoc text piece more))
      ((alike (piece ++ more)).1 (subst (AreWhole n) (append_assoc left piece more) are)),
)

-- ---- what is left

pub no-more : (text : List ℕ) → AreWhole 0 text → text ≡ []
no-more text ([], is) = is.spelled
no-more text (part ∷ parts, is) = absurd is.replies

pub none-whole : AreWhole 0 []
none-whole = ([], record { replies = refl; spellable = tt; spelled = refl })

-- bytes after the last reply
pub left-over : (due : ℕ) (left : List ℕ) → due ≡ 0 → left ≢ [] → (more : List ℕ) → AreWhole due (left ++ more) → ⊥
left-over due [] none some more are = some refl
left-over due (b ∷ left) none some more are =
    absurd (cc (no-more ((b ∷ left) ++ more) (subst (λ (n : ℕ). AreWhole n ((b ∷ left) ++ more)) none are)))

-- bytes that no part begins with
pub wrong-whole : (due : ℕ) (left : List ℕ) → 0 < due → IsWrong left → (more : List ℕ) → AreWhole due (left ++ more) → ⊥
wrong-whole due left some wrong more ([], is) = absurd (omega (arith, is.replies))
wrong-whole due left some wrong more (part ∷ parts, is) =
    wrong more part (flat_map part_text parts) (record { whole = is.spelled; fits = is.spellable.0 })

-- a part that has begun
pub begun-whole : (due : ℕ) (left : List ℕ) (least : ℕ) → 0 < due → IsBegun left least → (more : List ℕ)
    → AreWhole due (left ++ more) → least ≤ length more
begun-whole due left least some begun more ([], is) = absurd (omega (arith, is.replies))
begun-whole due left least some begun more (part ∷ parts, is) =
    begun.needed more part (flat_map part_text parts) (record { whole = is.spelled; fits = is.spellable.0 })

-- this many null replies
nulls : ℕ → List Part
nulls zero = []
nulls (suc n) = NullBulk ∷ nulls n

nulls-are : (n : ℕ) → AreReplies n (nulls n)
unfolding nulls
nulls-are zero = refl
nulls-are (suc n) = subst (λ (m : ℕ). AreReplies m (nulls n)) (sym (zero-add n)) (nulls-are n)

nulls-fit : (n : ℕ) → AllByRecursion IsSpellable (nulls n)
unfolding nulls
nulls-fit zero = tt
nulls-fit (suc n) = (tt, nulls-fit n)

nulls-whole : (n : ℕ) → AreWhole n (flat_map part_text (nulls n))
nulls-whole n = (nulls n, record { replies = nulls-are n; spellable = nulls-fit n; spelled = refl })

pub left-may : (due : ℕ) (left : List ℕ) → AreLeft due left → MayBecome due left
left-may zero left are = ([], subst (AreWhole 0) (sym (ap (λ (t : List ℕ). t ++ []) (are.none refl))) none-whole)
left-may (suc n) left are =
    let begun = (are.some (omega arith)).1 in
    let others = flat_map part_text (nulls (items_of begun.part + n)) in
    let spelled : left ++ (begun.more ++ others) ≡ part_text begun.part ++ others =
    sym (append_assoc left begun.more others) ∙ ap (λ (t : List ℕ). t ++ others) begun.whole.whole
    ∙ ap (λ (t : List ℕ). t ++ others) (append-nil (part_text begun.part)) in (
      begun.more ++ others,
      whole-before n (left ++ (begun.more ++ others)) others begun.part
          (record { whole = spelled; fits = begun.whole.fits }) (nulls-whole (items_of begun.part + n)),
    )

-- ---- a text that was read up to a place

-- the bytes that are left, and those before them
pub record IsSuffix (text left : List ℕ) : Type 0 where
  pub within : length left ≤ length text
  pub is : drop (length text - length left) text ≡ left

pub suffix-drop : (text left : List ℕ) (at : ℕ) → at ≤ length text → left ≡ drop at text → IsSuffix text left
suffix-drop text left at within is =
    let count : length left ≡ length text - at = ap length is ∙ length-drop at text in
    let back : length text - length left ≡ at = omega arith in
    record { within = omega arith; is = ap (λ (n : ℕ). drop n text) back ∙ sym is }

pub read-new : (count : ℕ) (text : List ℕ) → text ≡ [] → AreRead count text 0 count
read-new count (b ∷ text) none = absurd (cc none)
read-new count [] none = record {
  within = omega arith;
  short = omega arith;
  alike = alike-same count [];
  left = record { none = λ _. refl; some = λ _. (1, nothing-begun [] refl) };
}

-- the place that was reached before more bytes came
pub read-more : (count at due : ℕ) (text piece : List ℕ) → AreRead count text at due
    → AreAlike count (text ++ piece) due (drop at (text ++ piece))
read-more count at due text piece are =
    subst (λ (left : List ℕ). AreAlike count (text ++ piece) due left) (sym (drop-append-le at text piece are.within))
    (alike-more count due text (drop at text) piece are.alike)

pub read-whole : (count at due : ℕ) (text : List ℕ) → AreRead count text at due
    → IsTrue (due == 0) ↔ AreWhole count text
read-whole count at due text are = (
  λ none. subst (AreWhole count) (append-nil text)
      ((are.alike []).1 (all due (drop at text) are.left none)),
  λ whole. ended due (drop at text) are.left
      (subst (AreWhole due) (append-nil (drop at text))
      ((are.alike []).0 (subst (AreWhole count) (sym (append-nil text)) whole))),
)
  where
    all : (due : ℕ) (left : List ℕ) → AreLeft due left → IsTrue (due == 0) → AreWhole due (left ++ [])
    all zero left are none = subst (AreWhole 0) (sym (ap (λ (t : List ℕ). t ++ []) (are.none refl))) none-whole
    all (suc n) left are none = absurd (cc (none, ne_eqb (suc n) 0 (λ z. absurd (omega arith))))

    ended : (due : ℕ) (left : List ℕ) → AreLeft due left → AreWhole due left → IsTrue (due == 0)
    ended zero left are whole = refl
    ended (suc n) left are whole =
        let begun = are.some (omega arith) in
        let needed = begun-whole (suc n) left begun.0 (omega arith) begun.1 []
        (subst (AreWhole (suc n)) (sym (append-nil left)) whole) in
        absurd (omega (arith, needed, begun.1.some))
