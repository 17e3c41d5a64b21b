-- The parts that a text is known to spell.
use Rattle.std.proofs.Common.{◌≡◌, ℕ, List, [], ◌∷◌, length, refl, sym, ap, ◌∙◌, subst, arith}
use Rattle.std.proofs.Common.{append-nil}
use Rattle.std.specs.List.{flat_map}
use Rattle.sr_peer.specs.Arriving.{AreWhole}
use Rattle.sr_peer.specs.Reply.{Part, AreReplies, Spell, part_text}
use Rattle.sr_peer.specs.Spelled.{Spells, IsSpelled, parts_of}
use Rattle.sr_peer.specs.steps.OneSpelling.{one_part, one_spelling}
use Rattle.sr_peer.specs.steps.Reading.{HasPart, IsWrong, IsBegun}
use Rattle.sr_peer.proofs.AnswerLemmas.{part-shorter}

pub parts-spelled : (text : List ℕ) (is : IsSpelled text) → Spells text (parts_of text is)
unfolding parts_of
parts-spelled text is = is.1

-- a text has the parts that it is known to spell
pub parts-known : (text : List ℕ) (is : IsSpelled text) (parts : List Part) → Spells text parts
    → parts_of text is ≡ parts
parts-known text is parts spells =
    let own = parts-spelled text is in
    one_spelling (parts_of text is) parts own.spellable spells.spellable (sym own.spelled ∙ spells.spelled)

pub parts-same : (text old : List ℕ) (is : IsSpelled text) (was : IsSpelled old) → text ≡ old
    → parts_of text is ≡ parts_of old was
parts-same text old is was e =
    parts-known text is (parts_of old was)
    (subst (λ (t : List ℕ). Spells t (parts_of old was)) (sym e) (parts-spelled old was))

-- the first part, and those of the bytes after it
pub first-spelled : (text after : List ℕ) (part : Part) (parts : List Part) → HasPart text part after
    → Spells text parts
    → (others : List Part) × (parts ≡ part ∷ others) × Spells after others
first-spelled text after part [] has spells =
    absurd (omega (arith, ap length spells.spelled, part-shorter text after part has))
first-spelled text after part (first ∷ parts) has spells =
    let same = one_part first part (flat_map part_text parts) after spells.spellable.0 has.fits
    (sym spells.spelled ∙ has.whole) in
    (parts, ap (λ (p : Part). p ∷ parts) same.0, record { spellable = spells.spellable.1; spelled = sym same.1 })

pub after-spelled : (text after : List ℕ) (part : Part) → HasPart text part after → IsSpelled text → IsSpelled after
after-spelled text after part has is =
    let first = first-spelled text after part is.0 has is.1 in
    (first.0, first.2)

pub parts-after : (text after : List ℕ) (part : Part) (is : IsSpelled text) (then : IsSpelled after)
    → HasPart text part after
    → parts_of text is ≡ part ∷ parts_of after then
parts-after text after part is then has =
    let first = first-spelled text after part (parts_of text is) has (parts-spelled text is) in
    first.1 ∙ ap (λ (ps : List Part). part ∷ ps) (sym (parts-known after then first.0 first.2))

-- a text that begins with no part spells none
pub no-parts : (text : List ℕ) (is : IsSpelled text) → ((part : Part) (after : List ℕ) → HasPart text part after → ⊥)
    → parts_of text is ≡ []
no-parts text is none = by (parts_of text is) (parts-spelled text is)
  where
    by : (parts : List Part) → Spells text parts → parts ≡ []
    by [] spells = refl
    by (part ∷ parts) spells =
        absurd (none part (flat_map part_text parts) (record { whole = spells.spelled; fits = spells.spellable.0 }))

pub begun-none : (text : List ℕ) (least : ℕ) → IsBegun text least → (part : Part) (after : List ℕ)
    → HasPart text part after → ⊥
begun-none text least begun part after has =
    let needed = begun.needed [] part after
    (subst (λ (t : List ℕ). HasPart t part after) (sym (append-nil text)) has) in
    absurd (omega (arith, needed, begun.some))

pub wrong-none : (text : List ℕ) → IsWrong text → (part : Part) (after : List ℕ) → HasPart text part after → ⊥
wrong-none text wrong part after has =
    wrong [] part after (subst (λ (t : List ℕ). HasPart t part after) (sym (append-nil text)) has)

-- the parts of replies that are known to be whole
pub whole-spelled : (count : ℕ) (text : List ℕ) → AreWhole count text → IsSpelled text
whole-spelled count text (parts, is) = (parts, record { spellable = is.spellable; spelled = is.spelled })

pub whole-parts : (count : ℕ) (text : List ℕ) (parts : List Part) → AreWhole count text → Spells text parts
    → Spell count text parts
whole-parts count text parts (own, is) spells =
    let same = one_spelling own parts is.spellable spells.spellable (sym is.spelled ∙ spells.spelled) in
    record {
      replies = subst (AreReplies count) same is.replies;
      spellable = spells.spellable;
      spelled = spells.spelled;
    }
