-- A text that begins with parts: cut into some of them and the others.
use Rattle.std.proofs.Common.{◌≡◌, ℕ, ◌^◌, ◌<◌, ◌≤◌, List, [], ◌∷◌, ◌++◌, decimal, length, refl, sym, ap, ◌∙◌, subst}
use Rattle.std.proofs.Common.{arith, append_assoc}
use Rattle.std.proofs.lemmas.List.{append-nil, append_cancel_left, length-append}
use Rattle.std.proofs.lemmas.List.Concat.{flat_map-append}
use Rattle.sr_resp.specs.{ReplyParts, Bulk, bulk_string, reply_text}
use Rattle.sr_resp.specs.Reply.{Part, part_text}
use Rattle.sr_resp.specs.Spelled.{IsSpellable}
use Rattle.sr_resp.specs.steps.Decoding.{HasPart}
use Rattle.sr_resp.specs.steps.OneSpelling.{part_text-lines}
use Rattle.sr_check.specs.steps.Read.{Begins}
use Rattle.sr_check.proofs.ReadLemmas.{HasPart-one}

text-append : (ps qs : ReplyParts) (after : List ℕ)
    → reply_text (ps ++ qs) ++ after ≡ reply_text ps ++ (reply_text qs ++ after)
text-append ps qs after =
    ap (λ (t : List ℕ). t ++ after) (flat_map-append part_text ps qs) ∙ append_assoc (reply_text ps)
    (reply_text qs) after

-- some parts, and then the others
pub Begins-append : (text between after : List ℕ) (ps qs : ReplyParts) → Begins text ps between → Begins between qs after
    → Begins text (ps ++ qs) after
Begins-append text between after ps qs first second = record {
  whole = first.whole ∙ ap (λ (t : List ℕ). reply_text ps ++ t) second.whole ∙ sym (text-append ps qs after);
}

-- what comes after some parts begins with the others
pub Begins-rest : (text between after : List ℕ) (ps qs : ReplyParts) → Begins text ps between → Begins text (ps ++ qs) after
    → Begins between qs after
Begins-rest text between after ps qs first whole = record {
  whole = append_cancel_left (reply_text ps) between (reply_text qs ++ after)
      (sym first.whole ∙ whole.whole ∙ text-append ps qs after);
}

pub Begins-front : (text after : List ℕ) (ps qs : ReplyParts) → Begins text (ps ++ qs) after
    → Begins text ps (reply_text qs ++ after)
Begins-front text after ps qs whole = record { whole = whole.whole ∙ text-append ps qs after }

pub Begins-back : (text after : List ℕ) (qs : ReplyParts) → text ≡ reply_text qs ++ after → Begins text qs after
Begins-back text after qs e = record { whole = e }

-- no parts
pub Begins-none : (text after : List ℕ) → text ≡ after → Begins text [] after
Begins-none text after e = record { whole = e }

pub none-Begins : (text after : List ℕ) → Begins text [] after → text ≡ after
none-Begins text after is = is.whole

-- the same parts end at the same place
pub Begins-one : (text x y : List ℕ) (ps : ReplyParts) → Begins text ps x → Begins text ps y → x ≡ y
Begins-one text x y ps a b = append_cancel_left (reply_text ps) x y (sym a.whole ∙ b.whole)

-- one part
pub one-text : (part : Part) (after : List ℕ) → reply_text (part ∷ []) ++ after ≡ part_text part ++ after
one-text part after = ap (λ (t : List ℕ). t ++ after) (append-nil (part_text part))

pub Begins-part : (text after : List ℕ) (part : Part) → HasPart text part after → Begins text (part ∷ []) after
Begins-part text after part has = record { whole = has.whole ∙ sym (one-text part after) }

pub part-Begins : (text after : List ℕ) (part : Part) → IsSpellable part → Begins text (part ∷ []) after
    → HasPart text part after
part-Begins text after part fits is = record { whole = is.whole ∙ one-text part after; fits = fits }

-- a part that is not the one that the text begins with
pub other_part : (text x y : List ℕ) (p q : Part) → IsSpellable q → (p ≡ q → ⊥) → HasPart text p x
    → Begins text (q ∷ []) y → ⊥
other_part text x y p q fits other has is = other (HasPart-one text p q x y has (part-Begins text y q fits is)).0

pub no_part : (text y : List ℕ) (q : Part) → IsSpellable q → ((after : List ℕ) → HasPart text q after → ⊥)
    → Begins text (q ∷ []) y → ⊥
no_part text y q fits none is = none y (part-Begins text y q fits is)

-- a text is no shorter than what follows its parts
pub Begins-shorter : (text after : List ℕ) (ps : ReplyParts) → Begins text ps after → length after ≤ length text
Begins-shorter text after ps is = omega (arith, ap length is.whole, length-append (reply_text ps) after)

-- a bulk string is no longer than the text
pub bulk_within : (text after string : List ℕ) → length text < 2 ^ 64 → Begins text (bulk_string string) after
    → length string < 2 ^ 64
bulk_within text after string small is =
    let shape : text ≡ 36 ∷ (decimal (length string) ++ 13 ∷ 10 ∷ (string ++ 13 ∷ 10 ∷ after)) =
    is.whole ∙ one-text (Bulk string) after ∙ part_text-lines (Bulk string) after in
    omega (
      arith,
      ap length shape,
      length-append (decimal (length string)) (13 ∷ 10 ∷ (string ++ 13 ∷ 10 ∷ after)),
      length-append string (13 ∷ 10 ∷ after),
    )

-- the place between some parts and the others
pub Begins-cut : (text after : List ℕ) (ps qs : ReplyParts) → Begins text (ps ++ qs) after
    → (between : List ℕ) × Begins text ps between × Begins between qs after
Begins-cut text after ps qs is = (
  reply_text qs ++ after,
  Begins-front text after ps qs is,
  Begins-back (reply_text qs ++
      after) after qs refl,
)

-- a whole text
pub Begins-whole : (text : List ℕ) (ps : ReplyParts) → text ≡ reply_text ps → Begins text ps []
Begins-whole text ps e = record { whole = e ∙ sym (append-nil (reply_text ps)) }

-- parts with no others after them
pub Begins-last : (text : List ℕ) (ps : ReplyParts) → Begins text (ps ++ []) [] → Begins text ps []
Begins-last text ps is = subst (λ (qs : ReplyParts). Begins text qs []) (append-nil ps) is
