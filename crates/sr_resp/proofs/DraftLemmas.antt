-- The parts that a text is known to spell.
use Rattle.std.proofs.Common.{◌≡◌, ℕ, ◌+◌, ◌≤◌, Bool, true, false, List, [], ◌∷◌, ◌++◌, length, Result, Ok, Err, refl, sym, ap, ◌∙◌, subst, arith, length-append}
use Rattle.std.specs.Bool.{Decides}
use Rattle.std.specs.Prelude.{OnOk, OnErr}
use Rattle.std.proofs.lemmas.List.Concat.{flat_map-append}
use Rattle.sr_resp.specs.Reply.{Part, Simple, Error, Int, Bulk, NullBulk, NullArray, Array, part_text, reply_text}
use Rattle.sr_resp.specs.Spelled.{AreSpellable, IsSpelled, parts_of}
use Rattle.sr_resp.specs.steps.OneSpelling.{one_spelling}

AreSpellable-append : (ps qs : List Part) → AreSpellable ps → AreSpellable qs → AreSpellable (ps ++ qs)
AreSpellable-append [] qs fit more = more
AreSpellable-append (p ∷ ps) qs fit more = (fit.0, AreSpellable-append ps qs fit.1 more)

-- a text is the spelling of its parts
pub text-spelled : (text : List ℕ) (is : IsSpelled text) → text ≡ reply_text (parts_of text is)
unfolding parts_of
text-spelled text is = is.1.spelled

pub fit-spelled : (text : List ℕ) (is : IsSpelled text) → AreSpellable (parts_of text is)
unfolding parts_of
fit-spelled text is = is.1.fit

-- a text has the parts that it is known to spell
pub parts-known : (text : List ℕ) (is : IsSpelled text) (parts : List Part) → text ≡ reply_text parts → AreSpellable parts → parts_of text is ≡ parts
parts-known text is parts e fit = one_spelling (parts_of text is) parts (fit-spelled text is) fit (sym (text-spelled text is) ∙ e)

-- no text spells no parts
pub parts-none : (text : List ℕ) (is : IsSpelled text) → text ≡ [] → parts_of text is ≡ []
parts-none text is e = parts-known text is [] e tt

-- the same text spells the same parts
pub parts-same : (text old : List ℕ) (is : IsSpelled text) (was : IsSpelled old) → text ≡ old → parts_of text is ≡ parts_of old was
parts-same text old is was e = parts-known text is (parts_of old was) (e ∙ text-spelled old was) (fit-spelled old was)

-- a text that grew by the spelling of parts spells those parts too
spelled-more : (text old more : List ℕ) (was : IsSpelled old) (parts : List Part) → more ≡ reply_text parts → text ≡ old ++ more → text ≡ reply_text (parts_of old was ++ parts)
spelled-more text old more was parts is e =
    e ∙ ap (λ (t : List ℕ). t ++ more) (text-spelled old was) ∙ ap (λ (t : List ℕ). reply_text (parts_of old was) ++ t) is ∙ sym (flat_map-append part_text (parts_of old was) parts)

fit-more : (old : List ℕ) (was : IsSpelled old) (parts : List Part) → AreSpellable parts → AreSpellable (parts_of old was ++ parts)
fit-more old was parts fit = AreSpellable-append (parts_of old was) parts (fit-spelled old was) fit

pub parts-more : (text old more : List ℕ) (is : IsSpelled text) (was : IsSpelled old) (parts : List Part) → AreSpellable parts → more ≡ reply_text parts → text ≡ old ++ more → parts_of text is ≡ parts_of old was ++ parts
parts-more text old more is was parts fit spelled e = parts-known text is (parts_of old was ++ parts) (spelled-more text old more was parts spelled e) (fit-more old was parts fit)

-- a buffer that either grew by the spelling of parts or stayed spells parts
pub IsSpelled-grown : {T E : Type 0} (r : Result T E) (old new more : List ℕ) (parts : List Part) → IsSpelled old → AreSpellable parts → more ≡ reply_text parts → OnOk r (new ≡ old ++ more) → OnErr r (new ≡ old) → IsSpelled new
IsSpelled-grown (Ok x) old new more parts was fit spelled grown stayed =
    (parts_of old was ++ parts, record { spelled = spelled-more new old more was parts spelled grown; fit = fit-more old was parts fit })
IsSpelled-grown (Err e) old new more parts was fit spelled grown stayed = subst IsSpelled (sym stayed) was

-- each part has a byte at least
pub part_text-some : (part : Part) → 1 ≤ length (part_text part)
part_text-some (Simple word) = omega arith
part_text-some (Error code) = omega arith
part_text-some (Int n) = omega arith
part_text-some (Bulk bytes) = omega arith
part_text-some NullBulk = omega arith
part_text-some NullArray = omega arith
part_text-some (Array items) = omega arith

pub reply_text-long : (parts : List Part) → length parts ≤ length (reply_text parts)
reply_text-long [] = omega arith
reply_text-long (part ∷ parts) = omega (arith, reply_text-long parts, part_text-some part, length-append (part_text part) (reply_text parts))

pub parts-few : (text : List ℕ) (is : IsSpelled text) → length (parts_of text is) ≤ length text
parts-few text is = omega (arith, reply_text-long (parts_of text is), ap length (text-spelled text is))

-- an array with an item more
pub header-raised : (n items : ℕ) (parts others item grown : List Part) → grown ≡ parts ++ item → Array n ∷ parts ≡ Array items ∷ others → Array (n + 1) ∷ grown ≡ Array (items + 1) ∷ (others ++ item)
header-raised n items parts others item grown more e =
    let count : n ≡ items = cc e in
    let behind : parts ≡ others = cc e in
    cc (count, behind, more)

-- two tests of one fact answer the same
pub same_answer : (s t : Bool) (P : Type 0) → Decides s P → Decides t P → s ≡ t
same_answer true t P s-decides t-decides = sym (t-decides.1 (s-decides.0 refl))
same_answer false true P s-decides t-decides = s-decides.1 (t-decides.0 refl)
same_answer false false P s-decides t-decides = refl
