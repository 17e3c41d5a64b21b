-- Reading on from a place: what each step of it comes to.
use Rattle.std.proofs.Common.{◌≡◌, ℕ, ◌+◌, ◌-◌, ◌<◌, ◌≤◌, List, [], ◌++◌, length, drop, refl, sym, ap}
use Rattle.std.proofs.Common.{◌∙◌, subst, arith, length-append}
use Rattle.std.specs.Prelude.{Result, Ok, Err}
use Rattle.std.proofs.lemmas.List.{drop_at, drop-drop}
use Rattle.sr_peer.specs.declared.answers.ReadSoFar.{ReadSoFar}
use Rattle.sr_peer.specs.declared.answers.TakeFault.{TakeFault}
use Rattle.sr_peer.specs.declared.answers.TakeFault.TheVariants as faults
use Rattle.sr_peer.specs.declared.first.Front.{Front}
use Rattle.sr_peer.specs.declared.first.Front.TheVariants as fronts
use Rattle.sr_peer.specs.Arriving.{AreWhole, MayBecome, CannotBecome, Outgrows, most_bytes}
use Rattle.sr_peer.specs.Reply.{Part, items_of, part_text}
use Rattle.sr_peer.specs.Spelled.{IsSpelled, parts_of}
use Rattle.sr_peer.specs.steps.Reading.{HasPart, IsBegun, BeginsWith, AreLeft, AreAlike, AreRead, ReadsOn, GrowsOn}
use Rattle.sr_peer.proofs.AnswerLemmas.{IsSuffix, alike-after, begun-whole, left-may, part-shorter, read-more}
use Rattle.sr_peer.proofs.AnswerLemmas.{whole-few}
use Rattle.sr_peer.proofs.SpelledLemmas.{begun-none, no-parts, wrong-none}

-- ---- one step

pub suffix-after : (text left after : List ℕ) (part : Part) → IsSuffix text left → HasPart left part after
    → IsSuffix text after
suffix-after text left after part suffix has =
    let front = part_text part in
    let lengths : length left ≡ length front + length after = ap length has.whole ∙ length-append front after in
    let at : length text - length after ≡ (length text - length left) + length front =
    omega (arith, suffix.within, lengths) in
    let is : drop (length text - length after) text ≡ after =
    ap (λ (n : ℕ). drop n text) at ∙ sym (drop-drop (length front) (length text - length left) text)
    ∙ ap (drop (length front)) (suffix.is ∙ has.whole) ∙ drop_at front after (length front) refl in
    record { within = omega (arith, suffix.within, lengths); is = is }

-- more replies are due than may come
pub outgrown-items : (from due : ℕ) (start text left after : List ℕ) (part : Part) → AreAlike from start due left
    → IsSuffix text left → 0 < due → HasPart left part after → most_bytes < items_of part + (due - 1)
    → (more : List ℕ) → AreWhole from (start ++ more) → most_bytes < length (text ++ more)
outgrown-items from due start text left after part alike suffix some has many more whole =
    let are = (alike-after due left after part some has more).0 ((alike more).0 whole) in
    let few = whole-few (items_of part + (due - 1)) (after ++ more) are in
    omega (
      arith,
      few,
      many,
      part-shorter left after part has,
      suffix.within,
      length-append after more,
      length-append text more,
    )

-- a part is longer than what may come
pub outgrown-part : (from due least : ℕ) (start text left : List ℕ) → AreAlike from start due left → 0 < due
    → IsBegun left least → length text ≤ most_bytes → most_bytes - length text < least
    → (more : List ℕ) → AreWhole from (start ++ more) → most_bytes < length (text ++ more)
outgrown-part from due least start text left alike some begun short many more whole =
    let needed = begun-whole due left least some begun more ((alike more).0 whole) in
    omega (arith, needed, many, short, length-append text more)

-- ---- where reading ends

-- the place that was reached
pub reached : (from due at : ℕ) (start text left : List ℕ) → AreAlike from start due left → IsSuffix text left
    → AreLeft due left → at ≡ length text - length left
    → (at ≤ length text) × AreAlike from start due (drop at text) × AreLeft due (drop at text)
reached from due at start text left alike suffix are is =
    let same : left ≡ drop at text = sym suffix.is ∙ ap (λ (n : ℕ). drop n text) (sym is) in (
      omega arith,
      subst (AreAlike from start due) same alike,
      subst (AreLeft due) same are,
    )

pub begun-left : (due : ℕ) (left : List ℕ) (least : ℕ) → 0 < due → IsBegun left least → AreLeft due left
begun-left due left least some begun = record { none = λ none. absurd (omega arith); some = λ _. (least, begun) }

pub none-left : (due : ℕ) (left : List ℕ) → due ≡ 0 → left ≡ [] → AreLeft due left
none-left due left none empty = record { none = λ _. empty; some = λ some. absurd (omega arith) }

pub grows-reads : (text : List ℕ) (at due : ℕ) (r : Result ReadSoFar TakeFault) → ReadsOn text at due r
    → GrowsOn text at due r
grows-reads text at due (Ok place) reads = reads
grows-reads text at due (Err faults.Memory) reads = tt
grows-reads text at due (Err faults.Malformed) reads = reads
grows-reads text at due (Err faults.TooLong) reads = reads

-- ---- a piece more

pub read-on : (count at due : ℕ) (text piece whole : List ℕ) (place : ReadSoFar) → AreRead count text at due
    → whole ≡ text ++ piece → length whole ≤ most_bytes → GrowsOn (text ++ piece) at due (Ok place)
    → AreRead count whole place.at place.due
read-on count at due text piece whole place are is short reads =
    subst (λ (t : List ℕ). AreRead count t place.at place.due) (sym is)
    (record {
      within = reads.0;
      short = omega (arith, short, ap length is);
      alike = λ more. (
        λ all. (reads.1 more).0 ((read-more count at due text piece are more).0 all),
        λ all. (read-more count at due text piece are more).1 ((reads.1 more).1 all),
      );
      left = reads.2;
    })

pub read-may : (count at due : ℕ) (text : List ℕ) → AreRead count text at due → MayBecome count text
read-may count at due text are =
    let may = left-may due (drop at text) are.left in
    (may.0, (are.alike may.0).1 may.1)

pub refused-malformed : (count at due : ℕ) (text piece : List ℕ) (fault : TakeFault) → AreRead count text at due
    → GrowsOn (text ++ piece) at due (Err fault) → fault ≡ faults.Malformed → CannotBecome count (text ++ piece)
refused-malformed count at due text piece faults.Memory are reads e = absurd (cc e)
refused-malformed count at due text piece faults.Malformed are reads e =
    λ more whole. reads more ((read-more count at due text piece are more).0 whole)
refused-malformed count at due text piece faults.TooLong are reads e = absurd (cc e)

pub refused-too_long : (count at due : ℕ) (text piece : List ℕ) (fault : TakeFault) → AreRead count text at due
    → GrowsOn (text ++ piece) at due (Err fault) → fault ≡ faults.TooLong → Outgrows count (text ++ piece)
refused-too_long count at due text piece faults.Memory are reads e = absurd (cc e)
refused-too_long count at due text piece faults.Malformed are reads e = absurd (cc e)
refused-too_long count at due text piece faults.TooLong are reads e =
    λ more whole. reads more ((read-more count at due text piece are more).0 whole)

-- ---- no part more

pub no-front : (text : List ℕ) (is : IsSpelled text) (front : Front) → BeginsWith text front
    → ((part : _) (after : _) → front ≡ fronts.Whole part after → ⊥) → parts_of text is ≡ []
no-front text is (fronts.Whole part after) begins none = absurd (none part after refl)
no-front text is (fronts.Begun least) begins none = no-parts text is (begun-none text least begins)
no-front text is fronts.Wrong begins none = no-parts text is (wrong-none text begins)
