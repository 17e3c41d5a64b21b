-- Which form an end has is seen from its first byte, and no text is read to two ends.
use Rattle.std.proofs.Common.{◌≡◌, ℕ, ◌<◌, List, [], ◌++◌, get_or, sym, ap, ◌∙◌, arith}
use Rattle.std.specs.Prelude.{codes}
use Rattle.std.specs.Char.{digit_value}
use Rattle.sr_ids.specs.declared.id.Id.{Id}
use Rattle.sr_ids.specs.Id.{IsId, IsNext, least_id, greatest_id}
use Rattle.sr_ids.specs.Spelling.{SpellsId, IsEnd}
use Rattle.sr_ids.specs.Spelling.IsEnd.{at_least, at_greatest, at_written, before_written}
use Rattle.sr_ids.proofs.IdLemmas.{IsNext-one_before}
use Rattle.sr_ids.proofs.SpellingLemmas.{SpellsId-begins, SpellsId-begins_not, SpellsId-one, first_byte, behind_first}

pub IsEnd-at_least : (text : List ℕ) (id : Id) → text ≡ codes "-" → IsEnd text id → id ≡ least_id
IsEnd-at_least text id e (at_least _ same) = same
IsEnd-at_least text id e (at_greatest plus _) = absurd (omega (arith, first_byte text [] [] 45 43 e plus))
IsEnd-at_least text id e (at_written s) = absurd (SpellsId-begins_not 0xffff_ffff_ffff_ffff 45 text [] id (omega arith) e s)
IsEnd-at_least text id e (before_written digits written behind _ _ _) = absurd (omega (arith, first_byte text [] digits 45 40 e behind))

pub IsEnd-at_greatest : (text : List ℕ) (id : Id) → text ≡ codes "+" → IsEnd text id → id ≡ greatest_id
IsEnd-at_greatest text id e (at_least dash _) = absurd (omega (arith, first_byte text [] [] 43 45 e dash))
IsEnd-at_greatest text id e (at_greatest _ same) = same
IsEnd-at_greatest text id e (at_written s) = absurd (SpellsId-begins_not 0xffff_ffff_ffff_ffff 43 text [] id (omega arith) e s)
IsEnd-at_greatest text id e (before_written digits written behind _ _ _) = absurd (omega (arith, first_byte text [] digits 43 40 e behind))

pub IsEnd-at_written : (text : List ℕ) (id : Id) → digit_value (get_or text 0 0) < 10 → IsEnd text id → SpellsId 0xffff_ffff_ffff_ffff text id
IsEnd-at_written text id e (at_least dash _) = absurd (omega (arith, ap (λ (t : List ℕ). digit_value (get_or t 0 0)) dash))
IsEnd-at_written text id e (at_greatest plus _) = absurd (omega (arith, ap (λ (t : List ℕ). digit_value (get_or t 0 0)) plus))
IsEnd-at_written text id e (at_written s) = s
IsEnd-at_written text id e (before_written digits written behind _ _ _) = absurd (omega (arith, ap (λ (t : List ℕ). digit_value (get_or t 0 0)) behind))

pub IsEnd-before_written : (text digits : List ℕ) (id : Id) → text ≡ codes "(" ++ digits → IsEnd text id → (written : Id) × SpellsId 0xffff_ffff_ffff_ffff digits written × IsId id × IsNext id written
IsEnd-before_written text digits id e (at_least dash _) = absurd (omega (arith, first_byte text digits [] 40 45 e dash))
IsEnd-before_written text digits id e (at_greatest plus _) = absurd (omega (arith, first_byte text digits [] 40 43 e plus))
IsEnd-before_written text digits id e (at_written s) = absurd (SpellsId-begins_not 0xffff_ffff_ffff_ffff 40 text digits id (omega arith) e s)
IsEnd-before_written text digits id e (before_written ds written behind s valid next) =
    (written, rw (behind_first text ds digits 40 behind e) at s, valid, next)

pub IsEnd-one : (text : List ℕ) (a b : Id) → IsEnd text a → IsEnd text b → a ≡ b
IsEnd-one text a b (at_least e same) t = same ∙ sym (IsEnd-at_least text b e t)
IsEnd-one text a b (at_greatest e same) t = same ∙ sym (IsEnd-at_greatest text b e t)
IsEnd-one text a b (at_written s) t = SpellsId-one 0xffff_ffff_ffff_ffff text a b s (IsEnd-at_written text b (SpellsId-begins 0xffff_ffff_ffff_ffff text a s) t)
IsEnd-one text a b (before_written digits written e s valid next) t =
    let other = IsEnd-before_written text digits b e t in
    let same : written ≡ other.0 = SpellsId-one 0xffff_ffff_ffff_ffff digits written other.0 s other.1 in
    IsNext-one_before a b other.0 valid other.2 (rw same at next) other.3
