-- Which form a start has is seen from its first byte, and no text is read to two starts.
use Rattle.std.proofs.Common.{◌≡◌, ℕ, ◌<◌, List, [], ◌++◌, get_or, sym, ap, ◌∙◌, arith}
use Rattle.std.specs.Prelude.{codes}
use Rattle.std.specs.Char.{digit_value}
use Rattle.sr_ids.specs.declared.id.Id.{Id}
use Rattle.sr_ids.specs.Id.{IsNext, least_id, greatest_id}
use Rattle.sr_ids.specs.Spelling.{SpellsId, IsStart}
use Rattle.sr_ids.specs.Spelling.IsStart.{at_least, at_greatest, at_written, after_written}
use Rattle.sr_ids.proofs.IdLemmas.{IsNext-one}
use Rattle.sr_ids.proofs.SpellingLemmas.{SpellsId-begins, SpellsId-begins_not, SpellsId-one, first_byte, behind_first}

pub IsStart-at_least : (text : List ℕ) (id : Id) → text ≡ codes "-" → IsStart text id → id ≡ least_id
IsStart-at_least text id e (at_least _ same) = same
IsStart-at_least text id e (at_greatest plus _) = absurd (omega (arith, first_byte text [] [] 45 43 e plus))
IsStart-at_least text id e (at_written s) = absurd (SpellsId-begins_not 0 45 text [] id (omega arith) e s)
IsStart-at_least text id e (after_written digits written behind _ _) = absurd (omega (arith, first_byte text [] digits 45 40 e behind))

pub IsStart-at_greatest : (text : List ℕ) (id : Id) → text ≡ codes "+" → IsStart text id → id ≡ greatest_id
IsStart-at_greatest text id e (at_least dash _) = absurd (omega (arith, first_byte text [] [] 43 45 e dash))
IsStart-at_greatest text id e (at_greatest _ same) = same
IsStart-at_greatest text id e (at_written s) = absurd (SpellsId-begins_not 0 43 text [] id (omega arith) e s)
IsStart-at_greatest text id e (after_written digits written behind _ _) = absurd (omega (arith, first_byte text [] digits 43 40 e behind))

pub IsStart-at_written : (text : List ℕ) (id : Id) → digit_value (get_or text 0 0) < 10 → IsStart text id → SpellsId 0 text id
IsStart-at_written text id e (at_least dash _) = absurd (omega (arith, ap (λ (t : List ℕ). digit_value (get_or t 0 0)) dash))
IsStart-at_written text id e (at_greatest plus _) = absurd (omega (arith, ap (λ (t : List ℕ). digit_value (get_or t 0 0)) plus))
IsStart-at_written text id e (at_written s) = s
IsStart-at_written text id e (after_written digits written behind _ _) = absurd (omega (arith, ap (λ (t : List ℕ). digit_value (get_or t 0 0)) behind))

pub IsStart-after_written : (text digits : List ℕ) (id : Id) → text ≡ codes "(" ++ digits → IsStart text id → (written : Id) × SpellsId 0 digits written × IsNext written id
IsStart-after_written text digits id e (at_least dash _) = absurd (omega (arith, first_byte text digits [] 40 45 e dash))
IsStart-after_written text digits id e (at_greatest plus _) = absurd (omega (arith, first_byte text digits [] 40 43 e plus))
IsStart-after_written text digits id e (at_written s) = absurd (SpellsId-begins_not 0 40 text digits id (omega arith) e s)
IsStart-after_written text digits id e (after_written ds written behind s next) =
    (written, rw (behind_first text ds digits 40 behind e) at s, next)

pub IsStart-one : (text : List ℕ) (a b : Id) → IsStart text a → IsStart text b → a ≡ b
IsStart-one text a b (at_least e same) t = same ∙ sym (IsStart-at_least text b e t)
IsStart-one text a b (at_greatest e same) t = same ∙ sym (IsStart-at_greatest text b e t)
IsStart-one text a b (at_written s) t = SpellsId-one 0 text a b s (IsStart-at_written text b (SpellsId-begins 0 text a s) t)
IsStart-one text a b (after_written digits written e s next) t =
    let other = IsStart-after_written text digits b e t in
    let same : written ≡ other.0 = SpellsId-one 0 digits written other.0 s other.1 in
    IsNext-one other.0 a b (rw same at next) other.2
