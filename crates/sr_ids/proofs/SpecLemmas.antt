-- Which id a text asks for is seen from its last byte, and no text asks for two.
use Rattle.std.proofs.Common.{◌≡◌, ◌≢◌, ℕ, ◌+◌, ◌-◌, ◌^◌, ◌<◌, ◌≤◌, inl, inr, List, [], ◌∷◌, ◌++◌, length, get_or, refl, sym, ap, ◌∙◌, arith}
use Rattle.std.specs.Prelude.{codes}
use Rattle.std.specs.Char.{digit_value}
use Rattle.std.proofs.lemmas.List.{append_assoc, append_cancel_right, get_or_push, get_or-append_right, length-append, length_push}
use Rattle.sr_bytes.specs.{IsDecimal}
use Rattle.sr_bytes.proofs.DecimalLemmas.{AllDigits-not_at, IsDecimal-one}
use Rattle.sr_ids.specs.declared.id.Id.{Id}
use Rattle.sr_ids.specs.declared.spec.Spec.{Spec}
use Rattle.sr_ids.specs.declared.spec.Spec.TheVariants.{Auto, Ms, Written}
use Rattle.sr_ids.specs.Spelling.{SpellsId}
use Rattle.sr_ids.specs.Spec.{IsSpec}
use Rattle.sr_ids.specs.Spec.IsSpec.{auto, in_millisecond, written}
use Rattle.sr_ids.proofs.SpellingLemmas.{SpellsId-one}

-- an id ends with a digit
SpellsId-ends_not : (missing c : ℕ) (text front : List ℕ) (id : Id) → 10 ≤ digit_value c → text ≡ front ++ c ∷ [] → SpellsId missing text id → ⊥
SpellsId-ends_not missing c text front id none e s =
    let last = length front in
    let long : length text ≡ last + 1 = ap length e ∙ length_push front c in
    let at : get_or text last 0 ≡ c = ap (λ (t : List ℕ). get_or t last 0) e ∙ get_or_push front c 0 last refl in
    elim s.written [
      | inl w ↦
          let start = length w.before + 1 in
          let whole : length text ≡ start + length w.behind = ap length w.spelled ∙ length-append (w.before ++ 45 ∷ []) w.behind ∙ ap (λ (n : ℕ). n + length w.behind) (length_push w.before 45) in
          let within : start ≤ last = omega (arith, w.seq.some) in
          let behind : get_or w.behind (last - start) 0 ≡ c = sym (get_or-append_right (w.before ++ 45 ∷ []) w.behind start last 0 (length_push w.before 45) within) ∙ ap (λ (t : List ℕ). get_or t last 0) (sym w.spelled) ∙ at in
          omega (arith, w.seq.some, AllDigits-not_at w.behind (last - start) c w.seq.each none behind)
      | inr short ↦ omega (arith, AllDigits-not_at text last c short.ms.each none at)
    ]

SpellsId-not_star : (text : List ℕ) (id : Id) → text ≡ codes "*" → SpellsId 0 text id → ⊥
SpellsId-not_star text id e s = SpellsId-ends_not 0 42 text [] id (omega arith) e s

SpellsId-not_dash_star : (text digits : List ℕ) (id : Id) → text ≡ digits ++ codes "-*" → SpellsId 0 text id → ⊥
SpellsId-not_dash_star text digits id e s = SpellsId-ends_not 0 42 text (digits ++ 45 ∷ []) id (omega arith) (e ∙ sym (append_assoc digits (45 ∷ []) (42 ∷ []))) s

not_dash_star : (text digits : List ℕ) → text ≡ codes "*" → text ≡ digits ++ codes "-*" → ⊥
not_dash_star text digits star e = omega (arith, ap length (sym star ∙ e), length-append digits (codes "-*"))

pub IsSpec-auto : (text : List ℕ) (spec : Spec) → text ≡ codes "*" → IsSpec text spec → spec ≡ Auto
IsSpec-auto text spec e (auto _ same) = same
IsSpec-auto text spec e (in_millisecond digits ms behind _ _ _) = absurd (not_dash_star text digits e behind)
IsSpec-auto text spec e (written id s _) = absurd (SpellsId-not_star text id e s)

pub IsSpec-in_millisecond : (text digits : List ℕ) (spec : Spec) → text ≡ digits ++ codes "-*" → IsSpec text spec → (ms : ℕ) × IsDecimal 20 digits ms × (ms < 2 ^ 64) × (spec ≡ Ms ms)
IsSpec-in_millisecond text digits spec e (auto star _) = absurd (not_dash_star text digits star e)
IsSpec-in_millisecond text digits spec e (in_millisecond ds ms behind decimal small same) =
    (ms, rw (append_cancel_right ds digits (codes "-*") (sym behind ∙ e)) at decimal, small, same)
IsSpec-in_millisecond text digits spec e (written id s _) = absurd (SpellsId-not_dash_star text digits id e s)

pub IsSpec-written : (text : List ℕ) (spec : Spec) → (text ≡ codes "*" → ⊥) → ((digits : List ℕ) → text ≢ digits ++ codes "-*") → IsSpec text spec → (id : Id) × SpellsId 0 text id × (spec ≡ Written id)
IsSpec-written text spec no_star no_dash_star (auto star _) = absurd (no_star star)
IsSpec-written text spec no_star no_dash_star (in_millisecond digits ms behind _ _ _) = absurd (no_dash_star digits behind)
IsSpec-written text spec no_star no_dash_star (written id s same) = (id, s, same)

pub IsSpec-one : (text : List ℕ) (a b : Spec) → IsSpec text a → IsSpec text b → a ≡ b
IsSpec-one text a b (auto e same) t = same ∙ sym (IsSpec-auto text b e t)
IsSpec-one text a b (in_millisecond digits ms e decimal _ same) t =
    let other = IsSpec-in_millisecond text digits b e t in
    same ∙ ap Ms (IsDecimal-one decimal other.1) ∙ sym other.3
IsSpec-one text a b (written id s same) t =
    let other = IsSpec-written text b (λ e. SpellsId-not_star text id e s) (λ digits e. SpellsId-not_dash_star text digits id e s) t in
    same ∙ ap Written (SpellsId-one 0 text id other.0 s other.1) ∙ sym other.2
