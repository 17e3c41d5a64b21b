use Rattle.std.proofs.Common.{◌≡◌, ℕ, List, ◌++◌, length, take, drop, ap, refl, ◌∙◌, arith}
use Rattle.std.proofs.lemmas.List.{take_at, drop_at, take_rest}
use Rattle.std.proofs.lemmas.Grind.{common_steps}
use Rattle.sr_bytes.proofs.PackedLemmas.{long-string}
use Rattle.sr_bytes.proofs.packed.first_string.Goals as goal

halves : (front back rest text s behind : List ℕ) (len : ℕ) → len ≡ length s → text ≡ s ++ behind → rest ≡ text → front ≡ take len rest → back ≡ drop len rest
    → (front ≡ s) × (back ≡ behind)
halves front back rest text s behind len long whole is at past =
    (at ∙ ap (λ (n : ℕ). take n rest) long ∙ ap (take (length s)) (is ∙ whole) ∙ take_at s behind (length s) refl, past ∙ ap (λ (n : ℕ). drop n rest) long ∙ ap (drop (length s)) (is ∙ whole) ∙ drop_at s behind (length s) refl)

pub returns-else-text-lt255 : goal.returns-else-text-lt255
returns-else-text-lt255 c = λ s behind short e.
    let both = long-string c.args.text.now s behind c.from_le_bytes-len.result c.if-text-lt255.false c.from_le_bytes-len.ensures short e in
    halves _ _ _ (drop 9 c.args.text.now) s behind c.from_le_bytes-len.result both.0 both.1 (take_rest c.args.text.now 9) c.split_at-else-text-lt255.ensures.front c.split_at-else-text-lt255.ensures.back

pub returns-then-text-lt255 : goal.returns-then-text-lt255
returns-then-text-lt255 c = grind (arith, common_steps)
