-- Texts that begin with another.
use Rattle.std.proofs.Common.{◌≡◌, ℕ, ◌≤◌, List, ◌++◌, length, take, Result, Ok, Err, refl, ap, sym, ◌∙◌, arith, length-append}
use Rattle.std.proofs.lemmas.List.{take-take, take_at}
use Rattle.std.proofs.Math.Seq.{take-append_seam}
use Rattle.std.specs.Io.{StartsWith}
use Rattle.std.specs.Prelude.{if◌then◌else◌, is_ok, OnErr}

-- what begins with a text begins with the front of that text
pub StartsWith-front : (whole text front more : List ℕ) → text ≡ front ++ more → StartsWith whole text → StartsWith whole front
StartsWith-front whole text front more is begins =
    let shorter : length front ≤ length text = omega (arith, ap length is, length-append front more) in
    sym (take-take (length front) (length text) whole shorter) ∙ ap (take (length front)) (begins ∙ is) ∙ take_at front more (length front) refl

-- where nothing was added, a text that began with another is cut to that
pub cut_again : {T E : Type 0} (r : Result T E) (old front begun more new cut : List ℕ) (count : ℕ) → begun ≡ old ++ front → new ≡ (if is_ok r then begun ++ more else begun) → cut ≡ take count new → count ≡ length old → OnErr r (cut ≡ old)
cut_again (Ok x) old front begun more new cut count begins grown is all = tt
cut_again (Err e) old front begun more new cut count begins grown is all =
    is ∙ ap (take count) (grown ∙ begins) ∙ ap (λ (n : ℕ). take n (old ++ front)) all ∙ take-append_seam old front
