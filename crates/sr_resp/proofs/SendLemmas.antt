-- Known bytes that a writer took in several writes.
use Rattle.std.proofs.Common.{◌≡◌, ℕ, ◌+◌, ◌-◌, List, ◌++◌, length, take, drop, sym, ap, ◌∙◌, subst}
use Rattle.std.proofs.Math.Seq.{take-add}
use Rattle.std.proofs.lemmas.List.{take_rest}
use Rattle.std.specs.Prelude.{Option}
use Rattle.std.specs.Io.KnownBytes.{Appends}
use Rattle.std.proofs.KnownBytes.{Appends-trans}

-- the first m bytes, and then n bytes of the rest
pub Appends-more : (a b c : Option (List ℕ)) (bytes : List ℕ) (m n : ℕ)
    → Appends a b (take m bytes) → Appends b c (take n (take (length bytes - m) (drop m bytes))) → Appends a c (take (m + n) bytes)
Appends-more a b c bytes m n first second =
    let joined = Appends-trans a b c (take m bytes) (take n (take (length bytes - m) (drop m bytes))) first second in
    let same : take m bytes ++ take n (take (length bytes - m) (drop m bytes)) ≡ take (m + n) bytes =
    ap (λ (l : List ℕ). take m bytes ++ take n l) (take_rest bytes m) ∙ sym (take-add m n bytes) in
    subst (Appends a c) same joined
