-- The entries that stand at closed consumers.

use Rattle.std.specs.Prelude.{ℕ, zero, suc, List, [], ◌∷◌, ◌++◌, slice_index, cond}
use Rattle.sr_solver.specs.declared.label.Label.{Label}
use Rattle.sr_solver.specs.Labels.{label_at}

-- those of the entries below n, rising
abbrev pub stranded_below : List Label → List ℕ → ℕ → List ℕ
stranded_below labels xs zero = []
stranded_below labels xs (suc n) =
    stranded_below labels xs n ++ cond (label_at labels (slice_index xs n)).closed (n ∷ []) []
